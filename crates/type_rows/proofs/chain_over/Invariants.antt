-- What the loop of `type_rows::chain_over` keeps.
use Rattle.std.proofs.Common.{◌≡◌, ◌≤◌, length}
use Rattle.type_rows.specs.Types.{below_by}
use Rattle.type_rows.specs.Closure.{word_of}
use Rattle.type_rows.proofs.Closing.{Chaining}
use Rattle.type_rows.proofs.chain_over.Given as goal

abbrev pub invariant-loop-s : goal.invariant-loop-s
invariant-loop-s l =
    (length l.rows ≤ 64) × (l.over ≡ word_of (length l.rows) (below_by l.rows l.k l.k)) × Chaining l.rows l.k l.s l.words

-- What the loop of `type_rows::direct_words` keeps.
use Rattle.std.proofs.Common.{◌≤◌, length}
use Rattle.type_rows.specs.Types.{below_by}
use Rattle.type_rows.specs.Closure.{word_of}
use Rattle.type_rows.proofs.Closing.{Filled}
use Rattle.type_rows.proofs.direct_words.Given as goal

abbrev pub invariant-loop-s : goal.invariant-loop-s
invariant-loop-s l =
    (length l.rows ≤ 64) × Filled (λ i. word_of (length l.rows) (below_by l.rows 0 i)) (λ i. 0) l.s l.words

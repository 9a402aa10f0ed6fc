-- What the loop of `type_rows::closed` keeps.
use Rattle.std.proofs.Common.{◌≡◌, length}
use Rattle.type_rows.specs.Types.{below_by}
use Rattle.type_rows.specs.Closure.{closure_rows}
use Rattle.type_rows.proofs.closed.Given as goal

abbrev pub invariant-loop-k : goal.invariant-loop-k
invariant-loop-k l = l.words ≡ closure_rows (length l.rows) (below_by l.rows l.k)

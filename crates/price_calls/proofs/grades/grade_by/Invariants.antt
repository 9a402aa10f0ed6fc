use Prim.Native.Nat.{◌+◌, ◌≤◌}
use mathlib.Core.Path.{◌≡◌}
use lib.ListN.{drop}
use Rattle.prices.specs.Grades.{reached}
use Rattle.price_calls.proofs.grades.grade_by.Given as goal

abbrev pub invariant-loop-limit : goal.invariant-loop-limit
invariant-loop-limit l =
    (l.reached ≤ l.limit-index) × (l.reached + reached (drop l.limit-index l.limits) l.range ≡ reached l.limits l.range)

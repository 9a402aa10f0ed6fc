use mathlib.Core.Path.{◌≡◌}
use Rattle.lists.specs.Lists.{range, overwritten}
use Rattle.reduction.proofs.number_calls.Given as goal

abbrev pub invariant-loop-i : goal.invariant-loop-i
invariant-loop-i l = l.kept ≡ overwritten (range l.i) l.initial.kept

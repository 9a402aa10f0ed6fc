use mathlib.Core.Path.{◌≡◌}
use Rattle.reduction.proofs.TrialLaws.{written}
use Rattle.reduction.proofs.write_calls.Given as goal

abbrev pub invariant-loop-i : goal.invariant-loop-i
invariant-loop-i l = l.list ≡ written l.calls l.kept l.i l.initial.list

use lib.ListN.{take}
use Rattle.history.specs.Machine.{Machine}
use Rattle.machine.specs.Calls.{Parameters}
use Rattle.history_calls.specs.Memory.{memory}
use Rattle.engine.specs.Running.{Running}
use Rattle.reduction.specs.Trials.{calls_at, left_out}
use Rattle.reduction.proofs.TrialLaws.{Tried}
use Rattle.reduction.proofs.last_code.Given as goal

abbrev pub invariant-loop-i : goal.invariant-loop-i
invariant-loop-i l =
    (w : Parameters) → (m : Machine) → Running w l.initial.y (memory l.initial.vertices l.initial.edges l.initial.journal l.initial.marks) l.closed l.types m
    → Tried w m (calls_at l.calls (left_out l.skip (take l.i l.kept))) l.y (memory l.vertices l.edges l.journal l.marks) l.closed l.types l.code

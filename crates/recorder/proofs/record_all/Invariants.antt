use mathlib.Core.List.{[]}
use lib.ListN.{take}
use Rattle.history.specs.Machine.{Machine}
use Rattle.commands.specs.Calls.{calls_of}
use Rattle.machine.specs.Calls.{Parameters}
use Rattle.machine.specs.Machine.{last}
use Rattle.history_calls.specs.Memory.{memory}
use Rattle.engine.specs.Running.{Running}
use Rattle.engine.specs.Calls.{AfterCalls}
use Rattle.copies.specs.Copies.{step_graphs, stretch}
use Rattle.copies.specs.Recording.{Covers}
use mathlib.Core.Path.{◌≡◌}
use Rattle.recorder.proofs.record_all.Given as goal

abbrev pub invariant-loop-k : goal.invariant-loop-k
invariant-loop-k l =
    (w : Parameters) → (m : Machine) → Running w l.initial.y (memory l.initial.vertices l.initial.edges l.initial.journal l.initial.marks) l.closed l.types m
    → Covers w l.start l.initial.copies l.initial.copies l.initial.places.numbers l.initial.places.used [] 0 m → l.size ≡ stretch w
    → AfterCalls w w.changes m (take l.k (calls_of l.calls)) l.y (memory l.vertices l.edges l.journal l.marks) l.closed l.types l.initial.answers l.answers
    × Covers w l.start l.initial.copies l.copies l.places.numbers l.places.used (step_graphs w m (take l.k (calls_of l.calls))) l.count (last w m (take l.k (calls_of l.calls)))

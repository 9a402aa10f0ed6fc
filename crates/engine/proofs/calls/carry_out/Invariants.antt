use Prim.Native.Nat.{◌*◌}
use mathlib.Core.Path.{◌≡◌}
use mathlib.Core.List.{List}
use lib.ListN.{length, take}
use Rattle.history.specs.Machine.{Machine}
use Rattle.commands.specs.Calls.{Call}
use Rattle.machine.specs.Calls.{Parameters}
use Rattle.history_calls.specs.Memory.{memory}
use Rattle.engine.specs.Running.{Running, allowing}
use Rattle.engine.specs.Calls.{Reads, AllNear, AfterCalls}
use Rattle.engine.proofs.calls.carry_out.Given as goal

abbrev pub invariant-loop-k : goal.invariant-loop-k
invariant-loop-k l =
    (l.at ≡ l.k * l.width) × (length l.vertices ≡ length l.initial.vertices) × (length l.edges ≡ length l.initial.edges) × (length l.journal ≡ length l.initial.journal)
    × (length l.marks ≡ length l.initial.marks)
    × (length l.answers ≡ length l.initial.answers)
    × ((w : Parameters) → (m : Machine) → (xs : List Call) → Running w l.initial.present (memory l.initial.vertices l.initial.edges l.initial.journal l.initial.marks) l.closed l.types m
    → Reads l.width l.count l.calls xs → AllNear (allowing l.capacity w) m xs
    → AfterCalls w l.capacity m (take l.k xs) l.present (memory l.vertices l.edges l.journal l.marks) l.closed l.types l.initial.answers l.answers)

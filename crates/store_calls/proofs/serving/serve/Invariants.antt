use Prim.Native.Nat.{◌-◌, ◌≤◌}
use mathlib.Core.Path.{◌≡◌}
use lib.ListN.{length, take}
use Rattle.machine.specs.Calls.{Parameters}
use Rattle.machine.specs.Stores.{Stores, store_calls_of, joint_room, last_in}
use Rattle.store_calls.specs.Parts.{RestStays}
use Rattle.store_calls.specs.Serving.{Serving, sizes, whole, AfterAll}
use Rattle.store_calls.proofs.serving.serve.Given as goal

abbrev pub invariant-loop-k : goal.invariant-loop-k
invariant-loop-k l =
    (l.k ≤ l.n) × (length l.vertices ≡ length l.initial.vertices) × (length l.edges ≡ length l.initial.edges) × (length l.journal ≡ length l.initial.journal)
    × (length l.answers ≡ length l.initial.answers)
    × ((w : Parameters) → (s : Stores) → s.count ≡ l.stores → l.initial.room ≡ joint_room s
    → Serving w (sizes l.v l.e l.t) l.initial.all (whole l.initial.vertices l.initial.edges l.initial.journal l.initial.marks) l.closed l.types s
    → AfterAll w (sizes l.v l.e l.t) s (take l.k (store_calls_of l.calls)) l.all (whole l.vertices l.edges l.journal l.marks) l.closed l.types l.initial.answers l.answers
    × (l.room ≡ joint_room (last_in w s (take l.k (store_calls_of l.calls)))))
    × RestStays l.stores l.v l.initial.vertices l.vertices × RestStays l.stores l.e l.initial.edges l.edges × RestStays l.stores l.t l.initial.journal l.journal

abbrev pub decreases-loop-k : goal.decreases-loop-k
decreases-loop-k l = l.n - l.k

use Prim.Native.Nat.{ℕ, ◌*◌, ◌≤◌, ◌<◌}
use mathlib.Core.Path.{◌≡◌}
use mathlib.Core.List.{List}
use lib.ListN.{length}
use Rattle.lists.specs.Lists.{sum_of, All}
use Rattle.graph.specs.Graph.{Graph}
use Rattle.machine.specs.StoreRun.{over_parts}
use Rattle.graph_tables.specs.Holds.{Holds}
use Rattle.stores.specs.Saving.{tables_at, images_to}
use Rattle.stores.proofs.saving.save_all.Given as goal

abbrev pub invariant-loop-i : goal.invariant-loop-i
invariant-loop-i l =
    (length l.image ≡ length l.initial.image) × (l.words ≤ l.i * l.n)
    × ((g : ℕ → Graph) → ((j : ℕ) → j < l.stores → Holds (tables_at l.all l.vertices l.edges l.v l.e j) (g j))
    → (l.image ≡ over_parts l.n (images_to g l.i) l.initial.image) × (l.words ≡ sum_of length (images_to g l.i)) × All (λ (x : List ℕ). length x ≤ l.n) (images_to g l.i))

use Prim.Native.Nat.{ℕ, ◌≤◌, ◌<◌}
use mathlib.Core.Path.{◌≡◌}
use lib.ListN.{length, drop}
use Rattle.machine.specs.StoreRun.{images_from, image_at}
use Rattle.store_calls.specs.Parts.{part, RestStays}
use Rattle.store_calls.specs.Serving.{store_at}
use Rattle.stores.specs.Opening.{Begun}
use Rattle.stores.proofs.opening.open_all.Given as goal

abbrev pub invariant-loop-i : goal.invariant-loop-i
invariant-loop-i l =
    (l.at ≤ length l.start) × (length l.vertices ≡ length l.initial.vertices) × (length l.edges ≡ length l.initial.edges) × (length l.all ≡ 8)
    × (drop l.at l.start ≡ images_from l.i l.start)
    × ((j : ℕ) → j < l.i → Begun (image_at j l.start) (store_at l.all j) (part l.v j l.vertices) (part l.e j l.edges))
    × RestStays l.stores l.v l.initial.vertices l.vertices × RestStays l.stores l.e l.initial.edges l.edges

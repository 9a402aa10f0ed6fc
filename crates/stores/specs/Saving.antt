-- What saving every store asks and leaves.
use Rattle.std.specs.Prelude.{ℕ, ◌*◌, ◌≤◌, ◌<◌, ◌≡◌, List, map, length}
use Rattle.lists.specs.Lists.{sum_of, range}
use Rattle.graph.specs.Graph.{Graph}
use Rattle.image.specs.Image.{save}
use Rattle.machine.specs.StoreRun.{over_parts}
use Rattle.graph_tables.specs.Tables.{State, state}
use Rattle.graph_tables.specs.Holds.{Holds}
use Rattle.image_tables.specs.Words.{CanSave}
use Rattle.history_calls.specs.declared.Store.{Store}
use Rattle.store_calls.specs.Parts.{part}
use Rattle.store_calls.specs.Serving.{store_at}

-- the tables of the store at place i
abbrev pub tables_at : List Store → List ℕ → List ℕ → ℕ → ℕ → ℕ → State
tables_at all vertices edges v e i = state (store_at all i).current.head (part v i vertices) (part e i edges)

-- each store has an image that fits into its part of n words
pub record CanSaveAll (all : List Store) (vertices edges : List ℕ) (size stores v e n : ℕ) : Type 0 where
  pub many : length all ≡ 8
  pub few : stores ≤ 8
  pub vertices_fit : stores * v ≤ length vertices
  pub edges_fit : stores * e ≤ length edges
  pub image_fits : stores * n ≤ size
  pub each : (i : ℕ) → i < stores → CanSave (tables_at all vertices edges v e i) n

-- the images of the first k graphs
abbrev pub images_to : (ℕ → Graph) → ℕ → List (List ℕ)
images_to g k = map (λ (i : ℕ). save (g i)) (range k)

-- each image stands at the front of its part, and so many words they have together
abbrev pub SavedAll : List Store → List ℕ → List ℕ → List ℕ → List ℕ → ℕ → ℕ → ℕ → ℕ → ℕ → Type 0
SavedAll all vertices edges image image' stores v e n words =
    (g : ℕ → Graph) → ((i : ℕ) → i < stores → Holds (tables_at all vertices edges v e i) (g i))
    → (image' ≡ over_parts n (images_to g stores) image) × (words ≡ sum_of length (images_to g stores))

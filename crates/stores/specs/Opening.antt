-- What opening every store asks and leaves.
use Rattle.std.specs.Prelude.{ℕ, ◌*◌, ◌/◌, ◌^◌, ◌≤◌, ◌<◌, ◌≡◌, true, List, length}
use Rattle.graph.specs.Limits.{most_vertices, most_edges}
use Rattle.graph.specs.WellFormed.{Bounds, Within}
use Rattle.history.specs.Machine.{fresh}
use Rattle.marks.specs.Marked.{mark_words}
use Rattle.image.specs.Image.{load, loadable}
use Rattle.graph_tables.specs.Capacities.{Sized}
use Rattle.history_calls.specs.declared.Store.{Store}
use Rattle.history_calls.specs.Memory.{memory, tables_of}
use Rattle.history_calls.specs.Represents.{Represents}
use Rattle.machine.specs.StoreRun.{image_at}
use Rattle.store_calls.specs.Parts.{part, RestStays}
use Rattle.store_calls.specs.Serving.{store_at}

-- each image loads into its parts of v and e words
pub record CanOpen (start vertices edges : List ℕ) (stores v e : ℕ) : Type 0 where
  pub bounds : Bounds
  pub few : stores ≤ 8
  pub vertices_are : bounds.vertices ≡ v / 8
  pub edges_are : bounds.edges ≡ e / 12
  pub few_vertices : bounds.vertices ≤ most_vertices
  pub few_edges : bounds.edges ≤ most_edges
  pub vertices_fit : stores * v ≤ length vertices
  pub edges_fit : stores * e ≤ length edges
  pub sound : (i : ℕ) → i < stores → loadable bounds (image_at i start) ≡ true

-- what `engine::begin` ensures of a store
abbrev pub Begun : List ℕ → Store → List ℕ → List ℕ → Type 0
Begun start x vertices edges =
    (b : Bounds) → (journal marks : List ℕ) → Sized b (tables_of x (memory vertices edges journal marks))
    → Within b (load start) → length journal < 2 ^ 32 → length marks ≡ mark_words
    → Represents b x (memory vertices edges journal marks) (fresh (load start))

-- each store has begun with its image, in its parts; the words behind them stay
pub record Opened (start : List ℕ) (all : List Store) (vertices vertices' edges edges' : List ℕ) (stores v e : ℕ)
    : Type 0 where
  pub many : length all ≡ 8
  pub begun : (i : ℕ) → i < stores → Begun (image_at i start) (store_at all i) (part v i vertices') (part e i edges')
  pub behind_vertices : RestStays stores v vertices vertices'
  pub behind_edges : RestStays stores e edges edges'

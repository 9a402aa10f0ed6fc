-- The list of each vertex of a graph that is held can be walked.
use Prim.Native.Nat.{ℕ, ◌/◌, ◌≤◌}
use mathlib.Core.Path.{refl}
use mathlib.Core.List.{List, [], ◌∷◌}
use native.Mathlib.Omega.{arith}
use Rattle.lists.specs.Keyed.{count_by_key}
use Rattle.lists.proofs.Picks.{is_yes}
use Rattle.linked_lists.specs.Lists.{Every}
use Rattle.graph.specs.Graph.{Graph, edge_number, itself, edge_of, this, list_of}
use Rattle.graph.specs.WellFormed.{Bounds}
use Rattle.graph.specs.Changes.{VertexThere, EdgeThere}
use Rattle.graph.proofs.Incidence.{pick_le}
use Rattle.graph_tables.specs.Tables.{State, EdgeRowIn}
use Rattle.graph_tables.specs.Holds.{Holds}
use Rattle.graph_tables.specs.Capacities.{Sized}
use Rattle.graph_tables.proofs.Answers.{vertex_row, edge_row}
use Rattle.walks.specs.Walks.{CanWalk}

all_listed : (P : ℕ → Type 0) (l : List ℕ) → ((w : ℕ) → 1 ≤ count_by_key itself w l → P w) → Every P l
all_listed P [] f = tt
all_listed P (y ∷ l) f = (f y (omega (arith, is_yes y y refl)), all_listed P l (λ w i. f w (omega arith)))

module _ (b : Bounds) (s : State) (z : Sized b s) (g : Graph) (h : Holds s g) (v : ℕ) (c : VertexThere g v) where
  -- the edge of each word in the list is there
  pub listed_edge : (w : ℕ) → 1 ≤ count_by_key itself w (list_of g v) → EdgeThere g (edge_of w)
  listed_edge w i =
      omega (arith, h.sound.lists v w, pick_le (this g w) v (count_by_key edge_number (edge_of w) g.eseq), h.sound.eorder (edge_of w))

  pub can_walk : CanWalk s.vertices s.edges v
  can_walk = record {
    row = vertex_row s g h v c;
    small = omega (arith, z.edges, z.few_edges);
    list = list_of g v;
    held = h.core.lists v (vertex_row s g h v c).0;
    rows = all_listed (λ w. EdgeRowIn s.edges (w / 2)) (list_of g v) (λ w i. edge_row s g h (edge_of w) (listed_edge w i));
  }

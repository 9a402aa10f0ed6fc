-- What the deletion of a vertex costs.
use Prim.Native.Nat.{ℕ, ◌+◌, ◌^◌, ◌<◌}
use mathlib.Core.Path.{◌≡◌}
use native.Mathlib.Omega.{arith}
use Rattle.graph.specs.declared.Change.TheVariants.{DeleteVertex}
use Rattle.graph.specs.Graph.{Graph}
use Rattle.graph.specs.WellFormed.{Bounds}
use Rattle.graph.specs.Changes.{cost, VertexThere}
use Rattle.graph_tables.specs.Tables.{State, incidence_links, vertex_ends}
use Rattle.graph_tables.specs.Holds.{Holds}
use Rattle.graph_tables.specs.Capacities.{Sized}
use Rattle.graph_tables.proofs.Frames.{valid_i}
use Rattle.walks.specs.Walks.{CanWalk, counted_at, distinct_edges_at}
use Rattle.walks.proofs.Walkable.{can_walk}
use Rattle.walks.proofs.ListWalks.{sum_few}
use Rattle.walks.proofs.Counts.{counted_le, edges_counted}

module _ (b : Bounds) (s : State) (z : Sized b s) (g : Graph) (h : Holds s g) (a : ℕ) (i : VertexThere g a) where
  pub can_count : CanWalk s.vertices s.edges a
  can_count = can_walk b s z g h a i

  pub count_short : (n : ℕ) → n ≡ distinct_edges_at s.vertices s.edges a → n + 1 < 2 ^ 32
  unfolding distinct_edges_at
  count_short n q = omega (
    arith,
    q,
    sum_few (counted_at s.edges) (counted_le s.edges) incidence_links s.edges (vertex_ends s.vertices a) valid_i can_count.list can_count.held,
    can_count.small,
  )

pub counted : (s : State) (g : Graph) → Holds s g → (a n : ℕ) → VertexThere g a → n ≡ distinct_edges_at s.vertices s.edges a → n + 1 ≡ cost (DeleteVertex a) g
counted s g h a n i q = omega (arith, q, edges_counted s g h a i)

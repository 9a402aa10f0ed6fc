-- Capacities: how many rows the tables have.
use Rattle.std.specs.Prelude.{◌≡◌, ℕ, ◌/◌, ◌≤◌, List, length}
use Rattle.graph.specs.Limits.{most_vertices, most_edges}
use Rattle.graph.specs.WellFormed.{Bounds}
use Rattle.graph_tables.specs.Tables.{State}

-- REFERENCE 9.2: the capacities of a vertex table and an edge table, and the number of types
abbrev pub bounds_of : List ℕ → List ℕ → ℕ → Bounds
bounds_of vertices edges types = record { vertices = length vertices / 8; edges = length edges / 12; types = types }

-- the capacities are those of the tables, and at most the upper limits of REFERENCE 12.1
pub record Sized (b : Bounds) (s : State) : Type 0 where
  pub vertices : b.vertices ≡ length s.vertices / 8
  pub edges : b.edges ≡ length s.edges / 12
  pub few_vertices : b.vertices ≤ most_vertices
  pub few_edges : b.edges ≤ most_edges

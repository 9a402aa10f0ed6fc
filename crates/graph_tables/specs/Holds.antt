-- What it is for a head and two tables to hold a graph.
use Rattle.std.specs.Prelude.{◌≡◌, ℕ, ◌+◌, ◌≤◌, ◌≢◌, List, map, length}
use Rattle.linked_lists.specs.Links.{Held}
use Rattle.lists.specs.Keyed.{count_by_key}
use Rattle.graph.specs.Graph.{
  Vertex,
  Edge,
  Graph,
  vertex_number,
  edge_number,
  itself,
  vertex_in,
  edge_in,
  list_in,
  this_in,
  reading_kind,
  decimetres,
}
use Rattle.graph.specs.WellFormed.{WellFormed}
use Rattle.graph_tables.specs.declared.Head.{Head}
use Rattle.graph_tables.specs.Tables.{State, state, vertex_links, edge_links, incidence_links, vertex_list_ends}
use Rattle.graph_tables.specs.Tables.{edge_list_ends, vertex_ends, vlive, vtype, vvalue, elive, etype, ekind}
use Rattle.graph_tables.specs.Tables.{edecimetres, wthis}

-- the words of a vertex, and of an edge; a number that is not in the graph has the words of none, which are 0
pub record VRow (vertices : List ℕ) (v n : ℕ) (x : Vertex) : Type 0 where
  pub live : vlive vertices v ≡ n
  pub type : vtype vertices v ≡ x.type
  pub value : vvalue vertices v ≡ x.value

pub record ERow (edges : List ℕ) (e n : ℕ) (x : Edge) : Type 0 where
  pub live : elive edges e ≡ n
  pub type : etype edges e ≡ x.type
  pub kind : ekind edges e ≡ reading_kind x.reading
  pub decimetres : edecimetres edges e ≡ decimetres x.reading

-- the row of every number from 1 on, whether it is in the graph or not: its live word is 1 or 0
abbrev pub VRows : List ℕ → List Vertex → Type 0
VRows vertices vs = (v : ℕ) → 1 ≤ v → VRow vertices v (count_by_key vertex_number v vs) (vertex_in vs v)

-- the same of edges
abbrev pub ERows : List ℕ → List Edge → Type 0
ERows edges es = (e : ℕ) → 1 ≤ e → ERow edges e (count_by_key edge_number e es) (edge_in es e)

-- the this of every oriented word from 2 on, 0 where its edge is not in the graph
abbrev pub ThisEntries : List ℕ → List Edge → Type 0
ThisEntries edges es = (w : ℕ) → 2 ≤ w → wthis edges w ≡ this_in es w

-- the incidence list of every number from 1 on, empty where it is not in the graph
abbrev pub Lists : List ℕ → List ℕ → List Vertex → Type 0
Lists vertices edges vs = (v : ℕ) → 1 ≤ v → Held incidence_links edges (vertex_ends vertices v) (list_in vs v)

-- no word stands in two lists
abbrev pub DisjointLists : List Vertex → Type 0
DisjointLists vs = (u v k : ℕ) → u ≢ v → count_by_key itself k (list_in vs u) + count_by_key itself k (list_in vs v) ≤ 1

-- the tables hold these vertices and these edges, whether or not the two fit together
pub record Core (s : State) (vs : List Vertex) (es : List Edge) : Type 0 where
  pub vseq : Held vertex_links s.vertices (vertex_list_ends s.head) (map vertex_number vs)
  pub eseq : Held edge_links s.edges (edge_list_ends s.head) (map edge_number es)
  pub vrows : VRows s.vertices vs
  pub erows : ERows s.edges es
  pub this : ThisEntries s.edges es
  pub lists : Lists s.vertices s.edges vs
  pub disjoint : DisjointLists vs
  pub vertices : s.head.vertices ≡ length vs
  pub edges : s.head.edges ≡ length es

pub record Holds (s : State) (g : Graph) : Type 0 where
  pub core : Core s g.vseq g.eseq
  pub sound : WellFormed g

-- ---- a table alone

-- the two tables hold g, with some head: look-ups do not read it
abbrev pub HoldsVE : List ℕ → List ℕ → Graph → Type 0
HoldsVE vertices edges g = (h : Head) × Holds (state h vertices edges) g

-- the vertex table holds the vertices of g, with some edge table
abbrev pub HoldsV : List ℕ → Graph → Type 0
HoldsV vertices g = (edges : List ℕ) × HoldsVE vertices edges g

-- the edge table holds the edges of g, with some vertex table
abbrev pub HoldsE : List ℕ → Graph → Type 0
HoldsE edges g = (vertices : List ℕ) × HoldsVE vertices edges g

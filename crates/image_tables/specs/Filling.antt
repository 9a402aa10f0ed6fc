-- A graph on its way into the tables: its vertices without lists, then its edges, then each word at the end of the list
-- of its vertex.
use Rattle.std.specs.Prelude.{ℕ, ◌+◌, ◌<◌, ◌^◌, ◌≡◌, true, List, [], get_or, ◌==◌}
use Rattle.lists.specs.Lists.{filter}
use Rattle.graph.specs.Graph.{Vertex, Edge, this_in, reading_of, IsWords}
use Rattle.graph.specs.WellFormed.{Bounds}
use Rattle.image.specs.Image.{loadable}
use Rattle.linked_lists.specs.Links.{CanAppend}
use Rattle.graph_tables.specs.Tables.{State, state, no_head, VertexRowIn, EdgeRowIn, HalfRowIn}
use Rattle.graph_tables.specs.Tables.{edge_links, incidence_links, edge_list_ends, vertex_ends, vlast, wthis}
use Rattle.graph_tables.specs.Tables.{state_insert_vertex, state_place_edge, state_attach}
use Rattle.graph_tables.specs.Capacities.{Sized}

-- the vertex without a list; with the words of ws that are seen from it, in their order
abbrev pub without_list : Vertex → Vertex
without_list v = record { number = v.number; type = v.type; value = v.value; incidences = [] }

abbrev pub filled : List Edge → List ℕ → Vertex → Vertex
filled es ws v = record {
  number = v.number;
  type = v.type;
  value = v.value;
  incidences = filter
      (λ w. this_in es w == v.number) ws;
}

-- the vertex, the edge whose record stands at `at`, last in its order
unfoldable pub state_add_vertex : List ℕ → ℕ → State → State
state_add_vertex part at s = state_insert_vertex (get_or part at 0) (get_or part (at + 1) 0) (get_or part (at + 2) 0) s.head.vlast s

unfoldable pub state_add_edge : List ℕ → ℕ → State → State
state_add_edge part at s =
    state_place_edge (get_or part at 0) (get_or part (at + 1) 0) (get_or part (at + 2) 0) (get_or part (at + 3) 0)
    (reading_of (get_or part (at + 4) 0) (get_or part (at + 5) 0)) s.head.elast s

-- word w, last in the list of the vertex that it is seen from
unfoldable pub state_add_word : ℕ → State → State
state_add_word w s = state_attach (wthis s.edges w) (vlast s.vertices (wthis s.edges w)) w s

pub record CanWord (w : ℕ) (s : State) : Type 0 where
  pub word : HalfRowIn s.edges w
  pub row : VertexRowIn s.vertices (wthis s.edges w)
  pub back : CanAppend incidence_links s.edges (vertex_ends s.vertices (wthis s.edges w)) w

pub record CanEdge (part : List ℕ) (at : ℕ) (s : State) : Type 0 where
  pub row : EdgeRowIn s.edges (get_or part at 0)
  pub room : s.head.edges + 1 < 2 ^ 32
  pub back : CanAppend edge_links s.edges (edge_list_ends s.head) (get_or part at 0)
  pub written : IsWords (get_or part (at + 4) 0) (get_or part (at + 5) 0)

-- what is loaded: REFERENCE 10.6
-- What loading asks: the words are such words, for the capacities of the tables and some number of types.
pub record CanLoad (words vertices edges : List ℕ) : Type 0 where
  pub bounds : Bounds
  pub sized : Sized bounds (state no_head vertices edges)
  pub sound : loadable bounds words ≡ true

-- The words of an image, read off the tables.
use Rattle.std.specs.Prelude.{ℕ, ◌+◌, ◌*◌, ◌≤◌, List, [], ◌∷◌, length}
use Rattle.lists.specs.Lists.{concat_map}
use Rattle.linked_lists.specs.declared.LinkLayout.{LinkLayout}
use Rattle.linked_lists.specs.declared.Ends.{Ends}
use Rattle.linked_lists.specs.Links.{Held, nodes}
use Rattle.graph.specs.Graph.{Graph}
use Rattle.graph.specs.WellFormed.{Bounds, Within}
use Rattle.image.specs.Image.{image_length}
use Rattle.graph_tables.specs.declared.Head.{Head}
use Rattle.graph_tables.specs.Tables.{
  State,
  vertex_links,
  edge_links,
  incidence_links,
  vertex_list_ends,
  edge_list_ends,
  vertex_ends,
  vtype,
  vvalue,
  etype,
  wthis,
  ekind,
  edecimetres,
}
use Rattle.graph_tables.specs.Holds.{Holds}
use Rattle.graph_tables.specs.Capacities.{Sized}

-- REFERENCE 10.2 to 10.4, read off tables: the list of v, the record of vertex v, of edge e
abbrev pub list_words : List ℕ → List ℕ → ℕ → List ℕ
list_words vertices edges v = nodes incidence_links edges (vertex_ends vertices v)

abbrev pub vertex_words : List ℕ → List ℕ → ℕ → List ℕ
vertex_words vertices edges v = v ∷ vtype vertices v ∷ vvalue vertices v ∷ length (list_words vertices edges v) ∷ []

abbrev pub edge_words : List ℕ → ℕ → List ℕ
edge_words edges e =
    e ∷ wthis edges (2 * e) ∷ wthis edges (2 * e + 1) ∷ etype edges e ∷ ekind edges e ∷ edecimetres edges e ∷ []

-- the three parts
unfoldable pub vertex_part_of : Head → List ℕ → List ℕ → List ℕ
vertex_part_of h vertices edges = concat_map (vertex_words vertices edges) (nodes vertex_links vertices (vertex_list_ends h))

unfoldable pub edge_part_of : Head → List ℕ → List ℕ
edge_part_of h edges = concat_map (edge_words edges) (nodes edge_links edges (edge_list_ends h))

unfoldable pub incidence_part_of : Head → List ℕ → List ℕ → List ℕ
incidence_part_of h vertices edges = concat_map (list_words vertices edges) (nodes vertex_links vertices (vertex_list_ends h))

-- words at a place of a slice that has room for them
abbrev pub HasRoom : ℕ → List ℕ → List ℕ → Type 0
HasRoom at ws out = at + length ws ≤ length out

-- some list is held
abbrev pub HoldsSome : LinkLayout → List ℕ → Ends → Type 0
HoldsSome layout t e = (l : List ℕ) × Held layout t e l

-- what saving asks: the tables hold a graph within their capacities, and there is room for its image
pub record CanSave (s : State) (size : ℕ) : Type 0 where
  pub graph : Graph
  pub bounds : Bounds
  pub holds : Holds s graph
  pub within : Within bounds graph
  pub sized : Sized bounds s
  pub room : image_length s.head.vertices s.head.edges ≤ size

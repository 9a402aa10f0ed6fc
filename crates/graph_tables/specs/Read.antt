-- The graph that the tables have, read off them.
use Rattle.std.specs.Prelude.{ℕ, ◌+◌, ◌*◌, map}
use Rattle.linked_lists.specs.Links.{nodes}
use Rattle.graph.specs.Graph.{Vertex, Edge, Graph}
use Rattle.graph_tables.specs.Tables.{
  State,
  vertex_links,
  edge_links,
  incidence_links,
  vertex_list_ends,
  edge_list_ends,
  vertex_ends,
  vtype,
  vvalue,
  etype,
  wthis,
  reading_at,
}

abbrev pub vertex_at : State → ℕ → Vertex
vertex_at s v = record {
  number = v;
  type = vtype s.vertices v;
  value = vvalue s.vertices v;
  incidences = nodes incidence_links s.edges
      (vertex_ends s.vertices v);
}

abbrev pub edge_at : State → ℕ → Edge
edge_at s e = record {
  number = e;
  alpha = wthis s.edges (2 * e);
  omega = wthis s.edges (2 * e + 1);
  type = etype
      s.edges e;
  reading = reading_at s.edges e;
}

unfoldable pub graph_of : State → Graph
graph_of s = record {
  vseq = map (vertex_at s) (nodes vertex_links s.vertices (vertex_list_ends s.head));
  eseq = map (edge_at s)
      (nodes edge_links s.edges (edge_list_ends s.head));
}

-- The tables (REFERENCE 13.1, 13.2): where each word stands, and what each step does to the words.
use Rattle.std.specs.Prelude.{◌≡◌, ℕ, ◌+◌, ◌-◌, ◌*◌, ◌^◌, ◌<◌, ◌≤◌, List, length, set, replicate, nat_lt, slice_index, slice_index_or, slice_set, ◌==◌}
use Rattle.linked_lists.specs.declared.LinkLayout.{LinkLayout}
use Rattle.linked_lists.specs.declared.Ends.{Ends}
use Rattle.linked_lists.specs.Links.{table_unlink, ends_unlink, table_insert, ends_insert, table_move, ends_move, CanUnlink, CanInsert}
use Rattle.graph.specs.declared.Reading.{Reading}
use Rattle.graph.specs.declared.Reading.TheVariants.{Untested}
use Rattle.lists.specs.Choice.{◌⇒◌else◌}
use Rattle.graph.specs.Graph.{reading_kind, decimetres, reading_of}
use Rattle.graph_tables.specs.declared.Head.{Head}
use Rattle.graph_tables.specs.declared.Tables.{Tables}
use Rattle.graph_tables.specs.declared.TablesView.{TablesView}
use Rattle.graph_tables.specs.declared.EdgeFields.{EdgeFields}
use Rattle.graph_tables.specs.declared.Lookup.{Lookup}
use Rattle.graph_tables.specs.declared.Lookup.TheVariants.{Found, Missing}

-- the links of Vseq, of Eseq and of the incidence lists
abbrev pub vertex_links : LinkLayout
vertex_links = record { stride = 8; offset = 2 }

abbrev pub edge_links : LinkLayout
edge_links = record { stride = 12; offset = 2 }

abbrev pub incidence_links : LinkLayout
incidence_links = record { stride = 6; offset = 12 }

-- word f of vertex v: 0 live, 1 type, 2 value, 3 first, 4 last, 5 spare, 6 prev, 7 next
abbrev pub vertex_place : ℕ → ℕ → ℕ
vertex_place f v = 8 * v - 8 + f

-- word f of edge e: 3 live, 4 type, 5 reading kind, 9 decimetres, 10 prev, 11 next; the rest is in its halves
abbrev pub edge_place : ℕ → ℕ → ℕ
edge_place f e = 12 * e - 12 + f

-- word f of the oriented word w: 0 prev, 1 next, 2 this
abbrev pub half_place : ℕ → ℕ → ℕ
half_place f w = 6 * w - 12 + f

-- the word that stands there
abbrev pub vertex_field : ℕ → List ℕ → ℕ → ℕ
vertex_field f vertices v = slice_index vertices (vertex_place f v)

abbrev pub edge_field : ℕ → List ℕ → ℕ → ℕ
edge_field f edges e = slice_index edges (edge_place f e)

abbrev pub half_field : ℕ → List ℕ → ℕ → ℕ
half_field f edges w = slice_index edges (half_place f w)

-- the words by name
abbrev pub vlive : List ℕ → ℕ → ℕ
vlive vertices v = vertex_field 0 vertices v

abbrev pub vtype : List ℕ → ℕ → ℕ
vtype vertices v = vertex_field 1 vertices v

abbrev pub vvalue : List ℕ → ℕ → ℕ
vvalue vertices v = vertex_field 2 vertices v

abbrev pub vfirst : List ℕ → ℕ → ℕ
vfirst vertices v = vertex_field 3 vertices v

abbrev pub vlast : List ℕ → ℕ → ℕ
vlast vertices v = vertex_field 4 vertices v

abbrev pub vprev : List ℕ → ℕ → ℕ
vprev vertices v = vertex_field 6 vertices v

abbrev pub vnext : List ℕ → ℕ → ℕ
vnext vertices v = vertex_field 7 vertices v

abbrev pub elive : List ℕ → ℕ → ℕ
elive edges e = edge_field 3 edges e

abbrev pub etype : List ℕ → ℕ → ℕ
etype edges e = edge_field 4 edges e

abbrev pub ekind : List ℕ → ℕ → ℕ
ekind edges e = edge_field 5 edges e

abbrev pub edecimetres : List ℕ → ℕ → ℕ
edecimetres edges e = edge_field 9 edges e

abbrev pub eprev : List ℕ → ℕ → ℕ
eprev edges e = edge_field 10 edges e

abbrev pub enext : List ℕ → ℕ → ℕ
enext edges e = edge_field 11 edges e

abbrev pub wprev : List ℕ → ℕ → ℕ
wprev edges w = half_field 0 edges w

abbrev pub wnext : List ℕ → ℕ → ℕ
wnext edges w = half_field 1 edges w

abbrev pub wthis : List ℕ → ℕ → ℕ
wthis edges w = half_field 2 edges w

-- the reading of edge e
abbrev pub reading_at : List ℕ → ℕ → Reading
reading_at edges e = reading_of (ekind edges e) (edecimetres edges e)

-- the words of edge e together: alpha is this of its out half, omega this of its in half
abbrev pub edge_fields : List ℕ → ℕ → EdgeFields
edge_fields edges e = record {
  alpha = wthis edges (2 * e);
  omega = wthis edges (2 * e + 1);
  sort = etype edges e;
  kind = ekind edges e;
  decimetres = edecimetres edges e;
}

-- the head and the two tables
pub record State : Type 0 where
  pub head : Head
  pub vertices : List ℕ
  pub edges : List ℕ

abbrev pub state : Head → List ℕ → List ℕ → State
state h vertices edges = record { head = h; vertices = vertices; edges = edges }

-- the head, and what the lent tables hold
abbrev pub state_of : Head → Tables → State
state_of h t = state h t.vertices.now t.edges.now

-- the same of tables that are lent to read
abbrev pub view_state : Head → TablesView → State
view_state h t = state h t.vertices.now t.edges.now

-- the same two loans, of the same lengths: what is written by the one is read by who lent the other
pub record SameLoan (old new : Tables) : Type 0 where
  pub vertices : new.vertices.ghost_name ≡ old.vertices.ghost_name
  pub edges : new.edges.ghost_name ≡ old.edges.ghost_name
  pub vertices_length : length new.vertices.now ≡ length old.vertices.now
  pub edges_length : length new.edges.now ≡ length old.edges.now

abbrev pub vertex_list_ends : Head → Ends
vertex_list_ends h = record { first = h.vfirst; last = h.vlast }

abbrev pub edge_list_ends : Head → Ends
edge_list_ends h = record { first = h.efirst; last = h.elast }

abbrev pub with_vertex_ends : Ends → Head → Head
with_vertex_ends e h = record {
  vfirst = e.first;
  vlast = e.last;
  efirst = h.efirst;
  elast = h.elast;
  vertices = h.vertices;
  edges = h.edges;
}

abbrev pub with_edge_ends : Ends → Head → Head
with_edge_ends e h = record {
  vfirst = h.vfirst;
  vlast = h.vlast;
  efirst = e.first;
  elast = e.last;
  vertices = h.vertices;
  edges = h.edges;
}

-- vertex v's row is in the table; edge e's
abbrev pub VertexRowIn : List ℕ → ℕ → Type 0
VertexRowIn vertices v = (1 ≤ v) × (8 * v ≤ length vertices)

abbrev pub EdgeRowIn : List ℕ → ℕ → Type 0
EdgeRowIn edges e = (1 ≤ e) × (12 * e ≤ length edges)

abbrev pub HalfRowIn : List ℕ → ℕ → Type 0
HalfRowIn edges w = (2 ≤ w) × (6 * w ≤ length edges + 6)

-- the ends of v's incidence list
abbrev pub vertex_ends : List ℕ → ℕ → Ends
vertex_ends vertices v = record { first = vfirst vertices v; last = vlast vertices v }

unfoldable pub put_ends : ℕ → Ends → List ℕ → List ℕ
put_ends v e vertices = slice_set (slice_set vertices (vertex_place 3 v) e.first) (vertex_place 4 v) e.last

-- ---- nothing held

abbrev pub no_head : Head
no_head = record { vfirst = 0; vlast = 0; efirst = 0; elast = 0; vertices = 0; edges = 0 }

-- tables of as many words, all 0
unfoldable pub cleared : List ℕ → List ℕ → State
cleared vertices edges = state no_head (replicate (length vertices) 0) (replicate (length edges) 0)

-- ---- the steps

-- vertex n moved to after p in Vseq
unfoldable pub state_move_vertex : ℕ → ℕ → State → State
state_move_vertex n p s = state (with_vertex_ends (ends_move vertex_links n p s.vertices (vertex_list_ends s.head)) s.head)
    (table_move vertex_links n p s.vertices (vertex_list_ends s.head)) s.edges

-- word w out of v's list, and into it after p
unfoldable pub state_detach : ℕ → ℕ → State → State
state_detach v w s = state s.head (put_ends v (ends_unlink incidence_links s.edges (vertex_ends s.vertices v) w) s.vertices)
    (table_unlink incidence_links s.edges (vertex_ends s.vertices v) w)

pub record CanDetach (v w : ℕ) (s : State) : Type 0 where
  pub row : VertexRowIn s.vertices v
  pub out : CanUnlink incidence_links s.edges (vertex_ends s.vertices v) w

unfoldable pub state_attach : ℕ → ℕ → ℕ → State → State
state_attach v p w s = state s.head (put_ends v (ends_insert incidence_links s.edges (vertex_ends s.vertices v) p w)
    s.vertices)
    (table_insert incidence_links s.edges (vertex_ends s.vertices v) p w)

pub record CanAttach (v p w : ℕ) (s : State) : Type 0 where
  pub row : VertexRowIn s.vertices v
  pub back : CanInsert incidence_links s.edges (vertex_ends s.vertices v) p w

-- this of w
unfoldable pub state_set_this : ℕ → ℕ → State → State
state_set_this w u s = state s.head s.vertices (slice_set s.edges (half_place 2 w) u)

unfoldable pub state_move_word : ℕ → ℕ → ℕ → ℕ → State → State
state_move_word w v u p s = state_set_this w u (state_attach u p w (state_detach v w s))

pub record CanMoveWord (w v u p : ℕ) (s : State) : Type 0 where
  pub here : HalfRowIn s.edges w
  pub this : wthis s.edges w ≡ v
  pub out : CanDetach v w s
  pub back : CanAttach u p w (state_detach v w s)

-- ---- rows

unfoldable pub table_vertex_row : ℕ → ℕ → ℕ → ℕ → List ℕ → List ℕ
table_vertex_row v live t x vertices = slice_set (slice_set (slice_set vertices (vertex_place 0 v) live) (vertex_place 1 v) t) (vertex_place 2 v) x

unfoldable pub table_edge_row : ℕ → ℕ → ℕ → Reading → List ℕ → List ℕ
table_edge_row e live t r edges = set (set (slice_set (slice_set edges (edge_place 3 e) live) (edge_place 4 e) t) (edge_place 5 e)
    (reading_kind r))
    (edge_place 9 e)
    (decimetres r)

unfoldable pub table_edge_this : ℕ → ℕ → ℕ → List ℕ → List ℕ
table_edge_this e a z edges = slice_set (slice_set edges (half_place 2 (2 * e)) a) (half_place 2 (2 * e + 1)) z

abbrev pub head_with_vertices : ℕ → Head → Head
head_with_vertices n h = record {
  vfirst = h.vfirst;
  vlast = h.vlast;
  efirst = h.efirst;
  elast = h.elast;
  vertices = n;
  edges = h.edges;
}

abbrev pub head_with_edges : ℕ → Head → Head
head_with_edges n h = record {
  vfirst = h.vfirst;
  vlast = h.vlast;
  efirst = h.efirst;
  elast = h.elast;
  vertices = h.vertices;
  edges = n;
}

-- ---- vertices

unfoldable pub state_set_vertex : ℕ → ℕ → ℕ → State → State
state_set_vertex v t x s = state s.head (table_vertex_row v 1 t x s.vertices) s.edges

unfoldable pub state_insert_vertex : ℕ → ℕ → ℕ → ℕ → State → State
state_insert_vertex n t x p s =
    state (head_with_vertices (s.head.vertices + 1) (with_vertex_ends (ends_insert vertex_links s.vertices (vertex_list_ends
    s.head) p n) s.head))
    (table_vertex_row n 1 t x (table_insert vertex_links s.vertices (vertex_list_ends s.head) p n)) s.edges

pub record CanInsertVertex (n p : ℕ) (s : State) : Type 0 where
  pub row : VertexRowIn s.vertices n
  pub room : s.head.vertices + 1 < 2 ^ 32
  pub back : CanInsert vertex_links s.vertices (vertex_list_ends s.head) p n

unfoldable pub state_remove_vertex : ℕ → State → State
state_remove_vertex n s =
    state (head_with_vertices (s.head.vertices - 1) (with_vertex_ends
    (ends_unlink vertex_links s.vertices (vertex_list_ends s.head) n)
    s.head))
    (table_vertex_row n 0 0 0 (table_unlink vertex_links s.vertices (vertex_list_ends s.head) n)) s.edges

pub record CanRemoveVertex (n : ℕ) (s : State) : Type 0 where
  pub row : VertexRowIn s.vertices n
  pub some : 1 ≤ s.head.vertices
  pub out : CanUnlink vertex_links s.vertices (vertex_list_ends s.head) n

-- ---- edges

unfoldable pub state_set_edge : ℕ → ℕ → Reading → State → State
state_set_edge e t r s = state s.head s.vertices (table_edge_row e 1 t r s.edges)

unfoldable pub state_move_edge : ℕ → ℕ → State → State
state_move_edge n p s = state (with_edge_ends (ends_move edge_links n p s.edges (edge_list_ends s.head)) s.head) s.vertices
    (table_move edge_links n p s.edges (edge_list_ends s.head))

-- an edge's row and its place in eseq, without its words in the lists
unfoldable pub state_place_edge : ℕ → ℕ → ℕ → ℕ → Reading → ℕ → State → State
state_place_edge n a z t r p s =
    state (head_with_edges (s.head.edges + 1) (with_edge_ends (ends_insert edge_links s.edges (edge_list_ends s.head) p n)
    s.head)) s.vertices
    (table_edge_this n a z (table_edge_row n 1 t r (table_insert edge_links s.edges (edge_list_ends s.head) p n)))

pub record CanPlaceEdge (n p : ℕ) (s : State) : Type 0 where
  pub row : EdgeRowIn s.edges n
  pub room : s.head.edges + 1 < 2 ^ 32
  pub back : CanInsert edge_links s.edges (edge_list_ends s.head) p n

unfoldable pub state_drop_edge : ℕ → State → State
state_drop_edge n s =
    state (head_with_edges (s.head.edges - 1) (with_edge_ends (ends_unlink edge_links s.edges (edge_list_ends s.head) n)
    s.head)) s.vertices
    (table_edge_this n 0 0 (table_edge_row n 0 0 Untested (table_unlink edge_links s.edges (edge_list_ends s.head) n)))

pub record CanDropEdge (n : ℕ) (s : State) : Type 0 where
  pub row : EdgeRowIn s.edges n
  pub some : 1 ≤ s.head.edges
  pub out : CanUnlink edge_links s.edges (edge_list_ends s.head) n

unfoldable pub state_insert_edge : ℕ → ℕ → ℕ → ℕ → Reading → ℕ → ℕ → ℕ → State → State
state_insert_edge n a z t r p o i s = state_attach z i (2 * n + 1) (state_attach a o (2 * n) (state_place_edge n a z t r p s))

pub record CanInsertEdge (n a z t : ℕ) (r : Reading) (p o i : ℕ) (s : State) : Type 0 where
  pub place : CanPlaceEdge n p s
  pub out : CanAttach a o (2 * n) (state_place_edge n a z t r p s)
  pub into : CanAttach z i (2 * n + 1) (state_attach a o (2 * n) (state_place_edge n a z t r p s))

unfoldable pub state_remove_edge : ℕ → ℕ → ℕ → State → State
state_remove_edge n a z s = state_drop_edge n (state_detach a (2 * n) (state_detach z (2 * n + 1) s))

pub record CanRemoveEdge (n a z : ℕ) (s : State) : Type 0 where
  pub into : CanDetach z (2 * n + 1) s
  pub out : CanDetach a (2 * n) (state_detach z (2 * n + 1) s)
  pub row : CanDropEdge n (state_detach a (2 * n) (state_detach z (2 * n + 1) s))

-- ---- look-ups

-- where the row of n starts, of rows of so many words; word `live` of a row that is not used is 0
unfoldable pub found_row : (size live : ℕ) → List ℕ → ℕ → Lookup
found_row size live table n = (n == 0) ⇒ Missing else nat_lt (length table) (size * n) ⇒ Missing else
    (slice_index_or table (size * n - size + live) 0 == 0) ⇒ Missing else Found (size * n - size)

abbrev pub lookup_vertex : List ℕ → ℕ → Lookup
lookup_vertex vertices v = found_row 8 0 vertices v

abbrev pub lookup_edge : List ℕ → ℕ → Lookup
lookup_edge edges e = found_row 12 3 edges e

-- the code of a look-up that fails: REFERENCE 7.4
abbrev pub vertex_code : Lookup → ℕ
vertex_code (Found at) = 0
vertex_code Missing = 4

-- REFERENCE 7.5
abbrev pub edge_code : Lookup → ℕ
edge_code (Found at) = 0
edge_code Missing = 5

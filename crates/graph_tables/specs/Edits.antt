-- What each edit does to the tables, what it asks of them, and what room it takes.
use Rattle.std.specs.Prelude.{◌^◌, ◌<◌, length}
use Rattle.graph.specs.declared.Edit.{Edit}
use Rattle.graph.specs.declared.Edit.TheVariants.{
  InsertVertex,
  RemoveVertex,
  InsertEdge,
  RemoveEdge,
  SetVertex,
  SetEdge,
  MoveVertex,
  MoveEdge,
  MoveWord,
}
use Rattle.linked_lists.specs.Links.{CanMove}
use Rattle.graph_tables.specs.Tables.{
  State,
  vertex_links,
  edge_links,
  vertex_list_ends,
  edge_list_ends,
  VertexRowIn,
  EdgeRowIn,
  state_set_vertex,
  state_move_vertex,
  state_insert_vertex,
  CanInsertVertex,
  state_remove_vertex,
  CanRemoveVertex,
  state_set_edge,
  state_move_edge,
  state_insert_edge,
  CanInsertEdge,
  state_remove_edge,
  CanRemoveEdge,
  state_move_word,
  CanMoveWord,
}

-- the head and the tables after an edit; of what the edit says of the graph before it, only the ends of an edge and the
-- vertex of a word are used
abbrev pub state_apply : Edit → State → State
state_apply (InsertVertex n t v p) s = state_insert_vertex n t v p s
state_apply (RemoveVertex n t v p) s = state_remove_vertex n s
state_apply (InsertEdge n a z t r p o i) s = state_insert_edge n a z t r p o i s
state_apply (RemoveEdge n a z t r p o i) s = state_remove_edge n a z s
state_apply (SetVertex n t v t' v') s = state_set_vertex n t' v' s
state_apply (SetEdge n t r t' r') s = state_set_edge n t' r' s
state_apply (MoveVertex n old new) s = state_move_vertex n new s
state_apply (MoveEdge n old new) s = state_move_edge n new s
state_apply (MoveWord w v old u new) s = state_move_word w v u new s

-- what each edit asks of the tables, so that what it reads and writes is within them and its counts are words
abbrev pub Can : Edit → State → Type 0
Can (InsertVertex n t v p) s = CanInsertVertex n p s
Can (RemoveVertex n t v p) s = CanRemoveVertex n s
Can (InsertEdge n a z t r p o i) s = (n < 2 ^ 31) × CanInsertEdge n a z t r p o i s
Can (RemoveEdge n a z t r p o i) s = (n < 2 ^ 31) × CanRemoveEdge n a z s
Can (SetVertex n t v t' v') s = VertexRowIn s.vertices n
Can (SetEdge n t r t' r') s = EdgeRowIn s.edges n
Can (MoveVertex n old new) s = CanMove vertex_links n new s.vertices (vertex_list_ends s.head)
Can (MoveEdge n old new) s = CanMove edge_links n new s.edges (edge_list_ends s.head)
Can (MoveWord w v old u new) s = CanMoveWord w v u new s

-- under 2 ^ 31 words, so that both words of an edge with a row have 32 bits
pub record Small (s : State) : Type 0 where
  pub vertices : length s.vertices < 2 ^ 31
  pub edges : length s.edges < 2 ^ 31

-- a number that is put in has a row
abbrev pub Room : Edit → State → Type 0
Room (InsertVertex n t v p) s = VertexRowIn s.vertices n
Room (RemoveVertex n t v p) s = Unit {0}
Room (InsertEdge n a z t r p o i) s = EdgeRowIn s.edges n
Room (RemoveEdge n a z t r p o i) s = Unit {0}
Room (SetVertex n t v t' v') s = Unit {0}
Room (SetEdge n t r t' r') s = Unit {0}
Room (MoveVertex n old new) s = Unit {0}
Room (MoveEdge n old new) s = Unit {0}
Room (MoveWord w v old u new) s = Unit {0}

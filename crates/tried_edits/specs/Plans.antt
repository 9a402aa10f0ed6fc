-- The edit of each change, read off the tables: a constant number of words.
use Rattle.std.specs.Prelude.{ℕ, ◌+◌, ◌*◌, ◌^◌, ◌<◌, List}
use Rattle.lists.specs.Choice.{if_equal}
use Rattle.graph.specs.declared.Reading.TheVariants.{Untested}
use Rattle.graph.specs.declared.Edit.{Edit}
use Rattle.graph.specs.declared.Edit.TheVariants.{
  InsertVertex,
  RemoveVertex,
  InsertEdge,
  RemoveEdge,
  SetVertex,
  SetEdge,
  MoveVertex,
  MoveEdge,
  MoveWord,
}
use Rattle.graph.specs.declared.SingleChange.{SingleChange}
use Rattle.graph.specs.declared.SingleChange.TheVariants.{
  CreateVertex,
  CreateEdge,
  DeleteEdge,
  RetypeVertex,
  RetypeEdge,
  SetValue,
  SetReading,
  SetAlpha,
  SetOmega,
  VertexBefore,
  VertexAfter,
  EdgeBefore,
  EdgeAfter,
  WordBefore,
  WordAfter,
}
use Rattle.graph.specs.Graph.{reading_of}
use Rattle.graph_tables.specs.declared.Head.{Head}
use Rattle.graph_tables.specs.Tables.{
  State,
  VertexRowIn,
  EdgeRowIn,
  HalfRowIn,
  vtype,
  vvalue,
  vlast,
  vprev,
  etype,
  ekind,
  edecimetres,
  eprev,
  wprev,
  wthis,
  reading_at,
}
use Rattle.tried_edits.specs.declared.removal.RemovedEdge.{RemovedEdge}

-- x; where x is a itself, which leaves its list first, the place p of a
abbrev pub unless : ℕ → ℕ → ℕ → ℕ
unless a p x = if_equal x a p x

-- kinds 1 and 2
abbrev pub plan_create_vertex : Head → ℕ → ℕ → ℕ → Edit
plan_create_vertex h n t x = InsertVertex n t x h.vlast

abbrev pub plan_remove_vertex : List ℕ → ℕ → Edit
plan_remove_vertex vertices a = RemoveVertex a (vtype vertices a) (vvalue vertices a) (vprev vertices a)

-- kind 3: where alpha is omega, the in word goes after the out word
abbrev pub plan_create_edge : Head → List ℕ → ℕ → ℕ → ℕ → ℕ → Edit
plan_create_edge h vertices n a o t = InsertEdge n a o t Untested h.elast (vlast vertices a)
    (if_equal a o (2 * n) (vlast vertices o))

-- what the row of edge n says of its removal; the in word goes first, so where it stands right before the out word, the
-- out word's place is the in word's
abbrev pub removed_edge : List ℕ → ℕ → RemovedEdge
removed_edge edges n = record {
  alpha = wthis edges (2 * n);
  omega = wthis edges (2 * n + 1);
  sort = etype edges n;
  kind = ekind edges n;
  decimetres = edecimetres edges n;
  order = eprev edges n;
  out = unless (2 * n + 1) (wprev edges (2 * n + 1)) (wprev edges (2 * n));
  into = wprev edges (2 * n + 1);
}

abbrev pub removal_of : ℕ → RemovedEdge → Edit
removal_of n w =
    RemoveEdge n w.alpha w.omega w.sort (reading_of w.kind w.decimetres) w.order w.out w.into

-- kind 4
abbrev pub plan_remove_edge : List ℕ → ℕ → Edit
plan_remove_edge edges n = removal_of n (removed_edge edges n)

-- kinds 5 to 8
abbrev pub plan_retype_vertex : List ℕ → ℕ → ℕ → Edit
plan_retype_vertex vertices a t = SetVertex a (vtype vertices a) (vvalue vertices a) t (vvalue vertices a)

abbrev pub plan_set_value : List ℕ → ℕ → ℕ → Edit
plan_set_value vertices a x = SetVertex a (vtype vertices a) (vvalue vertices a) (vtype vertices a) x

abbrev pub plan_retype_edge : List ℕ → ℕ → ℕ → Edit
plan_retype_edge edges a t = SetEdge a (etype edges a) (reading_at edges a) t (reading_at edges a)

abbrev pub plan_set_reading : List ℕ → ℕ → ℕ → ℕ → Edit
plan_set_reading edges a k d = SetEdge a (etype edges a) (reading_at edges a) (etype edges a) (reading_of k d)

-- kinds 9 and 10: word w last in the list of u
abbrev pub plan_word_last : List ℕ → List ℕ → ℕ → ℕ → Edit
plan_word_last vertices edges w u = MoveWord w (wthis edges w) (wprev edges w) u
    (unless w (wprev edges w) (vlast vertices u))

-- kinds 11 to 16
abbrev pub plan_vertex_before : List ℕ → ℕ → ℕ → Edit
plan_vertex_before vertices a b = MoveVertex a (vprev vertices a) (unless a (vprev vertices a) (vprev vertices b))

abbrev pub plan_vertex_after : List ℕ → ℕ → ℕ → Edit
plan_vertex_after vertices a b = MoveVertex a (vprev vertices a) b

abbrev pub plan_edge_before : List ℕ → ℕ → ℕ → Edit
plan_edge_before edges a b = MoveEdge a (eprev edges a) (unless a (eprev edges a) (eprev edges b))

abbrev pub plan_edge_after : List ℕ → ℕ → ℕ → Edit
plan_edge_after edges a b = MoveEdge a (eprev edges a) b

abbrev pub plan_word_before : List ℕ → ℕ → ℕ → Edit
plan_word_before edges a b = MoveWord a (wthis edges a) (wprev edges a) (wthis edges a)
    (unless a (wprev edges a) (wprev edges b))

abbrev pub plan_word_after : List ℕ → ℕ → ℕ → Edit
plan_word_after edges a b = MoveWord a (wthis edges a) (wprev edges a) (wthis edges a) b

-- the edit of a change of one edit
abbrev pub state_plan : SingleChange → State → Edit
state_plan (CreateVertex n t x) s = plan_create_vertex s.head n t x
state_plan (CreateEdge n a o t) s = plan_create_edge s.head s.vertices n a o t
state_plan (DeleteEdge a) s = plan_remove_edge s.edges a
state_plan (RetypeVertex a t) s = plan_retype_vertex s.vertices a t
state_plan (RetypeEdge a t) s = plan_retype_edge s.edges a t
state_plan (SetValue a x) s = plan_set_value s.vertices a x
state_plan (SetReading a k d) s = plan_set_reading s.edges a k d
state_plan (SetAlpha e v) s = plan_word_last s.vertices s.edges (2 * e) v
state_plan (SetOmega e v) s = plan_word_last s.vertices s.edges (2 * e + 1) v
state_plan (VertexBefore a b) s = plan_vertex_before s.vertices a b
state_plan (VertexAfter a b) s = plan_vertex_after s.vertices a b
state_plan (EdgeBefore a b) s = plan_edge_before s.edges a b
state_plan (EdgeAfter a b) s = plan_edge_after s.edges a b
state_plan (WordBefore a b) s = plan_word_before s.edges a b
state_plan (WordAfter a b) s = plan_word_after s.edges a b

-- both words of edge n are words of 32 bits
abbrev pub Short : ℕ → Type 0
Short n = n < 2 ^ 31

-- the rows that are read are there
abbrev pub CanPlan : SingleChange → State → Type 0
CanPlan (CreateVertex n t x) s = Unit {0}
CanPlan (CreateEdge n a o t) s = Short n × VertexRowIn s.vertices a × VertexRowIn s.vertices o
CanPlan (DeleteEdge a) s = Short a × EdgeRowIn s.edges a
CanPlan (RetypeVertex a t) s = VertexRowIn s.vertices a
CanPlan (RetypeEdge a t) s = EdgeRowIn s.edges a
CanPlan (SetValue a x) s = VertexRowIn s.vertices a
CanPlan (SetReading a k d) s = EdgeRowIn s.edges a
CanPlan (SetAlpha e v) s = Short e × EdgeRowIn s.edges e × VertexRowIn s.vertices v
CanPlan (SetOmega e v) s = Short e × EdgeRowIn s.edges e × VertexRowIn s.vertices v
CanPlan (VertexBefore a b) s = VertexRowIn s.vertices a × VertexRowIn s.vertices b
CanPlan (VertexAfter a b) s = VertexRowIn s.vertices a
CanPlan (EdgeBefore a b) s = EdgeRowIn s.edges a × EdgeRowIn s.edges b
CanPlan (EdgeAfter a b) s = EdgeRowIn s.edges a
CanPlan (WordBefore a b) s = HalfRowIn s.edges a × HalfRowIn s.edges b
CanPlan (WordAfter a b) s = HalfRowIn s.edges a

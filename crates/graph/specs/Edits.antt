-- The nine reversible edits: each with the old and the new, so that one function makes, undoes and makes again.
use Rattle.std.specs.Prelude.{◌≡◌, List, [], ℕ, ◌+◌, ◌≤◌}
use Rattle.lists.specs.Choice.{indicator}
use Rattle.lists.specs.Keyed.{count_by_key, insert_after_by, remove_by, prev_by, update_by}
use Rattle.graph.specs.declared.Edit.{Edit}
use Rattle.graph.specs.declared.Edit.TheVariants.{
  InsertVertex,
  RemoveVertex,
  InsertEdge,
  RemoveEdge,
  SetVertex,
  SetEdge,
  MoveVertex,
  MoveEdge,
  MoveWord,
}
use Rattle.graph.specs.Graph.{
  Vertex,
  Graph,
  vertex_number,
  edge_number,
  itself,
  vertex_in,
  edge_in,
  list_in,
  this_in,
  out_word,
  in_word,
  edge_of,
}
use Rattle.graph.specs.WellFormed.{Bounds, VertexFits, EdgeFits}
use Rattle.graph.specs.Changes.{with_vertex, on_list, with_edge, with_seen, detach}

abbrev pub inverse : Edit → Edit
inverse (InsertVertex n t v p) = RemoveVertex n t v p
inverse (RemoveVertex n t v p) = InsertVertex n t v p
inverse (InsertEdge n a z t r p o i) = RemoveEdge n a z t r p o i
inverse (RemoveEdge n a z t r p o i) = InsertEdge n a z t r p o i
inverse (SetVertex n t v t' v') = SetVertex n t' v' t v
inverse (SetEdge n t r t' r') = SetEdge n t' r' t r
inverse (MoveVertex n old new) = MoveVertex n new old
inverse (MoveEdge n old new) = MoveEdge n new old
inverse (MoveWord w v old u new) = MoveWord w u new v old

-- word w into the list of v, directly after p
abbrev pub attach : List Vertex → ℕ → ℕ → ℕ → List Vertex
attach vs v p w = update_by vertex_number v (on_list (insert_after_by itself 0 p w)) vs

-- the out word enters first and leaves last, so the words of a loop come back in their order
abbrev pub apply : Edit → Graph → Graph
apply (InsertVertex n t v p) g = record {
  vseq = insert_after_by vertex_number 0 p
      (record { number = n; type = t; value = v; incidences = [] }) g.vseq;
  eseq = g.eseq;
}
apply (RemoveVertex n t v p) g = record { vseq = remove_by vertex_number n g.vseq; eseq = g.eseq }
apply (InsertEdge n a z t r p o i) g = record {
  vseq = attach (attach g.vseq a o (out_word n)) z i (in_word n);
  eseq = insert_after_by edge_number 0 p (record { number = n; alpha = a; omega = z; type = t; reading = r }) g.eseq;
}
apply (RemoveEdge n a z t r p o i) g = record {
  vseq = detach (detach g.vseq z (in_word n)) a (out_word n);
  eseq = remove_by edge_number n g.eseq;
}
apply (SetVertex n t v t' v') g = record { vseq = update_by vertex_number n (with_vertex t' v') g.vseq; eseq = g.eseq }
apply (SetEdge n t r t' r') g = record { vseq = g.vseq; eseq = update_by edge_number n (with_edge t' r') g.eseq }
apply (MoveVertex n old new) g = record {
  vseq = insert_after_by vertex_number 0 new (vertex_in g.vseq n)
      (remove_by vertex_number n g.vseq);
  eseq = g.eseq;
}
apply (MoveEdge n old new) g = record {
  vseq = g.vseq;
  eseq = insert_after_by edge_number 0 new (edge_in g.eseq n)
      (remove_by edge_number n g.eseq);
}
apply (MoveWord w v old u new) g = record {
  vseq = attach (detach g.vseq v w) u new w;
  eseq = update_by edge_number (edge_of w) (with_seen w u) g.eseq;
}

-- n stands once, directly after p
pub record Placed {A : Type 0} (key : A → ℕ) (l : List A) (n p : ℕ) : Type 0 where
  pub there : count_by_key key n l ≡ 1
  pub before : prev_by key 0 n l ≡ p

-- n can be put in directly after p
pub record Insertable {A : Type 0} (key : A → ℕ) (l : List A) (n p : ℕ) : Type 0 where
  pub real : 1 ≤ n
  pub fresh : count_by_key key n l ≡ 0
  pub after : 1 ≤ indicator 0 p + count_by_key key p l

-- the edit's old values are those of the graph, and its new places are there
abbrev pub Applies : Edit → Graph → Type 0
Applies (InsertVertex n t v p) g = Insertable vertex_number g.vseq n p
Applies (RemoveVertex n t v p) g = Placed vertex_number g.vseq n p
    × (vertex_in g.vseq n ≡ record { number = n; type = t; value = v; incidences = [] })
Applies (InsertEdge n a z t r p o i) g =
    Insertable edge_number g.eseq n p × (count_by_key vertex_number a g.vseq ≡ 1) × (count_by_key vertex_number z g.vseq ≡ 1)
    × (1 ≤ indicator 0 o + count_by_key itself o (list_in g.vseq a))
    × (1 ≤ indicator 0 i + count_by_key itself i (list_in (attach g.vseq a o (out_word n)) z))
Applies (RemoveEdge n a z t r p o i) g =
    Placed edge_number g.eseq n p × (edge_in g.eseq n ≡ record {
      number = n;
      alpha = a;
      omega = z;
      type = t;
      reading = r;
    })
    × (prev_by itself 0 (in_word n) (list_in g.vseq z) ≡ i)
    × (prev_by itself 0 (out_word n) (list_in (detach g.vseq z (in_word n)) a) ≡ o)
Applies (SetVertex n t v t' v') g = (count_by_key vertex_number n g.vseq ≡ 1) × ((vertex_in g.vseq n).type ≡ t)
    × ((vertex_in g.vseq n).value ≡ v)
Applies (SetEdge n t r t' r') g = (count_by_key edge_number n g.eseq ≡ 1) × ((edge_in g.eseq n).type ≡ t)
    × ((edge_in g.eseq n).reading ≡ r)
Applies (MoveVertex n old new) g = Placed vertex_number g.vseq n old
    × (1 ≤ indicator 0 new + count_by_key vertex_number new (remove_by vertex_number n g.vseq))
Applies (MoveEdge n old new) g = Placed edge_number g.eseq n old
    × (1 ≤ indicator 0 new + count_by_key edge_number new (remove_by edge_number n g.eseq))
Applies (MoveWord w v old u new) g =
    (count_by_key edge_number (edge_of w) g.eseq ≡ 1) × (this_in g.eseq w ≡ v) × (count_by_key vertex_number u g.vseq ≡ 1)
    × (prev_by itself 0 w (list_in g.vseq v) ≡ old)
    × (1 ≤ indicator 0 new + count_by_key itself new (list_in (detach g.vseq v w) u))

-- ---- an edit's numbers, types, values and readings are within the bounds, the old ones too

abbrev pub EditIn : Bounds → Edit → Type 0
EditIn b (InsertVertex n t v p) = VertexFits b n t v
EditIn b (RemoveVertex n t v p) = VertexFits b n t v
EditIn b (InsertEdge n a z t r p o i) = EdgeFits b n t r
EditIn b (RemoveEdge n a z t r p o i) = EdgeFits b n t r
EditIn b (SetVertex n t v t' v') = VertexFits b n t v × VertexFits b n t' v'
EditIn b (SetEdge n t r t' r') = EdgeFits b n t r × EdgeFits b n t' r'
EditIn b (MoveVertex n old new) = Unit {0}
EditIn b (MoveEdge n old new) = Unit {0}
EditIn b (MoveWord w v old u new) = Unit {0}

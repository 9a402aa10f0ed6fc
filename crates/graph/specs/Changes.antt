-- The sixteen changes.
use Rattle.std.specs.Prelude.{ℕ, ◌+◌, ◌^◌, ◌≤◌, ◌<◌, ◌≡◌, ◌≢◌, true, List, [], ◌∷◌, ◌++◌, map, length}
use Rattle.lists.specs.Lists.{dedup}
use Rattle.lists.specs.Keyed.{count_by_key, remove_by, update_by, put_before, put_after}
use Rattle.graph.specs.declared.Reading.{Reading}
use Rattle.graph.specs.declared.Reading.TheVariants.{Untested}
use Rattle.graph.specs.declared.Change.{Change}
use Rattle.graph.specs.declared.SingleChange.{SingleChange}
use Rattle.graph.specs.declared.SingleChange.TheVariants.{
  CreateVertex,
  CreateEdge,
  DeleteEdge,
  RetypeVertex,
  RetypeEdge,
  SetValue,
  SetReading,
  SetAlpha,
  SetOmega,
  VertexBefore,
  VertexAfter,
  EdgeBefore,
  EdgeAfter,
  WordBefore,
  WordAfter,
}
use Rattle.graph.specs.declared.Change.TheVariants.{Single, DeleteVertex}
use Rattle.graph.specs.Graph.{
  Vertex,
  Edge,
  Graph,
  vertex_number,
  edge_number,
  itself,
  no_vertex,
  no_edge,
  edge,
  out_word,
  in_word,
  edge_of,
  by_side,
  this,
  list_of,
  reading_of,
  is_reading,
}
use Rattle.graph.specs.WellFormed.{Bounds}

-- ---- one part of a record replaced

abbrev pub with_vertex : ℕ → ℕ → Vertex → Vertex
with_vertex t x v = record { number = v.number; type = t; value = x; incidences = v.incidences }

abbrev pub on_list : (List ℕ → List ℕ) → Vertex → Vertex
on_list h v = record { number = v.number; type = v.type; value = v.value; incidences = h v.incidences }

abbrev pub with_edge : ℕ → Reading → Edge → Edge
with_edge t r e = record { number = e.number; alpha = e.alpha; omega = e.omega; type = t; reading = r }

-- the end that the oriented word w is seen from becomes u
abbrev pub with_seen : ℕ → ℕ → Edge → Edge
with_seen w u e = record {
  number = e.number;
  alpha = by_side w u e.alpha;
  omega = by_side w
      e.omega u;
  type = e.type;
  reading = e.reading;
}

-- word w last in the list of v; out of it
abbrev pub append : List Vertex → ℕ → ℕ → List Vertex
append vs v w = update_by vertex_number v (on_list (λ ws. ws ++ (w ∷ []))) vs

abbrev pub detach : List Vertex → ℕ → ℕ → List Vertex
detach vs v w = update_by vertex_number v (on_list (remove_by itself w)) vs

abbrev pub on_vseq : (List Vertex → List Vertex) → Graph → Graph
on_vseq f g = record { vseq = f g.vseq; eseq = g.eseq }

abbrev pub on_eseq : (List Edge → List Edge) → Graph → Graph
on_eseq f g = record { vseq = g.vseq; eseq = f g.eseq }

-- ---- the changes

-- kind 1: REFERENCE 3.1
unfoldable pub create_vertex : ℕ → ℕ → ℕ → Graph → Graph
create_vertex n t x = on_vseq (λ vs. vs ++ (record { number = n; type = t; value = x; incidences = [] } ∷ []))

-- kind 4, both words leave their lists: REFERENCE 3.4
unfoldable pub delete_edge : ℕ → Graph → Graph
delete_edge e g = record {
  vseq = detach (detach g.vseq (edge g e).omega (in_word e)) (edge g e).alpha (out_word e);
  eseq = remove_by edge_number e g.eseq;
}

unfoldable pub delete_edges : List ℕ → Graph → Graph
unfolding delete_edge
delete_edges [] g = g
delete_edges (e ∷ es) g = delete_edges es (delete_edge e g)

-- the distinct edges at vertex a, in the order of its list
abbrev pub edges_at : Graph → ℕ → List ℕ
edges_at g a = dedup (map edge_of (list_of g a))

-- kind 2: REFERENCE 3.2
unfoldable pub delete_vertex : ℕ → Graph → Graph
unfolding delete_edges
delete_vertex a g = on_vseq (remove_by vertex_number a) (delete_edges (edges_at g a) g)

-- kind 3: REFERENCE 3.3. Of a loop, the in word comes after the out word
unfoldable pub create_edge : ℕ → ℕ → ℕ → ℕ → Graph → Graph
create_edge n a o t g = record {
  vseq = append (append g.vseq a (out_word n)) o (in_word n);
  eseq = g.eseq ++ (record { number = n; alpha = a; omega = o; type = t; reading = Untested } ∷ []);
}

-- kinds 5 to 8: REFERENCE 3.5, 3.6 and 3.7
unfoldable pub retype_vertex : ℕ → ℕ → Graph → Graph
retype_vertex a t = on_vseq (update_by vertex_number a (λ v. with_vertex t v.value v))

unfoldable pub retype_edge : ℕ → ℕ → Graph → Graph
retype_edge a t = on_eseq (update_by edge_number a (λ e. with_edge t e.reading e))

unfoldable pub set_value : ℕ → ℕ → Graph → Graph
set_value a x = on_vseq (update_by vertex_number a (λ v. with_vertex v.type x v))

unfoldable pub set_reading : ℕ → ℕ → ℕ → Graph → Graph
set_reading a k d = on_eseq (update_by edge_number a (λ e. with_edge e.type (reading_of k d) e))

-- kinds 9 and 10: REFERENCE 3.8. A word that stays at its vertex moves to the end of the list
unfoldable pub reattach : ℕ → ℕ → Graph → Graph
reattach w u g = record {
  vseq = append (detach g.vseq (this g w) w) u w;
  eseq = update_by edge_number (edge_of w) (with_seen w u) g.eseq;
}

-- kinds 11 to 16: REFERENCE 3.9
unfoldable pub vertex_before : ℕ → ℕ → Graph → Graph
vertex_before a b = on_vseq (put_before vertex_number no_vertex a b)

unfoldable pub vertex_after : ℕ → ℕ → Graph → Graph
vertex_after a b = on_vseq (put_after vertex_number no_vertex a b)

unfoldable pub edge_before : ℕ → ℕ → Graph → Graph
edge_before a b = on_eseq (put_before edge_number no_edge a b)

unfoldable pub edge_after : ℕ → ℕ → Graph → Graph
edge_after a b = on_eseq (put_after edge_number no_edge a b)

unfoldable pub word_before : ℕ → ℕ → Graph → Graph
word_before a b g = on_vseq (update_by vertex_number (this g a) (on_list (put_before itself 0 a b))) g

unfoldable pub word_after : ℕ → ℕ → Graph → Graph
word_after a b g = on_vseq (update_by vertex_number (this g a) (on_list (put_after itself 0 a b))) g

-- the changes of one edit
unfoldable pub singly_changed : SingleChange → Graph → Graph
unfolding create_vertex create_edge delete_edge retype_vertex retype_edge set_value set_reading reattach vertex_before
    vertex_after edge_before edge_after word_before word_after
singly_changed (CreateVertex n t x) g = create_vertex n t x g
singly_changed (CreateEdge n a o t) g = create_edge n a o t g
singly_changed (DeleteEdge a) g = delete_edge a g
singly_changed (RetypeVertex a t) g = retype_vertex a t g
singly_changed (RetypeEdge a t) g = retype_edge a t g
singly_changed (SetValue a x) g = set_value a x g
singly_changed (SetReading a k d) g = set_reading a k d g
singly_changed (SetAlpha e v) g = reattach (out_word e) v g
singly_changed (SetOmega e v) g = reattach (in_word e) v g
singly_changed (VertexBefore a b) g = vertex_before a b g
singly_changed (VertexAfter a b) g = vertex_after a b g
singly_changed (EdgeBefore a b) g = edge_before a b g
singly_changed (EdgeAfter a b) g = edge_after a b g
singly_changed (WordBefore a b) g = word_before a b g
singly_changed (WordAfter a b) g = word_after a b g

unfoldable pub changed : Change → Graph → Graph
unfolding singly_changed delete_vertex
changed (Single c) g = singly_changed c g
changed (DeleteVertex a) g = delete_vertex a g

-- REFERENCE 3.10: 1, and 1 more for each distinct edge that goes with a vertex
abbrev pub cost : Change → Graph → ℕ
cost (Single c) g = 1
cost (DeleteVertex a) g = 1 + length (edges_at g a)

-- ---- what a change asks of the graph: codes 2 to 9 do not apply, and a value is a word

abbrev pub VertexThere : Graph → ℕ → Type 0
VertexThere g n = count_by_key vertex_number n g.vseq ≡ 1

abbrev pub EdgeThere : Graph → ℕ → Type 0
EdgeThere g n = count_by_key edge_number n g.eseq ≡ 1

abbrev pub SinglyAllowed : Bounds → Graph → SingleChange → Type 0
SinglyAllowed b g (CreateVertex n t x) =
    (1 ≤ n) × (n ≤ b.vertices) × (count_by_key vertex_number n g.vseq ≡ 0) × (t < b.types) × (x < 2 ^ 32)
SinglyAllowed b g (CreateEdge n a o t) =
    (1 ≤ n) × (n ≤ b.edges) × (count_by_key edge_number n g.eseq ≡ 0) × VertexThere g a × VertexThere g o × (t < b.types)
SinglyAllowed b g (DeleteEdge a) = EdgeThere g a
SinglyAllowed b g (RetypeVertex a t) = VertexThere g a × (t < b.types)
SinglyAllowed b g (RetypeEdge a t) = EdgeThere g a × (t < b.types)
SinglyAllowed b g (SetValue a x) = VertexThere g a × (x < 2 ^ 32)
SinglyAllowed b g (SetReading a k d) = EdgeThere g a × (is_reading k d ≡ true)
SinglyAllowed b g (SetAlpha e v) = EdgeThere g e × VertexThere g v
SinglyAllowed b g (SetOmega e v) = EdgeThere g e × VertexThere g v
SinglyAllowed b g (VertexBefore x y) = VertexThere g x × VertexThere g y × (x ≢ y)
SinglyAllowed b g (VertexAfter x y) = VertexThere g x × VertexThere g y × (x ≢ y)
SinglyAllowed b g (EdgeBefore x y) = EdgeThere g x × EdgeThere g y × (x ≢ y)
SinglyAllowed b g (EdgeAfter x y) = EdgeThere g x × EdgeThere g y × (x ≢ y)
SinglyAllowed b g (WordBefore x y) = EdgeThere g (edge_of x) × EdgeThere g (edge_of y) × (this g x ≡ this g y) × (x ≢ y)
SinglyAllowed b g (WordAfter x y) = EdgeThere g (edge_of x) × EdgeThere g (edge_of y) × (this g x ≡ this g y) × (x ≢ y)

abbrev pub Allowed : Bounds → Graph → Change → Type 0
Allowed b g (Single c) = SinglyAllowed b g c
Allowed b g (DeleteVertex a) = VertexThere g a

-- What makes a graph one, within capacities and types.
use Rattle.std.specs.Prelude.{ℕ, ◌+◌, ◌^◌, ◌≤◌, ◌<◌, ◌≡◌, Bool, true, ◌&&◌, List, [], ◌∷◌, ◌++◌, ltb, ◌==◌}
use Rattle.lists.specs.Choice.{◌⇒◌else◌, if_equal, indicator, within}
use Rattle.lists.specs.Lists.{all, All, distinct, count}
use Rattle.lists.specs.Keyed.{count_by_key}
use Rattle.graph.specs.declared.Reading.{Reading}
use Rattle.graph.specs.Graph.{
  Vertex,
  Edge,
  Graph,
  vertex_number,
  edge_number,
  itself,
  has_vertex,
  vertex_numbers,
  edge_numbers,
  out_word,
  in_word,
  edge_of,
  list_in,
  this_in,
  reading_kind,
  decimetres,
  is_reading,
}

-- capacities of vertices and edges, and the number of types
pub record Bounds : Type 0 where
  pub vertices : ℕ
  pub edges : ℕ
  pub types : ℕ

-- the oriented words of an edge, of edges, whose this is v: both, of a loop at v (REFERENCE 1.8)
abbrev pub words_of : ℕ → Edge → List ℕ
words_of v e = ((v == e.alpha) ⇒ (out_word e.number ∷ []) else [])
    ++ ((v == e.omega) ⇒ (in_word e.number ∷ []) else [])

unfoldable pub words_at : List Edge → ℕ → List ℕ
words_at [] v = []
words_at (e ∷ es) v = words_of v e ++ words_at es v

-- each word as often in one list as in the other
abbrev pub same_words : List ℕ → List ℕ → Bool
same_words xs ys = all (λ w. count w xs == count w ys) (xs ++ ys)

-- REFERENCE 1.12, and 1.7 of its list
abbrev pub sound_vertex : Bounds → Graph → Vertex → Bool
sound_vertex b g v =
    within 1 b.vertices v.number && ltb v.type b.types && ltb v.value (2 ^ 32)
    && same_words v.incidences (words_at g.eseq v.number)

abbrev pub sound_edge : Bounds → Graph → Edge → Bool
sound_edge b g e =
    within 1 b.edges e.number && has_vertex g e.alpha && has_vertex g e.omega && ltb e.type b.types
    && is_reading (reading_kind e.reading) (decimetres e.reading)

-- as a test
unfoldable pub well_formed : Bounds → Graph → Bool
unfolding words_at
well_formed b g =
    distinct (vertex_numbers g) && distinct (edge_numbers g) && all (sound_vertex b g) g.vseq
    && all (sound_edge b g) g.eseq

-- ---- the same as facts: proofs/Facts shows that the test holds exactly where both records do

-- each key once, and none is 0
abbrev pub Ordered : {A : Type 0} → (A → ℕ) → List A → Type 0
Ordered key l = (n : ℕ) → indicator 0 n + count_by_key key n l ≤ 1

-- numbers, lists and ends fit together
pub record WellFormed (g : Graph) : Type 0 where
  pub vorder : Ordered vertex_number g.vseq
  pub eorder : Ordered edge_number g.eseq
  pub lists : (u k : ℕ)
      → count_by_key itself k (list_in g.vseq u) ≡ if_equal (this_in g.eseq k) u (count_by_key edge_number (edge_of k)
      g.eseq) 0
  pub ends : (k : ℕ) → count_by_key edge_number (edge_of k) g.eseq ≡ 1
      → count_by_key vertex_number (this_in g.eseq k) g.vseq ≡ 1

-- the number, type and value of a vertex; the number, type and reading of an edge
pub record VertexFits (b : Bounds) (n t x : ℕ) : Type 0 where
  pub number : n ≤ b.vertices
  pub type : t < b.types
  pub value : x < 2 ^ 32

pub record EdgeFits (b : Bounds) (n t : ℕ) (r : Reading) : Type 0 where
  pub number : n ≤ b.edges
  pub type : t < b.types
  pub reading : is_reading (reading_kind r) (decimetres r) ≡ true

abbrev pub VertexIn : Bounds → Vertex → Type 0
VertexIn b v = VertexFits b v.number v.type v.value

abbrev pub EdgeIn : Bounds → Edge → Type 0
EdgeIn b e = EdgeFits b e.number e.type e.reading

-- every number, type, value and reading is within the bounds
pub record Within (b : Bounds) (g : Graph) : Type 0 where
  pub vertices : All (VertexIn b) g.vseq
  pub edges : All (EdgeIn b) g.eseq

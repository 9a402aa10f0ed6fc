-- The graph (the papers' chart): vertices and edges, each in an order. REFERENCE 1.2 to 1.8.
use Rattle.std.specs.Prelude.{ℕ, ◌+◌, ◌*◌, ◌/◌, ◌%◌, ◌≡◌, Bool, ◌&&◌, ◌||◌, List, [], map, leb, ◌==◌}
use Rattle.lists.specs.Choice.{◌⇒◌else◌, if_equal}
use Rattle.lists.specs.Lists.{any}
use Rattle.lists.specs.Keyed.{find_by}
use Rattle.graph.specs.declared.Reading.{Reading}
use Rattle.graph.specs.declared.Reading.TheVariants.{Untested, Silent, Heard}

-- the papers' unit: REFERENCE 1.2, with its list (1.7)
pub record Vertex : Type 0 where
  pub number : ℕ
  pub type : ℕ
  pub value : ℕ
  pub incidences : List ℕ

-- the papers' reading as a row: REFERENCE 1.3; what was heard is its field `reading`
pub record Edge : Type 0 where
  pub number : ℕ
  pub alpha : ℕ
  pub omega : ℕ
  pub type : ℕ
  pub reading : Reading

-- the papers' chart: REFERENCE 1.6
pub record Graph : Type 0 where
  pub vseq : List Vertex
  pub eseq : List Edge

abbrev pub empty : Graph
empty = record { vseq = []; eseq = [] }

-- ---- readings

-- the two words of a reading: REFERENCE 1.4
abbrev pub reading_kind : Reading → ℕ
reading_kind Untested = 0
reading_kind Silent = 1
reading_kind (Heard d) = 2

abbrev pub decimetres : Reading → ℕ
decimetres Untested = 0
decimetres Silent = 0
decimetres (Heard d) = d

-- whether two words are a reading
abbrev pub is_reading : ℕ → ℕ → Bool
is_reading k d = (leb k 1 && (d == 0)) || ((k == 2) && leb d 9999)

-- the reading of a kind and decimetres that are one
abbrev pub reading_of : ℕ → ℕ → Reading
reading_of k d = (k == 0) ⇒ Untested else (k == 1) ⇒ Silent else Heard d

-- kind and decimetres are those of the reading that they are read as
abbrev pub IsWords : ℕ → ℕ → Type 0
IsWords k d = (reading_kind (reading_of k d) ≡ k) × (decimetres (reading_of k d) ≡ d)

-- ---- numbers

-- the keys of the three kinds of lists
abbrev pub vertex_number : Vertex → ℕ
vertex_number v = v.number

abbrev pub edge_number : Edge → ℕ
edge_number e = e.number

abbrev pub itself : ℕ → ℕ
itself w = w

abbrev pub no_vertex : Vertex
no_vertex = record { number = 0; type = 0; value = 0; incidences = [] }

abbrev pub no_edge : Edge
no_edge = record { number = 0; alpha = 0; omega = 0; type = 0; reading = Untested }

-- vertex n, edge n of a list; the empty ones above where there is none
abbrev pub vertex_in : List Vertex → ℕ → Vertex
vertex_in vs n = find_by vertex_number no_vertex n vs

abbrev pub edge_in : List Edge → ℕ → Edge
edge_in es n = find_by edge_number no_edge n es

abbrev pub vertex : Graph → ℕ → Vertex
vertex g n = vertex_in g.vseq n

abbrev pub edge : Graph → ℕ → Edge
edge g n = edge_in g.eseq n

abbrev pub is_vertex : ℕ → Vertex → Bool
is_vertex n v = v.number == n

abbrev pub is_edge : ℕ → Edge → Bool
is_edge n e = e.number == n

abbrev pub has_vertex : Graph → ℕ → Bool
has_vertex g n = any (is_vertex n) g.vseq

abbrev pub has_edge : Graph → ℕ → Bool
has_edge g n = any (is_edge n) g.eseq

abbrev pub vertex_numbers : Graph → List ℕ
vertex_numbers g = map vertex_number g.vseq

abbrev pub edge_numbers : Graph → List ℕ
edge_numbers g = map edge_number g.eseq

-- ---- oriented edges

-- the two oriented words of an edge: REFERENCE 1.5
abbrev pub out_word : ℕ → ℕ
out_word e = 2 * e

abbrev pub in_word : ℕ → ℕ
in_word e = 2 * e + 1

-- the edge that a word belongs to
abbrev pub edge_of : ℕ → ℕ
edge_of w = w / 2

abbrev pub is_out : ℕ → Bool
is_out w = w % 2 == 0

-- the first for an out word, the second for an in word
abbrev pub by_side {ℓ} : {A : Type ℓ} → ℕ → A → A → A
by_side w x y = if_equal (w % 2) 0 x y

-- the end that sees the word, and the one across: REFERENCE 1.5
abbrev pub this_in : List Edge → ℕ → ℕ
this_in es w = by_side w (edge_in es (edge_of w)).alpha (edge_in es (edge_of w)).omega

abbrev pub that_in : List Edge → ℕ → ℕ
that_in es w = by_side w (edge_in es (edge_of w)).omega (edge_in es (edge_of w)).alpha

abbrev pub this : Graph → ℕ → ℕ
this g w = this_in g.eseq w

abbrev pub that : Graph → ℕ → ℕ
that g w = that_in g.eseq w

-- the incidence list of vertex n
abbrev pub list_in : List Vertex → ℕ → List ℕ
list_in vs n = (vertex_in vs n).incidences

abbrev pub list_of : Graph → ℕ → List ℕ
list_of g n = list_in g.vseq n

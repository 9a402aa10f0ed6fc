-- The image of a graph, the papers' saved chart (REFERENCE 10.1 to 10.7): the words that it saves as, and the graph
-- that words say.
use Rattle.std.specs.Prelude.{ℕ, zero, suc, ◌+◌, ◌*◌, ◌-◌, ◌≡◌, ◌⊎◌, Bool, not, ◌&&◌, ◌||◌, List, [], ◌∷◌, ◌++◌, length, get_or, take, drop, ◌==◌}
use Rattle.lists.specs.Choice.{◌⇒◌else◌}
use Rattle.lists.specs.Lists.{concat_map, equal_lists}
use Rattle.graph.specs.Graph.{Vertex, Edge, Graph, reading_kind, decimetres, reading_of}
use Rattle.graph.specs.WellFormed.{Bounds, words_at, well_formed}

-- ---- saving

-- REFERENCE 10.2: the words of a vertex record, as it is saved and as older images have it
abbrev pub vertex_size : ℕ
vertex_size = 4

abbrev pub old_vertex_size : ℕ
old_vertex_size = 3

-- in a record of four words the degree is the last; older ones have none
abbrev pub degree_word : ℕ → ℕ → List ℕ
degree_word size d = take (size - old_vertex_size) (d ∷ [])

abbrev pub vertex_record : ℕ → Vertex → List ℕ
vertex_record size v = v.number ∷ v.type ∷ v.value ∷ degree_word size (length v.incidences)

-- REFERENCE 10.3
abbrev pub edge_size : ℕ
edge_size = 6

abbrev pub edge_record : Edge → List ℕ
edge_record e = e.number ∷ e.alpha ∷ e.omega ∷ e.type ∷ reading_kind e.reading ∷ decimetres e.reading ∷ []

-- REFERENCE 10.4
abbrev pub incidences_of : Vertex → List ℕ
incidences_of v = v.incidences

-- where the parts begin, and the length, in records of this size; an edge is in two lists
abbrev pub vertex_offset : ℕ
vertex_offset = 6

abbrev pub edge_offset : ℕ → ℕ → ℕ
edge_offset size v = vertex_offset + size * v

abbrev pub incidence_offset : ℕ → ℕ → ℕ → ℕ
incidence_offset size v e = edge_offset size v + edge_size * e

abbrev pub length_as : ℕ → ℕ → ℕ → ℕ
length_as size v e = edge_offset size v + (edge_size + 2) * e

abbrev pub image_length : ℕ → ℕ → ℕ
image_length v e = length_as vertex_size v e

-- REFERENCE 10.1
abbrev pub header_of : ℕ → ℕ → ℕ → List ℕ
header_of size v e =
    v ∷ e ∷ vertex_offset ∷ edge_offset size v ∷ incidence_offset size v e ∷ length_as size v e ∷ []

unfoldable pub save_as : ℕ → Graph → List ℕ
save_as size g =
    header_of size (length g.vseq) (length g.eseq)
    ++ (concat_map (vertex_record size) g.vseq ++ (concat_map edge_record g.eseq ++ concat_map incidences_of g.vseq))

-- what a graph saves as, and what it was saved as before records had a degree
unfoldable pub save : Graph → List ℕ
unfolding save_as
save g = save_as vertex_size g

unfoldable pub save_old : Graph → List ℕ
unfolding save_as
save_old g = save_as old_vertex_size g

-- both count as words that the graph saves as (REFERENCE 10.6)
abbrev pub SavesAs : Graph → List ℕ → Type 0
SavesAs g ws = (save g ≡ ws) ⊎ (save_old g ≡ ws)

-- ---- the header and the parts

abbrev pub vertex_count : List ℕ → ℕ
vertex_count ws = get_or ws 0 0

abbrev pub edge_count : List ℕ → ℕ
edge_count ws = get_or ws 1 0

-- the words of a vertex record, by the offset of the edge part; without vertices both are the same
unfoldable pub record_size : List ℕ → ℕ
record_size ws =
    (get_or ws 3 0 == edge_offset vertex_size (vertex_count ws)) ⇒ vertex_size
    else (get_or ws 3 0 == edge_offset old_vertex_size (vertex_count ws)) ⇒ old_vertex_size else vertex_size

-- REFERENCE 10.5: length, offsets and total fit records of one size
unfoldable pub header_as : ℕ → List ℕ → Bool
header_as size ws =
    equal_lists (take 6 ws) (header_of size (vertex_count ws) (edge_count ws))
    && (length ws == length_as size (vertex_count ws) (edge_count ws))

unfoldable pub sound_header : List ℕ → Bool
unfolding header_as record_size
sound_header ws = header_as (record_size ws) ws

abbrev pub vertex_part : ℕ → List ℕ → List ℕ
vertex_part size ws = take (size * vertex_count ws) (drop vertex_offset ws)

abbrev pub edge_part : ℕ → List ℕ → List ℕ
edge_part size ws = take (edge_size * edge_count ws) (drop (edge_offset size (vertex_count ws)) ws)

abbrev pub incidence_part : ℕ → List ℕ → List ℕ
incidence_part size ws = drop (incidence_offset size (vertex_count ws) (edge_count ws)) ws

-- the vertex, edge or list part (1, 2, 3) where the header is sound; every other is empty (REFERENCE 10.7)
unfoldable pub part : ℕ → List ℕ → List ℕ
unfolding sound_header record_size
part k ws =
    not (sound_header ws) ⇒ [] else
    (k == 1) ⇒ vertex_part (record_size ws) ws else (k == 2) ⇒ edge_part (record_size ws) ws
    else (k == 3) ⇒ incidence_part (record_size ws) ws else []

-- in records of four, the degree of record i from 0, and where the list of its vertex begins: behind those before it
abbrev pub degree_of : List ℕ → ℕ → ℕ
degree_of ws i = get_or ws (vertex_offset + vertex_size * i + 3) 0

unfoldable pub list_offset : List ℕ → ℕ → ℕ
list_offset ws zero = incidence_offset vertex_size (vertex_count ws) (edge_count ws)
list_offset ws (suc i) = list_offset ws i + degree_of ws i

-- record i is that of vertex v, whose list stands at that place, as long as the degree says (proofs/ListPlaces)
pub record ListAt (ws : List ℕ) (i : ℕ) (v : Vertex) : Type 0 where
  pub number : get_or ws (vertex_offset + vertex_size * i) 0 ≡ v.number
  pub degree : degree_of ws i ≡ length v.incidences
  pub list : take (degree_of ws i) (drop (list_offset ws i) ws) ≡ v.incidences

-- ---- loading: the only graph that can have saved as these words

-- the numbers of k records of size words
unfoldable pub numbers_in : ℕ → ℕ → List ℕ → List ℕ
numbers_in size zero ws = []
numbers_in size (suc k) ws = get_or ws 0 0 ∷ numbers_in size k (drop size ws)

-- the edges of k records
unfoldable pub edges_from : ℕ → List ℕ → List Edge
edges_from zero ws = []
edges_from (suc k) ws =
    record {
      number = get_or ws 0 0;
      alpha = get_or ws 1 0;
      omega = get_or ws 2 0;
      type = get_or ws 3 0;
      reading = reading_of (get_or ws 4 0) (get_or ws 5 0);
    }
    ∷ edges_from k (drop edge_size ws)

-- the vertices of k records of size words; the list of each is as long as the edges have ends at it
unfoldable pub vertices_from : ℕ → List Edge → ℕ → List ℕ → List ℕ → List Vertex
unfolding words_at
vertices_from size es zero vs ws = []
vertices_from size es (suc k) vs ws =
    record {
      number = get_or vs 0 0;
      type = get_or vs 1 0;
      value = get_or vs 2 0;
      incidences = take (length (words_at es (get_or vs 0 0))) ws;
    }
    ∷ vertices_from size es k (drop size vs) (drop (length (words_at es (get_or vs 0 0))) ws)

unfoldable pub load_as : ℕ → List ℕ → Graph
unfolding edges_from vertices_from
load_as size ws =
    let es = edges_from (edge_count ws) (edge_part size ws) in
    record { vseq = vertices_from size es (vertex_count ws) (vertex_part size ws) (incidence_part size ws); eseq = es }

unfoldable pub load : List ℕ → Graph
unfolding load_as record_size
load ws = load_as (record_size ws) ws

-- REFERENCE 10.6, as a test (proofs/Loads: loads)
unfoldable pub loadable : Bounds → List ℕ → Bool
unfolding sound_header load save save_old well_formed
loadable b ws =
    sound_header ws && well_formed b (load ws) && (equal_lists ws (save (load ws)) || equal_lists ws (save_old (load ws)))

-- What a check says of words: sound, or the offset at which it stops, going through records and lists in turn.
use Rattle.std.specs.Prelude.{ℕ, zero, suc, ◌+◌, ◌^◌, min, Bool, true, not, ◌&&◌, List, [], ◌∷◌, length, get_or, drop, leb, ltb, ◌==◌}
use Rattle.lists.specs.Choice.{◌⇒◌else◌, within}
use Rattle.lists.specs.Lists.{member}
use Rattle.lists.specs.Keyed.{remove_by}
use Rattle.graph.specs.Graph.{Edge, itself, is_reading}
use Rattle.graph.specs.Limits.{most_vertices, most_edges, most_types}
use Rattle.graph.specs.WellFormed.{Bounds, words_at}
use Rattle.image.specs.Image.{old_vertex_size, edge_size, vertex_offset, edge_offset, incidence_offset, vertex_count}
use Rattle.image.specs.Image.{edge_count, record_size, sound_header, vertex_part, edge_part, incidence_part, numbers_in}
use Rattle.image.specs.Image.{edges_from}
use Rattle.std.specs.Prelude.{Result, ⊤}
use Rattle.std.specs.Prelude.{Ok, Err}
use Rattle.image_check.specs.declared.BadImage.TheVariants.{Header, Record, Incidence}
use Rattle.image_check.specs.declared.BadImage.{BadImage}

-- what a check says of words: sound, or what is bad about them
abbrev pub Verdict : Type 0
Verdict = Result ⊤ BadImage

-- the code of what is bad (REFERENCE 8.5, 8.8, 8.9), and the offset of the first bad word, counted from the first word;
-- 0 where no word is named
abbrev pub bad_code : BadImage → ℕ
bad_code Header = 105
bad_code (Record at) = 108
bad_code (Incidence at) = 109

abbrev pub bad_offset : BadImage → ℕ
bad_offset Header = 0
bad_offset (Record at) = at
bad_offset (Incidence at) = at

-- the same of a verdict, 0 where it is sound
abbrev pub code_of : Verdict → ℕ
code_of (Ok tt) = 0
code_of (Err bad) = bad_code bad

abbrev pub offset_of : Verdict → ℕ
offset_of (Ok tt) = 0
offset_of (Err bad) = bad_offset bad

abbrev pub bounds : ℕ → ℕ → ℕ → Bounds
bounds vertices edges types = record { vertices = vertices; edges = edges; types = types }

-- a check has scratch for the limits of a run (REFERENCE 12.1): larger capacities are checked as these
abbrev pub checked : ℕ → ℕ → ℕ → Bounds
checked vertices edges types = bounds (min most_vertices vertices) (min most_edges edges) types

-- what a saved image is held against by itself, whatever a run elsewhere is lent: the limits of a run
abbrev pub saved_bounds : Bounds
saved_bounds = bounds most_vertices most_edges most_types

-- ---- one record: a test for each of its words in turn

-- how many tests pass before the first that fails
abbrev pub passed : List Bool → ℕ
passed [] = 0
passed (t ∷ ts) = t ⇒ suc (passed ts) else 0

-- what the records of a part may name: numbers up to `most`, and so many types
pub record PartLimits : Type 0 where
  pub most : ℕ
  pub types : ℕ

abbrev pub part_limits : ℕ → ℕ → PartLimits
part_limits most types = record { most = most; types = types }

abbrev pub vertex_limits : Bounds → PartLimits
vertex_limits b = part_limits b.vertices b.types

abbrev pub edge_limits : Bounds → PartLimits
edge_limits b = part_limits b.edges b.types

-- number, type and value of the vertex record that the words begin with; `free` says which numbers are still free
abbrev pub vertex_tests : PartLimits → (ℕ → Bool) → List ℕ → List Bool
vertex_tests l free ws =
    (within 1 l.most (get_or ws 0 0) && free (get_or ws 0 0)) ∷ ltb (get_or ws 1 0) l.types ∷ ltb (get_or ws 2 0) (2 ^ 32)
    ∷ []

-- type, reading kind and decimetres
abbrev pub field_tests : ℕ → ℕ → ℕ → ℕ → List Bool
field_tests types t k d = ltb t types ∷ leb k 2 ∷ is_reading k d ∷ []

-- number, alpha, omega and these three of the edge record that the words begin with; `there` says which numbers are
-- those of vertices
abbrev pub edge_tests : PartLimits → (ℕ → Bool) → (ℕ → Bool) → List ℕ → List Bool
edge_tests l free there ws =
    (within 1 l.most (get_or ws 0 0) && free (get_or ws 0 0)) ∷ there (get_or ws 1 0) ∷ there (get_or ws 2 0)
    ∷ field_tests l.types (get_or ws 3 0) (get_or ws 4 0) (get_or ws 5 0)

-- the degree of the vertex record that the words begin with, its other words being sound
abbrev pub degree_tests : (ℕ → ℕ) → List ℕ → List Bool
degree_tests degree ws = true ∷ true ∷ true ∷ (get_or ws 3 0 == degree (get_or ws 0 0)) ∷ []

-- a record at `at` of which `good` words of `size` are sound, and what the rest says
abbrev pub record_at : ℕ → ℕ → ℕ → Verdict → Verdict
record_at size at good rest = ltb good size ⇒ Err (Record (at + good)) else rest

-- ---- records in turn

-- the records of a part: where they begin in the words of the image, how many there are, the words of each, and how
-- many of these are tested
pub record Records : Type 0 where
  pub from : ℕ
  pub count : ℕ
  pub size : ℕ
  pub tested : ℕ

module _ {S : Type 0} (tests : S → List ℕ → List Bool) (next : S → List ℕ → S) where
  -- k records of size words in turn, the first `at` words behind the image's first; s is what those before them left
  unfoldable pub walk : ℕ → ℕ → S → ℕ → List ℕ → ℕ → Verdict
  walk tested size s zero ws at = Ok tt
  walk tested size s (suc k) ws at =
      record_at tested at (passed (tests s ws)) (walk tested size (next s ws) k (drop size ws) (at + size))

  abbrev pub walk_over : Records → S → List ℕ → Verdict
  walk_over r s ws = walk r.tested r.size s r.count ws r.from

-- a number is free where no record before has it
abbrev pub unseen : List ℕ → ℕ → Bool
unseen seen n = not (member n seen)

-- the numbers before the next record
abbrev pub seeing : List ℕ → List ℕ → List ℕ
seeing seen ws = get_or ws 0 0 ∷ seen

-- the tests of a vertex record by the numbers seen, of an edge record (vs has the vertices' numbers), and of a degree,
-- which is held against the ends that the edges name
abbrev pub vertex_by : PartLimits → List ℕ → List ℕ → List Bool
vertex_by l seen ws = vertex_tests l (unseen seen) ws

abbrev pub edge_by : PartLimits → List ℕ → List ℕ → List ℕ → List Bool
edge_by l vs seen ws = edge_tests l (unseen seen) (λ n. member n vs) ws

abbrev pub degree_by : List Edge → Unit {0} → List ℕ → List Bool
degree_by es s ws = degree_tests (λ n. length (words_at es n)) ws

-- ---- lists in turn

-- how many words are in turn among those still wanted, until none is
unfoldable pub good_list : ℕ → List ℕ → List ℕ → ℕ
good_list zero wanted ws = 0
good_list (suc d) wanted [] = 0
good_list (suc d) wanted (w ∷ ws) = member w wanted ⇒ suc (good_list d (remove_by itself w wanted) ws) else 0

-- words behind the last list
abbrev pub ended : List ℕ → ℕ → Verdict
ended [] at = Ok tt
ended (w ∷ ws) at = Err (Incidence at)

-- a list at `at` of which `good` words of d are sound, and what the rest says
abbrev pub list_at : ℕ → ℕ → ℕ → Verdict → Verdict
list_at d at good rest = ltb good d ⇒ Err (Incidence (at + good)) else rest

-- the list of each vertex in turn
unfoldable pub list_walk : List Edge → List ℕ → List ℕ → ℕ → Verdict
unfolding good_list words_at
list_walk es [] ws at = ended ws at
list_walk es (v ∷ vs) ws at =
    list_at (length (words_at es v)) at (good_list (length (words_at es v)) (words_at es v) ws)
    (list_walk es vs (drop (length (words_at es v)) ws) (at + length (words_at es v)))

-- ---- the whole

-- counts within the capacities, and no edges without a vertex
unfoldable pub sound_counts : ℕ → ℕ → ℕ → ℕ → Bool
sound_counts vcap ecap v e = leb v vcap && (leb e ecap && ((v == 0) ⇒ (e == 0) else true))

-- a verdict that is not sound stops the check
abbrev pub and_then : Verdict → Verdict → Verdict
and_then (Ok tt) y = y
and_then (Err bad) y = Err bad

-- the numbers and the edges of words with records of this size
abbrev pub numbers_of : ℕ → List ℕ → List ℕ
numbers_of size ws = numbers_in size (vertex_count ws) (vertex_part size ws)

abbrev pub edges_of : ℕ → List ℕ → List Edge
edges_of size ws = edges_from (edge_count ws) (edge_part size ws)

-- the records of vertices and edges; vertex records are walked over for their degrees once more
abbrev pub vertex_records : ℕ → List ℕ → Records
vertex_records size ws =
    record { from = vertex_offset; count = vertex_count ws; size = size; tested = old_vertex_size }

abbrev pub edge_records : ℕ → List ℕ → Records
edge_records size ws =
    record { from = edge_offset size (vertex_count ws); count = edge_count ws; size = edge_size; tested = edge_size }

abbrev pub degree_records : ℕ → List ℕ → Records
degree_records size ws = record { from = vertex_offset; count = vertex_count ws; size = size; tested = size }

-- the four walks: vertex records but their degrees, edge records, degrees, lists
abbrev pub vertex_verdict : ℕ → Bounds → List ℕ → Verdict
vertex_verdict size b ws = walk_over (vertex_by (vertex_limits b)) seeing (vertex_records size ws) [] (vertex_part size ws)

abbrev pub edge_verdict : ℕ → Bounds → List ℕ → Verdict
edge_verdict size b ws =
    walk_over (edge_by (edge_limits b) (numbers_of size ws)) seeing (edge_records size ws) [] (edge_part size ws)

-- records of three words have no degree, and pass
abbrev pub degree_verdict : ℕ → List ℕ → Verdict
degree_verdict size ws =
    walk_over (degree_by (edges_of size ws)) (λ s r. s) (degree_records size ws) tt (vertex_part size ws)

abbrev pub list_verdict : ℕ → List ℕ → Verdict
list_verdict size ws =
    list_walk (edges_of size ws) (numbers_of size ws) (incidence_part size ws)
    (incidence_offset size (vertex_count ws) (edge_count ws))

abbrev pub parts_verdict : ℕ → Bounds → List ℕ → Verdict
parts_verdict size b ws =
    and_then (vertex_verdict size b ws)
    (and_then (edge_verdict size b ws) (and_then (degree_verdict size ws) (list_verdict size ws)))

unfoldable pub verdict : Bounds → List ℕ → Verdict
unfolding sound_header record_size walk numbers_in list_walk sound_counts edges_from
verdict b ws =
    not (sound_header ws && sound_counts b.vertices b.edges (vertex_count ws) (edge_count ws)) ⇒ Err Header
    else parts_verdict (record_size ws) b ws

-- the code and the offset of words (proofs/LoadCodes: the code is 0 exactly where they load)
abbrev pub load_code : Bounds → List ℕ → ℕ
load_code b ws = code_of (verdict b ws)

abbrev pub load_offset : Bounds → List ℕ → ℕ
load_offset b ws = offset_of (verdict b ws)

-- The same walks over scratch tables in place of lists: one lookup a word, so that a check is linear.
-- deg has, for a vertex's number, 1 + its ends so far;
-- own has, for an oriented word, its vertex until the word is used.
use Rattle.std.specs.Prelude.{ℕ, zero, suc, ◌+◌, ◌*◌, ◌-◌, ◌≤◌, ◌<◌, ◌≡◌, List, [], ◌∷◌, length, get_or, drop, set, replicate, ltb, ◌==◌}
use Rattle.lists.specs.Choice.{◌⇒◌else◌}
use Rattle.graph.specs.Graph.{out_word, in_word}
use Rattle.graph.specs.WellFormed.{Bounds}
use Rattle.graph.specs.Limits.{most_vertices, most_edges}
use Rattle.image.specs.Image.{old_vertex_size, edge_size, vertex_offset, edge_offset, incidence_offset}
use Rattle.image_check.specs.Checks.{passed, PartLimits, vertex_limits, edge_limits, vertex_tests, edge_tests}
use Rattle.image_check.specs.Checks.{degree_tests, record_at, ended, list_at, and_then}
use Rattle.std.specs.Prelude.{Ok}
use Rattle.image_check.specs.Checks.{Verdict}

-- no word is above k
abbrev pub NoneAbove : ℕ → List ℕ → Type 0
NoneAbove k s = (i : ℕ) → get_or s i 0 ≤ k

-- ---- vertices

-- a word of 32 bits is always a value: the run does not read it
unfoldable pub vertex_run : ℕ → PartLimits → List ℕ → ℕ → List ℕ → ℕ → Verdict
vertex_run size l deg zero ws at = Ok tt
vertex_run size l deg (suc k) ws at =
    record_at old_vertex_size at
    (passed (vertex_tests l (λ n. get_or deg n 0 == 0) (get_or ws 0 0 ∷ get_or ws 1 0 ∷ 0 ∷ [])))
    (vertex_run size l (set deg (get_or ws 0 0) 1) k (drop size ws) (at + size))

unfoldable pub vertex_marks : ℕ → List ℕ → ℕ → List ℕ → List ℕ
vertex_marks size deg zero ws = deg
vertex_marks size deg (suc k) ws = vertex_marks size (set deg (get_or ws 0 0) 1) k (drop size ws)

-- ---- edges

abbrev pub bumped : ℕ → List ℕ → List ℕ
bumped v deg = set deg v (get_or deg v 0 + 1)

abbrev pub with_ends : ℕ → ℕ → List ℕ → List ℕ
with_ends a o deg = bumped o (bumped a deg)

abbrev pub owned : ℕ → ℕ → ℕ → List ℕ → List ℕ
owned n a o own = set (set own (out_word n) a) (in_word n) o

-- how many words of the record that the words begin with are sound
abbrev pub edge_good : PartLimits → List ℕ → List ℕ → List ℕ → ℕ
edge_good l deg own ws =
    passed (edge_tests l (λ n. get_or own (out_word n) 0 == 0) (λ n. ltb 0 (get_or deg n 0)) ws)

-- the record at `at`: its ends counted; its words entered
abbrev pub edge_ends : List ℕ → ℕ → List ℕ → List ℕ
edge_ends ws at deg = with_ends (get_or ws (at + 1) 0) (get_or ws (at + 2) 0) deg

abbrev pub edge_owned : List ℕ → ℕ → List ℕ → List ℕ
edge_owned ws at own = owned (get_or ws at 0) (get_or ws (at + 1) 0) (get_or ws (at + 2) 0) own

unfoldable pub edge_run : PartLimits → List ℕ → List ℕ → ℕ → List ℕ → ℕ → Verdict
edge_run l deg own zero ws at = Ok tt
edge_run l deg own (suc k) ws at =
    record_at edge_size at (edge_good l deg own ws)
    (edge_run l (edge_ends ws 0 deg) (edge_owned ws 0 own) k (drop edge_size ws) (at + edge_size))

unfoldable pub edge_degrees : List ℕ → ℕ → List ℕ → List ℕ
edge_degrees deg zero ws = deg
edge_degrees deg (suc k) ws = edge_degrees (edge_ends ws 0 deg) k (drop edge_size ws)

unfoldable pub edge_owners : List ℕ → ℕ → List ℕ → List ℕ
edge_owners own zero ws = own
edge_owners own (suc k) ws = edge_owners (edge_owned ws 0 own) k (drop edge_size ws)

-- ---- degrees

-- deg has 1 more than the degree
unfoldable pub degree_run : ℕ → List ℕ → ℕ → List ℕ → ℕ → Verdict
degree_run size deg zero ws at = Ok tt
degree_run size deg (suc k) ws at =
    record_at size at (passed (degree_tests (λ n. get_or deg n 0 - 1) ws))
    (degree_run size deg k (drop size ws) (at + size))

-- ---- incidences

-- how many of the next d words are v's: each counts once
unfoldable pub list_run : ℕ → ℕ → List ℕ → List ℕ → ℕ
list_run v zero own ws = 0
list_run v (suc d) own [] = 0
list_run v (suc d) own (w ∷ ws) = (get_or own w 0 == v) ⇒ suc (list_run v d (set own w 0) ws) else 0

unfoldable pub list_owners : ℕ → List ℕ → List ℕ → List ℕ
list_owners zero own ws = own
list_owners (suc d) own [] = own
list_owners (suc d) own (w ∷ ws) = list_owners d (set own w 0) ws

-- the list of each of k vertex records in turn
unfoldable pub incidence_run : ℕ → List ℕ → List ℕ → ℕ → List ℕ → List ℕ → ℕ → Verdict
unfolding list_run list_owners
incidence_run size deg own zero vs ws at = ended ws at
incidence_run size deg own (suc k) vs ws at =
    list_at (get_or deg (get_or vs 0 0) 0 - 1) at (list_run (get_or vs 0 0) (get_or deg (get_or vs 0 0) 0 - 1) own ws)
    (incidence_run size deg (list_owners (get_or deg (get_or vs 0 0) 0 - 1) own ws) k
    (drop size vs) (drop (get_or deg (get_or vs 0 0) 0 - 1) ws) (at + (get_or deg (get_or vs 0 0) 0 - 1)))

-- ---- the four passes

-- how many words the parts of an image have whose header is sound and whose counts are within the limits of a run
pub record Sizes (size : ℕ) (vs es is : List ℕ) : Type 0 where
  pub least : 3 ≤ size
  pub most : size ≤ 4
  pub vertices : length vs ≤ 4 * most_vertices
  pub edges : length es ≤ 6 * most_edges
  pub incidences : length is ≤ 2 * most_edges

-- the parts of v vertices, in records of size words, and e edges
pub record Parts : Type 0 where
  pub size : ℕ
  pub v : ℕ
  pub e : ℕ
  pub vs : List ℕ
  pub es : List ℕ
  pub is : List ℕ

abbrev pub parts : ℕ → ℕ → ℕ → List ℕ → List ℕ → List ℕ → Parts
parts size v e vs es is = record { size = size; v = v; e = e; vs = vs; es = es; is = is }

unfoldable pub scratch_run : List ℕ → List ℕ → Bounds → Parts → Verdict
unfolding vertex_run vertex_marks edge_run edge_degrees edge_owners degree_run incidence_run
scratch_run deg own b p =
    let marks = vertex_marks p.size deg p.v p.vs in
    let degrees = edge_degrees marks p.e p.es in
    and_then (vertex_run p.size (vertex_limits b) deg p.v p.vs vertex_offset)
    (and_then (edge_run (edge_limits b) marks own p.e p.es (edge_offset p.size p.v))
    (and_then (degree_run p.size degrees p.v p.vs vertex_offset)
    (incidence_run p.size degrees (edge_owners own p.e p.es) p.v p.vs p.is
    (incidence_offset p.size p.v p.e))))

-- the verdict of the four passes over some scratch that is 0 and has room for the capacities
pub record Ran (b : Bounds) (p : Parts) (r : Verdict) : Type 0 where
  pub degs : ℕ
  pub owns : ℕ
  pub vertices : b.vertices < degs
  pub edges : 2 * b.edges + 1 < owns
  pub verdict : r ≡ scratch_run (replicate degs 0) (replicate owns 0) b p

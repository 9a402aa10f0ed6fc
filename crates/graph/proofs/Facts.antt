-- A graph passes the test `well_formed` exactly where it is well formed and within the bounds.
use Prim.Native.Nat.{ℕ, ◌/◌, ◌%◌, ◌^◌, ◌≤◌}
use mathlib.Core.Path.{◌≡◌, refl, sym, ap, ◌∙◌}
use mathlib.Core.Bool.{true, ◌&&◌}
use mathlib.Core.List.{List}
use native.Mathlib.Omega.{arith}
use lib.Dec.{ltb, leb}
use borrow.Author.Tests.{ltb-true, leb-true, lt-ltb, le-leb}
use Rattle.lists.specs.Choice.{if_equal, within}
use Rattle.lists.specs.Lists.{all, All, done, more, distinct, count}
use Rattle.lists.specs.Keyed.{count_by_key}
use Rattle.lists.proofs.Bools.{and_true, and_both}
use Rattle.lists.proofs.Picks.{pick_yes, pick_no, same, differ, same?, is_yes, is_no}
use Rattle.lists.proofs.Sums.{all_imp, all_bool, bool_all, distinct_count, count_distinct, same_alike, alike_same}
use Rattle.lists.proofs.Counts.{count_same, count_by_key_lem}
use Rattle.lists.proofs.KeyedAll.{all_find, find_all}
use Rattle.lists.proofs.KeyedLaws.{find_none}
use Rattle.graph.specs.Graph.{Vertex, Edge, Graph, vertex_number, edge_number, itself, no_vertex, no_edge, vertex_in, edge_in, list_in, this_in, out_word, in_word, has_vertex, vertex_numbers}
use Rattle.graph.specs.Graph.{edge_numbers, reading_kind, decimetres, is_reading}
use Rattle.graph.specs.WellFormed.{Bounds, words_at, same_words, sound_vertex, sound_edge, well_formed, Ordered, WellFormed, VertexIn, EdgeIn, Within}
use Rattle.graph.proofs.Orders.{key_find}
use Rattle.graph.proofs.Numbers.{vertex_count, count_vertex, vertex_real, edge_real}
use Rattle.graph.proofs.Incidence.{out_half, into_half, this_out, this_into}
use Rattle.graph.proofs.Words.{words_this}

-- ---- the test of one vertex, of one edge

record VertexSound (b : Bounds) (g : Graph) (v : Vertex) : Type 0 where
  low : 1 ≤ v.number
  fits : VertexIn b v
  words : (w : ℕ) → count w v.incidences ≡ count w (words_at g.eseq v.number)

record EdgeSound (b : Bounds) (g : Graph) (e : Edge) : Type 0 where
  low : 1 ≤ e.number
  fits : EdgeIn b e
  start : 1 ≤ count_by_key vertex_number e.alpha g.vseq
  end : 1 ≤ count_by_key vertex_number e.omega g.vseq

module _ (b : Bounds) (g : Graph) where
  vertex_facts : (v : Vertex) → sound_vertex b g v ≡ true → VertexSound b g v
  vertex_facts v h =
      let a = and_true (within 1 b.vertices v.number && ltb v.type b.types && ltb v.value (2 ^ 32)) (same_words v.incidences (words_at g.eseq v.number)) h in
      let c = and_true (within 1 b.vertices v.number && ltb v.type b.types) (ltb v.value (2 ^ 32)) a.0 in
      let d = and_true (within 1 b.vertices v.number) (ltb v.type b.types) c.0 in
      let e = and_true (leb 1 v.number) (leb v.number b.vertices) d.0 in
      record {
        low = leb-true _ _ e.0;
        fits = record { number = leb-true _ _ e.1; type = ltb-true _ _ d.1; value = ltb-true _ _ c.1 };
        words = same_alike v.incidences (words_at g.eseq v.number) a.1;
      }

  facts_vertex : (v : Vertex) → VertexSound b g v → sound_vertex b g v ≡ true
  facts_vertex v h =
      and_both (within 1 b.vertices v.number && ltb v.type b.types && ltb v.value (2 ^ 32)) (same_words v.incidences (words_at g.eseq v.number))
      (and_both (within 1 b.vertices v.number && ltb v.type b.types) (ltb v.value (2 ^ 32))
      (and_both (within 1 b.vertices v.number) (ltb v.type b.types)
      (and_both (leb 1 v.number) (leb v.number b.vertices) (le-leb _ _ h.low) (le-leb _ _ h.fits.number))
      (lt-ltb _ _ h.fits.type))
      (lt-ltb _ _ h.fits.value))
      (alike_same v.incidences (words_at g.eseq v.number) h.words)

  edge_facts : (e : Edge) → sound_edge b g e ≡ true → EdgeSound b g e
  edge_facts e h =
      let a1 = and_true (within 1 b.edges e.number && has_vertex g e.alpha && has_vertex g e.omega && ltb e.type b.types)
      (is_reading (reading_kind e.reading) (decimetres e.reading)) h in
      let a2 = and_true (within 1 b.edges e.number && has_vertex g e.alpha && has_vertex g e.omega) (ltb e.type b.types) a1.0 in
      let a3 = and_true (within 1 b.edges e.number && has_vertex g e.alpha) (has_vertex g e.omega) a2.0 in
      let a4 = and_true (within 1 b.edges e.number) (has_vertex g e.alpha) a3.0 in
      let a5 = and_true (leb 1 e.number) (leb e.number b.edges) a4.0 in
      record {
        low = leb-true _ _ a5.0;
        fits = record { number = leb-true _ _ a5.1; type = ltb-true _ _ a2.1; reading = a1.1 };
        start = vertex_count g e.alpha a4.1;
        end = vertex_count g e.omega a3.1;
      }

  facts_edge : (e : Edge) → EdgeSound b g e → sound_edge b g e ≡ true
  facts_edge e h =
      and_both (within 1 b.edges e.number && has_vertex g e.alpha && has_vertex g e.omega && ltb e.type b.types) (is_reading (reading_kind e.reading) (decimetres e.reading))
      (and_both (within 1 b.edges e.number && has_vertex g e.alpha && has_vertex g e.omega) (ltb e.type b.types)
      (and_both (within 1 b.edges e.number && has_vertex g e.alpha) (has_vertex g e.omega)
      (and_both (within 1 b.edges e.number) (has_vertex g e.alpha)
      (and_both (leb 1 e.number) (leb e.number b.edges) (le-leb _ _ h.low) (le-leb _ _ h.fits.number))
      (count_vertex g e.alpha h.start))
      (count_vertex g e.omega h.end))
      (lt-ltb _ _ h.fits.type))
      h.fits.reading

-- ---- the whole graph

-- the test's four parts
record Sound (b : Bounds) (g : Graph) : Type 0 where
  vonce : (n : ℕ) → count_by_key vertex_number n g.vseq ≤ 1
  eonce : (n : ℕ) → count_by_key edge_number n g.eseq ≤ 1
  vertices : All (VertexSound b g) g.vseq
  edges : All (EdgeSound b g) g.eseq

test_sound : (b : Bounds) (g : Graph) → well_formed b g ≡ true → Sound b g
unfolding well_formed
test_sound b g h =
    let a = and_true (distinct (vertex_numbers g) && distinct (edge_numbers g) && all (sound_vertex b g) g.vseq) (all (sound_edge b g) g.eseq) h in
    let c = and_true (distinct (vertex_numbers g) && distinct (edge_numbers g)) (all (sound_vertex b g) g.vseq) a.0 in
    let d = and_true (distinct (vertex_numbers g)) (distinct (edge_numbers g)) c.0 in
    record {
      vonce = λ n. omega (arith, distinct_count (vertex_numbers g) d.0 n, count_by_key_lem vertex_number n g.vseq);
      eonce = λ n. omega (arith, distinct_count (edge_numbers g) d.1 n, count_by_key_lem edge_number n g.eseq);
      vertices = all_bool (sound_vertex b g) (vertex_facts b g) g.vseq c.1;
      edges = all_bool (sound_edge b g) (edge_facts b g) g.eseq a.1;
    }

sound_test : (b : Bounds) (g : Graph) → Sound b g → well_formed b g ≡ true
unfolding well_formed
sound_test b g h =
    and_both (distinct (vertex_numbers g) && distinct (edge_numbers g) && all (sound_vertex b g) g.vseq) (all (sound_edge b g) g.eseq)
    (and_both (distinct (vertex_numbers g) && distinct (edge_numbers g)) (all (sound_vertex b g) g.vseq)
    (and_both (distinct (vertex_numbers g)) (distinct (edge_numbers g))
    (count_distinct (vertex_numbers g) (λ n. omega (arith, h.vonce n, count_by_key_lem vertex_number n g.vseq)))
    (count_distinct (edge_numbers g) (λ n. omega (arith, h.eonce n, count_by_key_lem edge_number n g.eseq))))
    (bool_all (sound_vertex b g) (facts_vertex b g) h.vertices))
    (bool_all (sound_edge b g) (facts_edge b g) h.edges)

-- no key is 0
unused : {A : Type 0} (key : A → ℕ) {l : List A} → All (λ (x : A). 1 ≤ key x) l → count_by_key key 0 l ≡ 0
unused key done = refl
unused key (more {x = x} h a) = omega (arith, is_no (key x) 0 (omega arith), unused key a)

ordered : {A : Type 0} (key : A → ℕ) (l : List A) → All (λ (x : A). 1 ≤ key x) l → ((n : ℕ) → count_by_key key n l ≤ 1) → Ordered key l
ordered key l a u n = elim (same? 0 n) [
  | same e f ↦ omega (arith, ap (λ (m : ℕ). count_by_key key m l) f, unused key a, is_yes 0 n e)
  | differ e f ↦ omega (arith, u n, is_no 0 n e)
]

module _ (b : Bounds) (g : Graph) (s : Sound b g) where
  sound_ends : (k : ℕ) → 1 ≤ count_by_key edge_number (k / 2) g.eseq → 1 ≤ count_by_key vertex_number (this_in g.eseq k) g.vseq
  sound_ends k h =
      let e = all_find edge_number (EdgeSound b g) no_edge (k / 2) h s.edges in
      elim (same? (k % 2) 0) [
        | same i j ↦ rw (pick_yes (k % 2) 0 (edge_in g.eseq (k / 2)).alpha (edge_in g.eseq (k / 2)).omega i) e.start
        | differ i j ↦ rw (pick_no (k % 2) 0 (edge_in g.eseq (k / 2)).alpha (edge_in g.eseq (k / 2)).omega i) e.end
      ]

  -- no edge is at a vertex that is not there
  sound_none : (u k : ℕ) → count_by_key vertex_number u g.vseq ≡ 0 → if_equal (this_in g.eseq k) u (count_by_key edge_number (k / 2) g.eseq) 0 ≡ 0
  sound_none u k e = elim (same? (this_in g.eseq k) u) [
    | same i j ↦ pick_yes (this_in g.eseq k) u _ _ i ∙ elim (same? (count_by_key edge_number (k / 2) g.eseq) 0) [
      | same s t ↦ s
      | differ s t ↦ absurd (omega (arith, sound_ends k (omega arith), ap (λ (m : ℕ). count_by_key vertex_number m g.vseq) i))
    ]
    | differ i j ↦ pick_no (this_in g.eseq k) u _ _ i
  ]

  sound_lists : (u k : ℕ) → count_by_key itself k (list_in g.vseq u) ≡ if_equal (this_in g.eseq k) u (count_by_key edge_number (k / 2) g.eseq) 0
  sound_lists u k = elim (same? (count_by_key vertex_number u g.vseq) 0) [
    | same e f ↦ ap (λ (v : Vertex). count_by_key itself k v.incidences) (find_none vertex_number no_vertex u g.vseq e) ∙ sym (sound_none u k e)
    | differ e f ↦
        let i : 1 ≤ count_by_key vertex_number u g.vseq = omega arith in
        sym (count_same k (list_in g.vseq u)) ∙ (all_find vertex_number (VertexSound b g) no_vertex u i s.vertices).words k
        ∙ ap (λ (m : ℕ). count k (words_at g.eseq m)) (key_find vertex_number no_vertex u g.vseq i) ∙ words_this k u g.eseq (s.eonce (k / 2))
  ]

pub to_facts : (b : Bounds) (g : Graph) → well_formed b g ≡ true → WellFormed g × Within b g
to_facts b g h =
    let s = test_sound b g h in (
      record {
        vorder = ordered vertex_number g.vseq (all_imp (λ v i. i.low) s.vertices) s.vonce;
        eorder = ordered edge_number g.eseq (all_imp (λ e i. i.low) s.edges) s.eonce;
        lists = sound_lists b g s;
        ends = λ k i. omega (arith, sound_ends b g s k (omega arith), s.vonce (this_in g.eseq k));
      },
      record { vertices = all_imp (λ v i. i.fits) s.vertices; edges = all_imp (λ e i. i.fits) s.edges },
    )

module _ (b : Bounds) (g : Graph) (w : WellFormed g) (i : Within b g) where
  vertex_sound : (n : ℕ) → 1 ≤ count_by_key vertex_number n g.vseq → VertexSound b g (vertex_in g.vseq n)
  vertex_sound n h =
      let e = key_find vertex_number no_vertex n g.vseq h in
      record {
        low = omega (arith, e, vertex_real g n w (omega (arith, w.vorder n)));
        fits = all_find vertex_number (VertexIn b) no_vertex n h i.vertices;
        words = λ k.
            count_same k (list_in g.vseq n) ∙ w.lists n k ∙ sym (words_this k n g.eseq (omega (arith, w.eorder (k / 2))))
            ∙ ap (λ (m : ℕ). count k (words_at g.eseq m)) (sym e);
      }

  edge_sound : (n : ℕ) → 1 ≤ count_by_key edge_number n g.eseq → EdgeSound b g (edge_in g.eseq n)
  edge_sound n h =
      let c : count_by_key edge_number n g.eseq ≡ 1 = omega (arith, w.eorder n) in
      record {
        low = omega (arith, key_find edge_number no_edge n g.eseq h, edge_real g n w c);
        fits = all_find edge_number (EdgeIn b) no_edge n h i.edges;
        start = omega (arith, rw this_out at (w.ends (out_word n) (rw out_half c)));
        end = omega (arith, rw this_into at (w.ends (in_word n) (rw into_half c)));
      }

pub from_facts : (b : Bounds) (g : Graph) → WellFormed g → Within b g → well_formed b g ≡ true
from_facts b g w i = sound_test b g (record {
  vonce = λ n. omega (arith, w.vorder n);
  eonce = λ n. omega (arith, w.eorder n);
  vertices = find_all vertex_number (VertexSound b g) no_vertex g.vseq (λ n. omega (arith, w.vorder n)) (vertex_sound b g w i);
  edges = find_all edge_number (EdgeSound b g) no_edge g.eseq (λ n. omega (arith, w.eorder n)) (edge_sound b g w i);
})

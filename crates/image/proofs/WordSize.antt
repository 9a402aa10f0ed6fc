-- Every saved word is below 2^32.
use Rattle.std.specs.Prelude.{◌==◌}
use Prim.Native.Nat.{ℕ, zero, suc, ◌*◌, ◌^◌, ◌≤◌, ◌<◌}
use mathlib.Core.Path.{◌≡◌, refl}
use mathlib.Core.Bool.{Bool, true, false, ◌||◌}
use mathlib.Core.List.{List, [], ◌∷◌, ◌++◌}
use native.Mathlib.Omega.{arith}
use lib.ListN.{length, get_or, length-append}
use borrow.Author.Tests.{ltb-true, eqb-true}
use Rattle.lists.specs.Choice.{◌⇒◌else◌}
use Rattle.lists.specs.Lists.{any, all, concat_map, All, done, more}
use Rattle.lists.proofs.Bools.{ft, and_true, within_range}
use Rattle.lists.proofs.Sums.{all_append, all_bool, bit_le, alike_length}
use Rattle.lists.proofs.Members.{all_counted, counted_all}
use Rattle.graph.specs.Graph.{Vertex, Edge, Graph, is_vertex, has_vertex, reading_kind, decimetres, out_word, in_word}
use Rattle.graph.specs.WellFormed.{Bounds, words_of, words_at, sound_vertex, sound_edge, well_formed}
use Rattle.graph.proofs.Readings.{reading_range}
use Rattle.image.specs.Image.{vertex_size, vertex_record, edge_record, incidences_of, vertex_offset, edge_offset, incidence_offset, image_length, save}
use Rattle.image.proofs.Ends.{words_length}
use Rattle.image.proofs.Formed.{formed, vertex_facts, edge_facts}
use Rattle.image.proofs.Room.{few_vertices_lem, few_edges_lem}

-- REFERENCE 1.1
abbrev pub Word : ℕ → Type 0
Word w = w < 2 ^ 32

-- the upper limits of REFERENCE 12.1
pub record InRange (b : Bounds) : Type 0 where
  pub vertices : b.vertices ≤ 1000
  pub edges : b.edges ≤ 4000
  pub types : b.types ≤ 64

pub all_at : {P : ℕ → Type 0} → P 0 → {ws : List ℕ} → All P ws → (i : ℕ) → P (get_or ws i 0)
all_at z done i = z
all_at z (more p a) zero = p
all_at z (more p a) (suc i) = all_at z a i

word : (w : ℕ) {ws : List ℕ} → w < 2 ^ 32 → All Word ws → All Word (w ∷ ws)
word w h a = more h a

module _ {A : Type 0} {P : ℕ → Type 0} (f : A → List ℕ) where
  all_each : {xs : List A} → All (λ x. All P (f x)) xs → All P (concat_map f xs)
  all_each done = done
  all_each (more p a) = all_append p (all_each a)

module _ (b : Bounds) (u : InRange b) (g : Graph) (h : well_formed b g ≡ true) where
  -- the oriented words of an edge, of edges
  word_of : (v : ℕ) (e : Edge) → sound_edge b g e ≡ true → All Word (words_of v e)
  word_of v e s = go (v == e.alpha) (v == e.omega)
    where
      n : e.number ≤ 4000
      n = omega (arith, (within_range 1 b.edges e.number (edge_facts b g e s).number).1, u.edges)

      out : out_word e.number < 2 ^ 32
      out = omega (arith, n)

      in' : in_word e.number < 2 ^ 32
      in' = omega (arith, n)

      go : (a o : Bool) → All Word ((a ⇒ (out_word e.number ∷ []) else []) ++ (o ⇒ (in_word e.number ∷ []) else []))
      go true true = more out (more in' done)
      go true false = more out done
      go false true = more in' done
      go false false = done

  words_of_lem : (v : ℕ) (es : List Edge) → all (sound_edge b g) es ≡ true → All Word (words_at es v)
  unfolding words_at
  words_of_lem v [] s = done
  words_of_lem v (e ∷ es) s = let a = and_true (sound_edge b g e) (all (sound_edge b g) es) s in all_append (word_of v e a.0) (words_of_lem v es a.1)

  words_few : (v : ℕ) (es : List Edge) → length (words_at es v) ≤ 2 * length es
  unfolding words_at
  words_few v [] = omega arith
  words_few v (e ∷ es) =
      omega (arith, length-append (words_of v e) (words_at es v), words_length v e, bit_le (v == e.alpha), bit_le (v == e.omega), words_few v es)

  -- a degree is at most two for each edge
  vertex_small : (v : Vertex) → sound_vertex b g v ≡ true → All Word (vertex_record vertex_size v)
  vertex_small v s =
      let f = vertex_facts b g v s in
      word v.number (omega (arith, (within_range 1 b.vertices v.number f.number).1, u.vertices))
      (word v.type (omega (arith, ltb-true v.type b.types f.type, u.types)) (word v.value (ltb-true v.value (2 ^ 32) f.value)
      (word (length v.incidences) (omega (arith, alike_length v.incidences (words_at g.eseq v.number) f.words, words_few v.number g.eseq, few_edges_lem b g h, u.edges)) done)))

  list_small : (v : Vertex) → sound_vertex b g v ≡ true → All Word v.incidences
  list_small v s =
      all_counted v.incidences
      (λ n c. counted_all (words_of_lem v.number g.eseq (formed b g h).edges_sound) n (omega (arith, (vertex_facts b g v s).words n)))

  -- an end of an edge is a vertex, and so at most 1,000
  pub vertex_known : (n : ℕ) → has_vertex g n ≡ true → n ≤ 1000
  vertex_known n e = go g.vseq (formed b g h).vertices_sound e
    where
      go : (vs : List Vertex) → all (sound_vertex b g) vs ≡ true → any (is_vertex n) vs ≡ true → n ≤ 1000
      go [] s e = ft e
      go (v ∷ vs) s e = pick (λ x. go vs a.1 x) (v.number == n) refl e
        where
          a : (sound_vertex b g v ≡ true) × (all (sound_vertex b g) vs ≡ true)
          a = and_true (sound_vertex b g v) (all (sound_vertex b g) vs) s

          pick : (any (is_vertex n) vs ≡ true → n ≤ 1000) → (t : Bool) → (v.number == n) ≡ t → (t || any (is_vertex n) vs) ≡ true → n ≤ 1000
          pick ih true q r = omega (arith, eqb-true v.number n q, (within_range 1 b.vertices v.number (vertex_facts b g v a.0).number).1, u.vertices)
          pick ih false q r = ih r

  edge_small : (e : Edge) → sound_edge b g e ≡ true → All Word (edge_record e)
  edge_small e s =
      let f = edge_facts b g e s in
      let r = reading_range e.reading f.reading in
      word e.number (omega (arith, (within_range 1 b.edges e.number f.number).1, u.edges))
      (word e.alpha (omega (arith, vertex_known e.alpha f.starts))
      (word e.omega (omega (arith, vertex_known e.omega f.stops))
      (word e.type (omega (arith, ltb-true e.type b.types f.type, u.types))
      (word (reading_kind e.reading) (omega (arith, r.0)) (word (decimetres e.reading) (omega (arith, r.1)) done)))))

  pub image_small : All Word (save g)
  unfolding save
  image_small =
      let v = length g.vseq in
      let e = length g.eseq in
      let fv : v ≤ 1000 = omega (arith, few_vertices_lem b g h, u.vertices) in
      let fe : e ≤ 4000 = omega (arith, few_edges_lem b g h, u.edges) in
      word v (omega arith)
      (word e (omega arith)
      (word vertex_offset (omega arith)
      (word (edge_offset vertex_size v) (omega arith)
      (word (incidence_offset vertex_size v e) (omega arith)
      (word (image_length v e) (omega arith)
      (all_append (all_each (vertex_record vertex_size) (all_bool (sound_vertex b g) vertex_small g.vseq (formed b g h).vertices_sound))
      (all_append (all_each edge_record (all_bool (sound_edge b g) edge_small g.eseq (formed b g h).edges_sound))
      (all_each incidences_of (all_bool (sound_vertex b g) list_small g.vseq (formed b g h).vertices_sound)))))))))

  pub image_words : (i : ℕ) → get_or (save g) i 0 < 2 ^ 32
  image_words = all_at (omega arith) image_small

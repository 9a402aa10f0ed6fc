-- The incidences of a well-formed graph are two words for each edge.
use Rattle.std.specs.Prelude.{◌==◌}
use Prim.Native.Nat.{ℕ, ◌+◌, ◌*◌}
use mathlib.Core.Path.{◌≡◌, refl, sym, ap, ◌∙◌}
use mathlib.Core.Bool.{Bool, true, false, ◌||◌}
use mathlib.Core.List.{List, [], ◌∷◌, ◌++◌, map}
use native.Mathlib.Omega.{arith}
use lib.ListN.{length, length-append}
use Rattle.lists.specs.Choice.{◌⇒◌else◌, to_bit}
use Rattle.lists.specs.Lists.{any, all, member, distinct, count, concat_map}
use Rattle.lists.proofs.Bools.{and_true}
use Rattle.lists.proofs.Sums.{has_count, distinct_count, alike_length}
use Rattle.graph.specs.Graph.{Vertex, Edge, Graph, vertex_number, is_vertex, vertex_numbers, out_word, in_word}
use Rattle.graph.specs.WellFormed.{Bounds, words_of, words_at, sound_vertex, sound_edge}
use Rattle.image.specs.Image.{incidences_of}
use Rattle.image.proofs.Formed.{Formed, vertex_facts, edge_facts}
use Rattle.image.proofs.RecordWords.{Fits}

count_one : (n : ℕ) (xs : List ℕ) → distinct xs ≡ true → member n xs ≡ true → count n xs ≡ 1
count_one n xs d e = omega (arith, distinct_count xs d n, has_count n xs e)

pub has_number : (n : ℕ) (vs : List Vertex) → any (is_vertex n) vs ≡ member n (map vertex_number vs)
has_number n [] = refl
has_number n (v ∷ vs) = ap (λ (t : Bool). (v.number == n) || t) (has_number n vs)

-- the ends that the edges have at the vertices of these numbers
unfoldable pub ends : List Edge → List ℕ → ℕ
ends es [] = 0
ends es (n ∷ ns) = length (words_at es n) + ends es ns

pub words_length : (v : ℕ) (e : Edge) → length (words_of v e) ≡ to_bit (v == e.alpha) + to_bit (v == e.omega)
words_length v e = go (v == e.alpha) (v == e.omega)
  where
    go : (a o : Bool) → length ((a ⇒ (out_word e.number ∷ []) else []) ++ (o ⇒ (in_word e.number ∷ []) else [])) ≡ to_bit a + to_bit o
    go true true = refl
    go true false = refl
    go false true = refl
    go false false = refl

pub ends_nil : (ns : List ℕ) → ends [] ns ≡ 0
unfolding ends words_at
ends_nil [] = refl
ends_nil (n ∷ ns) = omega (arith, ends_nil ns)

ends_cons : (e : Edge) (es : List Edge) (ns : List ℕ) → ends (e ∷ es) ns ≡ count e.alpha ns + count e.omega ns + ends es ns
unfolding ends words_at
ends_cons e es [] = refl
ends_cons e es (n ∷ ns) = omega (arith, length-append (words_of n e) (words_at es n), words_length n e, ends_cons e es ns)

-- each edge has two ends at them
pub ends_two : (e : Edge) (es : List Edge) (ns : List ℕ) → distinct ns ≡ true → member e.alpha ns ≡ true → member e.omega ns ≡ true → ends (e ∷ es) ns ≡ 2 + ends es ns
ends_two e es ns d a o = omega (arith, ends_cons e es ns, count_one e.alpha ns d a, count_one e.omega ns d o)

ends_all : (b : Bounds) (g : Graph) → distinct (vertex_numbers g) ≡ true → (es : List Edge) → all (sound_edge b g) es ≡ true → ends es (vertex_numbers g) ≡ 2 * length es
ends_all b g d [] h = ends_nil (vertex_numbers g)
ends_all b g d (e ∷ es) h =
    let a = and_true (sound_edge b g e) (all (sound_edge b g) es) h in
    let f = edge_facts b g e a.0 in
    omega (
      arith,
      ends_two e es (vertex_numbers g) d (sym (has_number e.alpha g.vseq) ∙ f.starts) (sym (has_number e.omega g.vseq) ∙ f.stops),
      ends_all b g d es a.1,
    )

fits_length : (es : List Edge) (vs : List Vertex) → Fits es vs → length (concat_map incidences_of vs) ≡ ends es (map vertex_number vs)
unfolding Fits ends
fits_length es [] f = refl
fits_length es (v ∷ vs) f = omega (arith, length-append v.incidences (concat_map incidences_of vs), f.0, fits_length es vs f.1)

pub sound_fits : (b : Bounds) (g : Graph) (vs : List Vertex) → all (sound_vertex b g) vs ≡ true → Fits g.eseq vs
unfolding Fits
sound_fits b g [] h = tt
sound_fits b g (v ∷ vs) h =
    let a = and_true (sound_vertex b g v) (all (sound_vertex b g) vs) h in
    (alike_length v.incidences (words_at g.eseq v.number) (vertex_facts b g v a.0).words, sound_fits b g vs a.1)

pub incidences_length : (b : Bounds) (g : Graph) → Formed b g → length (concat_map incidences_of g.vseq) ≡ 2 * length g.eseq
incidences_length b g p =
    fits_length g.eseq g.vseq (sound_fits b g g.vseq p.vertices_sound)
    ∙ ends_all b g p.distinct_vertex_numbers g.eseq p.edges_sound

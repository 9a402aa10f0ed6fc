-- The edges at a vertex, taken out one after another.
use Rattle.std.specs.Prelude.{◌==◌}
use Prim.Native.Nat.{ℕ, suc, min, ◌+◌, ◌≤◌}
use mathlib.Core.Path.{◌≡◌, refl, sym, ap, ap₂, subst, ◌∙◌}
use mathlib.Core.Logic.{◌≢◌}
use mathlib.Core.Bool.{Bool, true, false, not, ◌||◌}
use mathlib.Core.List.{List, [], ◌∷◌, map}
use native.Mathlib.Omega.{arith}
use lib.ListN.{length, drop}
use borrow.Author.Tests.{eq-eqb, ne_eqb}
use Rattle.lists.specs.Choice.{indicator, to_bit}
use Rattle.lists.specs.Lists.{filter, first, dedup, count}
use Rattle.lists.specs.Keyed.{count_by_key, remove_by}
use Rattle.lists.proofs.Picks.{pick_yes, pick_no, same, differ, same?, is_yes, is_no}
use Rattle.lists.proofs.KeyedLaws.{count_rem}
use Rattle.lists.proofs.Counts.{bit_is, count_by_key_lem}
use Rattle.lists.proofs.Places.{rem_none}
use Rattle.lists.proofs.Firsts.{firsts_skip, firsts_once}
use Rattle.graph.specs.Graph.{Vertex, Graph, vertex_number, edge_number, itself, edge, list_in, list_of, this_in, out_word, in_word, edge_of}
use Rattle.graph.specs.WellFormed.{WellFormed}
use Rattle.graph.specs.Changes.{detach, edges_at, delete_edges, EdgeThere}
use Rattle.graph.specs.Edits.{apply}
use Rattle.graph.specs.Plans.{removal, apply_all, AppliesAll, removals}
use Rattle.graph.proofs.Incidence.{list_upd, count_list, count_detach_other, pick_le, apart', out_half, into_half, this_out, this_into, out_word_lem, in_word_lem, other_word, word?}
use Rattle.graph.proofs.Lists.{ordered_list}
use Rattle.graph.proofs.Keeps.{keeps_formed}
use Rattle.graph.proofs.Removals.{removal_applies, removal_is}

-- a list without the two words of edge n, edge by edge
words_out : (n : ℕ) (l : List ℕ) → count_by_key itself (out_word n) l ≤ 1 → count_by_key itself (in_word n) l ≤ 1 →
    map edge_of (remove_by itself (out_word n) (remove_by itself (in_word n) l)) ≡ filter (λ x. not (x == n)) (map edge_of l)
words_out n [] a b = refl
words_out n (y ∷ l) a b = elim (word? n y) [
  | out_word_lem e ↦
      let o : y ≢ in_word n = omega arith in
      let h : edge_of y ≡ n = omega arith in
      let z : count_by_key itself (out_word n) l ≡ 0 = omega (arith, is_yes y (out_word n) e) in
      rw (pick_no y (in_word n), pick_yes y (out_word n), eq-eqb (edge_of y) n h)
      (ap (map edge_of) (sym (rem_none itself (out_word n) (remove_by itself (in_word n) l) (omega (arith, count_rem itself (out_word n) (in_word n) l))))
      ∙ words_out n l (omega arith) (omega arith))
  | in_word_lem e ↦
      let h : edge_of y ≡ n = omega arith in
      let z : count_by_key itself (in_word n) l ≡ 0 = omega (arith, is_yes y (in_word n) e) in
      rw (pick_yes y (in_word n), eq-eqb (edge_of y) n h)
      (ap (λ (t : List ℕ). map edge_of (remove_by itself (out_word n) t)) (sym (rem_none itself (in_word n) l z)) ∙ words_out n l (omega arith) (omega arith))
  | other_word d e f ↦
      let o : y ≢ in_word n = omega arith in
      let q : y ≢ out_word n = omega arith in
      let h : edge_of y ≢ n = omega arith in
      simp (pick_no, ne_eqb (edge_of y) n h) (ap (λ (t : List ℕ). edge_of y ∷ t) (words_out n l (omega arith) (omega arith)))
]

detach_list : (l : List Vertex) (v w u : ℕ) → count_by_key vertex_number v l ≡ 1 → (v ≢ u → count_by_key itself w (list_in l u) ≡ 0) → list_in (detach l v w) u ≡ remove_by itself w (list_in l u)
detach_list l v w u c z = list_upd l v u (remove_by itself w) c ∙ elim (same? v u) [
  | same e f ↦ pick_yes v u _ _ e
  | differ e f ↦ pick_no v u _ _ e ∙ sym (rem_none itself w (list_in l u) (z e))
]

module _ (g : Graph) (w : WellFormed g) (a : ℕ) where
  -- both words of a removed edge leave every list
  list_left : (n : ℕ) → EdgeThere g n → list_of (apply (removal n g) g) a ≡ remove_by itself (out_word n) (remove_by itself (in_word n) (list_of g a))
  unfolding removal
  list_left n h =
      let co : count_by_key vertex_number (edge g n).omega g.vseq ≡ 1 = rw this_into at (w.ends (in_word n) (rw into_half h)) in
      let ca : count_by_key vertex_number (edge g n).alpha g.vseq ≡ 1 = rw this_out at (w.ends (out_word n) (rw out_half h)) in
      detach_list (detach g.vseq (edge g n).omega (in_word n)) (edge g n).alpha (out_word n) a
      (count_list g.vseq (edge g n).omega (edge g n).alpha (remove_by itself (in_word n)) ∙ ca)
      (λ d. count_detach_other g.vseq (edge g n).omega (in_word n) a (out_word n) co (apart' n) ∙ w.lists a (out_word n) ∙ rw this_out (pick_no _ a _ _ d))
      ∙ ap (remove_by itself (out_word n)) (detach_list g.vseq (edge g n).omega (in_word n) a co (λ d. w.lists a (in_word n) ∙ rw this_into (pick_no _ a _ _ d)))

  -- the edge of a word in a list is there
  pub first_there : (x : ℕ) (xs : List ℕ) → list_of g a ≡ x ∷ xs → EdgeThere g (edge_of x)
  first_there x xs e =
      omega (arith, ap (count_by_key itself x) e, is_yes x x refl, w.lists a x, pick_le (this_in g.eseq x) a (count_by_key edge_number (edge_of x) g.eseq), w.eorder (edge_of x))

  pub edges_none : list_of g a ≡ [] → edges_at g a ≡ []
  edges_none e = ap (λ (l : List ℕ). dedup (map edge_of l)) e

  -- the first word's edge comes first, and the others are those that its removal leaves
  pub edges_first : (x : ℕ) (xs : List ℕ) → list_of g a ≡ x ∷ xs → edges_at g a ≡ edge_of x ∷ edges_at (apply (removal (edge_of x) g) g) a
  edges_first x xs e =
      let n = edge_of x in
      let others : edges_at (apply (removal n g) g) a ≡ dedup (filter (λ y. not (y == n)) (map edge_of xs)) =
      ap (λ (l : List ℕ). dedup (map edge_of l)) (list_left n (first_there x xs e))
      ∙ ap (λ (l : List ℕ). dedup l) (words_out n (list_of g a) (omega (arith, ordered_list g w a (out_word n))) (omega (arith, ordered_list g w a (in_word n))))
      ∙ ap (λ (l : List ℕ). dedup (filter (λ y. not (y == n)) (map edge_of l))) e ∙ rw (eq-eqb (edge_of x) (edge_of x) refl) in
      ap (λ (l : List ℕ). dedup (map edge_of l)) e ∙ ap (λ (l : List ℕ). n ∷ l) (firsts_skip n [] (map edge_of xs) ∙ sym others)

-- ---- all of them

edges_some : (l : List ℕ) (n : ℕ) (ns : List ℕ) → l ≡ [] → dedup (map edge_of l) ≡ n ∷ ns → ⊥
edges_some l n ns e h = let z : [] ≡ n ∷ ns = sym (ap (λ (t : List ℕ). dedup (map edge_of t)) e) ∙ h in omega (arith, ap length z)

module _ (a : ℕ) where
  -- what is left of the edges at a, once the first is out
  pub edges_next : (g : Graph) → WellFormed g → (n : ℕ) (ns : List ℕ) → edges_at g a ≡ n ∷ ns → EdgeThere g n × (edges_at (apply (removal n g) g) a ≡ ns)
  edges_next g w n ns h = go (list_of g a) refl
    where
      go : (l : List ℕ) → list_of g a ≡ l → EdgeThere g n × (edges_at (apply (removal n g) g) a ≡ ns)
      go [] e = absurd (edges_some (list_of g a) n ns e h)
      go (x ∷ xs) e =
          let p : edge_of x ∷ edges_at (apply (removal (edge_of x) g) g) a ≡ n ∷ ns = sym (edges_first g w a x xs e) ∙ h in
          let q : edge_of x ≡ n = ap first p in (
            subst (λ (m : ℕ). EdgeThere g m) q (first_there g w a x xs e),
            subst (λ (m : ℕ). edges_at (apply (removal m g) g) a ≡ ns) q (ap (drop 1) p),
          )

  pub removals_apply : (ns : List ℕ) (g : Graph) → WellFormed g → edges_at g a ≡ ns → AppliesAll (removals ns g) g
  removals_apply [] g w h = tt
  removals_apply (n ∷ ns) g w h =
      let s = edges_next g w n ns h in
      let i = removal_applies g n s.0 in
      (i, removals_apply ns (apply (removal n g) g) (keeps_formed (removal n g) g i w) s.1)

  -- the list is empty then
  pub removals_empty : (ns : List ℕ) (g : Graph) → WellFormed g → edges_at g a ≡ ns → edges_at (apply_all (removals ns g) g) a ≡ []
  removals_empty [] g w h = h
  removals_empty (n ∷ ns) g w h =
      let s = edges_next g w n ns h in
      removals_empty ns (apply (removal n g) g) (keeps_formed (removal n g) g (removal_applies g n s.0) w) s.1

pub none_edges : (g : Graph) (a : ℕ) → edges_at g a ≡ [] → list_of g a ≡ []
none_edges g a h = go (list_of g a) refl
  where
    go : (l : List ℕ) → list_of g a ≡ l → l ≡ []
    go [] e = refl
    go (x ∷ xs) e = absurd (omega (arith, ap length (sym (ap (λ (l : List ℕ). dedup (map edge_of l)) e) ∙ h)))

-- the removals take the edges out
pub removals_are : (ns : List ℕ) (g : Graph) → apply_all (removals ns g) g ≡ delete_edges ns g
unfolding delete_edges
removals_are [] g = refl
removals_are (n ∷ ns) g = removals_are ns (apply (removal n g) g) ∙ ap (delete_edges ns) (removal_is g n)

pub removals_length : (ns : List ℕ) (g : Graph) → length (removals ns g) ≡ length ns
removals_length [] g = refl
removals_length (n ∷ ns) g = ap suc (removals_length ns (apply (removal n g) g))

-- and no vertex
removal_vertices : (n k : ℕ) (g : Graph) → count_by_key vertex_number k (apply (removal n g) g).vseq ≡ count_by_key vertex_number k g.vseq
unfolding removal
removal_vertices n k g =
    count_list (detach g.vseq (edge g n).omega (in_word n)) (edge g n).alpha k (remove_by itself (out_word n))
    ∙ count_list g.vseq (edge g n).omega k (remove_by itself (in_word n))

pub removals_vertices : (ns : List ℕ) (k : ℕ) (g : Graph) → count_by_key vertex_number k (apply_all (removals ns g) g).vseq ≡ count_by_key vertex_number k g.vseq
removals_vertices [] k g = refl
removals_vertices (n ∷ ns) k g = removals_vertices ns k (apply (removal n g) g) ∙ removal_vertices n k g

-- ---- how often an edge is at a vertex: a loop twice, though it counts once in a cost

edge_words : (n : ℕ) (l : List ℕ) → count_by_key edge_of n l ≡ count_by_key itself (out_word n) l + count_by_key itself (in_word n) l
edge_words n [] = refl
edge_words n (y ∷ l) = elim (word? n y) [
  | out_word_lem e ↦ omega (arith, edge_words n l, is_yes y (out_word n) e, is_no y (in_word n) (omega arith), is_yes (edge_of y) n (omega arith))
  | in_word_lem e ↦ omega (arith, edge_words n l, is_no y (out_word n) (omega arith), is_yes y (in_word n) e, is_yes (edge_of y) n (omega arith))
  | other_word d e f ↦ omega (arith, edge_words n l, is_no y (out_word n) (omega arith), is_no y (in_word n) (omega arith), is_no (edge_of y) n (omega arith))
]

or_bit : (s t : Bool) → to_bit (s || t) ≡ min 1 (to_bit s + to_bit t)
or_bit true true = refl
or_bit true false = refl
or_bit false true = refl
or_bit false false = refl

module _ (g : Graph) (w : WellFormed g) (a n : ℕ) (h : EdgeThere g n) where
  pub words_twice : count_by_key edge_of n (list_of g a) ≡ indicator (edge g n).alpha a + indicator (edge g n).omega a
  words_twice =
      let o : count_by_key itself (out_word n) (list_of g a) ≡ indicator (edge g n).alpha a = w.lists a (out_word n) ∙ rw (this_out, out_half, h) in
      let i : count_by_key itself (in_word n) (list_of g a) ≡ indicator (edge g n).omega a = w.lists a (in_word n) ∙ rw (this_into, into_half, h) in
      omega (arith, edge_words n (list_of g a))

  pub edges_once : count n (edges_at g a) ≡ to_bit (((edge g n).alpha == a) || ((edge g n).omega == a))
  edges_once = firsts_once n (map edge_of (list_of g a))
      ∙ ap (min 1) (count_by_key_lem edge_of n (list_of g a) ∙ words_twice ∙ sym (ap₂ ◌+◌ (bit_is (edge g n).alpha a) (bit_is (edge g n).omega a)))
      ∙ sym (or_bit ((edge g n).alpha == a) ((edge g n).omega == a))

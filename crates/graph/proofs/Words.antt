-- The words of edges at a vertex, counted.
use Rattle.std.specs.Prelude.{◌==◌}
use Prim.Native.Nat.{ℕ, ◌+◌, ◌/◌, ◌%◌, ◌≤◌}
use mathlib.Core.Path.{◌≡◌, refl, sym, ap, ◌∙◌}
use mathlib.Core.Logic.{◌≢◌}
use mathlib.Core.Bool.{Bool, true, false}
use mathlib.Core.List.{List, [], ◌∷◌, ◌++◌}
use native.Mathlib.Omega.{arith}
use native.Mathlib.Nat.{zero-add}
use borrow.Author.Tests.{eq-eqb, ne_eqb}
use Rattle.lists.specs.Choice.{◌⇒◌else◌, if_equal, indicator, to_bit}
use Rattle.lists.specs.Lists.{count}
use Rattle.lists.specs.Keyed.{count_by_key}
use Rattle.lists.proofs.Picks.{pick_yes, pick_no, pick_both, same, differ, same?, is_yes, is_no}
use Rattle.lists.proofs.Sums.{sum_append}
use Rattle.graph.specs.Graph.{Edge, edge_number, edge_in, this_in, out_word, in_word}
use Rattle.graph.specs.WellFormed.{words_of, words_at}

-- the end that word k is seen from
abbrev side : ℕ → Edge → ℕ
side k e = if_equal (k % 2) 0 e.alpha e.omega

this_here : (k : ℕ) (e : Edge) (es : List Edge) → e.number ≡ k / 2 → this_in (e ∷ es) k ≡ side k e
this_here k e es h = ap (λ (x : Edge). side k x) (pick_yes e.number (k / 2) e (edge_in es (k / 2)) h)

this_past : (k : ℕ) (e : Edge) (es : List Edge) → e.number ≢ k / 2 → this_in (e ∷ es) k ≡ this_in es k
this_past k e es h = ap (λ (x : Edge). side k x) (pick_no e.number (k / 2) e (edge_in es (k / 2)) h)

module _ (k u : ℕ) (e : Edge) where
  -- two tests, and what they say of word k
  tests : (s t : Bool) → to_bit (out_word e.number == k) ≡ to_bit s → to_bit (in_word e.number == k) ≡ to_bit t → (a o : Bool) →
      count k ((a ⇒ (out_word e.number ∷ []) else []) ++ (o ⇒ (in_word e.number ∷ []) else [])) ≡ (a ⇒ to_bit s else 0) + (o ⇒ to_bit t else 0)
  tests s t x y true true = omega arith
  tests s t x y true false = omega arith
  tests s t x y false true = omega arith
  tests s t x y false false = refl

  swap : (v : ℕ) → ((u == v) ⇒ 1 else 0) ≡ indicator v u
  swap v = elim (same? u v) [
    | same i j ↦ rw (eq-eqb u v i, is_yes v u j)
    | differ i j ↦ rw (ne_eqb u v i, is_no v u j)
  ]

  zero : (t : Bool) → ◌≡◌ {A = ℕ} (t ⇒ 0 else 0) 0
  zero true = refl
  zero false = refl

  own_word : e.number ≡ k / 2 → count k (words_of u e) ≡ indicator (side k e) u
  own_word h = elim (same? (k % 2) 0) [
    | same i j ↦
        let a : out_word e.number ≡ k = omega arith in
        let b : in_word e.number ≢ k = omega arith in
        tests true false (ap to_bit (eq-eqb (out_word e.number) k a)) (ap to_bit (ne_eqb (in_word e.number) k b)) (u == e.alpha) (u == e.omega)
        ∙ rw (swap e.alpha, zero (u == e.omega), pick_yes (k % 2) 0 e.alpha e.omega i) (omega arith)
    | differ i j ↦
        let a : out_word e.number ≢ k = omega arith in
        let b : in_word e.number ≡ k = omega arith in
        tests false true (ap to_bit (ne_eqb (out_word e.number) k a)) (ap to_bit (eq-eqb (in_word e.number) k b)) (u == e.alpha) (u == e.omega)
        ∙ rw (swap e.omega, zero (u == e.alpha), pick_no (k % 2) 0 e.alpha e.omega i) (omega arith)
  ]

  other_edge : e.number ≢ k / 2 → count k (words_of u e) ≡ 0
  other_edge h =
      let a : out_word e.number ≢ k = omega arith in
      let b : in_word e.number ≢ k = omega arith in
      tests false false (ap to_bit (ne_eqb (out_word e.number) k a)) (ap to_bit (ne_eqb (in_word e.number) k b)) (u == e.alpha) (u == e.omega)
      ∙ rw (zero (u == e.alpha), zero (u == e.omega))

-- REFERENCE 1.7
pub words_this : (k u : ℕ) (es : List Edge) → count_by_key edge_number (k / 2) es ≤ 1 → count k (words_at es u) ≡ if_equal (this_in es k) u (count_by_key edge_number (k / 2) es) 0
unfolding words_at
words_this k u [] h = sym (pick_both (this_in [] k) u 0)
words_this k u (e ∷ es) h = sum_append (λ x. to_bit (x == k)) (words_of u e) (words_at es u) ∙ elim (same? e.number (k / 2)) [
  | same i j ↦
      let z : count_by_key edge_number (k / 2) es ≡ 0 = omega (arith, is_yes e.number (k / 2) i) in
      let r : count k (words_at es u) ≡ 0 = words_this k u es (omega arith) ∙ rw z (pick_both (this_in es k) u 0) in
      rw (own_word k u e i, r, this_here k e es i, z, is_yes e.number (k / 2) i) (omega arith)
  | differ i j ↦
      rw (other_edge k u e i, this_past k e es i, is_no e.number (k / 2) i) (simp zero-add (words_this k u es (omega arith)))
]

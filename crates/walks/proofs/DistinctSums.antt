-- A sum over a list in which each key's share is 1: the number of distinct keys.
use Rattle.std.specs.Prelude.{◌==◌}
use Prim.Native.Nat.{ℕ, ◌+◌, ◌≤◌}
use mathlib.Core.Path.{◌≡◌, refl, sym, ap, ◌∙◌}
use mathlib.Core.Bool.{true}
use mathlib.Core.List.{List, [], ◌∷◌, map}
use native.Mathlib.Omega.{arith}
use lib.ListN.{length}
use borrow.Author.Tests.{eq-eqb, ne_eqb}
use Rattle.lists.specs.Choice.{if_equal, to_bit}
use Rattle.lists.specs.Lists.{sum_of, member, count, dedup}
use Rattle.lists.specs.Keyed.{count_by_key}
use Rattle.lists.proofs.Bools.{or_right}
use Rattle.lists.proofs.Picks.{pick_yes, pick_no, same, differ, same?, is_yes, is_no}
use Rattle.lists.proofs.Sums.{bit_le}
use Rattle.lists.proofs.Firsts.{count_firsts}
use Rattle.graph.specs.Graph.{itself}

sum_none : (l : List ℕ) → sum_of (λ x. 0) l ≡ 0
sum_none [] = refl
sum_none (x ∷ l) = omega (arith, sum_none l)

sum_plus : (f g : ℕ → ℕ) (l : List ℕ) → sum_of (λ x. f x + g x) l ≡ sum_of f l + sum_of g l
sum_plus f g [] = refl
sum_plus f g (x ∷ l) = omega (arith, sum_plus f g l)

-- a is added once for each k of the list
no_hit : (k a : ℕ) (ds : List ℕ) → count k ds ≡ 0 → sum_of (λ e. if_equal k e a 0) ds ≡ 0
no_hit k a [] h = refl
no_hit k a (d ∷ ds) h = elim (same? k d) [
  | same e f ↦ absurd (omega (arith, ap to_bit (eq-eqb d k f)))
  | differ e f ↦ omega (arith, pick_no k d a 0 e, no_hit k a ds (omega (arith, ap to_bit (ne_eqb d k f))))
]

one_hit : (k a : ℕ) (ds : List ℕ) → count k ds ≡ 1 → sum_of (λ e. if_equal k e a 0) ds ≡ a
one_hit k a [] h = absurd (omega arith)
one_hit k a (d ∷ ds) h = elim (same? k d) [
  | same e f ↦ omega (arith, pick_yes k d a 0 e, no_hit k a ds (omega (arith, ap to_bit (eq-eqb d k f))))
  | differ e f ↦ omega (arith, pick_no k d a 0 e, one_hit k a ds (omega (arith, ap to_bit (ne_eqb d k f))))
]

ones : (g : ℕ → ℕ) (ds : List ℕ) → ((e : ℕ) → 1 ≤ count e ds → g e ≡ 1) → sum_of g ds ≡ length ds
ones g [] h = refl
ones g (d ∷ ds) h = omega (arith, h d (omega (arith, ap to_bit (eq-eqb d d refl))), ones g ds (λ e i. h e (omega arith)))

module _ (f key : ℕ → ℕ) where
  -- the share of key e
  abbrev pub share : ℕ → List ℕ → ℕ
  share e l = sum_of (λ w. if_equal (key w) e (f w) 0) l

  -- the sum, key by key
  spread : (ds l : List ℕ) → ((w : ℕ) → 1 ≤ count_by_key itself w l → count (key w) ds ≡ 1) → sum_of f l ≡ sum_of (λ e. share e l) ds
  spread ds [] h = sym (sum_none ds)
  spread ds (w ∷ l) h =
      let a : sum_of (λ e. if_equal (key w) e (f w) 0) ds ≡ f w = one_hit (key w) (f w) ds (h w (omega (arith, is_yes w w refl))) in
      let b : sum_of f l ≡ sum_of (λ e. share e l) ds = spread ds l (λ x i. h x (omega arith)) in
      omega (arith, a, b, sum_plus (λ e. if_equal (key w) e (f w) 0) (λ e. share e l) ds)

  has_key : (w : ℕ) (l : List ℕ) → 1 ≤ count_by_key itself w l → member (key w) (map key l) ≡ true
  has_key w [] h = absurd (omega arith)
  has_key w (y ∷ l) h = elim (same? y w) [
    | same e i ↦ rw (eq-eqb (key y) (key w) (ap key e))
    | differ e i ↦ or_right (key y == key w) (member (key w) (map key l)) (has_key w l (omega (arith, is_no y w e)))
  ]

  pub distinct_sum : (l : List ℕ) → ((e : ℕ) → share e l ≡ to_bit (member e (map key l))) → sum_of f l ≡ length (dedup (map key l))
  distinct_sum l h =
      let ds = dedup (map key l) in
      spread ds l (λ w i. count_firsts (key w) (map key l) ∙ ap to_bit (has_key w l i))
      ∙ ones (λ e. share e l) ds (λ e i. omega (arith, h e, count_firsts e (map key l), bit_le (member e (map key l))))

-- Counting by a test, and by a choice: the same counts.
use Rattle.std.specs.Prelude.{◌==◌}
use Prim.Native.Nat.{ℕ, ◌+◌, ◌≤◌}
use mathlib.Core.Path.{◌≡◌, refl, ap₂}
use mathlib.Core.Bool.{Bool, true, false, ◌||◌}
use mathlib.Core.List.{List, [], ◌∷◌, map}
use native.Mathlib.Omega.{arith}
use borrow.Author.Tests.{eqb-true, eqb-false}
use Rattle.lists.specs.Choice.{◌⇒◌else◌, if_equal, indicator, to_bit}
use Rattle.lists.specs.Lists.{any, count}
use Rattle.lists.specs.Keyed.{count_by_key}
use Rattle.lists.proofs.Bools.{tf, ft}
use Rattle.lists.proofs.Picks.{is_yes, is_no}

pub bit_is : (m n : ℕ) → to_bit (m == n) ≡ indicator m n
unfolding if_equal
bit_is m n = go (m == n)
  where
    go : (t : Bool) → to_bit t ≡ (t ⇒ 1 else 0)
    go true = refl
    go false = refl

pub count_same : (n : ℕ) (l : List ℕ) → count n l ≡ count_by_key (λ (w : ℕ). w) n l
count_same n [] = refl
count_same n (x ∷ l) = ap₂ ◌+◌ (bit_is x n) (count_same n l)

module _ {A : Type 0} (key : A → ℕ) where
  pub count_by_key_lem : (n : ℕ) (l : List A) → count n (map key l) ≡ count_by_key key n l
  count_by_key_lem n [] = refl
  count_by_key_lem n (x ∷ l) = ap₂ ◌+◌ (bit_is (key x) n) (count_by_key_lem n l)

  pub any_count : (n : ℕ) (l : List A) → any (λ (x : A). key x == n) l ≡ true → 1 ≤ count_by_key key n l
  any_count n [] h = ft h
  any_count n (x ∷ l) h = go (λ i. any_count n l i) (key x == n) refl
    where
      go : (any (λ (y : A). key y == n) l ≡ true → 1 ≤ count_by_key key n l) → (t : Bool) → (key x == n) ≡ t → 1 ≤ indicator (key x) n + count_by_key key n l
      go ih true e = omega (arith, is_yes (key x) n (eqb-true (key x) n e))
      go ih false e = omega (arith, ih (rw e at h))

  pub count_any : (n : ℕ) (l : List A) → 1 ≤ count_by_key key n l → any (λ (x : A). key x == n) l ≡ true
  count_any n [] h = absurd (omega arith)
  count_any n (x ∷ l) h = go (λ i. count_any n l i) (key x == n) refl
    where
      go : (1 ≤ count_by_key key n l → any (λ (y : A). key y == n) l ≡ true) → (t : Bool) → (key x == n) ≡ t → (t || any (λ (y : A). key y == n) l) ≡ true
      go ih true e = refl
      go ih false e = ih (omega (arith, is_no (key x) n (eqb-false (key x) n e)))

  pub any_none : (n : ℕ) (l : List A) → any (λ (x : A). key x == n) l ≡ false → count_by_key key n l ≡ 0
  any_none n [] h = refl
  any_none n (x ∷ l) h = go (λ i. any_none n l i) (key x == n) refl
    where
      go : (any (λ (y : A). key y == n) l ≡ false → count_by_key key n l ≡ 0) → (t : Bool) → (key x == n) ≡ t → indicator (key x) n + count_by_key key n l ≡ 0
      go ih true e = tf (rw e at h)
      go ih false e = omega (arith, ih (rw e at h), is_no (key x) n (eqb-false (key x) n e))

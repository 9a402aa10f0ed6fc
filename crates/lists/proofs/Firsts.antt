-- Each number of a list once, where it stands first.
use Rattle.std.specs.Prelude.{◌==◌}
use Prim.Native.Nat.{ℕ, min}
use mathlib.Core.Path.{◌≡◌, refl, sym, ap, ◌∙◌}
use mathlib.Core.Bool.{Bool, true, false, not, ◌||◌}
use mathlib.Core.List.{List, [], ◌∷◌}
use native.Mathlib.Omega.{arith}
use borrow.Author.Tests.{eqb-true, eqb-false, eq-eqb, ne_eqb}
use Rattle.lists.specs.Choice.{◌⇒◌else◌, to_bit}
use Rattle.lists.specs.Lists.{filter, member, count, distinct, dedup_from, dedup}
use Rattle.lists.proofs.Sums.{bit_le, has_count, has_not, count_distinct}

or_swap : (a b c : Bool) → (a || (b || c)) ≡ (b || (a || c))
or_swap true true c = refl
or_swap true false c = refl
or_swap false true c = refl
or_swap false false c = refl

-- only which numbers were seen matters
firsts_agree : (s t xs : List ℕ) → ((y : ℕ) → member y s ≡ member y t) → dedup_from s xs ≡ dedup_from t xs
firsts_agree s t [] h = refl
firsts_agree s t (x ∷ xs) h =
    rw (h x) (go (firsts_agree s t xs h) (firsts_agree (x ∷ s) (x ∷ t) xs (λ y. ap (λ (b : Bool). (x == y) || b) (h y))) (member x t))
  where
    go : dedup_from s xs ≡ dedup_from t xs → dedup_from (x ∷ s) xs ≡ dedup_from (x ∷ t) xs → (b : Bool) →
        (b ⇒ dedup_from s xs else (x ∷ dedup_from (x ∷ s) xs)) ≡ (b ⇒ dedup_from t xs else (x ∷ dedup_from (x ∷ t) xs))
    go i j true = i
    go i j false = ap (λ (l : List ℕ). x ∷ l) j

-- what was seen may as well not be there
pub firsts_skip : (n : ℕ) (s xs : List ℕ) → dedup_from (n ∷ s) xs ≡ dedup_from s (filter (λ x. not (x == n)) xs)
firsts_skip n s [] = refl
firsts_skip n s (x ∷ xs) = go (firsts_skip n s xs) (firsts_skip n (x ∷ s) xs) (x == n) refl
  where
    rest : List ℕ
    rest = filter (λ y. not (y == n)) xs

    two : dedup_from (n ∷ s) xs ≡ dedup_from s rest → dedup_from (n ∷ x ∷ s) xs ≡ dedup_from (x ∷ s) rest → (b : Bool) →
        (b ⇒ dedup_from (n ∷ s) xs else (x ∷ dedup_from (x ∷ n ∷ s) xs)) ≡ (b ⇒ dedup_from s rest else (x ∷ dedup_from (x ∷ s) rest))
    two i j true = i
    two i j false = ap (λ (l : List ℕ). x ∷ l) (firsts_agree (x ∷ n ∷ s) (n ∷ x ∷ s) xs (λ y. or_swap (x == y) (n == y) (member y s)) ∙ j)

    go : dedup_from (n ∷ s) xs ≡ dedup_from s rest → dedup_from (n ∷ x ∷ s) xs ≡ dedup_from (x ∷ s) rest → (b : Bool) → (x == n) ≡ b →
        dedup_from (n ∷ s) (x ∷ xs) ≡ dedup_from s (not b ⇒ (x ∷ rest) else rest)
    go i j true e = rw (eq-eqb n x (sym (eqb-true x n e))) i
    go i j false e = rw (ne_eqb n x (λ f. eqb-false x n e (sym f))) (two i j (member x s))

count_from : (n : ℕ) (s xs : List ℕ) → count n (dedup_from s xs) ≡ (member n s ⇒ 0 else to_bit (member n xs))
count_from n s [] = go (member n s)
  where
    go : (b : Bool) → ◌≡◌ {A = ℕ} 0 (b ⇒ 0 else 0)
    go true = refl
    go false = refl
count_from n s (x ∷ xs) = go (count_from n s xs) (count_from n (x ∷ s) xs) (x == n) refl
  where
    go : count n (dedup_from s xs) ≡ (member n s ⇒ 0 else to_bit (member n xs)) →
        count n (dedup_from (x ∷ s) xs) ≡ (((x == n) || member n s) ⇒ 0 else to_bit (member n xs)) →
        (b : Bool) → (x == n) ≡ b → count n (dedup_from s (x ∷ xs)) ≡ (member n s ⇒ 0 else to_bit (b || member n xs))
    go i j true e = rw (ap (λ (y : ℕ). member y s) (eqb-true x n e)) (two (member n s) refl)
      where
        two : (b : Bool) → member n s ≡ b → count n (b ⇒ dedup_from s xs else (x ∷ dedup_from (x ∷ s) xs)) ≡ (b ⇒ 0 else 1)
        two true f = i ∙ rw f
        two false f = rw e (omega (arith, rw e at j))
    go i j false e = two (member x s)
      where
        two : (b : Bool) → count n (b ⇒ dedup_from s xs else (x ∷ dedup_from (x ∷ s) xs)) ≡ (member n s ⇒ 0 else to_bit (member n xs))
        two true = i
        two false = rw e (omega (arith, rw e at j))

-- each number of the list once, and no other
pub count_firsts : (n : ℕ) (xs : List ℕ) → count n (dedup xs) ≡ to_bit (member n xs)
count_firsts n xs = count_from n [] xs

pub firsts_once : (n : ℕ) (xs : List ℕ) → count n (dedup xs) ≡ min 1 (count n xs)
firsts_once n xs = count_firsts n xs ∙ go (member n xs) refl
  where
    go : (b : Bool) → member n xs ≡ b → to_bit b ≡ min 1 (count n xs)
    go true e = omega (arith, has_count n xs e)
    go false e = omega (arith, has_not n xs e)

pub distinct_firsts : (xs : List ℕ) → distinct (dedup xs) ≡ true
distinct_firsts xs = count_distinct (dedup xs) (λ n. omega (arith, count_firsts n xs, bit_le (member n xs)))

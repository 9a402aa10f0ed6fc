-- The elements of lists of numbers: by count, and those that a list operation picks.
use Rattle.std.specs.Prelude.{◌==◌}
use Prim.Native.Nat.{ℕ, zero, suc, ◌+◌, ◌≤◌}
use mathlib.Core.Path.{◌≡◌, refl, sym, ◌∙◌, subst}
use mathlib.Core.Bool.{Bool, true, false, ◌||◌, true≢false}
use mathlib.Core.List.{List, [], ◌∷◌, map}
use native.Mathlib.Omega.{arith}
use lib.ListN.{length}
use borrow.Author.Tests.{eqb-true, eq-eqb}
use Rattle.lists.specs.Choice.{◌⇒◌else◌, to_bit}
use Rattle.lists.specs.Lists.{filter, member, count, first, drop_through, successor, dedup_from, dedup, All, done, more}
use Rattle.lists.proofs.Bools.{ft}
use Rattle.lists.proofs.Sums.{has_count}

module _ {P : ℕ → Type 0} where
  -- what holds of each number that stands in a list holds of every element, and the other way round
  pub all_counted : (xs : List ℕ) → ((n : ℕ) → 1 ≤ count n xs → P n) → All P xs
  all_counted [] h = done
  all_counted (x ∷ xs) h =
      let one : to_bit (x == x) ≡ 1 = rw (eq-eqb x x refl) in
      more (h x (omega arith)) (all_counted xs (λ n c. h n (omega arith)))

  pub counted_all : {xs : List ℕ} → All P xs → (n : ℕ) → 1 ≤ count n xs → P n
  counted_all done n c = absurd (omega arith)
  counted_all (more {x = x} {xs = xs} p a) n c = go (λ i. counted_all a n i) (x == n) refl c
    where
      go : (1 ≤ count n xs → P n) → (t : Bool) → (x == n) ≡ t → 1 ≤ to_bit t + count n xs → P n
      go ih true e c = subst P (eqb-true x n e) p
      go ih false e c = ih (omega arith)

  -- ---- the first, the one after a, and each number once

  pub all_first : P 0 → {xs : List ℕ} → All P xs → P (first xs)
  all_first z done = z
  all_first z (more p a) = p

  all_behind : (a : ℕ) {xs : List ℕ} → All P xs → All P (drop_through a xs)
  all_behind a done = done
  all_behind a (more {x = x} {xs = xs} p s) = go (all_behind a s) (x == a)
    where
      go : All P (drop_through a xs) → (t : Bool) → All P (t ⇒ xs else drop_through a xs)
      go ih true = s
      go ih false = ih

  pub all_after : P 0 → (a : ℕ) {xs : List ℕ} → All P xs → P (successor a xs)
  all_after z a s = all_first z (all_behind a s)

  all_from : (seen : List ℕ) {xs : List ℕ} → All P xs → All P (dedup_from seen xs)
  all_from seen done = done
  all_from seen (more {x = x} {xs = xs} p s) = go (all_from seen s) (all_from (x ∷ seen) s) (member x seen)
    where
      go : All P (dedup_from seen xs) → All P (dedup_from (x ∷ seen) xs) → (t : Bool) → All P (t ⇒ dedup_from seen xs else (x ∷ dedup_from (x ∷ seen) xs))
      go i j true = i
      go i j false = more p j

  pub all_firsts : {xs : List ℕ} → All P xs → All P (dedup xs)
  all_firsts s = all_from [] s

  -- f of every element
  pub all_keys : {A : Type 0} (f : A → ℕ) → {xs : List A} → All (λ (x : A). P (f x)) xs → All P (map f xs)
  all_keys f done = done
  all_keys f (more p s) = more p (all_keys f s)

pub keep_length : {A : Type 0} (p : A → Bool) (xs : List A) → length (filter p xs) ≤ length xs
keep_length p [] = omega arith
keep_length p (x ∷ xs) = go (keep_length p xs) (p x)
  where
    go : length (filter p xs) ≤ length xs → (t : Bool) → length (t ⇒ (x ∷ filter p xs) else filter p xs) ≤ suc (length xs)
    go ih true = omega arith
    go ih false = omega arith

-- ---- membership

pub has_self : (n : ℕ) (ns : List ℕ) → member n (n ∷ ns) ≡ true
has_self n ns = rw (eq-eqb n n refl)

pub has_later : (u v : ℕ) (vs : List ℕ) → member u vs ≡ true → member u (v ∷ vs) ≡ true
has_later u v vs h = go (v == u)
  where
    go : (t : Bool) → (t || member u vs) ≡ true
    go true = refl
    go false = h

pub not_has : (u v : ℕ) (vs : List ℕ) → member v vs ≡ false → member u vs ≡ true → u ≡ v → ⊥
not_has u v vs f h e = true≢false (sym h ∙ subst (λ (y : ℕ). member y vs ≡ false) (sym e) f)

pub positive : (u : ℕ) (vs : List ℕ) → member 0 vs ≡ false → member u vs ≡ true → 1 ≤ u
positive zero vs f h = ft (sym f ∙ h)
positive (suc u) vs f h = omega arith

pub none_there : (n : ℕ) (xs : List ℕ) → count n xs ≡ 0 → member n xs ≡ false
none_there n xs e = go (member n xs) refl
  where
    go : (t : Bool) → member n xs ≡ t → t ≡ false
    go true f = absurd (omega (arith, has_count n xs f))
    go false f = refl

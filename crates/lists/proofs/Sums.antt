-- Sums, facts about every element, and counting.
use Rattle.std.specs.Prelude.{◌==◌}
use Prim.Native.Nat.{ℕ, suc, ◌+◌, ◌≤◌}
use mathlib.Core.Path.{◌≡◌, refl, sym, ap, ◌∙◌, subst}
use mathlib.Core.Bool.{Bool, true, false, not}
use mathlib.Core.List.{List, [], ◌∷◌, ◌++◌}
use native.Mathlib.Omega.{arith}
use lib.ListN.{length}
use borrow.Author.Tests.{eqb-true, eq-eqb, not-true}
use Rattle.lists.specs.Choice.{◌⇒◌else◌, to_bit}
use Rattle.lists.specs.Lists.{all, member, distinct, sum_of, count, All, done, more}
use Rattle.lists.proofs.Bools.{tf, ft, and_true, and_both}

module _ {A : Type 0} (f : A → ℕ) where
  pub sum_append : (xs ys : List A) → sum_of f (xs ++ ys) ≡ sum_of f xs + sum_of f ys
  sum_append [] ys = omega arith
  sum_append (x ∷ xs) ys = omega (arith, sum_append xs ys)

module _ {A : Type 0} where
  pub all_imp : {P Q : A → Type 0} → ((x : A) → P x → Q x) → {xs : List A} → All P xs → All Q xs
  all_imp h done = done
  all_imp h (more {x = x} p a) = more (h x p) (all_imp h a)

  pub all_append : {P : A → Type 0} {xs ys : List A} → All P xs → All P ys → All P (xs ++ ys)
  all_append done b = b
  all_append (more p a) b = more p (all_append a b)

  pub all_bool : {P : A → Type 0} (p : A → Bool) → ((x : A) → p x ≡ true → P x) → (xs : List A) → all p xs ≡ true → All P xs
  all_bool p h [] e = done
  all_bool p h (x ∷ xs) e = let a = and_true (p x) (all p xs) e in more (h x a.0) (all_bool p h xs a.1)

  pub bool_all : {P : A → Type 0} (p : A → Bool) → ((x : A) → P x → p x ≡ true) → {xs : List A} → All P xs → all p xs ≡ true
  bool_all p h done = refl
  bool_all p h (more {x = x} {xs = xs} a as') = and_both (p x) (all p xs) (h x a) (bool_all p h as')

-- ---- counting

pub bit_le : (t : Bool) → to_bit t ≤ 1
bit_le true = omega arith
bit_le false = omega arith

pub has_count : (n : ℕ) (xs : List ℕ) → member n xs ≡ true → 1 ≤ count n xs
has_count n [] e = ft e
has_count n (x ∷ xs) e = go (λ h. has_count n xs h) (x == n) refl
  where
    go : (member n xs ≡ true → 1 ≤ count n xs) → (t : Bool) → (x == n) ≡ t → 1 ≤ to_bit (x == n) + count n xs
    go ih true f = rw f (omega arith)
    go ih false f = rw f (omega (arith, ih (rw f at e)))

pub count_has : (n : ℕ) (xs : List ℕ) → 1 ≤ count n xs → member n xs ≡ true
count_has n [] e = absurd (omega arith)
count_has n (x ∷ xs) e = go (λ h. count_has n xs h) (x == n) refl
  where
    go : (1 ≤ count n xs → member n xs ≡ true) → (t : Bool) → (x == n) ≡ t → member n (x ∷ xs) ≡ true
    go ih true f = rw f
    go ih false f = let e' : 1 ≤ to_bit false + count n xs = rw f at e in rw f (ih (omega arith))

pub has_not : (n : ℕ) (xs : List ℕ) → member n xs ≡ false → count n xs ≡ 0
has_not n [] e = refl
has_not n (x ∷ xs) e = go (λ h. has_not n xs h) (x == n) refl
  where
    go : (member n xs ≡ false → count n xs ≡ 0) → (t : Bool) → (x == n) ≡ t → to_bit (x == n) + count n xs ≡ 0
    go ih true f = tf (rw f at e)
    go ih false f = rw f (omega (arith, ih (rw f at e)))

pub distinct_count : (xs : List ℕ) → distinct xs ≡ true → (n : ℕ) → count n xs ≤ 1
distinct_count [] d n = omega arith
distinct_count (x ∷ xs) d n = go (distinct_count xs ds.1 n) (x == n) refl
  where
    ds : (not (member x xs) ≡ true) × (distinct xs ≡ true)
    ds = and_true (not (member x xs)) (distinct xs) d

    go : count n xs ≤ 1 → (t : Bool) → (x == n) ≡ t → to_bit (x == n) + count n xs ≤ 1
    go ih true f =
        let z : count n xs ≡ 0 = subst (λ y. count y xs ≡ 0) (eqb-true x n f) (has_not x xs (not-true (member x xs) ds.0)) in
        rw f (omega arith)
    go ih false f = rw f (omega arith)

pub count_distinct : (xs : List ℕ) → ((n : ℕ) → count n xs ≤ 1) → distinct xs ≡ true
count_distinct [] h = refl
count_distinct (x ∷ xs) h = and_both (not (member x xs)) (distinct xs) (go (member x xs) refl) (count_distinct xs (λ n. omega (arith, h n)))
  where
    one : to_bit (x == x) ≡ 1
    one = rw (eq-eqb x x refl)

    go : (t : Bool) → member x xs ≡ t → not t ≡ true
    go true e = absurd (omega (arith, h x, has_count x xs e, one))
    go false e = refl

-- ---- lists with the same counts

abbrev pub Alike : List ℕ → List ℕ → Type 0
Alike xs ys = (n : ℕ) → count n xs ≡ count n ys

-- the list without the first x
remove : ℕ → List ℕ → List ℕ
remove x [] = []
remove x (y ∷ ys) = (y == x) ⇒ ys else (y ∷ remove x ys)

remove_count : (x : ℕ) (ys : List ℕ) → 1 ≤ count x ys → (n : ℕ) → to_bit (x == n) + count n (remove x ys) ≡ count n ys
unfolding remove
remove_count x [] h n = absurd (omega arith)
remove_count x (y ∷ ys) h n = go (λ i. remove_count x ys i n) (y == x) refl
  where
    go : (1 ≤ count x ys → to_bit (x == n) + count n (remove x ys) ≡ count n ys) → (t : Bool) → (y == x) ≡ t →
        to_bit (x == n) + count n (t ⇒ ys else (y ∷ remove x ys)) ≡ to_bit (y == n) + count n ys
    go ih true e = ap (λ (z : ℕ). to_bit (z == n) + count n ys) (sym (eqb-true y x e))
    go ih false e = let h' : 1 ≤ to_bit false + count x ys = rw e at h in omega (arith, ih (omega arith))

remove_length : (x : ℕ) (ys : List ℕ) → 1 ≤ count x ys → suc (length (remove x ys)) ≡ length ys
unfolding remove
remove_length x [] h = absurd (omega arith)
remove_length x (y ∷ ys) h = go (λ i. remove_length x ys i) (y == x) refl
  where
    go : (1 ≤ count x ys → suc (length (remove x ys)) ≡ length ys) → (t : Bool) → (y == x) ≡ t →
        suc (length (t ⇒ ys else (y ∷ remove x ys))) ≡ suc (length ys)
    go ih true e = refl
    go ih false e = let h' : 1 ≤ to_bit false + count x ys = rw e at h in ap suc (ih (omega arith))

self_count : (x : ℕ) (xs : List ℕ) → 1 ≤ count x (x ∷ xs)
self_count x xs = rw (eq-eqb x x refl) (omega arith)

pub alike_length : (xs ys : List ℕ) → Alike xs ys → length xs ≡ length ys
alike_length [] [] h = refl
alike_length [] (y ∷ ys) h = absurd (omega (arith, self_count y ys, h y))
alike_length (x ∷ xs) ys h =
    let i : 1 ≤ count x ys = omega (arith, self_count x xs, h x) in
    ap suc (alike_length xs (remove x ys) (λ n. omega (arith, remove_count x ys i n, h n))) ∙ remove_length x ys i

pub same_alike : (xs ys : List ℕ) → all (λ w. count w xs == count w ys) (xs ++ ys) ≡ true → Alike xs ys
same_alike xs ys e n = go (member n (xs ++ ys)) refl
  where
    at_n : (zs : List ℕ) → all (λ w. count w xs == count w ys) zs ≡ true → member n zs ≡ true → count n xs ≡ count n ys
    at_n [] a b = ft b
    at_n (z ∷ zs) a b = pick (λ i j. at_n zs i j) (z == n) refl
      where
        as' : ((count z xs == count z ys) ≡ true) × (all (λ w. count w xs == count w ys) zs ≡ true)
        as' = and_true (count z xs == count z ys) (all (λ w. count w xs == count w ys) zs) a

        pick : (all (λ w. count w xs == count w ys) zs ≡ true → member n zs ≡ true → count n xs ≡ count n ys) → (t : Bool) → (z == n) ≡ t → count n xs ≡ count n ys
        pick ih true f = subst (λ u. count u xs ≡ count u ys) (eqb-true z n f) (eqb-true _ _ as'.0)
        pick ih false f = ih as'.1 (rw f at b)

    go : (t : Bool) → member n (xs ++ ys) ≡ t → count n xs ≡ count n ys
    go true f = at_n (xs ++ ys) e f
    go false f = omega (arith, sum_append (λ x. to_bit (x == n)) xs ys, has_not n (xs ++ ys) f)

pub alike_same : (xs ys : List ℕ) → Alike xs ys → all (λ w. count w xs == count w ys) (xs ++ ys) ≡ true
alike_same xs ys h = go (xs ++ ys)
  where
    go : (zs : List ℕ) → all (λ w. count w xs == count w ys) zs ≡ true
    go [] = refl
    go (z ∷ zs) = and_both (count z xs == count z ys) _ (eq-eqb _ _ (h z)) (go zs)

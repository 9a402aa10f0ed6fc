-- Lists cut at an element, counts over joined and mapped lists, the elements that pass a test, and the last of a held list.
use Prim.Native.Nat.{ℕ, ◌+◌, ◌≤◌}
use mathlib.Core.Path.{◌≡◌, refl, sym, ap, ap₂, ◌∙◌}
use mathlib.Core.Bool.{Bool, true, false}
use mathlib.Core.List.{List, [], ◌∷◌, ◌++◌, map}
use native.Mathlib.Omega.{arith}
use native.Mathlib.Nat.{add-zero}
use lib.ListN.{get_or, drop}
use lib.Seq.{get_or-drop}
use Rattle.lists.specs.Choice.{◌⇒◌else◌, indicator}
use Rattle.lists.specs.Lists.{All, done, more, filter}
use Rattle.lists.specs.Keyed.{count_by_key}
use Rattle.lists.proofs.Picks.{is_yes}

module _ {A : Type 0} (key : A → ℕ) where
  pub count_append : (k : ℕ) (u v : List A) → count_by_key key k (u ++ v) ≡ count_by_key key k u + count_by_key key k v
  count_append k [] v = omega arith
  count_append k (y ∷ u) v = omega (arith, count_append k u v)

  -- an element that is there is counted
  pub count_here : (u : List A) (x : A) (v : List A) → 1 ≤ count_by_key key (key x) (u ++ x ∷ v)
  count_here u x v = omega (arith, count_append (key x) u (x ∷ v), is_yes (key x) (key x) refl)

  pub count_map : (f : A → A) → ((y : A) → key (f y) ≡ key y) → (k : ℕ) (l : List A) → count_by_key key k (map f l) ≡ count_by_key key k l
  count_map f e k [] = refl
  count_map f e k (y ∷ l) = ap₂ (λ (m n : ℕ). indicator m k + n) (e y) (count_map f e k l)

module _ {A : Type 0} where
  pub all_at : {P : A → Type 0} (u : List A) (x : A) (v : List A) → All P (u ++ x ∷ v) → P x
  all_at [] x v (more p a) = p
  all_at (y ∷ u) x v (more p a) = all_at u x v a

  pub map_same : (f : A → A) {l : List A} → All (λ x. f x ≡ x) l → map f l ≡ l
  map_same f done = refl
  map_same f (more p a) = ap₂ ◌∷◌ p (map_same f a)

-- a word of a part, from what stands at a place
pub read : (part : List ℕ) (at k : ℕ) (ws : List ℕ) → drop at part ≡ ws → get_or part (at + k) 0 ≡ get_or ws k 0
read part at k ws e = sym (get_or-drop at part k 0) ∙ ap (λ (l : List ℕ). get_or l k 0) e

pub read_first : (part : List ℕ) (at : ℕ) (ws : List ℕ) → drop at part ≡ ws → get_or part at 0 ≡ get_or ws 0 0
read_first part at ws e = sym (ap (λ (k : ℕ). get_or part k 0) (add-zero at)) ∙ read part at 0 ws e

module _ (p : ℕ → Bool) where
  pub keep_append : (xs ys : List ℕ) → filter p (xs ++ ys) ≡ filter p xs ++ filter p ys
  keep_append [] ys = refl
  keep_append (x ∷ xs) ys = go (p x) (keep_append xs ys)
    where
      go : (t : Bool) → filter p (xs ++ ys) ≡ filter p xs ++ filter p ys → (t ⇒ (x ∷ filter p (xs ++ ys)) else filter p (xs ++ ys)) ≡ (t ⇒ (x ∷ filter p xs) else filter p xs) ++ filter p ys
      go true e = ap (λ (l : List ℕ). x ∷ l) e
      go false e = e

  pub keep_all : (xs : List ℕ) → ((k : ℕ) → 1 ≤ count_by_key (λ w. w) k xs → p k ≡ true) → filter p xs ≡ xs
  keep_all [] h = refl
  keep_all (x ∷ xs) h = rw (h x (omega (arith, is_yes x x refl))) (ap (λ (l : List ℕ). x ∷ l) (keep_all xs (λ k c. h k (omega arith))))

  pub keep_none : (xs : List ℕ) → ((k : ℕ) → 1 ≤ count_by_key (λ w. w) k xs → p k ≡ false) → filter p xs ≡ []
  keep_none [] h = refl
  keep_none (x ∷ xs) h = rw (h x (omega (arith, is_yes x x refl))) (keep_none xs (λ k c. h k (omega arith)))

  pub count_keep : (k : ℕ) (xs : List ℕ) → count_by_key (λ w. w) k (filter p xs) ≤ count_by_key (λ w. w) k xs
  count_keep k [] = omega arith
  count_keep k (x ∷ xs) = go (p x) (count_keep k xs)
    where
      go : (t : Bool) → count_by_key (λ w. w) k (filter p xs) ≤ count_by_key (λ w. w) k xs → count_by_key (λ w. w) k (t ⇒ (x ∷ filter p xs) else filter p xs) ≤ indicator x k + count_by_key
          (λ w. w) k xs
      go true e = omega arith
      go false e = omega arith

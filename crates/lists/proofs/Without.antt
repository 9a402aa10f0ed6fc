-- A list with one element left out.
use Prim.Native.Nat.{ℕ, zero, suc, ◌≤◌, ◌<◌}
use mathlib.Core.Path.{◌≡◌, refl, ap}
use mathlib.Core.List.{List, [], ◌∷◌, map}
use native.Mathlib.Omega.{arith}
use lib.ListN.{length, get_or, take}
use Rattle.lists.specs.Lists.{without}

pub without_length : {A : Type 0} (i : ℕ) (xs : List A) → i < length xs → suc (length (without i xs)) ≡ length xs
without_length i [] h = absurd (omega arith)
without_length zero (x ∷ xs) h = refl
without_length (suc i) (x ∷ xs) h = ap suc (without_length i xs (omega arith))

module _ {A : Type 0} where
  pub without_before : (s i : ℕ) (ks : List A) (z : A) → i < s → get_or (without s ks) i z ≡ get_or ks i z
  without_before s i [] z h = refl
  without_before zero i (k ∷ ks) z h = absurd (omega arith)
  without_before (suc s) zero (k ∷ ks) z h = refl
  without_before (suc s) (suc i) (k ∷ ks) z h = without_before s i ks z (omega arith)

  pub without_behind : (s i : ℕ) (ks : List A) (z : A) → s ≤ i → get_or (without s ks) i z ≡ get_or ks (suc i) z
  without_behind s i [] z h = refl
  without_behind zero i (k ∷ ks) z h = refl
  without_behind (suc s) zero (k ∷ ks) z h = absurd (omega arith)
  without_behind (suc s) (suc i) (k ∷ ks) z h = without_behind s i ks z (omega arith)

  pub take_without : (s c : ℕ) (ks : List A) → s ≤ c → take c (without s ks) ≡ without s (take (suc c) ks)
  take_without s zero [] h = refl
  take_without s (suc c) [] h = refl
  take_without zero c (k ∷ ks) h = refl
  take_without (suc s) zero (k ∷ ks) h = absurd (omega arith)
  take_without (suc s) (suc c) (k ∷ ks) h = ap (λ (l : List A). k ∷ l) (take_without s c ks (omega arith))

  -- one left out behind the first n
  pub take_before : (n : ℕ) (ks : List A) → take n (without n ks) ≡ take n ks
  take_before zero ks = refl
  take_before (suc n) [] = refl
  take_before (suc n) (k ∷ ks) = ap (λ (l : List A). k ∷ l) (take_before n ks)

  pub without_most : (s : ℕ) (ks : List A) → length ks ≤ s → without s ks ≡ ks
  without_most s [] h = refl
  without_most zero (k ∷ ks) h = absurd (omega arith)
  without_most (suc s) (k ∷ ks) h = ap (λ (l : List A). k ∷ l) (without_most s ks (omega arith))

pub map_without : {A B : Type 0} (f : A → B) (s : ℕ) (ks : List A) → map f (without s ks) ≡ without s (map f ks)
map_without f s [] = refl
map_without f zero (k ∷ ks) = refl
map_without f (suc s) (k ∷ ks) = ap (λ (l : List _). f k ∷ l) (map_without f s ks)

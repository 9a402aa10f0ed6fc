-- The least list that still fails, over any elements and any code: which are left, and how many lists were run.
use Prim.Native.Nat.{ℕ, zero, suc, ◌+◌, ◌-◌, ◌<◌}
use Rattle.std.specs.Prelude.{◌≡◌, ◌≢◌, List, [], ◌∷◌, ◌==◌}
use Rattle.std.proofs.Math.ListN.{length}
use Rattle.lists.specs.Choice.{◌⇒◌else◌}
use Rattle.lists.specs.Lists.{without}

module _ {A : Type 0} where
  -- some elements of a list, in their order
  pub data Subsequence : List A → List A → Type 0 where
    none : Subsequence [] []
    kept : {x : A} {xs ys : List A} → Subsequence xs ys → Subsequence (x ∷ xs) (x ∷ ys)
    dropped : {y : A} {xs ys : List A} → Subsequence xs ys → Subsequence xs (y ∷ ys)

  -- its last element, another where it has none
  abbrev pub final_of : A → List A → A
  final_of z [] = z
  final_of z (x ∷ xs) = final_of x xs

pub record Reduced (A : Type 0) : Type 0 where
  pub kept : List A
  pub runs : ℕ

module _ {A : Type 0} (code : List A → ℕ) (c : ℕ) where
  -- of elements i, i + 1, .. (k of them) the first without which the code is c; i + k where there is none
  unfoldable pub first_loose : ℕ → ℕ → List A → ℕ
  first_loose i zero xs = i
  first_loose i (suc k) xs = (code (without i xs) == c) ⇒ i else first_loose (suc i) k xs

  -- the first such element before the last goes, and the search begins anew on what is left; at most n elements go, and
  -- r lists were run before
  unfoldable pub reduced_from : ℕ → List A → ℕ → Reduced A
  unfolding first_loose
  reduced_from zero xs r = record { kept = xs; runs = r }
  reduced_from (suc n) xs r =
      let e = length xs - 1 in
      let i = first_loose 0 e xs in
      (i == e) ⇒ record { kept = xs; runs = r + e } else reduced_from n (without i xs) (r + suc i)

  -- the code is c, and is another without any one element before the last
  pub record Least (xs : List A) : Type 0 where
    pub alike : code xs ≡ c
    pub tight : (j : ℕ) → suc j < length xs → code (without j xs) ≢ c

-- 0 + 1 + .. + (n - 1): the pairs of n elements
abbrev pub pairs : ℕ → ℕ
pairs zero = 0
pairs (suc n) = n + pairs n

-- the first list that is run is the whole one
unfoldable pub reduced : {A : Type 0} → (List A → ℕ) → List A → Reduced A
unfolding reduced_from
reduced code xs = reduced_from code (code xs) (length xs) xs 1

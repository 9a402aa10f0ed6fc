-- How many lists are run at most.
use Rattle.std.specs.Prelude.{◌==◌}
use Prim.Native.Nat.{ℕ, zero, suc, ◌+◌, ◌-◌, ◌≤◌, ◌<◌}
use mathlib.Core.Path.{◌≡◌, refl}
use mathlib.Core.Bool.{Bool, true, false}
use mathlib.Core.List.{List}
use native.Mathlib.Omega.{arith}
use lib.ListN.{length}
use borrow.Author.Tests.{eqb-false}
use Rattle.lists.specs.Choice.{◌⇒◌else◌}
use Rattle.reduction.specs.Reduction.{first_loose, reduced_from, pairs, reduced}
use Rattle.lists.specs.Lists.{without}
use Rattle.reduction.proofs.ReductionLaws.{first_within}
use Rattle.lists.proofs.Without.{without_length}

-- one element less is as many pairs less as there are others
one_less : (n : ℕ) → 1 ≤ n → pairs n ≡ (n - 1) + pairs (n - 1)
one_less zero h = absurd (omega arith)
one_less (suc n) h = let e : suc n - 1 ≡ n = omega arith in rw e

few : (n : ℕ) → n - 1 ≤ pairs n
few zero = omega arith
few (suc n) = omega arith

module _ {A : Type 0} (code : List A → ℕ) (c : ℕ) where
  runs_from : (n : ℕ) (xs : List A) (r : ℕ) → length xs ≤ n → (reduced_from code c n xs r).runs ≤ r + pairs (length xs)
  unfolding reduced_from
  runs_from zero xs r h = omega arith
  runs_from (suc n) xs r h =
      let e = length xs - 1 in
      let i = first_loose code c 0 e xs in
      go i (first_within code c e xs) (λ l. runs_from n (without i xs) (r + suc i) (omega (arith, without_length i xs l))) (i == e) refl
    where
      go : (i : ℕ) → i ≤ length xs - 1 → (i < length xs → (reduced_from code c n (without i xs) (r + suc i)).runs ≤ (r + suc i) + pairs (length (without i xs)))
          → (t : Bool) → (i == (length xs - 1)) ≡ t
          → (t ⇒ record { kept = xs; runs = r + (length xs - 1) } else reduced_from code c n (without i xs) (r + suc i)).runs ≤ r + pairs (length xs)
      go i w s true q = omega (arith, few (length xs))
      go i w s false q =
          let z = eqb-false i (length xs - 1) q in
          let l : i < length xs = omega (arith, w, z) in
          let m : length (without i xs) ≡ length xs - 1 = omega (arith, without_length i xs l) in
          let f : (reduced_from code c n (without i xs) (r + suc i)).runs ≤ (r + suc i) + pairs (length xs - 1) = rw m at (s l) in
          omega (arith, f, w, z, one_less (length xs) (omega (arith, l)))

-- one for the list as sent, and no more than one for each pair
pub few_runs : {A : Type 0} (code : List A → ℕ) (xs : List A) → (reduced code xs).runs ≤ 1 + pairs (length xs)
unfolding reduced
few_runs code xs = runs_from code (code xs) (length xs) xs 1 (omega arith)

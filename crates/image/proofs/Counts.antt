-- Counting: a list without one of its words, and how many distinct numbers there are from 1 to n.
use Rattle.std.specs.Prelude.{◌==◌}
use Prim.Native.Nat.{ℕ, zero, suc, ◌+◌, ◌-◌, ◌≤◌}
use mathlib.Core.Path.{◌≡◌, refl, ap}
use mathlib.Core.Bool.{Bool, true, false}
use mathlib.Core.List.{List, [], ◌∷◌}
use native.Mathlib.Omega.{arith}
use lib.ListN.{length}
use borrow.Author.Tests.{eq-eqb}
use Rattle.lists.specs.Choice.{◌⇒◌else◌, if_equal, indicator, to_bit}
use Rattle.lists.specs.Lists.{count}
use Rattle.lists.specs.Keyed.{count_by_key, remove_by}
use Rattle.lists.proofs.Picks.{pick_yes, pick_no, same?, same, differ, is_yes, is_no}
use Rattle.lists.proofs.KeyedLaws.{count_rem}
use Rattle.graph.specs.Graph.{itself}

pub self_one : (x : ℕ) → to_bit (x == x) ≡ 1
self_one x = rw (eq-eqb x x refl)

is_bit : (m n : ℕ) → indicator m n ≡ to_bit (m == n)
unfolding if_equal
is_bit m n = go (m == n)
  where
    go : (t : Bool) → (t ⇒ 1 else 0) ≡ to_bit t
    go true = refl
    go false = refl

count_by_key_lem : (n : ℕ) (xs : List ℕ) → count_by_key itself n xs ≡ count n xs
count_by_key_lem n [] = refl
count_by_key_lem n (x ∷ xs) = omega (arith, is_bit x n, count_by_key_lem n xs)

-- the list without one w
rem_less : (w : ℕ) (xs : List ℕ) (x : ℕ) → count x (remove_by itself w xs) ≡ count x xs - indicator w x
rem_less w xs x = omega (arith, count_rem itself x w xs, count_by_key_lem x xs, count_by_key_lem x (remove_by itself w xs))

pub rem_count : (w : ℕ) (xs : List ℕ) → 1 ≤ count w xs → (x : ℕ) → to_bit (w == x) + count x (remove_by itself w xs) ≡ count x xs
rem_count w xs h x = elim (same? w x) [
  | same e f ↦ let c : count w xs ≡ count x xs = rw e in omega (arith, rem_less w xs x, is_bit w x, is_yes w x e)
  | differ e f ↦ omega (arith, rem_less w xs x, is_bit w x, is_no w x e)
]

pub rem_length : (w : ℕ) (xs : List ℕ) → 1 ≤ count w xs → suc (length (remove_by itself w xs)) ≡ length xs
rem_length w [] h = absurd (omega arith)
rem_length w (y ∷ ys) h = elim (same? y w) [
  | same e f ↦ rw (pick_yes y w)
  | differ e f ↦ rw (pick_no y w) (ap suc (rem_length w ys (omega (arith, is_bit y w, is_no y w e))))
]

rem_short : (w : ℕ) (xs : List ℕ) → length xs ≤ suc (length (remove_by itself w xs))
rem_short w [] = omega arith
rem_short w (y ∷ ys) = elim (same? y w) [
  | same e f ↦ rw (pick_yes y w) (omega arith)
  | differ e f ↦ rw (pick_no y w) (omega (arith, rem_short w ys))
]

-- numbers that are distinct and at most the capacity: no more of them than the capacity
pub distinct_few : (cap : ℕ) (xs : List ℕ) → ((n : ℕ) → count n xs ≤ 1) → ((n : ℕ) → 1 ≤ count n xs → (1 ≤ n) × (n ≤ cap)) → length xs ≤ cap
distinct_few zero [] d k = omega arith
distinct_few zero (x ∷ xs) d k = let q = k x (omega (arith, self_one x)) in absurd (omega (arith, q.0, q.1))
distinct_few (suc cap) xs d k =
    omega (arith, rem_short (suc cap) xs, distinct_few cap (remove_by itself (suc cap) xs) (λ n. omega (arith, d n, rem_less (suc cap) xs n)) below)
  where
    below : (n : ℕ) → 1 ≤ count n (remove_by itself (suc cap) xs) → (1 ≤ n) × (n ≤ cap)
    below n h =
        let q = k n (omega (arith, rem_less (suc cap) xs n)) in (
          q.0,
          elim (same? (suc cap) n) [
            | same e f ↦ absurd (omega (arith, rem_less (suc cap) xs n, is_yes (suc cap) n e, d n))
            | differ e f ↦ omega (arith, q.1)
          ],
        )

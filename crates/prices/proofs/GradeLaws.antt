-- Grades by any table of limits that rises from 0, and by a table of multiples.
use Rattle.std.specs.Prelude.{◌==◌}
use Prim.Native.Nat.{ℕ, zero, suc, ◌+◌, ◌-◌, ◌*◌, ◌/◌, ◌≤◌, ◌<◌}
use mathlib.Core.Path.{◌≡◌, refl, sym, ap, ◌∙◌}
use mathlib.Core.Bool.{Bool, true, false}
use mathlib.Core.List.{List, [], ◌∷◌}
use native.Mathlib.Omega.{arith}
use native.Mathlib.Nat.{div-eq_of_lt-le}
use lib.ListN.{length, get_or}
use lib.Dec.{leb, ltb}
use borrow.Author.Tests.{leb-true, leb-false, ltb-true, ltb-false, lt-leb, le-leb, eqb-true}
use Rattle.lists.specs.Choice.{◌⇒◌else◌, to_bit}
use Rattle.lists.proofs.Bools.{ft, and_true}
use Rattle.prices.specs.Grades.{old_limits, new_limits, limits_of, reached, grade_by, Graded, rises_from, rising, multiples_from}

-- no limit is reached by a range that is not above what they rise from
none : (p : ℕ) (ls : List ℕ) (r : ℕ) → rises_from p ls ≡ true → r ≤ p → reached ls r ≡ 0
none p [] r h k = refl
none p (l ∷ ls) r h k =
    let a = and_true (ltb p l) (rises_from l ls) h in
    let b = ltb-true p l a.0 in
    omega (arith, ap to_bit (lt-leb l r (omega arith)), none l ls r a.1 (omega arith))

-- the first k limits are not above r, and the next is
record Cut (ls : List ℕ) (r k : ℕ) : Type 0 where
  few : k ≤ length ls
  below : (i : ℕ) → i < k → get_or ls i 0 ≤ r
  above : k < length ls → r < get_or ls k 0

cut_more : (l : ℕ) (ls : List ℕ) (r : ℕ) → rises_from l ls ≡ true → Cut ls r (reached ls r) →
    Cut (l ∷ ls) r (to_bit (leb l r) + reached ls r)
cut_more l ls r h rest = go (leb l r) refl
  where
    below : l ≤ r → (i : ℕ) → i < suc (reached ls r) → get_or (l ∷ ls) i 0 ≤ r
    below k zero j = k
    below k (suc i) j = rest.below i (omega arith)

    go : (t : Bool) → leb l r ≡ t → Cut (l ∷ ls) r (to_bit t + reached ls r)
    go true e =
        let z : to_bit true + reached ls r ≡ suc (reached ls r) = omega arith in
        rw z (record {
          few = omega (arith, rest.few);
          below = below (leb-true l r e);
          above = λ k. rest.above (omega arith);
        })
    go false e =
        let n = none l ls r h (let b = leb-false l r e in omega arith) in
        let z : to_bit false + reached ls r ≡ 0 = omega (arith, n) in
        rw z (record { few = omega arith; below = λ i k. absurd (omega arith); above = λ k. leb-false l r e })

cut : (p : ℕ) (ls : List ℕ) (r : ℕ) → rises_from p ls ≡ true → Cut ls r (reached ls r)
cut p [] r h = record { few = omega arith; below = λ i k. absurd (omega arith); above = λ k. absurd (omega arith) }
cut p (l ∷ ls) r h = let a = and_true (ltb p l) (rises_from l ls) h in cut_more l ls r a.1 (cut l ls r a.1)

pub graded : (ls : List ℕ) (r : ℕ) → rising ls ≡ true → Graded ls r (grade_by ls r)
unfolding grade_by
graded [] r h = ft h
graded (l ∷ ls) r h =
    let a = and_true (l == 0) (rises_from l ls) h in
    let z = eqb-true l 0 a.0 in
    let c = cut l ls r a.1 in
    let o : to_bit (leb l r) ≡ 1 = ap to_bit (le-leb l r (omega (arith, z))) in
    let k : to_bit (leb l r) + reached ls r - 1 ≡ reached ls r = omega (arith, o) in
    rw k (record {
      line = omega (arith, c.few);
      limit = low (reached ls r) c.below z;
      next = up (reached ls r) c.above;
    })
  where
    low : (k : ℕ) → ((i : ℕ) → i < k → get_or ls i 0 ≤ r) → l ≡ 0 → get_or (l ∷ ls) k 0 ≤ r
    low zero b e = omega (arith, e)
    low (suc k) b e = b k (omega arith)

    up : (k : ℕ) → (k < length ls → r < get_or ls k 0) → k + 1 < suc (length ls) → r < get_or (l ∷ ls) (k + 1) 0
    up k f i = let e : k + 1 ≡ suc k = omega arith in rw e (f (omega arith))

pub grade_of_zero : (ls : List ℕ) → rising ls ≡ true → grade_by ls 0 ≡ 0
unfolding grade_by
grade_of_zero [] h = refl
grade_of_zero (l ∷ ls) h =
    let a = and_true (l == 0) (rises_from l ls) h in
    let z = eqb-true l 0 a.0 in
    omega (arith, ap to_bit (le-leb l 0 (omega (arith, z))), none l ls 0 a.1 (omega arith))

-- ---- multiples of d

module _ (d : ℕ) where
  multiple_at : (i : ℕ) (ls : List ℕ) → multiples_from d i ls ≡ true → (j : ℕ) → j < length ls →
      get_or ls j 0 ≡ (i + j) * d
  multiple_at i [] h j k = absurd (omega arith)
  multiple_at i (l ∷ ls) h zero k =
      let a = and_true (l == i * d) (multiples_from d (suc i) ls) h in
      let e : i ≡ i + 0 = omega arith in
      eqb-true l (i * d) a.0 ∙ ap (λ (n : ℕ). n * d) e
  multiple_at i (l ∷ ls) h (suc j) k =
      let a = and_true (l == i * d) (multiples_from d (suc i) ls) h in
      let e : suc i + j ≡ i + suc j = omega arith in
      multiple_at (suc i) ls a.1 j (omega arith) ∙ ap (λ (n : ℕ). n * d) e

  -- by n multiples of d, for a range below n × d
  pub grade_of_multiples : (ls : List ℕ) (r : ℕ) → rising ls ≡ true → multiples_from d 0 ls ≡ true → r < length ls * d →
      grade_by ls r ≡ r / d
  grade_of_multiples ls r up even top = by (grade_by ls r) (graded ls r up)
    where
      by : (k : ℕ) → Graded ls r k → k ≡ r / d
      by k g =
          let low : k * d ≤ r = omega (arith, g.limit, multiple_at 0 ls even k g.line) in
          sym (div-eq_of_lt-le d low (above (ltb (k + 1) (length ls)) refl))
        where
          above : (t : Bool) → ltb (k + 1) (length ls) ≡ t → r < (k + 1) * d
          above true e =
              let n = ltb-true (k + 1) (length ls) e in
              omega (arith, g.next n, multiple_at 0 ls even (k + 1) n)
          above false e =
              let n = ltb-false (k + 1) (length ls) e in
              let q : length ls ≡ k + 1 = omega (arith, g.line) in
              rw q at top

-- ---- the printed tables

old_rises : rising old_limits ≡ true
unfolding old_limits
old_rises = refl

new_rises : rising new_limits ≡ true
unfolding new_limits
new_rises = refl

-- each list passes the test
pub limits_rise : (c : ℕ) → rising (limits_of c) ≡ true
limits_rise c = go (c == 2)
  where
    go : (t : Bool) → rising (t ⇒ new_limits else old_limits) ≡ true
    go true = new_rises
    go false = old_rises

-- by the old list, for every range that a graph can have
pub old_grade : (r : ℕ) → r ≤ 9999 → grade_by old_limits r ≡ r / 250
unfolding old_limits
old_grade r h = grade_of_multiples 250 old_limits r old_rises refl (omega arith)

-- by the new list
pub new_grade : (r : ℕ) → r ≤ 9999 → grade_by new_limits r ≡ r / 200
unfolding new_limits
new_grade r h = grade_of_multiples 200 new_limits r new_rises refl (omega arith)

-- the new list has the most lines
pub lines_le : (c : ℕ) → length (limits_of c) ≤ 50
unfolding new_limits old_limits
lines_le c = go (c == 2)
  where
    go : (t : Bool) → length (t ⇒ new_limits else old_limits) ≤ 50
    go true = omega arith
    go false = omega arith

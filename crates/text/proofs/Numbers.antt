-- Reading a number byte by byte gives its value where it is good.
use Rattle.std.specs.Prelude.{◌==◌}
use Prim.Native.Nat.{ℕ, suc, ◌+◌, ◌-◌, ◌*◌, ◌^◌, ◌≤◌, ◌<◌}
use mathlib.Core.Path.{◌≡◌, refl, sym, ap, ◌∙◌}
use mathlib.Core.Bool.{Bool, true, false, not, ◌&&◌, ◌||◌}
use mathlib.Core.List.{List, [], ◌∷◌, ◌++◌}
use native.Mathlib.Omega.{arith}
use lib.ListN.{length}
use lib.Dec.{ltb}
use borrow.Author.Tests.{lt-ltb, le-ltb, ltb-true, ltb-false, leb-true, eqb-true, eqb-false, ne_eqb}
use Rattle.lists.specs.Choice.{◌⇒◌else◌}
use Rattle.lists.specs.Lists.{all}
use Rattle.lists.proofs.Bools.{and_true, ft, and_false}
use Rattle.decimal.specs.Decimal.{value_of}
use Rattle.text.specs.Reading.{digit, good_number}
use Rattle.text.specs.declared.number.Number.{Number}
use Rattle.text.specs.declared.number.Number.TheVariants.{Empty, Value, Bad}
use Rattle.text.specs.Scan.{scan, more_digit, add_digit, digit_in, is_value}

pub and_true_right : (a : Bool) → (a && true) ≡ a
and_true_right true = refl
and_true_right false = refl

pub run_append : {S : Type 0} (f : S → ℕ → S) (s : S) (xs ys : List ℕ) → scan f s (xs ++ ys) ≡ scan f (scan f s xs) ys
run_append f s [] ys = refl
run_append f s (x ∷ xs) ys = run_append f (f s x) xs ys

pub bad_digit : (x : ℕ) → digit_in Bad x ≡ Bad
unfolding digit_in add_digit
bad_digit x = go (digit x)
  where
    go : (t : Bool) → (t ⇒ Bad else Bad) ≡ Bad
    go true = refl
    go false = refl

pub bad_stays : (xs : List ℕ) → scan digit_in Bad xs ≡ Bad
bad_stays [] = refl
bad_stays (x ∷ xs) = rw (bad_digit x) (bad_stays xs)

value_grows : (n : ℕ) (xs : List ℕ) → n ≤ value_of n xs
unfolding value_of
value_grows n [] = omega arith
value_grows n (x ∷ xs) = omega (arith, value_grows (10 * n + (x - 48)) xs)

-- after a number that does not begin with 0
from_value : (xs : List ℕ) (v : ℕ) → 1 ≤ v → v < 2 ^ 32 → scan digit_in (Value v) xs ≡ ((all digit xs && ltb (value_of v xs) (2 ^ 32)) ⇒ Value (value_of v xs) else Bad)
unfolding value_of digit_in add_digit more_digit
from_value [] v p q = rw (lt-ltb v (2 ^ 32) q)
from_value (x ∷ xs) v p q = go (λ w h k. from_value xs w h k) (digit x) refl
  where
    go : ((u : ℕ) → 1 ≤ u → u < 2 ^ 32 → scan digit_in (Value u) xs ≡ ((all digit xs && ltb (value_of u xs) (2 ^ 32)) ⇒ Value (value_of u xs) else Bad)) →
        (t : Bool) → digit x ≡ t → scan digit_in (digit_in (Value v) x) xs
        ≡ (((digit x && all digit xs) && ltb (value_of (10 * v + (x - 48)) xs) (2 ^ 32)) ⇒ Value (value_of (10 * v + (x - 48)) xs) else Bad)
    go ih false e = rw e (bad_stays xs)
    go ih true e = simp (e, ne_eqb v 0 (λ z. omega arith)) (more (ltb (10 * v + (x - 48)) (2 ^ 32)) refl)
      where
        more : (t : Bool) → ltb (10 * v + (x - 48)) (2 ^ 32) ≡ t → scan digit_in (t ⇒ Value (10 * v + (x - 48)) else Bad) xs
            ≡ ((all digit xs && ltb (value_of (10 * v + (x - 48)) xs) (2 ^ 32)) ⇒ Value (value_of (10 * v + (x - 48)) xs) else Bad)
        more true f = ih (10 * v + (x - 48)) (omega arith) (ltb-true _ _ f)
        more false f =
            let g : 2 ^ 32 ≤ 10 * v + (x - 48) = ltb-false _ _ f in
            rw (le-ltb (value_of (10 * v + (x - 48)) xs) (2 ^ 32) (omega (arith, value_grows (10 * v + (x - 48)) xs)), and_false (all digit xs)) (bad_stays xs)

-- what a whole piece reads as
abbrev pub number_of : List ℕ → Number
number_of [] = Empty
number_of (x ∷ xs) = good_number (x ∷ xs) ⇒ Value (value_of 0 (x ∷ xs)) else Bad

zero_digit : (y : ℕ) → digit_in (Value 0) y ≡ Bad
unfolding digit_in add_digit more_digit
zero_digit y = go (digit y)
  where
    go : (t : Bool) → (t ⇒ Bad else Bad) ≡ Bad
    go true = refl
    go false = refl

not_last : (a : Bool) (l : ℕ) (b : Bool) → (a && (suc l == 0) && b) ≡ false
not_last true l b = rw (ne_eqb (suc l) 0 (λ z. omega arith))
not_last false l b = refl

first_zero : (xs : List ℕ) → scan digit_in (Value 0) xs ≡ ((all digit xs && (length xs == 0) && ltb (value_of 0 xs) (2 ^ 32)) ⇒ Value (value_of 0 xs) else Bad)
unfolding value_of
first_zero [] = refl
first_zero (y ∷ ys) =
    ap (λ (n : Number). scan digit_in n ys) (zero_digit y) ∙ bad_stays ys ∙ sym (ap (λ (t : Bool). t ⇒ Value (value_of 0 (y ∷ ys)) else Bad) (not_last (all digit (y ∷ ys)) (length ys) _))

pub number_law : (p : List ℕ) → scan digit_in Empty p ≡ number_of p
unfolding good_number value_of digit_in add_digit
number_law [] = refl
number_law (x ∷ xs) = go (digit x) refl
  where
    v : 10 * 0 + (x - 48) ≡ x - 48
    v = omega arith

    go : (t : Bool) → digit x ≡ t → scan digit_in (digit_in Empty x) xs ≡ number_of (x ∷ xs)
    go false e = rw e (bad_stays xs)
    go true e = simp (e, v) (zero (x == 48) refl)
      where
        both : (48 ≤ x) × (x ≤ 57)
        both = let a = and_true _ _ e in (leb-true _ _ a.0, leb-true _ _ a.1)

        zero : (t : Bool) → (x == 48) ≡ t →
            scan digit_in (Value (x - 48)) xs ≡ ((all digit xs && (not t || (length xs == 0)) && ltb (value_of (x - 48) xs) (2 ^ 32)) ⇒ Value (value_of (x - 48) xs) else Bad)
        zero true f =
            let z : x - 48 ≡ 0 = omega (arith, eqb-true x 48 f) in
            rw z (first_zero xs)
        zero false f = rw (and_true_right (all digit xs)) (from_value xs (x - 48) (omega (arith, eqb-false x 48 f, both.0)) (omega (arith, both.1)))

pub number_good : (p : List ℕ) → is_value (scan digit_in Empty p) ≡ good_number p
unfolding good_number
number_good p = ap is_value (number_law p) ∙ go p
  where
    go : (q : List ℕ) → is_value (number_of q) ≡ good_number q
    go [] = refl
    go (x ∷ xs) = pick (good_number (x ∷ xs))
      where
        pick : (t : Bool) → is_value (t ⇒ Value (value_of 0 (x ∷ xs)) else Bad) ≡ t
        pick true = refl
        pick false = refl

pub number_value : (p : List ℕ) → good_number p ≡ true → scan digit_in Empty p ≡ Value (value_of 0 p)
unfolding good_number
number_value p e = number_law p ∙ go p e
  where
    go : (q : List ℕ) → good_number q ≡ true → number_of q ≡ Value (value_of 0 q)
    go [] f = ft f
    go (x ∷ xs) f = rw f

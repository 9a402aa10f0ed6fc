-- The digits of a number: one by one, how many they are, and that they are read back as the number.
use Prim.Native.Nat.{ℕ, zero, suc, ◌+◌, ◌-◌, ◌*◌, ◌/◌, ◌%◌, ◌^◌, ◌≤◌, ◌<◌}
use mathlib.Core.Path.{◌≡◌, refl, ap, ◌∙◌}
use mathlib.Core.Bool.{Bool, true, false}
use mathlib.Core.List.{List, [], ◌∷◌, ◌++◌}
use native.Mathlib.Omega.{arith}
use native.Mathlib.Numerals.{unary_clauses}
use lib.ListN.{length, replicate, length-append}
use lib.Dec.{ltb}
use borrow.Author.Tests.{lt-ltb, le-ltb}
use Rattle.lists.specs.Choice.{◌⇒◌else◌}
use Rattle.decimal.specs.Decimal.{digits, value_of}

pub one_digit : (n : ℕ) → n < 10 → digits 10 n ≡ (48 + n) ∷ []
unfolding digits
one_digit n h = rw (lt-ltb n 10 h)

-- one more than enough changes nothing
enough : (f n : ℕ) → n < 10 ^ suc f → digits (suc f) n ≡ digits (suc (suc f)) n
unfolding digits
enough zero n h = rw (lt-ltb n 10 h)
enough (suc f) n h = go (enough f (n / 10)) (ltb n 10) refl
  where
    go : (n / 10 < 10 ^ suc f → digits (suc f) (n / 10) ≡ digits (suc (suc f)) (n / 10)) → (t : Bool) → ltb n 10 ≡ t →
        (t ⇒ ((48 + n) ∷ []) else (digits (suc f) (n / 10) ++ ((48 + n % 10) ∷ []))) ≡ (t ⇒ ((48 + n) ∷ []) else (digits (suc (suc f)) (n / 10) ++ ((48 + n % 10) ∷ [])))
    go ih true e = refl
    go ih false e = ap (λ (l : List ℕ). l ++ ((48 + n % 10) ∷ [])) (ih (omega (arith, simp unary_clauses at h)))

pub more_digits : (n : ℕ) → 10 ≤ n → n < 2 ^ 32 → digits 10 n ≡ digits 10 (n / 10) ++ ((48 + n % 10) ∷ [])
unfolding digits
more_digits n h k = rw (le-ltb n 10 h) (ap (λ (l : List ℕ). l ++ ((48 + n % 10) ∷ [])) (enough 8 (n / 10) (omega arith)))

pub more_length : (n : ℕ) → 10 ≤ n → n < 2 ^ 32 → length (digits 10 n) ≡ length (digits 10 (n / 10)) + 1
more_length n h k = simp length-append at (ap length (more_digits n h k))

pub digits_most : (f n : ℕ) → length (digits f n) ≤ f
unfolding digits
digits_most zero n = omega arith
digits_most (suc f) n = go (digits_most f (n / 10)) (ltb n 10)
  where
    go : length (digits f (n / 10)) ≤ f → (t : Bool) → length (t ⇒ ((48 + n) ∷ []) else (digits f (n / 10) ++ ((48 + n % 10) ∷ []))) ≤ suc f
    go ih true = omega arith
    go ih false = omega (arith, length-append (digits f (n / 10)) ((48 + n % 10) ∷ []))

-- ---- reading back

pub value_append : (n : ℕ) (xs ys : List ℕ) → value_of n (xs ++ ys) ≡ value_of (value_of n xs) ys
unfolding value_of
value_append n [] ys = refl
value_append n (x ∷ xs) ys = value_append (10 * n + (x - 48)) xs ys

-- the digits of a number that has at most so many are read back as the number
pub digits_back : (f n : ℕ) → n < 10 ^ f → value_of 0 (digits f n) ≡ n
unfolding digits value_of
digits_back zero n h = omega (arith, simp unary_clauses at h)
digits_back (suc f) n h = go (digits_back f (n / 10)) (ltb n 10) refl
  where
    go : (n / 10 < 10 ^ f → value_of 0 (digits f (n / 10)) ≡ n / 10) → (t : Bool) → ltb n 10 ≡ t →
        value_of 0 (t ⇒ ((48 + n) ∷ []) else (digits f (n / 10) ++ ((48 + n % 10) ∷ []))) ≡ n
    go ih true e = omega arith
    go ih false e =
        let i : value_of 0 (digits f (n / 10)) ≡ n / 10 = ih (omega (arith, simp unary_clauses at h)) in
        value_append 0 (digits f (n / 10)) ((48 + n % 10) ∷ []) ∙ omega (arith, i)

-- spaces before digits are no digits
pub spaces_value : (k : ℕ) (xs : List ℕ) → value_of 0 (replicate k 32 ++ xs) ≡ value_of 0 xs
unfolding value_of
spaces_value zero xs = refl
spaces_value (suc k) xs = spaces_value k xs

-- Numbers by their binary digits: one digit read, one digit changed, the count of ones.
use Rattle.std.specs.Prelude.{◌==◌}
use Prim.Native.Nat.{ℕ, zero, suc, ◌+◌, ◌-◌, ◌*◌, ◌/◌, ◌%◌, ◌^◌, ◌≤◌, ◌<◌}
use mathlib.Core.Bool.{Bool, true, false}
use mathlib.Core.Path.{◌≡◌, refl, sym, ap, subst, ◌∙◌}
use mathlib.Core.Logic.{◌≢◌}
use mathlib.Core.List.{List, [], ◌∷◌, ◌++◌}
use native.Mathlib.Omega.{arith}
use native.Mathlib.Nat.{div-div-eq-div-mul, div-eq_of_lt, div-one, zero-div, pow-suc, pow-zero, mul_comm, one-mul, mod-eq_of_lt}
use borrow.Author.Tests.{eq-eqb, ne_eqb}
use lib.Pow.{pow-lt, pow-add, shr-shr}
use lib.Bits.{bit_and, bit_or, bit_xor, and_high, or_add_and, xor_add_and}
use lib.Count.{ones, ones_step, count_trailing_zeros, under}
use lib.ListN.{length}
use Rattle.lists.specs.Choice.{◌⇒◌else◌, to_bit}
use Rattle.lists.specs.Lists.{filter, range}
use Rattle.lists.proofs.Picks.{same, differ, same?}
use Rattle.lists.proofs.Sums.{bit_le}
use Rattle.marks.specs.Marked.{binary}

module _ (n k : ℕ) (b : ℕ → Bool) where
  half : (to_bit (b k) + 2 * binary n (suc k) b) / 2 ≡ binary n (suc k) b
  half = omega (arith, bit_le (b k))

  odd : (to_bit (b k) + 2 * binary n (suc k) b) % 2 ≡ to_bit (b k)
  odd = omega (arith, bit_le (b k))

bit_odd : (x : ℕ) → to_bit (x % 2 == 1) ≡ x % 2
bit_odd x = elim (same? (x % 2) 1) [ same e f ↦ rw (eq-eqb _ _ e) (sym e) | differ e f ↦ rw (ne_eqb _ _ e) (omega arith) ]

pub digits_at : (n k i : ℕ) (b : ℕ → Bool) → i < n → binary n k b / 2 ^ i % 2 ≡ to_bit (b (k + i))
unfolding binary
digits_at zero k i b h = absurd (omega arith)
digits_at (suc n) k zero b h =
    let e : k + 0 ≡ k = omega arith in
    rw e (omega (arith, bit_le (b k)))
digits_at (suc n) k (suc i) b h =
    let c : 2 ^ suc i ≡ 2 * 2 ^ i = pow-suc 2 i ∙ mul_comm (2 ^ i) 2 in
    let e : k + suc i ≡ suc k + i = omega arith in
    rw (e, c, ← div-div-eq-div-mul (to_bit (b k) + 2 * binary n (suc k) b) 2 (2 ^ i), half n k b) (digits_at n (suc k) i b (omega arith))

pub digits_agree : (n k : ℕ) (b c : ℕ → Bool) → ((j : ℕ) → k ≤ j → j < k + n → c j ≡ b j) → binary n k c ≡ binary n k b
unfolding binary
digits_agree zero k b c h = refl
digits_agree (suc n) k b c h = rw (h k (omega arith) (omega arith), digits_agree n (suc k) b c (λ j l u. h j (omega arith) (omega arith)))

-- digit i is 0 in one and 1 in the other, and the others agree
pub digits_more : (n k i : ℕ) (b c : ℕ → Bool) → i < n → ((j : ℕ) → j ≢ k + i → c j ≡ b j) → b (k + i) ≡ false → c (k + i) ≡ true → binary n k c ≡ binary n k b + 2 ^ i
unfolding binary
digits_more zero k i b c h f x y = absurd (omega arith)
digits_more (suc n) k zero b c h f x y =
    let e : k + 0 ≡ k = omega arith in
    let p : b k ≡ false = ap b (sym e) ∙ x in
    let q : c k ≡ true = ap c (sym e) ∙ y in
    rw (p, q, digits_agree n (suc k) b c (λ j l u. f j (λ z. omega arith))) (omega arith)
digits_more (suc n) k (suc i) b c h f x y =
    let e : k + suc i ≡ suc k + i = omega arith in
    rw (f k (λ z. omega arith))
    (omega (arith, digits_more n (suc k) i b c (omega arith) (λ j z. f j (λ w. z (w ∙ e))) (ap b (sym e) ∙ x) (ap c (sym e) ∙ y), pow-suc 2 i))

-- a number's digits from digit m on, where it has none at m + n or above
pub digits_of : (n m s : ℕ) → s < 2 ^ (m + n) → s / 2 ^ m ≡ binary n (suc m) (λ j. s / 2 ^ (j - 1) % 2 == 1)
unfolding binary
digits_of zero m s h =
    let e : m + 0 ≡ m = omega arith in
    div-eq_of_lt (subst (λ (x : ℕ). s < 2 ^ x) e h)
digits_of (suc n) m s h =
    let e : m + suc n ≡ suc m + n = omega arith in
    let f : suc m - 1 ≡ m = omega arith in
    let d : s / 2 ^ suc m ≡ s / 2 ^ m / 2 = ap (λ (x : ℕ). s / x) (pow-suc 2 m) ∙ sym (div-div-eq-div-mul s (2 ^ m) 2) in
    rw (f, ← digits_of n (suc m) s (subst (λ (x : ℕ). s < 2 ^ x) e h), d, bit_odd (s / 2 ^ m)) (omega arith)

-- digits past the last are 0
pub digit_past : (s a i : ℕ) → s / 2 ^ a ≡ 0 → a ≤ i → s / 2 ^ i ≡ 0
digit_past s a i e h =
    let f : a + (i - a) ≡ i = omega arith in
    ap (λ (x : ℕ). s / 2 ^ x) (sym f) ∙ sym (shr-shr s a (i - a)) ∙ ap (λ (x : ℕ). x / 2 ^ (i - a)) e ∙ zero-div (2 ^ (i - a))

-- ---- the lowest one

-- a number that is not 0 has its lowest one among its digits, and zeros below it
pub record Lowest (d n z : ℕ) : Type 0 where
  pub inside : z < d
  pub one : n / 2 ^ z % 2 ≡ 1
  pub below : (j : ℕ) → j < z → n / 2 ^ j % 2 ≡ 0

pub lowest : (d n : ℕ) → n ≢ 0 → n < 2 ^ d → Lowest d n (count_trailing_zeros d n)
unfolding count_trailing_zeros
lowest zero n h l = absurd (h (omega (arith, subst (λ (x : ℕ). n < x) (pow-zero 2) l)))
lowest (suc d) n h l = go (n % 2) refl (λ (e : n % 2 ≡ 0). lowest d (n / 2) (λ z. h (omega (arith, e))) (omega (arith, l, pow-suc 2 d)))
  where
    half_of : (i : ℕ) → n / 2 ^ suc i ≡ n / 2 / 2 ^ i
    half_of i =
        let c : 2 ^ suc i ≡ 2 * 2 ^ i = pow-suc 2 i ∙ mul_comm (2 ^ i) 2 in
        ap (λ (x : ℕ). n / x) c ∙ sym (div-div-eq-div-mul n 2 (2 ^ i))

    even : n % 2 ≡ 0 → Lowest d (n / 2) (count_trailing_zeros d (n / 2)) → Lowest (suc d) n (suc (count_trailing_zeros d (n / 2)))
    even e r = record {
      inside = omega (arith, r.inside);
      one = ap (λ (x : ℕ). x % 2) (half_of (count_trailing_zeros d (n / 2))) ∙ r.one;
      below = λ j u. under_it j u;
    }
      where
        under_it : (j : ℕ) → j < suc (count_trailing_zeros d (n / 2)) → n / 2 ^ j % 2 ≡ 0
        under_it zero u = ap (λ (x : ℕ). n / x % 2) (pow-zero 2) ∙ ap (λ (x : ℕ). x % 2) (div-one n) ∙ e
        under_it (suc j) u = ap (λ (x : ℕ). x % 2) (half_of j) ∙ r.below j (omega arith)

    go : (r : ℕ) → n % 2 ≡ r → (n % 2 ≡ 0 → Lowest d (n / 2) (count_trailing_zeros d (n / 2))) → Lowest (suc d) n (under r (count_trailing_zeros d (n / 2)))
    go zero e f = even e (f e)
    go (suc r) e f = record {
      inside = omega arith;
      one = ap (λ (x : ℕ). n / x % 2) (pow-zero 2) ∙ ap (λ (x : ℕ). x % 2) (div-one n) ∙ omega (arith, e);
      below = λ j u. absurd (omega arith);
    }

-- ---- the count of ones

tally : ℕ → ℕ → (ℕ → Bool) → ℕ
tally zero k b = 0
tally (suc n) k b = to_bit (b k) + tally n (suc k) b

ones_tally : (n k : ℕ) (b : ℕ → Bool) → ones (binary n k b) ≡ tally n k b
unfolding binary tally ones
ones_tally zero k b = refl
ones_tally (suc n) k b = rw (ones_step (to_bit (b k) + 2 * binary n (suc k) b), half n k b, odd n k b, ones_tally n (suc k) b)

tally_last : (n k : ℕ) (b : ℕ → Bool) → tally (suc n) k b ≡ tally n k b + to_bit (b (k + n))
unfolding tally
tally_last zero k b =
    let e : k + 0 ≡ k = omega arith in
    rw e (omega arith)
tally_last (suc n) k b =
    let e : k + suc n ≡ suc k + n = omega arith in
    rw e (omega (arith, tally_last n (suc k) b))

keep_last : (p : ℕ → Bool) (xs : List ℕ) (x : ℕ) → length (filter p (xs ++ (x ∷ []))) ≡ length (filter p xs) + to_bit (p x)
keep_last p [] x = go (p x)
  where
    go : (t : Bool) → length (t ⇒ (x ∷ []) else []) ≡ 0 + to_bit t
    go true = refl
    go false = refl
keep_last p (y ∷ xs) x = go (keep_last p xs x) (p y)
  where
    go : length (filter p (xs ++ (x ∷ []))) ≡ length (filter p xs) + to_bit (p x) → (t : Bool) →
        length (t ⇒ (y ∷ filter p (xs ++ (x ∷ []))) else filter p (xs ++ (x ∷ []))) ≡ length (t ⇒ (y ∷ filter p xs) else filter p xs) + to_bit (p x)
    go h true = omega (arith, h)
    go h false = h

keep_tally : (n : ℕ) (b : ℕ → Bool) → length (filter (λ i. b (suc i)) (range n)) ≡ tally n 1 b
unfolding tally
keep_tally zero b = refl
keep_tally (suc n) b =
    let e : 1 + n ≡ suc n = omega arith in
    keep_last (λ i. b (suc i)) (range n) n ∙ ap (λ (x : ℕ). x + to_bit (b (suc n))) (keep_tally n b) ∙ ap (λ (x : ℕ). tally n 1 b + to_bit (b x)) (sym e) ∙ sym (tally_last n 1 b)

-- the count of ones of digits 1 to n is how many of the first n hold
pub ones_count : (n : ℕ) (b : ℕ → Bool) → ones (binary n 1 b) ≡ length (filter (λ i. b (suc i)) (range n))
ones_count n b = ones_tally n 1 b ∙ sym (keep_tally n b)

-- ---- one bit put in, taken out

pub one_shl : (k : ℕ) → k < 64 → (1 * 2 ^ k) % 2 ^ 64 ≡ 2 ^ k
one_shl k h = rw (one-mul (2 ^ k)) (mod-eq_of_lt (pow-lt h))

and_bit : (n k : ℕ) → bit_and n (2 ^ k) ≡ (n / 2 ^ k % 2) * 2 ^ k
and_bit n k =
    let e : 2 ^ (1 + k) - 2 ^ k ≡ 2 ^ k = omega (arith, pow-add 2 1 k) in
    rw e at (and_high n 1 k)

pub or_bit : (n k : ℕ) → n / 2 ^ k % 2 ≡ 0 → bit_or n (2 ^ k) ≡ n + 2 ^ k
or_bit n k h = omega (arith, or_add_and n (2 ^ k), rw h at (and_bit n k))

pub or_same : (n k : ℕ) → n / 2 ^ k % 2 ≡ 1 → bit_or n (2 ^ k) ≡ n
or_same n k h = omega (arith, or_add_and n (2 ^ k), rw h at (and_bit n k))

pub xor_bit : (n k : ℕ) → n / 2 ^ k % 2 ≡ 1 → bit_xor n (2 ^ k) + 2 ^ k ≡ n
xor_bit n k h = omega (arith, xor_add_and n (2 ^ k), rw h at (and_bit n k))

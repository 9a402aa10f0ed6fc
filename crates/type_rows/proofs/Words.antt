-- Words by their bits: how the operations on words act on `word_of`.
use Rattle.std.specs.Prelude.{◌==◌}
use Prim.Native.Nat.{ℕ, zero, suc, ◌+◌, ◌-◌, ◌*◌, ◌/◌, ◌%◌, ◌^◌, ◌≤◌, ◌<◌}
use mathlib.Core.Path.{◌≡◌, refl, sym, ap, ap₂, ◌∙◌}
use mathlib.Core.Bool.{Bool, true, false, ◌&&◌, ◌||◌}
use mathlib.Core.List.{[], ◌∷◌}
use native.Mathlib.Omega.{arith}
use native.Mathlib.Nat.{zero-div, mod-one, mod-lt, mod-eq_of_lt, pow-suc, div-eq_of_lt, lt_of_lt_of_le}
use native.Mathlib.Numerals.{one-add}
use lib.Arith.{digits_lt}
use lib.Bits.{bit_or, or_block}
use lib.Dec.{ltb}
use lib.Pow.{pow_mono, high, low, field, mod-mod-pow, mod-pow-add}
use borrow.Author.Tests.{lt-ltb, le-ltb, ltb-true, ltb-false}
use Rattle.lists.specs.Choice.{to_bit}
use Rattle.lists.specs.Lists.{range}
use Rattle.lists.proofs.Picks.{Same, same, differ, same?}
use Rattle.lists.proofs.Sums.{sum_append}
use Rattle.type_rows.specs.Closure.{word_of}

pub bit_lt : (b : Bool) → to_bit b < 2
bit_lt true = omega arith
bit_lt false = omega arith

pub bit_test : (b : Bool) → (to_bit b == 1) ≡ b
bit_test true = refl
bit_test false = refl

test_bit : (x : ℕ) → x < 2 → to_bit (x == 1) ≡ x
test_bit zero h = refl
test_bit (suc zero) h = refl
test_bit (suc (suc x)) h = absurd (omega arith)

module _ (f : ℕ → Bool) where
  word_suc : (n : ℕ) → word_of (suc n) f ≡ to_bit (f n) * 2 ^ n + word_of n f
  unfolding word_of
  word_suc n = omega (arith, sum_append (λ t. to_bit (f t) * 2 ^ t) (range n) (n ∷ []))

  pub word_lt : (n : ℕ) → word_of n f < 2 ^ n
  unfolding word_of
  word_lt zero = omega arith
  word_lt (suc n) = rw word_suc (omega (arith, digits_lt {q = to_bit (f n)} {m = 2} (bit_lt (f n)) (word_lt n), pow-suc 2 n))

  -- no bit
  pub none_word : (n : ℕ) → ((t : ℕ) → t < n → f t ≡ false) → word_of n f ≡ 0
  unfolding word_of
  none_word zero h = refl
  none_word (suc n) h = rw (word_suc, h n (omega arith), none_word n (λ t i. h t (omega arith))) (omega arith)

  -- one bit
  pub one_word : (n s : ℕ) → s < n → f s ≡ true → ((t : ℕ) → (t ≡ s → ⊥) → f t ≡ false) → word_of n f ≡ 2 ^ s
  one_word zero s l e d = absurd (omega arith)
  one_word (suc n) s l e d = elim (same? n s) [
    | same p q ↦
        let z : word_of n f ≡ 0 = none_word n (λ t h. d t (omega arith)) in
        let o : f n ≡ true = ap f p ∙ e in
        rw (word_suc, o, z, p) (omega arith)
    | differ p q ↦ rw (word_suc, d n p) (omega (arith, one_word n s (omega arith) e d))
  ]

-- bits that agree
pub word_ext : (f g : ℕ → Bool) (n : ℕ) → ((t : ℕ) → t < n → f t ≡ g t) → word_of n f ≡ word_of n g
unfolding word_of
word_ext f g zero h = refl
word_ext f g (suc n) h = rw (word_suc f n, word_suc g n, h n (omega arith), word_ext f g n (λ t i. h t (omega arith)))

-- `or` of two words is `or` of their bits
or_bits : (a b : Bool) → bit_or (to_bit a) (to_bit b) ≡ to_bit (a || b)
or_bits true true = refl
or_bits true false = refl
or_bits false true = refl
or_bits false false = refl

pub or_word : (f g : ℕ → Bool) (n : ℕ) → bit_or (word_of n f) (word_of n g) ≡ word_of n (λ t. f t || g t)
unfolding word_of
or_word f g zero = refl
or_word f g (suc n) =
    ap₂ bit_or (word_suc f n) (word_suc g n)
    ∙ or_block n (to_bit (f n)) (to_bit (g n)) (word_of n f) (word_of n g) (word_lt f n) (word_lt g n)
    ∙ ap₂ (λ (x y : ℕ). x * 2 ^ n + y) (or_bits (f n) (g n)) (or_word f g n)
    ∙ sym (word_suc (λ t. f t || g t) n)

-- bit k lies in the n low bits
low_bits : (w n k : ℕ) → k < n → w / 2 ^ k % 2 ≡ w % 2 ^ n % 2 ^ (1 + k) / 2 ^ k
low_bits w n k h =
    let e : (n - 1 - k) + (1 + k) ≡ n = omega arith in
    sym (field w 1 k) ∙ ap (λ (x : ℕ). x / 2 ^ k) (sym (mod-mod-pow w (n - 1 - k) (1 + k))) ∙ ap (λ (j : ℕ). w % 2 ^ j % 2 ^ (1 + k) / 2 ^ k) e

-- bit k of a word
pub bit_word : (f : ℕ → Bool) (n k : ℕ) → word_of n f / 2 ^ k % 2 ≡ to_bit (ltb k n && f k)
unfolding word_of
bit_word f zero k = rw (zero-div (2 ^ k), le-ltb k 0 (omega arith))
bit_word f (suc n) k = go (bit_word f n k) (ltb k n) refl (same? k n)
  where
    go : word_of n f / 2 ^ k % 2 ≡ to_bit (ltb k n && f k) → (b : Bool) → ltb k n ≡ b → Same k n → word_of (suc n) f / 2 ^ k % 2 ≡ to_bit (ltb k (suc n) && f k)
    go ih true l _ =
        let h : k < n = ltb-true k n l in
        let r : word_of (suc n) f % 2 ^ n ≡ word_of n f % 2 ^ n =
        ap (λ (x : ℕ). x % 2 ^ n) (word_suc f n) ∙ low (to_bit (f n)) n (word_lt f n) ∙ sym (mod-eq_of_lt (word_lt f n))
        in
        low_bits (word_of (suc n) f) n k h ∙ ap (λ (x : ℕ). x % 2 ^ (1 + k) / 2 ^ k) r ∙ sym (low_bits (word_of n f) n k h) ∙ ih
        ∙ ap (λ (b : Bool). to_bit (b && f k)) (l ∙ sym (lt-ltb k (suc n) (omega arith)))
    go ih false l (same p q) =
        rw (p, word_suc f n, high (to_bit (f n)) n (word_lt f n), lt-ltb n (suc n) (omega arith)) (mod-eq_of_lt (bit_lt (f n)))
    go ih false l (differ p q) =
        let h : n ≤ k = ltb-false k n l in
        rw (div-eq_of_lt (lt_of_lt_of_le (word_lt f (suc n)) (pow_mono {i = suc n} {j = k} (omega arith))), le-ltb k (suc n) (omega arith))

-- the n low bits of any number
digits : (w n : ℕ) → w % 2 ^ n ≡ word_of n (λ t. w / 2 ^ t % 2 == 1)
unfolding word_of
digits w zero = mod-one w
digits w (suc n) =
    ap (λ (j : ℕ). w % 2 ^ j) (sym (one-add n)) ∙ mod-pow-add w 1 n
    ∙ ap₂ (λ (x y : ℕ). x * 2 ^ n + y) (sym (test_bit (w / 2 ^ n % 2) (mod-lt (w / 2 ^ n) (omega arith)))) (digits w n)
    ∙ sym (word_suc (λ t. w / 2 ^ t % 2 == 1) n)

pub word_digits : (w n : ℕ) → w < 2 ^ n → w ≡ word_of n (λ t. w / 2 ^ t % 2 == 1)
word_digits w n h = sym (mod-eq_of_lt h) ∙ digits w n

-- a number under 2 ^ n is one with no bit n or above
pub high_bits : (w n t : ℕ) → w < 2 ^ n → n ≤ t → w / 2 ^ t % 2 ≡ 0
high_bits w n t h i = ap (λ (x : ℕ). x % 2) (div-eq_of_lt (lt_of_lt_of_le h (pow_mono i)))

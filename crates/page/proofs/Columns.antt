-- A right-aligned column: its length, its last byte, and the number read back.
use Prim.Native.Nat.{ℕ, suc, ◌+◌, ◌-◌, ◌/◌, ◌%◌, ◌^◌, ◌≤◌, ◌<◌}
use mathlib.Core.Path.{◌≡◌, sym, ap, ◌∙◌}
use mathlib.Core.List.{List, [], ◌∷◌, ◌++◌, append_assoc}
use native.Mathlib.Omega.{arith}
use lib.ListN.{length, replicate, length-append, length-replicate}
use borrow.Author.Tests.{lt-ltb, le-ltb, eq-eqb, ne_eqb}
use Rattle.decimal.specs.Decimal.{digits, value_of}
use Rattle.decimal.specs.Stored.{Stored}
use Rattle.decimal.proofs.Digits.{digits_most, digits_back, spaces_value}
use Rattle.graph.specs.Graph.{reading_of}
use Rattle.graph.specs.declared.Reading.{Reading}
use Rattle.graph.specs.declared.Reading.TheVariants.{Untested, Silent, Heard}
use Rattle.page.specs.Rows.{right_aligned, column, cell, silent_word, reading_text, reading_column}

-- a text that is not too long fills its columns
pub aligned_length : (w : ℕ) (xs : List ℕ) → length xs ≤ w → length (right_aligned w xs) ≡ w
unfolding right_aligned
aligned_length w xs h =
    let k = w - length xs in
    omega (arith, length-append (replicate k 32) xs, length-replicate {A = ℕ} k 32)

-- a number fills its columns, whatever it is
pub column_length : (w n : ℕ) → length (column w n) ≡ w
unfolding column
column_length w n = aligned_length w (digits w n) (digits_most w n)

pub reading_most : (r : Reading) → length (reading_text r) ≤ 6
unfolding reading_text
reading_most Untested = omega arith
reading_most Silent = omega arith
reading_most (Heard d) = digits_most 6 d

pub reading_length : (r : Reading) → length (reading_column r) ≡ 6
unfolding reading_column
reading_length r = aligned_length 6 (reading_text r) (reading_most r)

-- what stands in columns is read back, for any width
pub column_back : (w n : ℕ) → n < 10 ^ w → value_of 0 (column w n) ≡ n
unfolding column right_aligned
column_back w n h = spaces_value (w - length (digits w n)) (digits w n) ∙ digits_back w n h

-- ---- the same by one digit at a time, as the code writes it

pub column_one : (w n : ℕ) → n < 10 → column (suc w) n ≡ replicate w 32 ++ ((48 + n) ∷ [])
unfolding column right_aligned digits
column_one w n h =
    let e : suc w - 1 ≡ w = omega arith in
    rw (lt-ltb n 10 h) (ap (λ (k : ℕ). replicate k 32 ++ ((48 + n) ∷ [])) e)

pub column_more : (w n : ℕ) → 10 ≤ n → column (suc w) n ≡ column w (n / 10) ++ ((48 + n % 10) ∷ [])
unfolding column right_aligned digits
column_more w n h =
    let ds = digits w (n / 10) in
    let last = (48 + n % 10) ∷ [] in
    let e : suc w - length (ds ++ last) ≡ w - length ds = omega (arith, length-append ds last) in
    rw (le-ltb n 10 h)
    (ap (λ (k : ℕ). replicate k 32 ++ (ds ++ last)) e ∙ sym (append_assoc (replicate (w - length ds) 32) ds last))

-- the same three, with the width before them
pub stored_none : (w n at : ℕ) (l : List ℕ) → w ≡ 0 → Stored (column w n) at l l at
unfolding column right_aligned digits
stored_none w n at l e = record { place = omega (arith, column_length w n); stores = rw e }

pub column_single : (w n : ℕ) → (w ≡ 0 → ⊥) → n < 10 →
    replicate (w - 1) 32 ++ ((48 + n) ∷ []) ≡ column w n
column_single w n h k =
    let e : suc (w - 1) ≡ w = omega arith in
    sym (column_one (w - 1) n k) ∙ ap (λ (v : ℕ). column v n) e

pub column_tens : (w n : ℕ) → (w ≡ 0 → ⊥) → 10 ≤ n →
    column (w - 1) (n / 10) ++ ((48 + n % 10) ∷ []) ≡ column w n
column_tens w n h k =
    let e : suc (w - 1) ≡ w = omega arith in
    sym (column_more (w - 1) n k) ∙ ap (λ (v : ℕ). column v n) e

-- ---- a cell, and the three forms of a reading

pub cell_length : (w n : ℕ) → length (cell w n) ≡ w + 1
unfolding cell
cell_length w n = omega (arith, length-append (column w n) (32 ∷ []), column_length w n)

pub reading_hyphen : (k d : ℕ) → k ≡ 0 → ◌≡◌ {A = List ℕ} (32 ∷ 32 ∷ 32 ∷ 32 ∷ 32 ∷ 45 ∷ []) (reading_column (reading_of k d))
unfolding reading_column right_aligned reading_text
reading_hyphen k d e = rw (eq-eqb k 0 e)

pub reading_silent : (k d : ℕ) → (k ≡ 0 → ⊥) → k ≡ 1 → silent_word ≡ reading_column (reading_of k d)
unfolding reading_column right_aligned reading_text
reading_silent k d n e = rw (ne_eqb k 0 n, eq-eqb k 1 e)

pub reading_number : (k d : ℕ) → (k ≡ 0 → ⊥) → (k ≡ 1 → ⊥) → column 6 d ≡ reading_column (reading_of k d)
unfolding column reading_column reading_text
reading_number k d n e = rw (ne_eqb k 0 n, ne_eqb k 1 e)

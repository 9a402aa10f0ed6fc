-- Numbers with one space between, byte by byte: whether all are good, their values, and how many there can be.
use Rattle.std.specs.Prelude.{◌==◌}
use Prim.Native.Nat.{ℕ, ◌+◌, ◌*◌, ◌≤◌}
use mathlib.Core.Path.{◌≡◌, refl, sym, ap, ◌∙◌}
use mathlib.Core.Bool.{Bool, true, false, ◌&&◌}
use mathlib.Core.List.{List, [], ◌∷◌, ◌++◌, map, append-nil}
use native.Mathlib.Omega.{arith}
use lib.ListN.{length, length-append}
use Rattle.lists.specs.Choice.{◌⇒◌else◌}
use Rattle.lists.specs.Lists.{all, done, more}
use Rattle.lists.proofs.Bools.{ft, and_true}
use Rattle.decimal.specs.Decimal.{value_of}
use Rattle.text.specs.Reading.{pieces, good_number}
use Rattle.text.specs.Scan.{scan, digit_in, is_value, words_from}
use Rattle.text.specs.ImageLine.{field_in}
use Rattle.text.specs.declared.number.Number.{Number}
use Rattle.text.specs.declared.number.Number.TheVariants.{Empty, Bad}
use Rattle.text.proofs.Pieces.{Free, Parts, rest, cut, parts, pieces_rest, pieces_cut}
use Rattle.text.proofs.Numbers.{and_true_right, run_append, bad_digit, number_good}
use Rattle.text.proofs.Scans.{line_words}

-- bytes without a space belong to the number
free_field : {p : List ℕ} → Free 32 p → (n : Number) → scan field_in n p ≡ scan digit_in n p
unfolding field_in
free_field done n = refl
free_field (more {x = x} e f) n = rw e (free_field f (digit_in n x))

bad_byte : (x : ℕ) → field_in Bad x ≡ Bad
unfolding field_in
bad_byte x = rw (bad_digit x) (go (x == 32))
  where
    go : (t : Bool) → (t ⇒ Bad else Bad) ≡ Bad
    go true = refl
    go false = refl

bad_fields : (xs : List ℕ) → scan field_in Bad xs ≡ Bad
bad_fields [] = refl
bad_fields (x ∷ xs) = rw (bad_byte x) (bad_fields xs)

-- a space at the end of a piece
space_run : {p : List ℕ} → Free 32 p → (xs : List ℕ) →
    scan field_in Empty (p ++ 32 ∷ xs) ≡ scan field_in (good_number p ⇒ Empty else Bad) xs
unfolding field_in
space_run {p} f xs =
    run_append field_in Empty p (32 ∷ xs)
    ∙ ap (λ (n : Number). scan field_in n (32 ∷ xs)) (free_field f Empty)
    ∙ ap (λ (t : Bool). scan field_in (t ⇒ Empty else Bad) xs) (number_good p)

fields_from : {l : List ℕ} → Parts 32 l → is_value (scan field_in Empty l) ≡ all good_number (pieces 32 l)
fields_from (rest {p = p} f) =
    rw (free_field f Empty, pieces_rest 32 f) (number_good p ∙ sym (and_true_right (good_number p)))
fields_from (cut {p = p} {xs = xs} f q) = rw (space_run f xs, pieces_cut 32 f xs) (go (fields_from q) (good_number p))
  where
    go : is_value (scan field_in Empty xs) ≡ all good_number (pieces 32 xs) → (g : Bool) →
        is_value (scan field_in (g ⇒ Empty else Bad) xs) ≡ (g && all good_number (pieces 32 xs))
    go ih true = ih
    go ih false = ap is_value (bad_fields xs)

pub fields_law : (l : List ℕ) → is_value (scan field_in Empty l) ≡ all good_number (pieces 32 l)
fields_law l = fields_from (parts 32 l)

pub fields_words : (l : List ℕ) → all good_number (pieces 32 l) ≡ true →
    words_from Empty (l ++ 10 ∷ []) ≡ map (value_of 0) (pieces 32 l)
unfolding words_from
fields_words l e = line_words (parts 32 l) e [] ∙ append-nil (map (value_of 0) (pieces 32 l))

-- ---- two bytes a number, but for the last

good_some : (p : List ℕ) → good_number p ≡ true → 1 ≤ length p
unfolding good_number
good_some [] e = ft e
good_some (x ∷ xs) e = omega arith

few_from : {l : List ℕ} → Parts 32 l → all good_number (pieces 32 l) ≡ true → 2 * length (pieces 32 l) ≤ length l + 1
few_from (rest {p = p} f) e =
    let g = and_true (good_number p) true (ap (all good_number) (sym (pieces_rest 32 f)) ∙ e) in
    rw (pieces_rest 32 f) (omega (arith, good_some p g.0))
few_from (cut {p = p} {xs = xs} f q) e =
    let g = and_true (good_number p) (all good_number (pieces 32 xs)) (ap (all good_number) (sym (pieces_cut 32 f xs)) ∙ e) in
    rw (pieces_cut 32 f xs)
    (omega (arith, good_some p g.0, few_from q g.1, length-append p (32 ∷ xs)))

pub few_fields : (l : List ℕ) → all good_number (pieces 32 l) ≡ true → 2 * length (pieces 32 l) ≤ length l + 1
few_fields l e = few_from (parts 32 l) e

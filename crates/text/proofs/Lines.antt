-- Reading a line byte by byte tells whether it is good.
use Rattle.std.specs.Prelude.{◌==◌}
use Prim.Native.Nat.{ℕ, suc, ◌+◌, ◌-◌, ◌*◌, ◌^◌, ◌≤◌, ◌<◌}
use mathlib.Core.Path.{◌≡◌, refl, sym, ap, ◌∙◌}
use mathlib.Core.Bool.{Bool, true, false, ◌&&◌}
use mathlib.Core.List.{List, [], ◌∷◌, ◌++◌}
use native.Mathlib.Omega.{arith}
use lib.ListN.{length}
use lib.Dec.{ltb}
use borrow.Author.Tests.{ltb-true, ltb-false, lt-ltb, le-ltb, eq-eqb, ne_eqb}
use Rattle.lists.specs.Choice.{◌⇒◌else◌}
use Rattle.lists.specs.Lists.{all, done, more}
use Rattle.lists.proofs.Picks.{same, differ, same?}
use Rattle.text.specs.Reading.{digit, pieces, good_number, good_line}
use Rattle.text.specs.declared.number.Number.{Number}
use Rattle.text.specs.declared.number.Number.TheVariants.{Empty, Value, Bad}
use Rattle.text.specs.declared.line.Line.{Line}
use Rattle.text.specs.Scan.{scan, more_digit, add_digit, digit_in, is_value, blank, fresh_line, space_in, line_in, line_good, line_blank}
use Rattle.text.proofs.Pieces.{Free, Parts, rest, cut, parts, pieces_rest, pieces_cut, NonEmpty, nonempty, pieces_nonempty}
use Rattle.text.proofs.Numbers.{and_true_right, run_append, bad_digit, number_good}
use Rattle.lists.proofs.Bools.{and_false}

abbrev pub line : ℕ → Number → Line
line k n = record { fields = k; number = n }

-- bytes without a space belong to the number
pub free_line : {p : List ℕ} → Free 32 p → (k : ℕ) (n : Number) → scan line_in (line k n) p ≡ line k (scan digit_in n p)
unfolding line_in
free_line done k n = refl
free_line (more {x = x} e f) k n = rw e (free_line f k (digit_in n x))

bad_byte : (k x : ℕ) → line_in (line k Bad) x ≡ line k Bad
unfolding line_in space_in
bad_byte k x = rw (bad_digit x) (go (x == 32))
  where
    go : (t : Bool) → (t ⇒ line k Bad else line k Bad) ≡ line k Bad
    go true = refl
    go false = refl

bad_line : (xs : List ℕ) (k : ℕ) → scan line_in (line k Bad) xs ≡ line k Bad
bad_line [] k = refl
bad_line (x ∷ xs) k = rw (bad_byte k x) (bad_line xs k)

-- a space at the end of a piece
space_run : {p : List ℕ} → Free 32 p → (k : ℕ) (xs : List ℕ) → scan line_in (line k Empty) (p ++ 32 ∷ xs) ≡ scan line_in (space_in (line k (scan digit_in Empty p))) xs
unfolding line_in
space_run {p} f k xs = run_append line_in (line k Empty) p (32 ∷ xs) ∙ ap (λ (l : Line). scan line_in l (32 ∷ xs)) (free_line f k Empty)

module _ (k : ℕ) (p : List ℕ) where
  space_good : good_number p ≡ true → k < 4 → space_in (line k (scan digit_in Empty p)) ≡ line (k + 1) Empty
  unfolding space_in
  space_good e h = rw (number_good p, e, lt-ltb k 4 h)

  space_full : 4 ≤ k → space_in (line k (scan digit_in Empty p)) ≡ line k Bad
  unfolding space_in
  space_full h = rw (le-ltb k 4 h, and_false (is_value (scan digit_in Empty p)))

  space_bad : good_number p ≡ false → space_in (line k (scan digit_in Empty p)) ≡ line k Bad
  unfolding space_in
  space_bad e = rw (number_good p, e)

some : {ls : List (List ℕ)} → NonEmpty ls → 1 ≤ length ls
some (nonempty l ls) = omega arith

-- k numbers stand before the line
abbrev good_from : ℕ → List (List ℕ) → Bool
good_from k ls = (k + length ls == 5) && all good_number ls

pub same_test : (a b c d : ℕ) → (a ≡ b → c ≡ d) → (c ≡ d → a ≡ b) → (a == b) ≡ (c == d)
same_test a b c d h g = elim (same? a b) [
  | same e f ↦ eq-eqb a b e ∙ sym (eq-eqb c d (h e))
  | differ e f ↦ ne_eqb a b e ∙ sym (ne_eqb c d (λ z. e (g z)))
]

last_good : (g : Bool) (k : ℕ) → (g && (k == 4)) ≡ ((k + 1 == 5) && (g && true))
last_good true k = same_test k 4 (k + 1) 5 (λ e. omega arith) (λ e. omega arith) ∙ sym (and_true_right (k + 1 == 5))
last_good false k = sym (and_false (k + 1 == 5))

line_from : {l : List ℕ} → Parts 32 l → (k : ℕ) → k ≤ 4 → line_good (scan line_in (line k Empty) l) ≡ good_from k (pieces 32 l)
line_from (rest {p = p} f) k h = rw (free_line f k Empty, pieces_rest 32 f, number_good p) (last_good (good_number p) k)
line_from (cut {p = p} {xs = xs} f q) k h = rw (space_run f k xs, pieces_cut 32 f xs) (go (λ j i. line_from q j i) (good_number p) refl)
  where
    go : ((j : ℕ) → j ≤ 4 → line_good (scan line_in (line j Empty) xs) ≡ good_from j (pieces 32 xs)) → (g : Bool) → good_number p ≡ g →
        line_good (scan line_in (space_in (line k (scan digit_in Empty p))) xs) ≡ ((k + suc (length (pieces 32 xs)) == 5) && (g && all good_number (pieces 32 xs)))
    go ih false e = rw (space_bad k p e, bad_line xs k) (sym (and_false (k + suc (length (pieces 32 xs)) == 5)))
    go ih true e = room (ltb k 4) refl
      where
        room : (t : Bool) → ltb k 4 ≡ t → line_good (scan line_in (space_in (line k (scan digit_in Empty p))) xs) ≡ ((k + suc (length (pieces 32 xs)) == 5) && all good_number (pieces 32 xs))
        room true r =
            let i : k < 4 = ltb-true k 4 r in
            let m : k + 1 + length (pieces 32 xs) ≡ k + suc (length (pieces 32 xs)) = omega arith in
            rw (space_good k p e i) (ih (k + 1) (omega arith) ∙ ap (λ (j : ℕ). (j == 5) && all good_number (pieces 32 xs)) m)
        room false r =
            let i : 4 ≤ k = ltb-false k 4 r in
            rw (space_full k p i, bad_line xs k)
            (sym (ap (λ (t : Bool). t && all good_number (pieces 32 xs)) (ne_eqb (k + suc (length (pieces 32 xs))) 5 (λ z. omega (arith, some (pieces_nonempty 32 q))))))

pub line_law : (l : List ℕ) → line_good (scan line_in fresh_line l) ≡ good_line l
unfolding good_line
line_law l = line_from (parts 32 l) 0 (omega arith) ∙ ap (λ (j : ℕ). (j == 5) && all good_number (pieces 32 l)) z
  where
    z : 0 + length (pieces 32 l) ≡ length (pieces 32 l)
    z = omega arith

-- after a byte the line is not blank
digit_blank : (n : Number) (x : ℕ) → blank (digit_in n x) ≡ false
unfolding digit_in add_digit more_digit
digit_blank n x = go (digit x) n
  where
    go : (t : Bool) (m : Number) → blank (t ⇒ add_digit m (x - 48) else Bad) ≡ false
    go false m = refl
    go true Empty = refl
    go true Bad = refl
    go true (Value v) = pick (v == 0) (ltb (10 * v + (x - 48)) (2 ^ 32))
      where
        pick : (s t : Bool) → blank (s ⇒ Bad else t ⇒ Value (10 * v + (x - 48)) else Bad) ≡ false
        pick true t = refl
        pick false true = refl
        pick false false = refl

byte_blank : (l : Line) (x : ℕ) → line_blank (line_in l x) ≡ false
unfolding line_in space_in
byte_blank l x = go (x == 32)
  where
    space : (t : Bool) → line_blank (t ⇒ line (l.fields + 1) Empty else line l.fields Bad) ≡ false
    space true = rw (ne_eqb (l.fields + 1) 0 (λ z. omega arith))
    space false = refl

    go : (t : Bool) → line_blank (t ⇒ space_in l else line l.fields (digit_in l.number x)) ≡ false
    go true = space (is_value l.number && ltb l.fields 4)
    go false = rw (digit_blank l.number x)

bytes_blank : (xs : List ℕ) (l : Line) → line_blank l ≡ false → line_blank (scan line_in l xs) ≡ false
bytes_blank [] l e = e
bytes_blank (x ∷ xs) l e = bytes_blank xs (line_in l x) (byte_blank l x)

pub blank_law : (xs : List ℕ) → line_blank (scan line_in fresh_line xs) ≡ (length xs == 0)
blank_law [] = refl
blank_law (x ∷ xs) = bytes_blank xs (line_in fresh_line x) (byte_blank fresh_line x) ∙ sym (ne_eqb (suc (length xs)) 0 (λ z. omega arith))

-- Reading byte by byte is what Reading says.
use Rattle.std.specs.Prelude.{◌==◌}
use Prim.Native.Nat.{ℕ, suc, ◌+◌, ◌*◌, ◌≤◌}
use mathlib.Core.Path.{◌≡◌, refl, sym, ap, ◌∙◌}
use mathlib.Core.Bool.{Bool, true, false}
use mathlib.Core.List.{List, [], ◌∷◌, ◌++◌, map, append_assoc}
use native.Mathlib.Omega.{arith}
use lib.ListN.{length, length-append, length-map}
use borrow.Author.Tests.{leb-true, eqb-true, ne_eqb}
use Rattle.lists.specs.Choice.{◌⇒◌else◌}
use Rattle.lists.specs.Lists.{all, done, more}
use Rattle.lists.proofs.Bools.{ft, and_true}
use Rattle.decimal.specs.Decimal.{value_of}
use Rattle.text.specs.Reading.{digit, pieces, good_number, good_line, line_count, first_bad, words_in}
use Rattle.text.specs.declared.number.Number.{Number}
use Rattle.text.specs.declared.number.Number.TheVariants.{Empty}
use Rattle.text.specs.declared.line.Line.{Line}
use Rattle.text.specs.declared.line.Lines.{Lines}
use Rattle.text.specs.Scan.{scan, digit_in, fresh_line, fresh_lines, line_in, line_blank, bad_after, newline_in, byte_in, rest_in, field_ends, number_after, word_at, words_from}
use Rattle.text.proofs.Pieces.{Free, Parts, rest, cut, parts, pieces_rest, pieces_cut, NonEmpty, nonempty, pieces_nonempty}
use Rattle.text.proofs.Numbers.{run_append, number_value}
use Rattle.text.proofs.Lines.{line_law, blank_law}

abbrev lines : ℕ → ℕ → Line → Lines
lines a b l = record { ended = a; bad = b; line = l }

-- ---- counting the lines, and finding the first bad one

-- bytes without a newline belong to the line
free_lines : {p : List ℕ} → Free 10 p → (a b : ℕ) (l : Line) → scan byte_in (lines a b l) p ≡ lines a b (scan line_in l p)
unfolding byte_in
free_lines done a b l = refl
free_lines (more {x = x} e f) a b l = rw e (free_lines f a b (line_in l x))

newline_run : {p : List ℕ} → Free 10 p → (a b : ℕ) (xs : List ℕ) →
    scan byte_in (lines a b fresh_line) (p ++ 10 ∷ xs) ≡ scan byte_in (lines (a + 1) (bad_after b (a + 1) (good_line p)) fresh_line) xs
unfolding byte_in newline_in
newline_run {p} f a b xs =
    run_append byte_in (lines a b fresh_line) p (10 ∷ xs)
    ∙ ap (λ (s : Lines). scan byte_in s (10 ∷ xs)) (free_lines f a b fresh_line)
    ∙ ap (λ (t : Bool). scan byte_in (lines (a + 1) (bad_after b (a + 1) t) fresh_line) xs) (line_law p)

count_cons : (p : List ℕ) {ls : List (List ℕ)} → NonEmpty ls → line_count (p ∷ ls) ≡ 1 + line_count ls
unfolding line_count
count_cons p (nonempty l ls) = refl

bad_cons : (n : ℕ) (p : List ℕ) {ls : List (List ℕ)} → NonEmpty ls → first_bad n (p ∷ ls) ≡ (good_line p ⇒ first_bad (n + 1) ls else n)
unfolding first_bad
bad_cons n p (nonempty l ls) = refl

words_cons : (p : List ℕ) {ls : List (List ℕ)} → NonEmpty ls → words_in (p ∷ ls) ≡ map (value_of 0) (pieces 32 p) ++ words_in ls
unfolding words_in
words_cons p (nonempty l ls) = refl

bad_then : (b n m : ℕ) (g : Bool) → 1 ≤ n → ((bad_after b n g == 0) ⇒ m else bad_after b n g) ≡ ((b == 0) ⇒ (g ⇒ m else n) else b)
unfolding bad_after
bad_then b n m g h = go (b == 0) refl g
  where
    go : (t : Bool) → (b == 0) ≡ t → (g : Bool) → (((t ⇒ (g ⇒ 0 else n) else b) == 0) ⇒ m else (t ⇒ (g ⇒ 0 else n) else b)) ≡ (t ⇒ (g ⇒ m else n) else b)
    go true e true = refl
    go true e false = rw (ne_eqb n 0 (λ z. omega arith))
    go false e g = rw e

-- the rest, which is no line where it is empty
pub record Counted (s : Lines) (a b : ℕ) (ls : List (List ℕ)) : Type 0 where
  pub count : s.ended ≡ a + line_count ls
  pub found : s.bad ≡ ((b == 0) ⇒ first_bad (a + 1) ls else b)

rest_counted : (p : List ℕ) (a b : ℕ) → Counted (rest_in (lines a b (scan line_in fresh_line p))) a b (p ∷ [])
unfolding rest_in line_count first_bad bad_after
rest_counted p a b = go (length p == 0) refl
  where
    same : (t : Bool) → (b == 0) ≡ t → b ≡ (t ⇒ 0 else b)
    same true e = eqb-true b 0 e
    same false e = refl

    go : (t : Bool) → (length p == 0) ≡ t → Counted (rest_in (lines a b (scan line_in fresh_line p))) a b (p ∷ [])
    go true e = let f : line_blank (scan line_in fresh_line p) ≡ true = blank_law p ∙ e in record { count = rw (f, e) (omega arith); found = rw (f, e) (same (b == 0) refl) }
    go false e = let f : line_blank (scan line_in fresh_line p) ≡ false = blank_law p ∙ e in record { count = rw (f, e); found = rw (f, e) }

lines_from : {xs : List ℕ} → Parts 10 xs → (a b : ℕ) → Counted (rest_in (scan byte_in (lines a b fresh_line) xs)) a b (pieces 10 xs)
lines_from (rest {p = p} f) a b = rw (pieces_rest 10 f, free_lines f a b fresh_line) (rest_counted p a b)
lines_from (cut {p = p} {xs = xs} f q) a b = rw (pieces_cut 10 f xs, newline_run f a b xs) (go (lines_from q (a + 1) (bad_after b (a + 1) (good_line p))))
  where
    go : {s : Lines} → Counted s (a + 1) (bad_after b (a + 1) (good_line p)) (pieces 10 xs) → Counted s a b (p ∷ pieces 10 xs)
    go c = record {
      count = omega (arith, c.count, count_cons p (pieces_nonempty 10 q));
      found = c.found ∙ bad_then b (a + 1) (first_bad (a + 1 + 1) (pieces 10 xs)) (good_line p) (omega arith) ∙ ap (λ (n : ℕ). (b == 0) ⇒ n else b) (sym (bad_cons (a + 1) p (pieces_nonempty 10 q)));
    }

pub lines_law : (xs : List ℕ) → Counted (rest_in (scan byte_in fresh_lines xs)) 0 0 (pieces 10 xs)
lines_law xs = lines_from (parts 10 xs) 0 0

-- ---- the words

digit_goes : (x : ℕ) → digit x ≡ true → field_ends x ≡ false
digit_goes x e =
    let a = and_true _ _ e in
    let h : 48 ≤ x = leb-true _ _ a.0 in
    rw (ne_eqb x 32 (λ z. omega arith), ne_eqb x 10 (λ z. omega arith))

digits_words : (p : List ℕ) → all digit p ≡ true → (n : Number) (xs : List ℕ) → words_from n (p ++ xs) ≡ words_from (scan digit_in n p) xs
unfolding words_from word_at number_after
digits_words [] e n xs = refl
digits_words (x ∷ p) e n xs =
    let a = and_true (digit x) (all digit p) e in
    rw (digit_goes x a.0) (digits_words p a.1 (digit_in n x) xs)

pub good_digits : (p : List ℕ) → good_number p ≡ true → all digit p ≡ true
unfolding good_number
good_digits [] e = ft e
good_digits (x ∷ xs) e = (and_true _ _ (and_true _ _ e).0).0

-- a good number and the byte that ends it
number_words : (p : List ℕ) (s : ℕ) → field_ends s ≡ true → good_number p ≡ true → (xs : List ℕ) → words_from Empty (p ++ s ∷ xs) ≡ value_of 0 p ∷ words_from Empty xs
unfolding words_from word_at number_after
number_words p s h e xs = digits_words p (good_digits p e) Empty (s ∷ xs) ∙ ap (λ (n : Number). words_from n (s ∷ xs)) (number_value p e) ∙ rw h

pub line_words : {l : List ℕ} → Parts 32 l → all good_number (pieces 32 l) ≡ true → (xs : List ℕ) → words_from Empty (l ++ 10 ∷ xs) ≡ map (value_of 0) (pieces 32 l) ++ words_from Empty xs
line_words (rest {p = p} f) e xs =
    let g = and_true (good_number p) true (ap (all good_number) (sym (pieces_rest 32 f)) ∙ e) in
    rw (pieces_rest 32 f) (number_words p 10 refl g.0 xs)
line_words (cut {p = p} {xs = ys} f q) e xs =
    let g = and_true (good_number p) (all good_number (pieces 32 ys)) (ap (all good_number) (sym (pieces_cut 32 f ys)) ∙ e) in
    rw (pieces_cut 32 f ys, append_assoc p (32 ∷ ys) (10 ∷ xs)) (number_words p 32 refl g.0 (ys ++ 10 ∷ xs) ∙ ap (λ (ws : List ℕ). value_of 0 p ∷ ws) (line_words q g.1 xs))

-- lines, each good and ended by a newline, and nothing behind them
pub data Good : List ℕ → Type 0 where
  none : Good []
  line : {p xs : List ℕ} → Free 10 p → good_line p ≡ true → Good xs → Good (p ++ 10 ∷ xs)

pub good : {xs : List ℕ} → Parts 10 xs → (n : ℕ) → 1 ≤ n → first_bad n (pieces 10 xs) ≡ 0 → Good xs
unfolding first_bad
good (rest {p = p} f) n h e = go p (ap (first_bad n) (sym (pieces_rest 10 f)) ∙ e)
  where
    go : (p : List ℕ) → first_bad n (p ∷ []) ≡ 0 → Good p
    go [] i = none
    go (x ∷ xs) i = absurd (omega (arith, rw (ne_eqb (suc (length xs)) 0 (λ z. omega arith)) at i))
good (cut {p = p} {xs = xs} f q) n h e = go (λ i. good q (n + 1) (omega arith) i) (good_line p) refl (sym (bad_cons n p (pieces_nonempty 10 q)) ∙ ap (first_bad n) (sym (pieces_cut 10 f xs)) ∙ e)
  where
    go : (first_bad (n + 1) (pieces 10 xs) ≡ 0 → Good xs) → (t : Bool) → good_line p ≡ t → (good_line p ⇒ first_bad (n + 1) (pieces 10 xs) else n) ≡ 0 → Good (p ++ 10 ∷ xs)
    go ih true g i = line f g (ih (rw g at i))
    go ih false g i = absurd (omega (arith, rw g at i))

pub good_none : {xs : List ℕ} → Good xs → (n : ℕ) → first_bad n (pieces 10 xs) ≡ 0
unfolding pieces first_bad
good_none none n = refl
good_none (line {p = p} {xs = xs} f e g) n = rw (pieces_cut 10 f xs, bad_cons n p (pieces_nonempty 10 (parts 10 xs)), e) (good_none g (n + 1))

five : (l : List ℕ) → good_line l ≡ true → (length (pieces 32 l) ≡ 5) × (all good_number (pieces 32 l) ≡ true)
unfolding good_line
five l e = let a = and_true (length (pieces 32 l) == 5) (all good_number (pieces 32 l)) e in (eqb-true (length (pieces 32 l)) 5 a.0, a.1)

pub words_law : {xs : List ℕ} → Good xs → words_from Empty xs ≡ words_in (pieces 10 xs)
unfolding pieces words_in words_from
words_law none = refl
words_law (line {p = p} {xs = xs} f e g) =
    rw (pieces_cut 10 f xs, words_cons p (pieces_nonempty 10 (parts 10 xs))) (line_words (parts 32 p) (five p e).1 xs ∙ ap (λ (ws : List ℕ). map (value_of 0) (pieces 32 p) ++ ws) (words_law g))

-- five words a line
pub words_count : {xs : List ℕ} → Good xs → length (words_in (pieces 10 xs)) ≡ 5 * line_count (pieces 10 xs)
unfolding pieces words_in line_count
words_count none = refl
words_count (line {p = p} {xs = xs} f e g) =
    rw (
      pieces_cut 10 f xs,
      words_cons p (pieces_nonempty 10 (parts 10 xs)),
      count_cons p (pieces_nonempty 10 (parts 10 xs)),
      length-append (map (value_of 0) (pieces 32 p))
          (words_in (pieces 10 xs)),
      length-map (pieces 32 p) (value_of 0),
    )
    (omega (arith, (five p e).0, words_count g))

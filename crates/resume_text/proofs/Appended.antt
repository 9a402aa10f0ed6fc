-- Texts one behind the other: two lists of calls are read as one, and the line of an image with calls behind it as both.
use Rattle.std.specs.Prelude.{◌==◌}
use Prim.Native.Nat.{ℕ, ◌+◌, ◌^◌, ◌≤◌, ◌<◌}
use mathlib.Core.Path.{◌≡◌, refl, sym, ap, ◌∙◌}
use mathlib.Core.Bool.{true, not, ◌&&◌, ◌||◌}
use mathlib.Core.List.{List, [], ◌∷◌, ◌++◌, map, append_assoc}
use native.Mathlib.Omega.{arith}
use lib.ListN.{length, length-append}
use lib.Seq.{take_at, drop_at}
use borrow.Author.Tests.{leb-true, ltb-true, ne_eqb}
use Rattle.lists.specs.Lists.{all, concat_map, All, done, more}
use Rattle.lists.proofs.Bools.{ft, and_true}
use Rattle.lists.proofs.Sums.{all_append, all_bool}
use Rattle.decimal.specs.Decimal.{digits, value_of}
use Rattle.text.specs.declared.number.Number.TheVariants.{Empty}
use Rattle.text.specs.Reading.{calls, digit, pieces, good_number, words_in, read_text}
use Rattle.text.specs.Scan.{words_from}
use Rattle.text.specs.Writing.{spaced, image_word, line_of}
use Rattle.text.specs.ImageLine.{read_image}
use Rattle.text.proofs.Pieces.{Free, parts}
use Rattle.text.proofs.Scans.{Good, none, line, good_digits, line_words, words_law, words_count}
use Rattle.text.proofs.Accepts.{accepts, accepted_only, line_numbers}
use Rattle.text.proofs.ImageLineBack.{Word, written_good, image_line_back}
use Rattle.resume_text.specs.Input.{saved, first_length, first_line, later_lines, joined, read_input}

-- ---- two lists of calls

good_append : {xs ys : List ℕ} → Good xs → Good ys → Good (xs ++ ys)
good_append none h = h
good_append {ys = ys} (line {p = p} {xs = xs} f e g) h = rw (append_assoc p (10 ∷ xs) ys) (line f e (good_append g h))

words_append : (ys : List ℕ) {xs : List ℕ} → Good xs → words_from Empty (xs ++ ys) ≡ words_from Empty xs ++ words_from Empty ys
unfolding words_from
words_append ys none = refl
words_append ys (line {p = p} {xs = xs} f e g) =
    let n = (line_numbers p e).good in
    ap (words_from Empty) (append_assoc p (10 ∷ xs) ys)
    ∙ line_words (parts 32 p) n (xs ++ ys)
    ∙ ap (λ (ws : List ℕ). map (value_of 0) (pieces 32 p) ++ ws) (words_append ys g)
    ∙ sym (append_assoc (map (value_of 0) (pieces 32 p)) (words_from Empty xs) (words_from Empty ys))
    ∙ ap (λ (ws : List ℕ). ws ++ words_from Empty ys) (sym (line_words (parts 32 p) n xs))

module _ (first second ws vs : List ℕ) (e : read_text first ≡ calls ws) (f : read_text second ≡ calls vs) where
  pub appended : length (first ++ second) ≤ 60000 → length (ws ++ vs) ≤ 5000 → read_text (first ++ second) ≡ calls (ws ++ vs)
  appended short few =
      let a = accepted_only first ws e in
      let b = accepted_only second vs f in
      let g = good_append a.lines b.lines in
      let w : ws ++ vs ≡ words_in (pieces 10 (first ++ second)) =
      (λ i. (a.words ∙ sym (words_law a.lines)) i ++ (b.words ∙ sym (words_law b.lines)) i) ∙ sym (words_append second a.lines) ∙ words_law g in
      accepts (first ++ second) (ws ++ vs)
      (record {
        short = short;
        few = omega (arith, words_count g, ap length w);
        lines = g;
        words = w;
      })

-- ---- the words of calls have 32 bits

value_fits : (p : List ℕ) → good_number p ≡ true → value_of 0 p < 2 ^ 32
unfolding good_number
value_fits [] e = ft e
value_fits (x ∷ xs) e = ltb-true _ _ (and_true (all digit (x ∷ xs) && (not (x == 48) || (length xs == 0))) _ e).1

values_fit : (ps : List (List ℕ)) → all good_number ps ≡ true → All Word (map (value_of 0) ps)
values_fit [] e = done
values_fit (p ∷ ps) e = let a = and_true (good_number p) (all good_number ps) e in more (value_fits p a.0) (values_fit ps a.1)

words_fit : {xs : List ℕ} → Good xs → All Word (words_from Empty xs)
unfolding words_from
words_fit none = done
words_fit (line {p = p} {xs = xs} f e g) =
    let n = (line_numbers p e).good in
    rw (line_words (parts 32 p) n xs) (all_append (values_fit (pieces 32 p) n) (words_fit g))

pub read_fit : (bytes ws : List ℕ) → read_text bytes ≡ calls ws → All Word ws
read_fit bytes ws e =
    let a = accepted_only bytes ws e in
    rw (a.words ∙ sym (words_law a.lines)) (words_fit a.lines)

-- ---- the line of an image, and calls behind it

first_free : {p : List ℕ} → Free 10 p → (xs : List ℕ) → first_length (p ++ 10 ∷ xs) ≡ length p + 1
unfolding first_length
first_free done xs = refl
first_free (more e f) xs = rw e (omega (arith, first_free f xs))

no_newline : (p : List ℕ) → good_number p ≡ true → Free 10 p
no_newline p e = all_bool digit (λ x f. ne_eqb x 10 (λ z. omega (arith, leb-true 48 x (and_true _ _ f).0))) p (good_digits p e)

numbers_free : {ws : List ℕ} → All Word ws → Free 10 (concat_map spaced ws)
unfolding spaced
numbers_free done = done
numbers_free (more {x = w} h a) = more refl (all_append (no_newline (digits 10 w) (written_good w h)) (numbers_free a))

module _ (start second vs : List ℕ) (a : All Word start) (short : length (line_of image_word start) ≤ 400000) (e : read_text second ≡ calls vs) where
  before : List ℕ
  before = image_word ++ concat_map spaced start

  line_free : Free 10 before
  unfolding before
  line_free = more refl (more refl (more refl (more refl (more refl (numbers_free a)))))

  line_here : line_of image_word start ≡ before ++ 10 ∷ []
  unfolding before line_of
  line_here = sym (append_assoc image_word (concat_map spaced start) (10 ∷ []))

  line_cut : first_length (line_of image_word start ++ second) ≡ length (line_of image_word start)
  line_cut =
      ap (λ (l : List ℕ). first_length (l ++ second)) line_here
      ∙ ap first_length (append_assoc before (10 ∷ []) second)
      ∙ first_free line_free second
      ∙ sym (length-append before (10 ∷ []))
      ∙ ap length (sym line_here)

  pub saved_appended : read_input (line_of image_word start ++ second) ≡ saved start vs
  unfolding read_input
  saved_appended =
      let p : first_line (line_of image_word start ++ second) ≡ line_of image_word start = take_at (line_of image_word start) second _ (sym line_cut) in
      let q : later_lines (line_of image_word start ++ second) ≡ second = drop_at (line_of image_word start) second _ (sym line_cut) in
      (λ i. joined (read_image (p i)) (read_text (q i)))
      ∙ (λ i. joined (image_line_back start a short i) (e i))

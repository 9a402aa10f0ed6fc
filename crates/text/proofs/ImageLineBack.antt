-- The line that is written for words of 32 bits is read as those words.
use Rattle.std.specs.Prelude.{◌==◌}
use Prim.Native.Nat.{ℕ, zero, suc, ◌+◌, ◌-◌, ◌/◌, ◌%◌, ◌^◌, ◌≤◌, ◌<◌}
use mathlib.Core.Path.{◌≡◌, refl, sym, ap, ap₂, ◌∙◌}
use mathlib.Core.Bool.{Bool, true, false}
use mathlib.Core.List.{List, [], ◌∷◌, ◌++◌, map, append-nil, append_assoc}
use native.Mathlib.Omega.{arith}
use native.Mathlib.Numerals.{unary_clauses}
use lib.ListN.{length, get_or, length-append}
use lib.Seq.{take_at, get_or_at}
use lib.Dec.{ltb}
use borrow.Author.Tests.{lt-ltb, ltb-true, ltb-false, le-leb, ne_eqb}
use Rattle.lists.specs.Choice.{◌⇒◌else◌}
use Rattle.lists.specs.Lists.{all, concat_map, All, done, more}
use Rattle.lists.proofs.Bools.{and_true, and_both}
use Rattle.decimal.specs.Decimal.{digits, value_of}
use Rattle.decimal.proofs.Digits.{digits_back}
use Rattle.text.specs.Reading.{digit, pieces, good_number}
use Rattle.text.specs.Writing.{spaced, image_word, line_of}
use Rattle.text.specs.ImageLine.{image, framed_in, fields_in, read_image}
use Rattle.text.proofs.Pieces.{Free, pieces_rest, pieces_cut}
use Rattle.text.proofs.Accepts.{no_space}
use Rattle.text.proofs.ImageLines.{Framed, framed_reads}

-- ---- the digits of a number are a good number

digit_of : (d : ℕ) → d < 10 → digit (48 + d) ≡ true
digit_of d h = and_both _ _ (le-leb 48 (48 + d) (omega arith)) (le-leb (48 + d) 57 (omega arith))

digits_then : (xs : List ℕ) (d : ℕ) → all digit xs ≡ true → d < 10 → all digit (xs ++ ((48 + d) ∷ [])) ≡ true
digits_then [] d e h = and_both _ _ (digit_of d h) refl
digits_then (x ∷ xs) d e h =
    let a = and_true (digit x) (all digit xs) e in
    and_both _ _ a.0 (digits_then xs d a.1 h)

digits_all : (f n : ℕ) → all digit (digits f n) ≡ true
unfolding digits
digits_all zero n = refl
digits_all (suc f) n = go (digits_all f (n / 10)) (ltb n 10) refl
  where
    go : all digit (digits f (n / 10)) ≡ true → (t : Bool) → ltb n 10 ≡ t →
        all digit (t ⇒ ((48 + n) ∷ []) else (digits f (n / 10) ++ ((48 + n % 10) ∷ []))) ≡ true
    go ih true e = digits_then [] n refl (ltb-true n 10 e)
    go ih false e = digits_then (digits f (n / 10)) (n % 10) ih (omega arith)

-- the first byte is not the digit 0
data Leads : List ℕ → Type 0 where
  leads : {x : ℕ} {xs : List ℕ} → (x == 48) ≡ false → Leads (x ∷ xs)

leads_then : {xs : List ℕ} → Leads xs → (ys : List ℕ) → Leads (xs ++ ys)
leads_then (leads e) ys = leads e

digits_lead : (f n : ℕ) → 1 ≤ n → n < 10 ^ f → Leads (digits f n)
unfolding digits
digits_lead zero n k h = absurd (omega (arith, simp unary_clauses at h))
digits_lead (suc f) n k h = go (digits_lead f (n / 10)) (ltb n 10) refl
  where
    go : (1 ≤ n / 10 → n / 10 < 10 ^ f → Leads (digits f (n / 10))) → (t : Bool) → ltb n 10 ≡ t →
        Leads (t ⇒ ((48 + n) ∷ []) else (digits f (n / 10) ++ ((48 + n % 10) ∷ [])))
    go ih true e = leads (ne_eqb (48 + n) 48 (λ z. omega arith))
    go ih false e =
        let m : 10 ≤ n = ltb-false n 10 e in
        leads_then (ih (omega arith) (omega (arith, simp unary_clauses at h))) ((48 + n % 10) ∷ [])

good_lead : {p : List ℕ} → Leads p → all digit p ≡ true → value_of 0 p < 2 ^ 32 → good_number p ≡ true
unfolding good_number
good_lead {p} (leads e) a v = and_both _ _ (and_both _ _ a (rw e)) (lt-ltb (value_of 0 p) (2 ^ 32) v)

pub written_good : (n : ℕ) → n < 2 ^ 32 → good_number (digits 10 n) ≡ true
unfolding good_number digits value_of
written_good zero h = refl
written_good (suc m) h =
    let v : value_of 0 (digits 10 (suc m)) ≡ suc m = digits_back 10 (suc m) (omega arith) in
    good_lead (digits_lead 10 (suc m) (omega arith) (omega arith)) (digits_all 10 (suc m)) (omega (arith, v))

-- ---- the numbers of the line

abbrev pub Word : ℕ → Type 0
Word w = w < 2 ^ 32

all_written : {ws : List ℕ} → All Word ws → all good_number (map (digits 10) ws) ≡ true
all_written done = refl
all_written (more {x = w} h a) = and_both _ _ (written_good w h) (all_written a)

values_back : {ws : List ℕ} → All Word ws → map (value_of 0) (map (digits 10) ws) ≡ ws
values_back done = refl
values_back (more {x = w} h a) = ap₂ ◌∷◌ (digits_back 10 w (omega arith)) (values_back a)

next_pieces : {p : List ℕ} → Free 32 p → {ws : List ℕ} → All Word ws →
    pieces 32 (p ++ concat_map spaced ws) ≡ p ∷ map (digits 10) ws
unfolding spaced
next_pieces {p} f done = ap (pieces 32) (append-nil p) ∙ pieces_rest 32 f
next_pieces {p} f (more {x = w} {xs = ws} h a) =
    pieces_cut 32 f (digits 10 w ++ concat_map spaced ws)
    ∙ ap (λ (ls : List (List ℕ)). p ∷ ls) (next_pieces {p = digits 10 w} (no_space (digits 10 w) (written_good w h)) a)

pub line_pieces : {ws : List ℕ} → All Word ws → pieces 32 (concat_map spaced ws) ≡ [] ∷ map (digits 10) ws
line_pieces a = next_pieces done a

-- ---- the line

module _ (ws : List ℕ) where
  bytes : List ℕ
  bytes = line_of image_word ws

  line_seam : bytes ≡ (image_word ++ concat_map spaced ws) ++ 10 ∷ []
  unfolding bytes line_of
  line_seam = sym (append_assoc image_word (concat_map spaced ws) (10 ∷ []))

  pub image_length : length (line_of image_word ws) ≡ length (concat_map spaced ws) + 6
  unfolding line_of
  image_length = omega (arith, length-append (concat_map spaced ws) (10 ∷ []))

  line_framed : length (line_of image_word ws) ≤ 400000 → Framed (line_of image_word ws)
  unfolding line_of bytes
  line_framed h =
      let n : length (image_word ++ concat_map spaced ws) ≡ length bytes - 1 = omega (arith, image_length) in
      record {
        least = omega (arith, image_length);
        most = h;
        named = refl;
        ended = ap (λ (l : List ℕ). get_or l (length bytes - 1) 0) line_seam ∙ get_or_at (image_word ++ concat_map spaced ws) 10 [] 0 (length bytes - 1) n;
      }

  line_between : framed_in (line_of image_word ws) ≡ concat_map spaced ws
  unfolding line_of
  line_between = take_at (concat_map spaced ws) (10 ∷ []) (length (line_of image_word ws) - 6) (omega (arith, image_length))

  pub image_line_back : All Word ws → length (line_of image_word ws) ≤ 400000 → read_image (line_of image_word ws) ≡ image ws
  unfolding fields_in
  image_line_back a h =
      framed_reads (line_of image_word ws) (line_framed h)
      ∙ ap (λ (l : List ℕ). fields_in (pieces 32 l)) line_between
      ∙ ap fields_in (line_pieces a)
      ∙ rw (all_written a) (ap image (values_back a))

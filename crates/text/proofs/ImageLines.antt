-- What the code finds in the bytes is what ImageLine says of them.
use Rattle.std.specs.Prelude.{◌==◌}
use Prim.Native.Nat.{ℕ, suc, ◌+◌, ◌-◌, ◌≤◌, ◌<◌}
use mathlib.Core.Path.{◌≡◌, refl, sym, ap, ◌∙◌}
use mathlib.Core.Bool.{Bool, true, false, ◌&&◌}
use mathlib.Core.List.{List, [], ◌∷◌, ◌++◌, map}
use native.Mathlib.Omega.{arith}
use lib.ListN.{length, get_or, take, drop, length-append, length-drop, length-map}
use lib.Dec.{leb}
use lib.Seq.{take-suc, take_all, get_or-drop}
use borrow.Author.Tests.{le-leb, lt-leb, eq-eqb, ne_eqb, leb-true, eqb-true, eqb-false}
use Rattle.lists.specs.Lists.{all, equal_lists}
use Rattle.lists.proofs.Bools.{and_false}
use Rattle.decimal.specs.Decimal.{value_of}
use Rattle.lists.proofs.WordLaws.{one_drop}
use Rattle.text.specs.Reading.{on_first, pieces, good_number}
use Rattle.text.specs.Scan.{scan, is_value, words_from}
use Rattle.text.specs.Writing.{image_word}
use Rattle.text.specs.ImageLine.{ImageLine, image, other, framed, framed_in, fields_in, read_image, line_words, line_verdict, field_in}
use Rattle.text.specs.declared.number.Number.TheVariants.{Empty}
use Rattle.std.specs.Prelude.{Some, None}
use Rattle.text.proofs.Fields.{fields_law, fields_words, few_fields}

-- ---- the word, the newline and what stands between

pub record Framed (bytes : List ℕ) : Type 0 where
  pub least : 6 ≤ length bytes
  pub most : length bytes ≤ 400000
  pub named : equal_lists (take 5 bytes) image_word ≡ true
  pub ended : get_or bytes (length bytes - 1) 0 ≡ 10

pub framed_is : (bytes : List ℕ) → framed bytes ≡ true → Framed bytes
unfolding framed
framed_is bytes e = go (leb 6 (length bytes)) (leb (length bytes) 400000) (equal_lists (take 5 bytes) image_word) (get_or bytes (length bytes - 1) 0 == 10) e refl refl refl refl
  where
    go : (a b c d : Bool) → ((a && b) && (c && d)) ≡ true → leb 6 (length bytes) ≡ a → leb (length bytes) 400000 ≡ b → equal_lists (take 5 bytes) image_word ≡ c →
        (get_or bytes (length bytes - 1) 0 == 10) ≡ d → Framed bytes
    go true true true true e i j k l = record {
      least = leb-true 6 (length bytes) i;
      most = leb-true (length bytes) 400000 j;
      named = k;
      ended = eqb-true (get_or bytes (length bytes - 1) 0) 10 l;
    }
    go true true true false e i j k l = absurd cc
    go true true false d e i j k l = absurd cc
    go true false c d e i j k l = absurd cc
    go false b c d e i j k l = absurd cc

pub unframed_other : (bytes : List ℕ) → framed bytes ≡ false → read_image bytes ≡ other
unfolding read_image
unframed_other bytes e = rw e refl

pub long_other : (bytes : List ℕ) → 400000 < length bytes → read_image bytes ≡ other
unfolding framed
long_other bytes h = unframed_other bytes (rw (lt-leb (length bytes) 400000 h, and_false (leb 6 (length bytes))))

-- the bytes behind the word and its space, without the newline
abbrev pub inner : List ℕ → List ℕ
inner bytes = take (length bytes - 1 - 6) (drop 6 bytes)

-- a byte that is no space stands before the first space
first_other : (x : ℕ) (ls : List (List ℕ)) → fields_in (on_first x ls) ≡ other
unfolding fields_in on_first
first_other x [] = refl
first_other x (l ∷ ls) = rw (ne_eqb (suc (length l)) 0 (λ z. omega arith))

module _ (bytes : List ℕ) (f : Framed bytes) where
  pub framed_reads : read_image bytes ≡ fields_in (pieces 32 (framed_in bytes))
  unfolding read_image framed
  framed_reads =
      rw (
        le-leb 6 (length bytes) f.least,
        le-leb (length bytes) 400000 f.most,
        f.named,
        eq-eqb (get_or bytes (length bytes - 1) 0) 10 f.ended,
      )

  pub no_words : length bytes ≡ 6 → read_image bytes ≡ image []
  unfolding fields_in pieces
  no_words h =
      let e : length bytes - 6 ≡ 0 = omega arith in
      framed_reads ∙ ap (λ (k : ℕ). fields_in (pieces 32 (take k (drop 5 bytes)))) e

  module _ (h : 6 < length bytes) where
    framed_first : framed_in bytes ≡ get_or bytes 5 0 ∷ inner bytes
    framed_first =
        let e : length bytes - 6 ≡ suc (length bytes - 1 - 6) = omega arith in
        let m : 5 < length bytes = omega arith in
        rw (e, one_drop bytes 5 m)

    pub unspaced_other : (get_or bytes 5 0 ≡ 32 → ⊥) → read_image bytes ≡ other
    unfolding pieces
    unspaced_other n =
        framed_reads
        ∙ ap (λ (l : List ℕ). fields_in (pieces 32 l)) framed_first
        ∙ rw (ne_eqb (get_or bytes 5 0) 32 n) (first_other (get_or bytes 5 0) (pieces 32 (inner bytes)))

    spaced_reads : get_or bytes 5 0 ≡ 32 → read_image bytes ≡ fields_in ([] ∷ pieces 32 (inner bytes))
    unfolding pieces
    spaced_reads e =
        framed_reads
        ∙ ap (λ (l : List ℕ). fields_in (pieces 32 l)) (framed_first ∙ ap (λ (x : ℕ). x ∷ inner bytes) e)

    pub numbers_other : get_or bytes 5 0 ≡ 32 → is_value (scan field_in Empty (inner bytes)) ≡ false → read_image bytes ≡ other
    unfolding fields_in
    numbers_other e g = spaced_reads e ∙ rw (sym (fields_law (inner bytes)) ∙ g)

    -- the newline behind the numbers
    inner_ended : inner bytes ++ 10 ∷ [] ≡ drop 6 bytes
    inner_ended =
        let k = length bytes - 1 - 6 in
        let a : k < length (drop 6 bytes) = omega (arith, length-drop 6 bytes) in
        let b : length (drop 6 bytes) ≤ suc k = omega (arith, length-drop 6 bytes) in
        let c : 6 + k ≡ length bytes - 1 = omega arith in
        let d : get_or (drop 6 bytes) k 0 ≡ 10 = get_or-drop 6 bytes k 0 ∙ ap (λ (i : ℕ). get_or bytes i 0) c ∙ f.ended in
        ap (λ (x : ℕ). take k (drop 6 bytes) ++ x ∷ []) (sym d)
        ∙ sym (take-suc (drop 6 bytes) k 0 a)
        ∙ take_all (suc k) (drop 6 bytes) b

    module _ (e : get_or bytes 5 0 ≡ 32) (g : is_value (scan field_in Empty (inner bytes)) ≡ true) where
      good : all good_number (pieces 32 (inner bytes)) ≡ true
      good = sym (fields_law (inner bytes)) ∙ g

      words_here : words_from Empty (drop 6 bytes) ≡ map (value_of 0) (pieces 32 (inner bytes))
      words_here = ap (words_from Empty) (sym inner_ended) ∙ fields_words (inner bytes) good

      pub numbers_read : read_image bytes ≡ image (words_from Empty (drop 6 bytes))
      unfolding fields_in
      numbers_read = spaced_reads e ∙ rw good (ap image (sym words_here))

      pub numbers_room : length (words_from Empty (drop 6 bytes)) ≤ 200000
      numbers_room =
          omega (
            arith,
            f.most,
            ap length words_here,
            length-map (pieces 32 (inner bytes)) (value_of 0),
            few_fields (inner bytes) good,
            ap length inner_ended,
            length-append (inner bytes) (10 ∷ []),
            length-drop 6 bytes,
          )

-- ---- no line names more words than there is room for

module _ (bytes : List ℕ) where
  abbrev Few : Type 0
  Few = length (line_words (read_image bytes)) ≤ 200000

  few_as : (v : ImageLine) → read_image bytes ≡ v → length (line_words v) ≤ 200000 → Few
  few_as v e h = rw e h

  spaced_few : Framed bytes → 6 < length bytes → get_or bytes 5 0 ≡ 32 → Few
  spaced_few f h e = go (is_value (scan field_in Empty (inner bytes))) refl
    where
      go : (b : Bool) → is_value (scan field_in Empty (inner bytes)) ≡ b → Few
      go true i = few_as _ (numbers_read bytes f h e i) (numbers_room bytes f h e i)
      go false i = few_as other (numbers_other bytes f h e i) (omega arith)

  framed_few : Framed bytes → Few
  framed_few f = go (length bytes == 6) (get_or bytes 5 0 == 32) refl refl
    where
      more : (length bytes == 6) ≡ false → 6 < length bytes
      more i = omega (arith, f.least, eqb-false (length bytes) 6 i)

      go : (a b : Bool) → (length bytes == 6) ≡ a → (get_or bytes 5 0 == 32) ≡ b → Few
      go true b i j = few_as (image []) (no_words bytes f (eqb-true (length bytes) 6 i)) (omega arith)
      go false true i j = spaced_few f (more i) (eqb-true (get_or bytes 5 0) 32 j)
      go false false i j = few_as other (unspaced_other bytes f (more i) (eqb-false (get_or bytes 5 0) 32 j)) (omega arith)

  pub image_few : Few
  image_few = go (framed bytes) refl
    where
      go : (b : Bool) → framed bytes ≡ b → Few
      go true e = framed_few (framed_is bytes e)
      go false e = few_as other (unframed_other bytes e) (omega arith)

-- ---- what an answer tells

pub told_words : (v : ImageLine) (n : ℕ) → Some n ≡ line_verdict v → (v ≡ image (line_words v)) × (n ≡ length (line_words v))
told_words (image ws) n e = (refl, cc)
told_words other n e = cc

pub told_other : (v : ImageLine) → None ≡ line_verdict v → v ≡ other
told_other (image ws) e = cc
told_other other e = refl

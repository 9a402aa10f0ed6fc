-- The first line found byte by byte, and what the two readers' answers are together.
use Rattle.std.specs.Prelude.{◌==◌}
use Prim.Native.Nat.{ℕ, suc, ◌+◌, ◌-◌, ◌≤◌, ◌<◌}
use mathlib.Core.Path.{◌≡◌, refl, ap, ◌∙◌}
use mathlib.Core.Bool.{Bool, true, false, not, cond}
use mathlib.Core.List.{List, [], ◌∷◌}
use native.Mathlib.Omega.{arith}
use lib.ListN.{length, take, drop}
use Rattle.std.specs.List.{position_or_len}
use lib.Dec.{ltb}
use borrow.Author.Tests.{ltb-true, ltb-false}
use Rattle.lists.specs.Choice.{◌⇒◌else◌}
use Rattle.decimal.proofs.Stores.{rest_all}
use Rattle.std.specs.Prelude.{Ok, Err, Option, Some, None}
use Rattle.text.specs.declared.reading.Unreadable.{Unreadable}
use Rattle.text.specs.Reading.{Verdict, calls, unreadable, pieces, good_line, line_count, first_bad, words_in, read_text, call_words}
use Rattle.text.specs.ImageLine.{ImageLine, image, other, read_image, line_words, line_verdict}
use Rattle.text.proofs.ImageLines.{told_other}
use Rattle.resume_text.specs.declared.Lengths.{Lengths}
use Rattle.resume_text.specs.Input.{Input, saved, bad_line, first_length, first_line, later_lines, joined, read_input, calls_verdict, input_verdict, words_behind, calls_in}

-- ---- the first line

abbrev pub newline : ℕ → Bool
newline x = x == 10

first_newline : (xs : List ℕ) → position_or_len newline xs < length xs → position_or_len newline xs + 1 ≡ first_length xs
unfolding first_length
first_newline [] h = absurd (omega arith)
first_newline (x ∷ xs) h = go (first_newline xs) (x == 10) h
  where
    go : (position_or_len newline xs < length xs → position_or_len newline xs + 1 ≡ first_length xs) → (t : Bool) →
        cond (not t) (1 + position_or_len newline xs) 0 < suc (length xs) → cond (not t) (1 + position_or_len newline xs) 0 + 1 ≡ (t ⇒ 1 else suc (first_length xs))
    go ih true h = refl
    go ih false h = omega (arith, ih (omega arith))

no_newline : (xs : List ℕ) → length xs ≤ position_or_len newline xs → length xs ≡ first_length xs
unfolding first_length
no_newline [] h = refl
no_newline (x ∷ xs) h = go (no_newline xs) (x == 10) h
  where
    go : (length xs ≤ position_or_len newline xs → length xs ≡ first_length xs) → (t : Bool) →
        suc (length xs) ≤ cond (not t) (1 + position_or_len newline xs) 0 → suc (length xs) ≡ (t ⇒ 1 else suc (first_length xs))
    go ih true h = absurd (omega arith)
    go ih false h = omega (arith, ih (omega arith))

module _ (xs : List ℕ) where
  abbrev pub found : Option ℕ
  found = cond (ltb (position_or_len newline xs) (length xs)) (Some (position_or_len newline xs)) None

  pub found_first : (k : ℕ) → found ≡ Some k → k + 1 ≡ first_length xs
  found_first k = go (ltb (position_or_len newline xs) (length xs)) refl
    where
      go : (t : Bool) → ltb (position_or_len newline xs) (length xs) ≡ t → cond t (Some (position_or_len newline xs)) None ≡ Some k → k + 1 ≡ first_length xs
      go true e f = let p : position_or_len newline xs ≡ k = cc in omega (arith, first_newline xs (ltb-true _ _ e))
      go false e f = cc

  pub found_none : found ≡ None → length xs ≡ first_length xs
  found_none = go (ltb (position_or_len newline xs) (length xs)) refl
    where
      go : (t : Bool) → ltb (position_or_len newline xs) (length xs) ≡ t → cond t (Some (position_or_len newline xs)) None ≡ None → length xs ≡ first_length xs
      go true e f = cc
      go false e f = no_newline xs (ltb-false _ _ e)

-- ---- the number of a bad line is at most 1,001

bad_most : (n : ℕ) (ls : List (List ℕ)) → first_bad n ls ≤ n + line_count ls
unfolding first_bad line_count
bad_most n [] = omega arith
bad_most n (rest ∷ []) = go (length rest == 0)
  where
    go : (t : Bool) → (t ⇒ 0 else n) ≤ n + (t ⇒ 0 else 1)
    go true = omega arith
    go false = omega arith
bad_most n (line ∷ l ∷ ls) = go (bad_most (n + 1) (l ∷ ls)) (good_line line)
  where
    go : first_bad (n + 1) (l ∷ ls) ≤ n + 1 + line_count (l ∷ ls) → (t : Bool) →
        (t ⇒ first_bad (n + 1) (l ∷ ls) else n) ≤ n + (1 + line_count (l ∷ ls))
    go ih true = omega arith
    go ih false = omega arith

pub line_most : (bytes : List ℕ) (n : ℕ) → read_text bytes ≡ unreadable n → n ≤ 1001
unfolding read_text
line_most bytes n = go (ltb 60000 (length bytes)) (ltb 1000 (line_count (pieces 10 bytes))) refl (first_bad 1 (pieces 10 bytes) == 0)
  where
    this : (k : ℕ) → k ≤ 1001 → unreadable k ≡ unreadable n → n ≤ 1001
    this k h e = let p : k ≡ n = cc in omega arith

    go : (s t : Bool) → ltb 1000 (line_count (pieces 10 bytes)) ≡ t → (u : Bool) →
        (s ⇒ unreadable 0 else t ⇒ unreadable 1001 else u ⇒ calls (words_in (pieces 10 bytes)) else unreadable (first_bad 1 (pieces 10 bytes))) ≡ unreadable n → n ≤ 1001
    go true t b u e = this 0 (omega arith) e
    go false true b u e = this 1001 (omega arith) e
    go false false b true e = let z : ◌≡◌ {A = ℕ} 0 1 = cc in absurd (omega arith)
    go false false b false e =
        this (first_bad 1 (pieces 10 bytes)) (omega (arith, bad_most 1 (pieces 10 bytes), ltb-false 1000 (line_count (pieces 10 bytes)) b)) e

-- ---- what the two readers' answers are together

module _ (bytes : List ℕ) (end : ℕ) (cut : end ≡ first_length bytes) where
  pub first_cut : read_image (take end bytes) ≡ read_image (first_line bytes)
  first_cut = ap (λ (k : ℕ). read_image (take k bytes)) cut

  pub later_cut : read_text (take (length bytes - end) (drop end bytes)) ≡ read_text (later_lines bytes)
  later_cut = ap read_text (rest_all bytes end ∙ ap (λ (k : ℕ). drop k bytes) cut)

module _ (bytes : List ℕ) where
  -- no image in the first line
  pub none_read : None ≡ line_verdict (read_image (first_line bytes)) →
      (Err (record { 0 = 1 }) ≡ input_verdict (read_input bytes)) × (calls_in bytes ≡ [])
  unfolding read_input
  none_read e = rw (told_other (read_image (first_line bytes)) e) (refl, refl)

  -- an image, and a bad line behind it
  pub bad_read : (n : ℕ) (u : Unreadable) → Some n ≡ line_verdict (read_image (first_line bytes)) → Err u ≡ calls_verdict (read_text (later_lines bytes)) →
      (Err u ≡ input_verdict (read_input bytes)) × (calls_in bytes ≡ call_words (read_text (later_lines bytes)))
  unfolding read_input
  bad_read n u e f = go (read_image (first_line bytes)) (read_text (later_lines bytes)) e f
    where
      go : (l : ImageLine) (v : Verdict) → Some n ≡ line_verdict l → Err u ≡ calls_verdict v →
          (Err u ≡ input_verdict (joined l v)) × (words_behind l v ≡ call_words v)
      go (image ws) (calls cs) a b = cc
      go (image ws) (unreadable k) a b = (cc, refl)
      go other v a b = cc

  -- an image and calls
  pub both_read : (n k : ℕ) → Some n ≡ line_verdict (read_image (first_line bytes)) → Ok k ≡ calls_verdict (read_text (later_lines bytes)) →
      (Ok (record { image = n; calls = k }) ≡ input_verdict (read_input bytes)) × (calls_in bytes ≡ call_words (read_text (later_lines bytes)))
  unfolding read_input
  both_read n k e f = go (read_image (first_line bytes)) (read_text (later_lines bytes)) e f
    where
      go : (l : ImageLine) (v : Verdict) → Some n ≡ line_verdict l → Ok k ≡ calls_verdict v →
          (Ok (record { image = n; calls = k }) ≡ input_verdict (joined l v)) × (words_behind l v ≡ call_words v)
      go (image ws) (calls cs) a b = (cc, refl)
      go (image ws) (unreadable i) a b = cc
      go other v a b = cc

-- ---- what an answer tells

pub record SavedRead (bytes : List ℕ) (n k : ℕ) : Type 0 where
  pub input : read_input bytes ≡ saved (line_words (read_image (first_line bytes))) (calls_in bytes)
  pub image_words : n ≡ length (line_words (read_image (first_line bytes)))
  pub length_calls : k ≡ length (calls_in bytes)
  pub calls_read : read_text (later_lines bytes) ≡ calls (calls_in bytes)

module _ (bytes : List ℕ) where
  pub told_saved : (r : Lengths) → Ok r ≡ input_verdict (read_input bytes) → SavedRead bytes r.image r.calls
  unfolding read_input
  told_saved r e = go (read_image (first_line bytes)) refl (read_text (later_lines bytes)) refl e
    where
      go : (l : ImageLine) → read_image (first_line bytes) ≡ l → (v : Verdict) → read_text (later_lines bytes) ≡ v →
          Ok r ≡ input_verdict (joined l v) → SavedRead bytes r.image r.calls
      go other p v q f = cc
      go (image start) p (unreadable i) q f = cc
      go (image start) p (calls ws) q f =
          let d : r ≡ record { image = length start; calls = length ws } = cc in
          record { input = rw (p, q); image_words = rw p (ap (λ (x : Lengths). x.image) d); length_calls = rw (p, q) (ap (λ (x : Lengths). x.calls) d); calls_read = rw (p, q) }

  pub told_bad : (u : Unreadable) → Err u ≡ input_verdict (read_input bytes) → read_input bytes ≡ bad_line u.0
  told_bad u e = go (read_input bytes) e
    where
      go : (i : Input) → Err u ≡ input_verdict i → i ≡ bad_line u.0
      go (saved start ws) f = cc
      go (bad_line k) f = ap (λ (x : Unreadable). bad_line x.0) (let d : record { 0 = k } ≡ u = cc in d)

-- Bytes behind the first 460,001 change nothing, so a program that reads so many reads enough.
use Rattle.std.specs.Prelude.{◌==◌}
use Prim.Native.Nat.{ℕ, zero, suc, ◌≤◌, ◌<◌}
use mathlib.Core.Path.{◌≡◌, refl, sym, ap, ◌∙◌}
use mathlib.Core.Bool.{Bool, true, false}
use mathlib.Core.List.{List, [], ◌∷◌}
use native.Mathlib.Omega.{arith}
use lib.ListN.{length, take, length-drop}
use lib.Dec.{ltb}
use lib.Seq.{length-take-le, take_all, take-take}
use borrow.Author.Tests.{ltb-true, ltb-false}
use Rattle.lists.specs.Choice.{◌⇒◌else◌}
use Rattle.text.specs.Reading.{unreadable, read_text}
use Rattle.text.specs.ImageLine.{ImageLine, read_image}
use Rattle.text.proofs.Verdicts.{long}
use Rattle.text.proofs.ImageLines.{long_other}
use Rattle.resume_text.specs.Input.{bad_line, first_length, first_line, later_lines, joined, read_input}

-- ---- the first line of a front

first_most : (xs : List ℕ) → first_length xs ≤ length xs
unfolding first_length
first_most [] = omega arith
first_most (x ∷ xs) = go (first_most xs) (x == 10)
  where
    go : first_length xs ≤ length xs → (t : Bool) → (t ⇒ 1 else suc (first_length xs)) ≤ suc (length xs)
    go h true = omega arith
    go h false = omega arith

-- what the first line of a front is: that of the whole, or all of the front
data FirstOf (n whole front : ℕ) : Type 0 where
  here : whole ≤ n → front ≡ whole → FirstOf n whole front
  beyond : n < whole → front ≡ n → FirstOf n whole front

first_of : (n : ℕ) (xs : List ℕ) → FirstOf n (first_length xs) (first_length (take n xs))
unfolding first_length
first_of zero [] = here (omega arith) refl
first_of (suc n) [] = here (omega arith) refl
first_of zero (x ∷ xs) = go (x == 10)
  where
    go : (t : Bool) → FirstOf zero (t ⇒ 1 else suc (first_length xs)) zero
    go true = beyond (omega arith) refl
    go false = beyond (omega arith) refl
first_of (suc n) (x ∷ xs) = go (first_of n xs) (x == 10)
  where
    go : FirstOf n (first_length xs) (first_length (take n xs)) → (t : Bool) →
        FirstOf (suc n) (t ⇒ 1 else suc (first_length xs)) (t ⇒ 1 else suc (first_length (take n xs)))
    go f true = here (omega arith) refl
    go (here h e) false = here (omega arith) (ap suc e)
    go (beyond h e) false = beyond (omega arith) (ap suc e)

-- ---- the input

module _ (bytes : List ℕ) where
  -- a first line of too many bytes
  long_first : 400000 < first_length bytes → read_input bytes ≡ bad_line 1
  unfolding read_input
  long_first h =
      let k = length-take-le (first_length bytes) bytes (first_most bytes) in
      ap (λ (l : ImageLine). joined l (read_text (later_lines bytes))) (long_other (first_line bytes) (omega (arith, k)))

  -- too many bytes behind it
  long_later : 60000 < length (later_lines bytes) → read_input bytes ≡ joined (read_image (first_line bytes)) (unreadable 0)
  unfolding read_input
  long_later h = ap (joined (read_image (first_line bytes))) (long (later_lines bytes) h)

module _ (bytes : List ℕ) (n : ℕ) (h : 460001 ≤ n) where
  cut_long : 400000 < first_length bytes → read_input (take n bytes) ≡ read_input bytes
  cut_long l = long_first (take n bytes) (go (first_of n bytes)) ∙ sym (long_first bytes l)
    where
      go : {front : ℕ} → FirstOf n (first_length bytes) front → 400000 < front
      go (here i e) = omega (arith, e)
      go (beyond i e) = omega (arith, e)

  cut_short : n ≤ length bytes → first_length bytes ≤ 400000 → read_input (take n bytes) ≡ read_input bytes
  cut_short m l =
      let k = go (first_of n bytes) in
      let a = length-take-le n bytes m in
      let p : first_line (take n bytes) ≡ first_line bytes =
      ap (λ (i : ℕ). take i (take n bytes)) k ∙ take-take (first_length bytes) n bytes (omega arith) in
      long_later (take n bytes) (omega (arith, length-drop (first_length (take n bytes)) (take n bytes), k, a))
      ∙ ap (λ (x : List ℕ). joined (read_image x) (unreadable 0)) p
      ∙ sym (long_later bytes (omega (arith, length-drop (first_length bytes) bytes)))
    where
      go : {front : ℕ} → FirstOf n (first_length bytes) front → front ≡ first_length bytes
      go (here i e) = e
      go (beyond i e) = absurd (omega arith)

  pub front_enough : read_input (take n bytes) ≡ read_input bytes
  front_enough = go (ltb (length bytes) n) refl (ltb 400000 (first_length bytes)) refl
    where
      go : (s : Bool) → ltb (length bytes) n ≡ s → (t : Bool) → ltb 400000 (first_length bytes) ≡ t →
          read_input (take n bytes) ≡ read_input bytes
      go true e t f = let m = ltb-true (length bytes) n e in ap read_input (take_all n bytes (omega arith))
      go false e true f = cut_long (ltb-true 400000 (first_length bytes) f)
      go false e false f = cut_short (ltb-false (length bytes) n e) (ltb-false 400000 (first_length bytes) f)

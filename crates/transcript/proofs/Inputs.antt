-- What stands in the two arrays after chartresume's input is read, and the text that is written for it.
use Prim.Native.Nat.{ℕ, ◌%◌, ◌≤◌}
use mathlib.Core.Path.{◌≡◌, refl, sym, ap, ◌∙◌}
use mathlib.Core.List.{List}
use native.Mathlib.Omega.{arith}
use lib.ListN.{length, take}
use Rattle.lists.specs.Lists.{overwritten}
use Rattle.decimal.proofs.Stores.{over_front, over_fits}
use Rattle.text.specs.Writing.{unreadable_text}
use Rattle.text.specs.ImageLine.{read_image, line_words}
use Rattle.text.proofs.Accepts.{five_a_line, words_most}
use Rattle.text.proofs.ImageLines.{image_few}
use Rattle.std.specs.Prelude.{Result, Ok, Err}
use Rattle.text.specs.declared.reading.Unreadable.{Unreadable}
use Rattle.resume_text.specs.declared.Lengths.{Lengths}
use Rattle.resume_text.specs.Input.{first_line, later_lines, input_verdict, read_input, calls_in}
use Rattle.resume_text.proofs.Inputs.{told_saved, told_bad}
use Rattle.resume_text.proofs.Front.{front_enough}
use Rattle.transcript.specs.Transcript.{response, response_to, resumption}

-- n words of the image and k words of calls stand at the front of the two
pub record InputRead (bytes words calls : List ℕ) (n k : ℕ) : Type 0 where
  pub words_fit : n ≤ length words
  pub words_few : length (take n words) ≤ 200000
  pub calls_fit : k ≤ length calls
  pub calls_whole : length (take k calls) % 5 ≡ 0
  pub calls_few : length (take k calls) ≤ 5000
  pub text : response (take n words) (take k calls) ≡ resumption bytes

module _ (bytes : List ℕ) (v : Result Lengths Unreadable) (read : v ≡ input_verdict (read_input bytes)) where
  pub input_read : (r : Lengths) (words words' slice slice' : List ℕ) → v ≡ Ok r →
      words' ≡ overwritten (line_words (read_image (first_line bytes))) words → slice' ≡ overwritten (calls_in bytes) slice →
      InputRead bytes words' slice' r.image r.calls
  unfolding resumption
  input_read r words words' slice slice' e f g =
      let n = r.image in
      let k = r.calls in
      let t = told_saved bytes r (sym e ∙ read) in
      let start = line_words (read_image (first_line bytes)) in
      let ws = calls_in bytes in
      let p : take n words' ≡ start = over_front start words words' n t.image_words f in
      let q : take k slice' ≡ ws = over_front ws slice slice' k t.length_calls g in
      record {
        words_fit = over_fits start words words' n (length words') t.image_words f refl;
        words_few = rw p (image_few (first_line bytes));
        calls_fit = over_fits ws slice slice' k (length slice') t.length_calls g refl;
        calls_whole = omega (arith, ap length q, five_a_line (later_lines bytes) ws t.calls_read);
        calls_few = omega (arith, ap length q, words_most (later_lines bytes) ws t.calls_read);
        text = (λ i. response (p i) (q i)) ∙ sym (ap response_to t.input);
      }

  pub bad_read : (u : Unreadable) → v ≡ Err u → unreadable_text u.0 ≡ resumption bytes
  unfolding resumption
  bad_read u e = sym (ap response_to (told_bad bytes u (sym e ∙ read)))

-- a program that reads 460,001 bytes, or more, reads enough
pub resumption_front : (bytes : List ℕ) (n : ℕ) → 460001 ≤ n → resumption (take n bytes) ≡ resumption bytes
unfolding resumption
resumption_front bytes n h = ap response_to (front_enough bytes n h)

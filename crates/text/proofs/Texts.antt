-- The texts that are written, part by part, and their lengths.
use Rattle.std.specs.Prelude.{◌==◌}
use Prim.Native.Nat.{ℕ, ◌+◌, ◌*◌, ◌≤◌, ◌<◌}
use mathlib.Core.Path.{◌≡◌, refl, sym, ap}
use mathlib.Core.Bool.{Bool, true, false}
use mathlib.Core.List.{List, [], ◌∷◌, ◌++◌}
use native.Mathlib.Omega.{arith}
use lib.ListN.{length, get_or, drop, length-append, drop_of_length-le}
use borrow.Author.Tests.{eq-eqb, ne_eqb, lt-ltb, le-ltb}
use Rattle.lists.specs.Choice.{◌⇒◌else◌}
use Rattle.lists.specs.Lists.{concat_map}
use Rattle.text.specs.Writing.{spaced, image_word, unreadable_word, done_word, refused_word, line_of, answer_line, answer_lines, write_text, bounded_text, unreadable_text, refused_line}
use Rattle.decimal.specs.Stored.{WrittenAt}
use Rattle.decimal.proofs.Digits.{digits_most}
use Rattle.decimal.proofs.Stores.{written_as}
use Rattle.lists.proofs.WordLaws.{one_drop}

pub spaced_most : (n : ℕ) → length (spaced n) ≤ 11
unfolding spaced
spaced_most n = omega (arith, digits_most 10 n)

pub numbers_most : (ws : List ℕ) → length (concat_map spaced ws) ≤ 11 * length ws
numbers_most [] = omega arith
numbers_most (w ∷ ws) = omega (arith, length-append (spaced w) (concat_map spaced ws), spaced_most w, numbers_most ws)

-- ---- lines

pub line_parts : (word ns : List ℕ) → word ++ (concat_map spaced ns ++ (10 ∷ [])) ≡ line_of word ns
unfolding line_of
line_parts word ns = refl

pub line_length : (word ns : List ℕ) → length (line_of word ns) ≡ length word + length (concat_map spaced ns) + 1
unfolding line_of
line_length word ns = simp length-append (omega arith)

pub line_most : (word ns : List ℕ) → length (line_of word ns) ≤ length word + 11 * length ns + 1
line_most word ns = omega (arith, line_length word ns, numbers_most ns)

pub unreadable_most : (n : ℕ) → length (unreadable_text n) ≤ 22
unfolding unreadable_text
unreadable_most n = omega (arith, line_most unreadable_word (n ∷ []))

answer_most : (code number : ℕ) → length (answer_line code number) ≤ 19
unfolding answer_line
answer_most code number = go (code == 0)
  where
    go : (t : Bool) → length (t ⇒ line_of done_word (number ∷ []) else line_of refused_word (code ∷ [])) ≤ 19
    go true = omega (arith, line_most done_word (number ∷ []))
    go false = omega (arith, line_most refused_word (code ∷ []))

pub answers_most : (ws : List ℕ) → length (answer_lines ws) ≤ 10 * length ws
unfolding answer_lines
answers_most [] = omega arith
answers_most (code ∷ []) = omega arith
answers_most (code ∷ number ∷ ws) = omega (arith, length-append (answer_line code number) (answer_lines ws), answer_most code number, answers_most ws)

pub write_most : (answers image : List ℕ) → length (write_text answers image) ≤ 10 * length answers + 11 * length image + 6
unfolding write_text
write_most answers image =
    omega (arith, length-append (answer_lines answers) (line_of image_word image), answers_most answers, line_most image_word image)

pub write_parts : (answers image : List ℕ) → answer_lines answers ++ line_of image_word image ≡ write_text answers image
unfolding write_text
write_parts answers image = refl

-- ---- as much as there is room for

pub written_none : {text out : List ℕ} → text ≡ [] → WrittenAt text 0 out out
written_none {text} {out} e = written_as [] text 0 out out (sym e) (refl, refl)

module _ (answers image : List ℕ) where
  pub bounded_answers : 2000 < length answers → bounded_text answers image ≡ []
  unfolding bounded_text
  bounded_answers h = rw (lt-ltb 2000 (length answers) h)

  pub bounded_image : length answers ≤ 2000 → 7206 < length image → bounded_text answers image ≡ []
  unfolding bounded_text
  bounded_image h k = rw (le-ltb 2000 (length answers) h, lt-ltb 7206 (length image) k)

  pub bounded_whole : length answers ≤ 2000 → length image ≤ 7206 → write_text answers image ≡ bounded_text answers image
  unfolding bounded_text
  bounded_whole h k = rw (le-ltb 2000 (length answers) h, le-ltb 7206 (length image) k)

-- ---- turns of the loops

-- two words more, and what is left behind them
pub answers_turn : (ws pair left : List ℕ) → ws ≡ pair ++ left → length pair ≡ 2 → answer_lines ws ≡ answer_line (get_or pair 0 0) (get_or pair 1 0) ++ answer_lines left
unfolding answer_lines
answers_turn ws [] left e h = absurd (omega arith)
answers_turn ws (x ∷ []) left e h = absurd (omega arith)
answers_turn ws (code ∷ number ∷ []) left e h = rw e refl
answers_turn ws (x ∷ y ∷ z ∷ zs) left e h = absurd (omega arith)

pub answers_length : (ws pair left : List ℕ) → ws ≡ pair ++ left → length pair ≡ 2 →
    length (answer_lines ws) ≡ length (answer_line (get_or pair 0 0) (get_or pair 1 0)) + length (answer_lines left)
answers_length ws pair left e h = simp length-append at (ap length (answers_turn ws pair left e h))

pub answers_end : (ws : List ℕ) → length ws ≤ 1 → answer_lines ws ≡ []
unfolding answer_lines
answers_end [] h = refl
answers_end (x ∷ []) h = refl
answers_end (x ∷ y ∷ ws) h = absurd (omega arith)

module _ (ws : List ℕ) (k : ℕ) where
  pub numbers_turn : k < length ws → spaced (get_or ws k 0) ++ concat_map spaced (drop (k + 1) ws) ≡ concat_map spaced (drop k ws)
  numbers_turn h = rw (one_drop ws k h)

  pub numbers_length : k < length ws → length (spaced (get_or ws k 0)) + length (concat_map spaced (drop (k + 1) ws)) ≡ length (concat_map spaced (drop k ws))
  numbers_length h = simp length-append at (ap length (numbers_turn h))

  pub numbers_end : length ws ≤ k → concat_map spaced (drop k ws) ≡ []
  numbers_end h = rw (drop_of_length-le ws h)

-- ---- a refused image

pub refused_alone : (code offset : ℕ) → code ≡ 105 → line_of refused_word (code ∷ []) ≡ refused_line code offset
unfolding refused_line
refused_alone code offset e = rw (eq-eqb code 105 e)

pub refused_offset : (code offset : ℕ) → (code ≡ 105 → ⊥) → line_of refused_word (code ∷ offset ∷ []) ≡ refused_line code offset
unfolding refused_line
refused_offset code offset n = rw (ne_eqb code 105 n)

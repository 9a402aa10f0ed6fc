-- The line of an image, read back: the word image, one space before each number, and one newline behind the last.
use Rattle.std.specs.Prelude.{ℕ, ◌-◌, Bool, ◌&&◌, List, [], ◌∷◌, map, length, get_or, take, drop, ◌==◌}
use Rattle.lists.specs.Choice.{◌⇒◌else◌, within}
use Rattle.lists.specs.Lists.{all, equal_lists}
use Rattle.decimal.specs.Decimal.{value_of}
use Rattle.text.specs.Reading.{pieces, good_number}
use Rattle.text.specs.Scan.{is_value, digit_in}
use Rattle.text.specs.Writing.{image_word}
use Rattle.text.specs.declared.number.Number.{Number}
use Rattle.text.specs.declared.number.Number.TheVariants.{Empty, Bad}
use Rattle.std.specs.Prelude.{Option, Some, None}

-- what the input is: the line of these words, or another text
pub data ImageLine : Type 0 where
  image : List ℕ → ImageLine
  other : ImageLine

-- 6 to 400,000 bytes, the first five of them the word, the last a newline
unfoldable pub framed : List ℕ → Bool
framed bytes =
    within 6 400000 (length bytes) && (equal_lists (take 5 bytes) image_word && (get_or bytes (length bytes - 1) 0 == 10))

-- what stands between the word and the newline
abbrev pub framed_in : List ℕ → List ℕ
framed_in bytes = take (length bytes - 6) (drop 5 bytes)

-- the pieces between spaces: nothing before the first space, then the numbers
unfoldable pub fields_in : List (List ℕ) → ImageLine
fields_in [] = other
fields_in (p ∷ ps) = ((length p == 0) && all good_number ps) ⇒ image (map (value_of 0) ps) else other

unfoldable pub read_image : List ℕ → ImageLine
unfolding framed fields_in pieces
read_image bytes = framed bytes ⇒ fields_in (pieces 32 (framed_in bytes)) else other

-- the words of the line: none where it is another text
abbrev pub line_words : ImageLine → List ℕ
line_words (image ws) = ws
line_words other = []

-- the answer as the code gives it: how many words, or none
abbrev pub line_verdict : ImageLine → Option ℕ
line_verdict (image ws) = Some (length ws)
line_verdict other = None

-- ---- byte by byte, as the code does it

-- a space ends a number
unfoldable pub field_in : Number → ℕ → Number
unfolding digit_in
field_in n b = (b == 32) ⇒ (is_value n ⇒ Empty else Bad) else digit_in n b

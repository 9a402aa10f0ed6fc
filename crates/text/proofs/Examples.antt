-- Examples of chartrun's text, computed from the definitions.
use mathlib.Core.Path.{◌≡◌, refl}
use mathlib.Core.List.{List, [], ◌∷◌, ◌++◌}
use Prim.Native.Nat.{ℕ}
use Rattle.decimal.specs.Decimal.{value_of}
use Rattle.text.specs.Reading.{calls, unreadable, pieces, on_first, good_number, good_line, line_count, first_bad, words_in, read_text}
use Rattle.decimal.specs.Decimal.{digits}
use Rattle.text.specs.Writing.{spaced, line_of, answer_line, answer_lines, write_text, unreadable_text}

-- "8 1 2 450 0"
abbrev pub line_bytes : List ℕ
line_bytes = 56 ∷ 32 ∷ 49 ∷ 32 ∷ 50 ∷ 32 ∷ 52 ∷ 53 ∷ 48 ∷ 32 ∷ 48 ∷ []

pub no_input : read_text [] ≡ calls []
unfolding read_text pieces on_first line_count first_bad words_in
no_input = refl

pub one_line : read_text (line_bytes ++ 10 ∷ []) ≡ calls (8 ∷ 1 ∷ 2 ∷ 450 ∷ 0 ∷ [])
unfolding read_text pieces on_first line_count first_bad good_line good_number value_of words_in
one_line = refl

pub a_rest : read_text (line_bytes ++ 10 ∷ line_bytes) ≡ unreadable 2
unfolding read_text pieces on_first line_count first_bad good_line good_number value_of words_in
a_rest = refl

-- "done 450", "refused 16", "image 0 0 6 6 6 6"
pub three_lines : write_text (0 ∷ 450 ∷ 16 ∷ 0 ∷ []) (0 ∷ 0 ∷ 6 ∷ 6 ∷ 6 ∷ 6 ∷ []) ≡
    (100 ∷ 111 ∷ 110 ∷ 101 ∷ 32 ∷ 52 ∷ 53 ∷ 48 ∷ 10 ∷ [])
    ++ (114 ∷ 101 ∷ 102 ∷ 117 ∷ 115 ∷ 101 ∷ 100 ∷ 32 ∷ 49 ∷ 54 ∷ 10 ∷ [])
    ++ (105 ∷ 109 ∷ 97 ∷ 103 ∷ 101 ∷ 32 ∷ 48 ∷ 32 ∷ 48 ∷ 32 ∷ 54 ∷ 32 ∷ 54 ∷ 32 ∷ 54 ∷ 32 ∷ 54 ∷ 10 ∷ [])
unfolding write_text answer_lines answer_line line_of spaced digits
three_lines = refl

-- "unreadable 1001"
pub many_lines : unreadable_text 1001 ≡ 117 ∷ 110 ∷ 114 ∷ 101 ∷ 97 ∷ 100 ∷ 97 ∷ 98 ∷ 108 ∷ 101 ∷ 32 ∷ 49 ∷ 48 ∷ 48 ∷ 49 ∷ 10 ∷ []
unfolding unreadable_text line_of spaced digits
many_lines = refl

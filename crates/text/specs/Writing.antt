-- chartrun's output: REFERENCE 11.3 and 11.4.
use Rattle.std.specs.Prelude.{ℕ, List, [], ◌∷◌, ◌++◌, length, ltb, ◌==◌}
use Rattle.lists.specs.Choice.{◌⇒◌else◌}
use Rattle.lists.specs.Lists.{concat_map}
use Rattle.decimal.specs.Decimal.{digits}

-- a number with the space before it; a word has at most ten digits
unfoldable pub spaced : ℕ → List ℕ
unfolding digits
spaced n = 32 ∷ digits 10 n

-- the words that lines begin with
abbrev pub done_word : List ℕ
done_word = 100 ∷ 111 ∷ 110 ∷ 101 ∷ []

abbrev pub refused_word : List ℕ
refused_word = 114 ∷ 101 ∷ 102 ∷ 117 ∷ 115 ∷ 101 ∷ 100 ∷ []

abbrev pub image_word : List ℕ
image_word = 105 ∷ 109 ∷ 97 ∷ 103 ∷ 101 ∷ []

abbrev pub unreadable_word : List ℕ
unreadable_word = 117 ∷ 110 ∷ 114 ∷ 101 ∷ 97 ∷ 100 ∷ 97 ∷ 98 ∷ 108 ∷ 101 ∷ []

-- a word, numbers, and the newline that ends them
unfoldable pub line_of : List ℕ → List ℕ → List ℕ
unfolding spaced
line_of word ns = word ++ (concat_map spaced ns ++ (10 ∷ []))

-- an accepted call has code 0
unfoldable pub answer_line : ℕ → ℕ → List ℕ
unfolding line_of
answer_line code number = (code == 0) ⇒ line_of done_word (number ∷ []) else line_of refused_word (code ∷ [])

-- two words a call, code and number
unfoldable pub answer_lines : List ℕ → List ℕ
unfolding answer_line
answer_lines [] = []
answer_lines (code ∷ []) = []
answer_lines (code ∷ number ∷ ws) = answer_line code number ++ answer_lines ws

-- all answers, then the image
unfoldable pub write_text : List ℕ → List ℕ → List ℕ
unfolding line_of answer_lines
write_text answers image = answer_lines answers ++ line_of image_word image

-- what the lent bytes have room for at any words: 1,000 answers, and the image of 200 vertices and 800 edges; else
-- nothing
unfoldable pub bounded_text : List ℕ → List ℕ → List ℕ
unfolding write_text
bounded_text answers image =
    ltb 2000 (length answers) ⇒ [] else
    ltb 7206 (length image) ⇒ [] else
    write_text answers image

-- all that is written where the input is unreadable
unfoldable pub unreadable_text : ℕ → List ℕ
unfolding line_of
unreadable_text n = line_of unreadable_word (n ∷ [])

-- chartpage's refusal: 105 alone; any other code with the offset of the first bad word
unfoldable pub refused_line : ℕ → ℕ → List ℕ
unfolding line_of
refused_line code offset = line_of refused_word ((code == 105) ⇒ (code ∷ []) else (code ∷ offset ∷ []))

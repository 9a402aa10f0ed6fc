-- chartrun's input: REFERENCE 11.2 and 11.3.
-- Bytes are numbers: the newline is 10, the space 32, the digits 48 to 57.
use Rattle.std.specs.Prelude.{ℕ, ◌+◌, ◌^◌, Bool, false, not, ◌&&◌, ◌||◌, List, [], ◌∷◌, ◌++◌, map, length, ltb, ◌==◌}
use Rattle.lists.specs.Choice.{◌⇒◌else◌, within}
use Rattle.lists.specs.Lists.{all}
use Rattle.decimal.specs.Decimal.{value_of}
use Rattle.std.specs.Prelude.{Result, Ok, Err}
use Rattle.text.specs.declared.reading.Unreadable.{Unreadable}

-- what the input is: the words of its calls, or the number that is printed after unreadable
pub data Verdict : Type 0 where
  calls : List ℕ → Verdict
  unreadable : ℕ → Verdict

unfoldable pub on_first : ℕ → List (List ℕ) → List (List ℕ)
on_first x [] = (x ∷ []) ∷ []
on_first x (l ∷ ls) = (x ∷ l) ∷ ls

-- the pieces between the separators: one more than there are separators
unfoldable pub pieces : ℕ → List ℕ → List (List ℕ)
unfolding on_first
pieces s [] = [] ∷ []
pieces s (x ∷ xs) = (x == s) ⇒ ([] ∷ pieces s xs) else on_first x (pieces s xs)

abbrev pub digit : ℕ → Bool
digit x = within 48 57 x

-- digits, at least one and no zero before others, of a number that is a word
unfoldable pub good_number : List ℕ → Bool
unfolding value_of
good_number [] = false
good_number (x ∷ xs) = all digit (x ∷ xs) && (not (x == 48) || (length xs == 0)) && ltb (value_of 0 (x ∷ xs)) (2 ^ 32)

-- five numbers with single spaces between them
unfoldable pub good_line : List ℕ → Bool
unfolding pieces good_number
good_line line = (length (pieces 32 line) == 5) && all good_number (pieces 32 line)

-- of the pieces between newlines the last is the rest: no line where it is empty, else a bad one
unfoldable pub line_count : List (List ℕ) → ℕ
line_count [] = 0
line_count (rest ∷ []) = (length rest == 0) ⇒ 0 else 1
line_count (line ∷ l ∷ ls) = 1 + line_count (l ∷ ls)

-- the number of the first bad line, counted from n; 0 where all are good
unfoldable pub first_bad : ℕ → List (List ℕ) → ℕ
unfolding good_line
first_bad n [] = 0
first_bad n (rest ∷ []) = (length rest == 0) ⇒ 0 else n
first_bad n (line ∷ l ∷ ls) = good_line line ⇒ first_bad (n + 1) (l ∷ ls) else n

-- the numbers on the lines
unfoldable pub words_in : List (List ℕ) → List ℕ
unfolding pieces value_of
words_in [] = []
words_in (rest ∷ []) = []
words_in (line ∷ l ∷ ls) = map (value_of 0) (pieces 32 line) ++ words_in (l ∷ ls)

-- REFERENCE 11.3: bytes are counted first, then lines, then each line is looked at
unfoldable pub read_text : List ℕ → Verdict
unfolding pieces line_count first_bad words_in
read_text bytes =
    ltb 60000 (length bytes) ⇒ unreadable 0 else
    ltb 1000 (line_count (pieces 10 bytes)) ⇒ unreadable 1001 else
    (first_bad 1 (pieces 10 bytes) == 0) ⇒ calls (words_in (pieces 10 bytes)) else
    unreadable (first_bad 1 (pieces 10 bytes))

-- the words that are read: none where the input is unreadable
abbrev pub call_words : Verdict → List ℕ
call_words (calls ws) = ws
call_words (unreadable n) = []

-- the answer as the code gives it: how many words, or the number after unreadable
abbrev pub verdict_of : Verdict → Result ℕ Unreadable
verdict_of (calls ws) = Ok (length ws)
verdict_of (unreadable n) = Err (record { 0 = n })

-- chartresume's input: the line of an image, and lines of calls behind it (REFERENCE 11.8, 11.9).
use Rattle.std.specs.Prelude.{ℕ, suc, ◌+◌, List, [], ◌∷◌, length, take, drop, ◌==◌, Result, Ok, Err}
use Rattle.lists.specs.Choice.{◌⇒◌else◌}
use Rattle.text.specs.Reading.{Verdict, calls, unreadable, read_text, call_words}
use Rattle.text.specs.ImageLine.{ImageLine, image, other, read_image}
use Rattle.text.specs.declared.reading.Unreadable.{Unreadable}
use Rattle.resume_text.specs.declared.Lengths.{Lengths}

-- what the input is: the words of its image and of its calls, or the number that is printed after unreadable
pub data Input : Type 0 where
  saved : List ℕ → List ℕ → Input
  bad_line : ℕ → Input

-- how many bytes the first line has, its newline counted; all where there is none
unfoldable pub first_length : List ℕ → ℕ
first_length [] = 0
first_length (x ∷ xs) = (x == 10) ⇒ 1 else suc (first_length xs)

abbrev pub first_line : List ℕ → List ℕ
first_line bytes = take (first_length bytes) bytes

abbrev pub later_lines : List ℕ → List ℕ
later_lines bytes = drop (first_length bytes) bytes

-- a line of the calls, counted from the image's; 0 is no line
unfoldable pub line_of_all : ℕ → ℕ
line_of_all n = (n == 0) ⇒ 0 else (n + 1)

-- the calls behind an image of these words
abbrev pub behind : List ℕ → Verdict → Input
behind start (calls ws) = saved start ws
behind start (unreadable n) = bad_line (line_of_all n)

-- a first line that is no image's is the bad one
abbrev pub joined : ImageLine → Verdict → Input
joined (image start) v = behind start v
joined other v = bad_line 1

-- the image's line is looked at first, then bytes, number and form of the lines behind it
unfoldable pub read_input : List ℕ → Input
unfolding first_length line_of_all read_image read_text
read_input bytes = joined (read_image (first_line bytes)) (read_text (later_lines bytes))

-- ---- as the code gives it

-- how many words the calls behind an image have, or the number of the bad line
abbrev pub calls_verdict : Verdict → Result ℕ Unreadable
calls_verdict (calls ws) = Ok (length ws)
calls_verdict (unreadable n) = Err (record { 0 = line_of_all n })

abbrev pub input_verdict : Input → Result Lengths Unreadable
input_verdict (saved start ws) = Ok (record { image = length start; calls = length ws })
input_verdict (bad_line n) = Err (record { 0 = n })

-- the words of calls that are read: none where the first line is no image's
abbrev pub words_behind : ImageLine → Verdict → List ℕ
words_behind (image start) v = call_words v
words_behind other v = []

abbrev pub calls_in : List ℕ → List ℕ
calls_in bytes = words_behind (read_image (first_line bytes)) (read_text (later_lines bytes))

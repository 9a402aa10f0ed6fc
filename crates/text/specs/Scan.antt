-- Reading byte by byte, as the code does it. proofs/Scans has the laws that this is what Reading says.
use Rattle.std.specs.Prelude.{ℕ, ◌+◌, ◌-◌, ◌*◌, ◌^◌, Bool, true, false, ◌&&◌, ◌||◌, List, [], ◌∷◌, ◌++◌, ltb, ◌==◌}
use Rattle.lists.specs.Choice.{◌⇒◌else◌}
use Rattle.text.specs.Reading.{digit}
use Rattle.text.specs.declared.number.Number.{Number}
use Rattle.text.specs.declared.number.Number.TheVariants.{Empty, Value, Bad}
use Rattle.text.specs.declared.line.Line.{Line}
use Rattle.text.specs.declared.line.Lines.{Lines}

-- the state after all elements
abbrev pub scan {ℓ} : {S : Type ℓ} → (S → ℕ → S) → S → List ℕ → S
scan f s [] = s
scan f s (x ∷ xs) = scan f (f s x) xs

-- ---- a number: the bytes since its start

unfoldable pub more_digit : ℕ → ℕ → Number
more_digit v d = (v == 0) ⇒ Bad else ltb (10 * v + d) (2 ^ 32) ⇒ Value (10 * v + d) else Bad

unfoldable pub add_digit : Number → ℕ → Number
unfolding more_digit
add_digit Empty d = Value d
add_digit (Value v) d = more_digit v d
add_digit Bad d = Bad

unfoldable pub digit_in : Number → ℕ → Number
unfolding add_digit
digit_in n b = digit b ⇒ add_digit n (b - 48) else Bad

abbrev pub is_value : Number → Bool
is_value Empty = false
is_value (Value v) = true
is_value Bad = false

abbrev pub value_in : Number → ℕ
value_in Empty = 0
value_in (Value v) = v
value_in Bad = 0

-- ---- a line: the numbers before the last space, and the number since

abbrev pub fresh_line : Line
fresh_line = record { fields = 0; number = Empty }

-- a fifth space makes the line bad
unfoldable pub space_in : Line → Line
space_in l =
    (is_value l.number && ltb l.fields 4) ⇒ record { fields = l.fields + 1; number = Empty } else
    record { fields = l.fields; number = Bad }

unfoldable pub line_in : Line → ℕ → Line
unfolding space_in digit_in
line_in l b = (b == 32) ⇒ space_in l else record { fields = l.fields; number = digit_in l.number b }

abbrev pub line_good : Line → Bool
line_good l = is_value l.number && (l.fields == 4)

abbrev pub blank : Number → Bool
blank Empty = true
blank (Value v) = false
blank Bad = false

-- no byte of the line was read
abbrev pub line_blank : Line → Bool
line_blank l = blank l.number && (l.fields == 0)

-- ---- all lines: how many ended, the number of the first bad one or 0, and the line since

abbrev pub fresh_lines : Lines
fresh_lines = record { ended = 0; bad = 0; line = fresh_line }

-- the first bad line, after line n
unfoldable pub bad_after : ℕ → ℕ → Bool → ℕ
bad_after bad n good = (bad == 0) ⇒ (good ⇒ 0 else n) else bad

-- the line since has ended, good or bad
unfoldable pub line_ended : Bool → Lines → Lines
unfolding bad_after
line_ended good s = record { ended = s.ended + 1; bad = bad_after s.bad (s.ended + 1) good; line = fresh_line }

unfoldable pub newline_in : Lines → Lines
unfolding bad_after
newline_in s = record {
  ended = s.ended + 1;
  bad = bad_after s.bad (s.ended + 1)
      (line_good s.line);
  line = fresh_line;
}

unfoldable pub byte_in : Lines → ℕ → Lines
unfolding newline_in line_in
byte_in s b = (b == 10) ⇒ newline_in s else record { ended = s.ended; bad = s.bad; line = line_in s.line b }

-- a rest is a line too, and bad
unfoldable pub rest_in : Lines → Lines
unfolding bad_after
rest_in s = line_blank
    s.line ⇒ s else record { ended = s.ended + 1; bad = bad_after s.bad (s.ended + 1) false; line = fresh_line }

-- ---- the words: each number that a space or a newline ends

abbrev pub field_ends : ℕ → Bool
field_ends b = (b == 32) || (b == 10)

unfoldable pub number_after : Number → ℕ → Number
unfolding digit_in
number_after n b = field_ends b ⇒ Empty else digit_in n b

unfoldable pub word_at : Number → ℕ → List ℕ
word_at n b = field_ends b ⇒ (value_in n ∷ []) else []

unfoldable pub words_from : Number → List ℕ → List ℕ
unfolding number_after word_at
words_from n [] = []
words_from n (b ∷ bs) = word_at n b ++ words_from (number_after n b) bs

-- Rows and pages, worked.
use Prim.Native.Nat.{ℕ}
use mathlib.Core.Path.{◌≡◌, refl}
use mathlib.Core.List.{List, [], ◌∷◌, ◌++◌}
use lib.ListN.{replicate}
use Rattle.lists.specs.Choice.{if_equal}
use Rattle.decimal.specs.Decimal.{digits}
use Rattle.graph.specs.Graph.{Edge}
use Rattle.graph.specs.declared.Reading.{Reading}
use Rattle.graph.specs.declared.Reading.TheVariants.{Untested, Silent, Heard}
use Rattle.image.specs.Image.{load}
use Rattle.image_check.specs.Checks.{verdict}
use Rattle.page.specs.Rows.{right_aligned, column, cell, silent_word, reading_text, reading_column, row_of, rows_of}
use Rattle.page.specs.Page.{page_of}

abbrev edge_with : ℕ → ℕ → ℕ → ℕ → Reading → Edge
edge_with n a o t r = record { number = n; alpha = a; omega = o; type = t; reading = r }

-- so many spaces, then the text
abbrev gap : ℕ → List ℕ → List ℕ
gap k text = replicate k 32 ++ text

-- "   1    1    2  0    450"
first_row : row_of (edge_with 1 1 2 0 (Heard 450))
    ≡ gap 3 (49 ∷ gap 4 (49 ∷ gap 4 (50 ∷ gap 2 (48 ∷ gap 4 (52 ∷ 53 ∷ 48 ∷ 10 ∷ [])))))
unfolding row_of cell column right_aligned reading_column reading_text digits
first_row = refl

-- "4000 1000  999 63   9999"
full_row : row_of (edge_with 4000 1000 999 63 (Heard 9999))
    ≡ 52 ∷ 48 ∷ 48 ∷ 48 ∷ 32 ∷ 49 ∷ 48 ∷ 48 ∷ 48 ∷ gap 2 (57 ∷ 57 ∷ 57 ∷ 32 ∷ 54 ∷ 51 ∷ gap 3 (57 ∷ 57 ∷ 57 ∷ 57 ∷ 10 ∷ []))
unfolding row_of cell column right_aligned reading_column reading_text digits
full_row = refl

untested : reading_column Untested ≡ gap 5 (45 ∷ [])
unfolding reading_column right_aligned reading_text
untested = refl

silent : reading_column Silent ≡ silent_word
unfolding reading_column right_aligned reading_text
silent = refl

heard_zero : reading_column (Heard 0) ≡ gap 5 (48 ∷ [])
unfolding reading_column right_aligned reading_text digits
heard_zero = refl

-- no edges: code 0 and no bytes, the page as it was; also a page of no bytes
empty_page : page_of (0 ∷ 0 ∷ 6 ∷ 6 ∷ 6 ∷ 6 ∷ []) (7 ∷ 8 ∷ []) ≡ record { code = 0; bytes = 0; page = 7 ∷ 8 ∷ [] }
unfolding page_of verdict load rows_of
empty_page = refl

no_page : page_of (0 ∷ 0 ∷ 6 ∷ 6 ∷ 6 ∷ 6 ∷ []) [] ≡ record { code = 0; bytes = 0; page = [] }
unfolding page_of verdict load rows_of
no_page = refl

-- words that do not load, with a page of no bytes: 105; a vertex of type 64, at word 7; an incidence twice, at word 16
no_words : page_of [] [] ≡ record { code = 105; bytes = 0; page = [] }
unfolding page_of verdict load rows_of
no_words = refl

bad_type : page_of (1 ∷ 0 ∷ 6 ∷ 9 ∷ 9 ∷ 9 ∷ 1 ∷ 64 ∷ 5 ∷ []) [] ≡ record { code = 108; bytes = 7; page = [] }
unfolding page_of verdict
bad_type = refl

word_twice : page_of (1 ∷ 1 ∷ 6 ∷ 9 ∷ 15 ∷ 17 ∷ 1 ∷ 0 ∷ 5 ∷ 3 ∷ 1 ∷ 1 ∷ 2 ∷ 1 ∷ 0 ∷ 7 ∷ 7 ∷ []) [] ≡ record { code = 109; bytes = 16; page = [] }
unfolding page_of verdict if_equal
word_twice = refl

-- the same in new words, and with the degree of a loop counted once: the degree is told, before the incidence
word_twice_new : page_of (1 ∷ 1 ∷ 6 ∷ 10 ∷ 16 ∷ 18 ∷ 1 ∷ 0 ∷ 5 ∷ 2 ∷ 3 ∷ 1 ∷ 1 ∷ 2 ∷ 1 ∷ 0 ∷ 7 ∷ 7 ∷ []) []
    ≡ record { code = 109; bytes = 17; page = [] }
unfolding page_of verdict if_equal
word_twice_new = refl

loop_once : page_of (1 ∷ 1 ∷ 6 ∷ 10 ∷ 16 ∷ 18 ∷ 1 ∷ 0 ∷ 5 ∷ 1 ∷ 3 ∷ 1 ∷ 1 ∷ 2 ∷ 1 ∷ 0 ∷ 7 ∷ 7 ∷ []) []
    ≡ record { code = 108; bytes = 9; page = [] }
unfolding page_of verdict if_equal
loop_once = refl

-- offsets of old records with a total of new ones
mixed : page_of (1 ∷ 0 ∷ 6 ∷ 9 ∷ 9 ∷ 10 ∷ 1 ∷ 0 ∷ 5 ∷ 0 ∷ []) [] ≡ record { code = 105; bytes = 0; page = [] }
unfolding page_of verdict
mixed = refl

-- a loop at vertex 1, silent: 24 bytes are too few, and of 26 the last stays
loop_words : List ℕ
loop_words = 1 ∷ 1 ∷ 6 ∷ 9 ∷ 15 ∷ 17 ∷ 1 ∷ 0 ∷ 5 ∷ 3 ∷ 1 ∷ 1 ∷ 2 ∷ 1 ∷ 0 ∷ 6 ∷ 7 ∷ []

loop_short : page_of loop_words (replicate 24 7) ≡ record { code = 107; bytes = 0; page = replicate 24 7 }
unfolding loop_words page_of verdict load if_equal
loop_short = refl

loop_page : page_of loop_words (replicate 26 7)
    ≡ record { code = 0; bytes = 25; page = gap 3 (51 ∷ gap 4 (49 ∷ gap 4 (49 ∷ gap 2 (50 ∷ 32 ∷ silent_word ++ 10 ∷ 7 ∷ [])))) }
unfolding loop_words page_of verdict load if_equal rows_of row_of cell column right_aligned reading_column reading_text digits
loop_page = refl

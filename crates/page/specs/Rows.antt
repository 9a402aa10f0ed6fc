-- The rows of a page: an edge in 25 bytes. Bytes are numbers: the newline is 10, the space 32, the hyphen 45.
use Rattle.std.specs.Prelude.{ℕ, ◌-◌, List, [], ◌∷◌, ◌++◌, length, get_or, replicate}
use Rattle.lists.specs.Lists.{concat_map}
use Rattle.decimal.specs.Decimal.{digits}
use Rattle.graph.specs.Graph.{Edge, Graph, reading_of}
use Rattle.graph.specs.declared.Reading.{Reading}
use Rattle.graph.specs.declared.Reading.TheVariants.{Untested, Silent, Heard}
use Rattle.image.specs.Image.{edges_from}

-- a text in so many columns: spaces, then the text
unfoldable pub right_aligned : ℕ → List ℕ → List ℕ
right_aligned width text = replicate (width - length text) 32 ++ text

-- a number in so many columns; at most as many of its last digits
unfoldable pub column : ℕ → ℕ → List ℕ
column width n = right_aligned width (digits width n)

-- a column and the space behind it
unfoldable pub cell : ℕ → ℕ → List ℕ
cell width n = column width n ++ (32 ∷ [])

abbrev pub silent_word : List ℕ
silent_word = 115 ∷ 105 ∷ 108 ∷ 101 ∷ 110 ∷ 116 ∷ []

-- a hyphen, the word silent, or the decimetres
unfoldable pub reading_text : Reading → List ℕ
unfolding digits
reading_text Untested = 45 ∷ []
reading_text Silent = silent_word
reading_text (Heard d) = digits 6 d

unfoldable pub reading_column : Reading → List ℕ
reading_column r = right_aligned 6 (reading_text r)

-- number, alpha, omega, type and reading, and the newline
unfoldable pub row_of : Edge → List ℕ
row_of e =
    cell 4 e.number
    ++ (cell 4 e.alpha ++ (cell 4 e.omega ++ (cell 2 e.type ++ (reading_column e.reading ++ (10 ∷ [])))))

abbrev pub row_bytes : ℕ
row_bytes = 25

-- one row an edge, in Eseq order
unfoldable pub rows_of : Graph → List ℕ
unfolding row_of
rows_of g = concat_map row_of g.eseq

-- ---- for the code

-- the edge whose record of six words stands in front
abbrev pub edge_read : List ℕ → Edge
edge_read ws = record {
  number = get_or ws 0 0;
  alpha = get_or ws 1 0;
  omega = get_or ws 2 0;
  type = get_or ws 3 0;
  reading = reading_of (get_or ws 4 0) (get_or ws 5 0);
}

-- the rows of so many records
abbrev pub rows_from : ℕ → List ℕ → List ℕ
rows_from count ws = concat_map row_of (edges_from count ws)

-- Which lent type rows are taken: REFERENCE 1.9 and 8.4.
use Rattle.std.specs.Prelude.{ℕ, ◌^◌, Bool, ◌&&◌, List, ltb, length}
use Rattle.lists.specs.Choice.{◌⇒◌else◌, within}
use Rattle.lists.specs.Lists.{all}

-- a row that has no bit n or above
abbrev pub row_fits : ℕ → ℕ → Bool
row_fits n row = ltb row (2 ^ n)

-- 1 to 64 rows, and of n rows none has a bit at n or higher
unfoldable pub good_rows : List ℕ → Bool
good_rows rows = within 1 64 (length rows) && all (row_fits (length rows)) rows

-- 104 where the rows are refused, 0 where they are taken
abbrev pub rows_code : List ℕ → ℕ
rows_code rows = good_rows rows ⇒ 0 else 104

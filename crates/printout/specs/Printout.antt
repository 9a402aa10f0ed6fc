-- The program chartpage, from the bytes that it reads to the bytes that it writes.
use Rattle.std.specs.Prelude.{ℕ, List, [], ◌==◌}
use Rattle.lists.specs.Choice.{◌⇒◌else◌}
use Rattle.image.specs.Image.{load}
use Rattle.image_check.specs.Checks.{load_code, load_offset}
use Rattle.page.specs.Rows.{rows_of}
use Rattle.page.specs.Page.{page_bounds}
use Rattle.text.specs.Writing.{unreadable_word, line_of, refused_line}
use Rattle.text.specs.ImageLine.{ImageLine, image, other, read_image}

-- the rows of words that load; of others a line with their code
unfoldable pub rows_or_code : List ℕ → List ℕ
unfolding rows_of refused_line
rows_or_code ws =
    (load_code page_bounds ws == 0) ⇒ rows_of (load ws)
    else refused_line (load_code page_bounds ws) (load_offset page_bounds ws)

-- any other text than the line of an image: a line of one word
unfoldable pub printed_line : ImageLine → List ℕ
unfolding rows_or_code line_of
printed_line (image ws) = rows_or_code ws
printed_line other = line_of unreadable_word []

unfoldable pub printout : List ℕ → List ℕ
unfolding read_image printed_line
printout bytes = printed_line (read_image bytes)

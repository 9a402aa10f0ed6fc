-- The page of an image: the code and the number of bytes, and what the page is afterwards, for all words.
use Rattle.std.specs.Prelude.{ℕ, ◌*◌, List, length, ltb, ◌==◌, Result, Ok, Err}
use Rattle.lists.specs.Choice.{◌⇒◌else◌}
use Rattle.lists.specs.Lists.{overwritten}
use Rattle.graph.specs.WellFormed.{Bounds}
use Rattle.image.specs.Image.{load}
use Rattle.image_check.specs.Checks.{saved_bounds, load_code, load_offset, bad_code, bad_offset}
use Rattle.page.specs.Rows.{row_bytes, rows_of}
use Rattle.page.specs.declared.Printed.{Printed}
use Rattle.page.specs.declared.NoPage.{NoPage}
use Rattle.page.specs.declared.NoPage.TheVariants.{Image, Short}

-- what the words are held against, whatever a run elsewhere is lent
abbrev pub page_bounds : Bounds
page_bounds = saved_bounds

pub record PageResult : Type 0 where
  pub code : ℕ
  pub bytes : ℕ
  pub page : List ℕ

-- the bytes of a page: 25 an edge
abbrev pub page_bytes : List ℕ → ℕ
page_bytes ws = row_bytes * length (load ws).eseq

-- the code of words that do not load; only of others 107, where there is room for fewer bytes
unfoldable pub page_code : List ℕ → ℕ → ℕ
page_code ws room = (load_code page_bounds ws == 0) ⇒ (ltb room (page_bytes ws) ⇒ 107 else 0) else load_code page_bounds ws

-- with a code the page as it was, and for bytes the offset of the first bad word (proofs/BadWords: 0 with 105 and 107);
-- else the rows, and behind them what stood there
unfoldable pub page_of : List ℕ → List ℕ → PageResult
unfolding page_code
page_of ws page =
    (page_code ws (length page) == 0)
    ⇒ record { code = 0; bytes = length (rows_of (load ws)); page = overwritten (rows_of (load ws)) page }
    else record { code = page_code ws (length page); bytes = load_offset page_bounds ws; page = page }

-- what the code gives, with the page that it leaves
abbrev pub printed : Printed → List ℕ → PageResult
printed r page = record { code = r.code; bytes = r.bytes; page = page }

-- ---- for the code

-- the code of what keeps a page from being written, and the number beside it
abbrev pub no_page_code : NoPage → ℕ
no_page_code (Image bad) = bad_code bad
no_page_code Short = 107

abbrev pub no_page_offset : NoPage → ℕ
no_page_offset (Image bad) = bad_offset bad
no_page_offset Short = 0

-- what C is told of it
abbrev pub told : Result ℕ NoPage → Printed
told (Ok bytes) = record { code = 0; bytes = bytes }
told (Err none) = record { code = no_page_code none; bytes = no_page_offset none }

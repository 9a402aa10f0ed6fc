-- The line that is written for a saved graph is printed as the graph's rows.
use Prim.Native.Nat.{◌≤◌}
use mathlib.Core.Path.{◌≡◌, ap, ◌∙◌}
use mathlib.Core.Bool.{true}
use native.Mathlib.Omega.{arith}
use lib.ListN.{length}
use Rattle.graph.specs.Graph.{Graph}
use Rattle.graph.specs.WellFormed.{well_formed}
use Rattle.image.specs.Image.{save}
use Rattle.image_check.proofs.LoadCodes.{code_loads}
use Rattle.image.proofs.Loads.{saved_same, saved_loads}
use Rattle.image.proofs.Room.{image_fits}
use Rattle.image.proofs.WordSize.{image_small}
use Rattle.page.specs.Rows.{rows_of}
use Rattle.page.specs.Page.{page_bounds}
use Rattle.page.proofs.EqualRows.{in_range}
use Rattle.text.specs.Writing.{image_word, line_of}
use Rattle.text.proofs.Texts.{numbers_most}
use Rattle.text.proofs.ImageLineBack.{image_length, image_line_back}
use Rattle.printout.specs.Printout.{rows_or_code, printed_line, printout}

module _ (g : Graph) (h : well_formed page_bounds g ≡ true) where
  -- 11 bytes a word at most, and at most 36,006 words
  fits : length (line_of image_word (save g)) ≤ 400000
  fits = omega (arith, image_length (save g), numbers_most (save g), image_fits page_bounds g h)

  saved_rows : rows_or_code (save g) ≡ rows_of g
  unfolding rows_or_code
  saved_rows = rw ((code_loads page_bounds (save g)).1 (saved_loads page_bounds g h)) (ap rows_of (saved_same page_bounds g h))

  pub saved_printed : printout (line_of image_word (save g)) ≡ rows_of g
  unfolding printout printed_line
  saved_printed = ap printed_line (image_line_back (save g) (image_small page_bounds in_range g h) fits) ∙ saved_rows

use native.Mathlib.Omega.{arith}
use Rattle.decimal.proofs.Stores.{stored_over, stored_whole, written_as}
use Rattle.text.specs.Writing.{line_of}
use Rattle.printout.specs.Printout.{printed_line}
use Rattle.printout.proofs.Pages.{words_read, other_read}
use Rattle.printout.proofs.print_image.Goals as goal

pub returns-in-Some : goal.returns-in-Some
returns-in-Some c =
    let r = c.read_image.ensures in
    let w = words_read c.args.input.now _ r.verdict c.in-Some.count _ _ c.in-Some.is r.words in
    written_as _ _ c.print_words.result _ _ w.text c.print_words.ensures

pub returns-in-None : goal.returns-in-None
unfolding printed_line line_of
returns-in-None c =
    written_as _ _ c.bytes.result _ _ (other_read c.args.input.now _ c.read_image.ensures.verdict c.in-None.is)
    (stored_over (omega arith) (stored_whole _ (omega arith) c.bytes.ensures))

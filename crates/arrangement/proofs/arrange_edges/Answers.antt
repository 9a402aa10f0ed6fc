use mathlib.Core.Path.{sym, ap, ◌∙◌}
use lib.ListN.{replicate}
use Rattle.std.proofs.lemmas.Result.{err_from_is_err_and}
use Rattle.image_check.specs.Checks.{code_of}
use Rattle.image.specs.Image.{numbers_in}
use Rattle.image_check.proofs.Verdicts.{code_not_zero}
use Rattle.arrangement.specs.Scratch.{marked, settled}
use Rattle.arrangement.proofs.Items.{edges_whole, edges_refused, edges_settled}
use Rattle.arrangement.proofs.arrange_edges.Goals as goal

pub returns-in_err-check_saved : goal.returns-in_err-check_saved
returns-in_err-check_saved c =
    let a = c.args in
    let p = err_from_is_err_and c.from_residual.result c.from_residual.ensures.1 in
    rw (p.1, p.2)
    (edges_refused a.words.now a.wanted.now a.list.now _ (ap code_of (sym c.in_err-check_saved.was ∙ c.check_saved.ensures)) (code_not_zero _))

pub order_numbers-requires-clause-whole : goal.order_numbers-requires-clause-whole
order_numbers-requires-clause-whole c =
    edges_whole c.args.words.now (ap code_of (sym c.check_saved.ensures ∙ c.in_ok-check_saved.was)) _ c.get.ensures _ c.within.ensures.0

pub returns : goal.returns
returns c =
    let a = c.args in
    let z = ap code_of (sym c.check_saved.ensures ∙ c.in_ok-check_saved.was) in
    let count = c.get.ensures in
    let part = c.within.ensures.0 in
    c.order_numbers.ensures
    ∙ (λ i. settled 14 a.wanted.now (count i) (marked (numbers_in 6 (count i) (part i)) (replicate 8002 0)) a.list.now)
    ∙ edges_settled a.words.now z a.wanted.now a.list.now

use mathlib.Core.Path.{sym, ap, ◌∙◌}
use lib.ListN.{replicate}
use Rattle.std.proofs.lemmas.Result.{err_from_is_err_and}
use Rattle.image_check.specs.Checks.{code_of}
use Rattle.image.specs.Image.{numbers_in}
use Rattle.image_check.proofs.Verdicts.{code_not_zero}
use Rattle.arrangement.specs.Scratch.{marked, settled}
use Rattle.arrangement.proofs.Items.{size_least, vertices_whole, vertices_refused, vertices_settled}
use Rattle.arrangement.proofs.arrange_vertices.Goals as goal

pub returns-in_err-check_saved : goal.returns-in_err-check_saved
returns-in_err-check_saved c =
    let a = c.args in
    let p = err_from_is_err_and c.from_residual.result c.from_residual.ensures.1 in
    rw (p.1, p.2)
    (vertices_refused a.words.now a.wanted.now a.list.now _ (ap code_of (sym c.in_err-check_saved.was ∙ c.check_saved.ensures)) (code_not_zero _))

pub order_numbers-requires-clause-size : goal.order_numbers-requires-clause-size
order_numbers-requires-clause-size c = size_least c.args.words.now _ c.record_size.ensures.0

pub order_numbers-requires-clause-whole : goal.order_numbers-requires-clause-whole
order_numbers-requires-clause-whole c =
    vertices_whole c.args.words.now (ap code_of (sym c.check_saved.ensures ∙ c.in_ok-check_saved.was)) _ _ c.record_size.ensures.0 c.get.ensures _ c.within.ensures.0

pub returns : goal.returns
returns c =
    let a = c.args in
    let z = ap code_of (sym c.check_saved.ensures ∙ c.in_ok-check_saved.was) in
    let count = c.get.ensures in
    let part = c.within.ensures.0 in
    let rs = c.record_size.ensures.0 in
    c.order_numbers.ensures
    ∙ (λ i. settled 12 a.wanted.now (count i) (marked (numbers_in (rs i) (count i) (part i)) (replicate 8002 0)) a.list.now)
    ∙ vertices_settled a.words.now z a.wanted.now a.list.now

use mathlib.Core.Path.{sym, ap, ◌∙◌}
use Rattle.std.proofs.lemmas.Result.{err_from_is_err_and}
use Rattle.image_check.specs.Checks.{code_of, offset_of}
use Rattle.image_check.proofs.Verdicts.{code_not_zero}
use Rattle.page.proofs.PageLaws.{page_refused, page_short, page_done}
use Rattle.page.proofs.print.Goals as goal

pub returns-in_err-check_saved : goal.returns-in_err-check_saved
returns-in_err-check_saved c =
    let a = c.args in
    let p = err_from_is_err_and c.from_residual.result c.from_residual.ensures.1 in
    let v = sym c.in_err-check_saved.was ∙ c.check_saved.ensures in
    rw (p.1, p.2) (page_refused a.words.now a.page.now _ _ (ap code_of v) (ap offset_of v) (code_not_zero _))

pub returns-then-page-count : goal.returns-then-page-count
returns-then-page-count c =
    let a = c.args in
    page_short a.words.now _ (ap code_of (sym c.check_saved.ensures ∙ c.in_ok-check_saved.was)) c.within-records.ensures.0 a.page.now
    c.if-page-count.true

pub returns : goal.returns
returns c =
    let r = c.rows in
    let a = c.args in
    page_done a.words.now _ (ap code_of (sym c.check_saved.ensures ∙ c.in_ok-check_saved.was)) c.within-records.ensures.0 a.page.now
    r.new.out r.result c.if-page-count.false r.ensures

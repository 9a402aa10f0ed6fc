use Rattle.std.specs.Prelude.{Result, Ok, Err}
use Prim.Native.Nat.{ℕ, ◌≤◌}
use mathlib.Core.Path.{◌≡◌, refl, subst, ap, ◌∙◌}
use native.Mathlib.Omega.{arith}
use lib.ListN.{length}
use Rattle.lists.specs.Lists.{overwritten}
use Rattle.decimal.proofs.Stores.{written_as}
use Rattle.page.specs.declared.NoPage.{NoPage}
use Rattle.page.specs.Page.{page_of, printed as printed_page, told}
use Rattle.page.proofs.PageLaws.{no_page_not_zero}
use Rattle.text.specs.Writing.{refused_line}
use Rattle.printout.proofs.Pages.{rows_written, code_given}
use Rattle.printout.proofs.print_words.Goals as goal

pub returns-in-Ok : goal.returns-in-Ok
returns-in-Ok c =
    let a = c.args in
    let p = c.print in
    let room : 100000 ≤ length a.out.now = omega arith in
    let e = subst (λ (r : Result ℕ NoPage). printed_page (told r) p.new.page ≡ page_of a.words.now a.out.now) c.in-Ok.is p.ensures in
    rows_written a.words.now a.out.now p.new.page (told (Ok c.in-Ok.count)) room e refl

pub returns-in-Err : goal.returns-in-Err
returns-in-Err c =
    let a = c.args in
    let p = c.print in
    let l = c.write_refused in
    let room : 100000 ≤ length a.out.now = omega arith in
    let e = subst (λ (r : Result ℕ NoPage). printed_page (told r) p.new.page ≡ page_of a.words.now a.out.now) c.in-Err.is p.ensures in
    let g = code_given a.words.now a.out.now p.new.page (told (Err c.in-Err.none)) room e (no_page_not_zero _) in
    let line = (λ i. refused_line (c.code.ensures i) (c.offset.ensures i)) ∙ g.2 in
    written_as _ _ l.result a.out.now _ line
    (l.ensures.0, l.ensures.1 ∙ ap (overwritten (refused_line c.code.result c.offset.result)) g.0)

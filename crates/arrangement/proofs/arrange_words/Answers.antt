use mathlib.Core.Path.{refl, sym, ap, ◌∙◌}
use borrow.Author.Tests.{not-true, not-false}
use lib.ListN.{length, get_or, replicate}
use Rattle.lists.specs.Lists.{member}
use Rattle.graph.specs.WellFormed.{words_at}
use Rattle.image.specs.Image.{edges_from, numbers_in}
use Rattle.std.proofs.lemmas.Result.{err_from_is_err_and}
use Rattle.image_check.specs.Checks.{code_of}
use Rattle.image_check.proofs.Verdicts.{code_not_zero}
use Rattle.arrangement.specs.Scratch.{marked, settled}
use Rattle.arrangement.proofs.Items.{size_least, vertices_whole, edges_whole, words_refused, words_missing, words_settled}
use Rattle.arrangement.proofs.arrange_words.Goals as goal

pub returns-in_err-check_saved : goal.returns-in_err-check_saved
returns-in_err-check_saved c =
    let a = c.args in
    let p = err_from_is_err_and c.from_residual.result c.from_residual.ensures.1 in
    rw (p.1, p.2)
    (words_refused a.words.now a.wanted.now a.list.now _ (ap code_of (sym c.in_err-check_saved.was ∙ c.check_saved.ensures)) (code_not_zero _) a.vertex)

pub has_number-requires : goal.has_number-requires
has_number-requires c = size_least c.args.words.now _ c.record_size.ensures.0

pub returns-then-not-has_number : goal.returns-then-not-has_number
returns-then-not-has_number c =
    let a = c.args in
    let z = ap code_of (sym c.check_saved.ensures ∙ c.in_ok-check_saved.was) in
    let size = c.record_size.ensures.0 in
    let part = c.within.ensures.0 in
    let v = get_or a.words.now 0 0 in
    let has = c.has_number.ensures v (vertices_whole a.words.now z _ v size refl _ part) in
    words_missing a.words.now z a.vertex a.wanted.now a.list.now
    (sym (has ∙ (λ i. member a.vertex (numbers_in (size i) v (part i)))) ∙ not-true _ c.if-not-has_number.true-raw)

pub returns : goal.returns
returns c =
    let a = c.args in
    let z = ap code_of (sym c.check_saved.ensures ∙ c.in_ok-check_saved.was) in
    let size = c.record_size.ensures.0 in
    let part = c.within.ensures.0 in
    let part2 = c.within-2.ensures.0 in
    let v = get_or a.words.now 0 0 in
    let e = get_or a.words.now 1 0 in
    let has = c.has_number.ensures v (vertices_whole a.words.now z _ v size refl _ part) in
    c.order_words.ensures e (edges_whole a.words.now z e refl _ part2)
    ∙ (λ i. settled 16 a.wanted.now (length (words_at (edges_from e (part2 i)) a.vertex)) (marked (words_at (edges_from e (part2 i)) a.vertex) (replicate 8002 0)) a.list.now)
    ∙ words_settled a.words.now z a.vertex a.wanted.now a.list.now
    (sym (has ∙ (λ i. member a.vertex (numbers_in (size i) v (part i)))) ∙ not-false _ c.if-not-has_number.false-raw)

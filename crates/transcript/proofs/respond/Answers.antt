use Prim.Native.Nat.{◌*◌}
use mathlib.Core.Path.{refl, sym, ◌∙◌}
use native.Mathlib.Omega.{arith}
use lib.Seq.{length-take-le}
use Rattle.decimal.proofs.Stores.{written_as}
use Rattle.text.proofs.Texts.{bounded_whole}
use Rattle.transcript.proofs.Replies.{Shows, shows, run_shown, run_told}
use Rattle.transcript.proofs.respond.Goals.{After-run-ran}
use Rattle.transcript.proofs.respond.Goals as goal

ran_as : (c : After-run-ran) →
    Shows
    c.args.start.now
    c.args.calls.now
    c.run-ran.result.code
    c.run-ran.result.done
    c.run-ran.result.words
    c.run-ran.new.answers
    c.run-ran.new.image
ran_as c =
    shows c.args.start.now c.args.calls.now _ _ c.requires.0 c.requires.1 refl refl c.run-ran.result _ _ c.run-ran.auto.answers c.run-ran.auto.image
    c.run-ran.ensures.image_value

pub overflow_cast-ran : goal.overflow_cast-ran
overflow_cast-ran c =
    let k = ran_as (goal.at.overflow_cast-ran c).After-run-ran in
    omega (arith, k.number_fits c.if-ran-ne0.true, c.requires.2)

pub returns-then-ran-ne0 : goal.returns-then-ran-ne0
returns-then-ran-ne0 c =
    let k = ran_as (goal.at.returns-then-ran-ne0 c).After-run-ran in
    written_as _ _ c.write_refused.result _ _ (run_told _ _ _ _ _ c.if-ran-ne0.true ∙ k.text) c.write_refused.ensures

pub overflow_mul-answers : goal.overflow_mul-answers
overflow_mul-answers c =
    let k = ran_as (goal.at.overflow_mul-answers c).After-run-ran in
    omega (arith, k.calls_fit c.if-ran-ne0.false)

pub slice_bounds-answers-end : goal.slice_bounds-answers-end
slice_bounds-answers-end c =
    let k = ran_as (goal.at.slice_bounds-answers-end c).After-run-ran in
    omega (arith, k.calls_fit c.if-ran-ne0.false, c.run-ran.auto.answers)

pub slice_bounds-write-end : goal.slice_bounds-write-end
slice_bounds-write-end c =
    let k = ran_as (goal.at.slice_bounds-write-end c).After-run-ran in
    sym (length-take-le _ _ (omega (arith, k.calls_fit c.if-ran-ne0.false, c.run-ran.auto.answers)))

pub returns : goal.returns
returns c =
    let k = ran_as (goal.at.returns c).After-run-ran in
    let z = c.if-ran-ne0.false in
    let r = c.run-ran in
    let p = k.calls_fit z in
    let q = k.words_fit z in
    let a = length-take-le (2 * r.result.done) r.new.answers (omega (arith, p, r.auto.answers)) in
    let b = length-take-le r.result.words r.new.image (omega (arith, q, r.auto.image)) in
    written_as _ _ c.write.result _ _ (sym (bounded_whole _ _ (omega (arith, a, p)) (omega (arith, b, q))) ∙ run_shown _ _ _ _ _ z ∙ k.text) c.write.ensures

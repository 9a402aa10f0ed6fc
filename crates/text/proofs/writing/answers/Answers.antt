use mathlib.Core.Path.{sym, ap, ◌∙◌}
use native.Mathlib.Omega.{arith}
use lib.ListN.{length}
use lib.Seq.{sets}
use Rattle.std.proofs.Common.{rules}
use Rattle.decimal.proofs.Stores.{stored_left}
use Rattle.text.proofs.Texts.{answers_length, answers_turn, answers_end}
use Rattle.text.proofs.writing.answers.Goals as goal

pub loop-pair-init : goal.loop-pair-init
loop-pair-init c = search rules

pub answer-at-requires : goal.answer-at-requires
answer-at-requires c =
    let l = c.loop-pair in
    let s = c.in-Some.ensures.steps.1 in
    omega (arith, answers_length _ _ _ s.0 (s.1 ∙ l.invariant.0), l.invariant.1, l.invariant.2, c.requires)

pub loop-pair-preserved : goal.loop-pair-preserved
loop-pair-preserved c =
    let l = c.loop-pair in
    let s = c.in-Some.ensures.steps.1 in
    let d = c.answer-at in
    let two = s.1 ∙ l.invariant.0 in (
      c.in-Some.ensures.steps.0 ∙ l.invariant.0,
      d.auto.out ∙ l.invariant.1,
      omega (arith, d.ensures.place, answers_length _ _ _ s.0 two, l.invariant.2),
      stored_left _ _ d.ensures (sym (answers_turn _ _ _ s.0 two)) ∙ l.invariant.3,
    )

pub returns : goal.returns
returns c =
    let l = c.loop-pair in
    let e = answers_end l.pair-iterator.rest.now (omega (arith, c.in-None.ensures.steps.1.0, l.invariant.0)) in
    record { place = omega (arith, ap length e, l.invariant.2); stores = sym (ap (sets l.out l.at) e) ∙ l.invariant.3 }

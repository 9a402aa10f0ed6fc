use Rattle.std.proofs.Common.{sym, ◌∙◌, arith, rules}
use Rattle.copies.proofs.MadeLaws.{changes_first}
use Rattle.copies.proofs.changes_in.Goals as goal

pub overflow_add-count : goal.overflow_add-count
overflow_add-count c =
    let l = c.loop-call.invariant in
    let s = c.in-Some.ensures.steps.1 in
    omega (arith, (changes_first _ _ _ _ s.0 (s.1 ∙ l.five) (sym c.is_change.ensures ∙ c.if-is_change.true)).0, l.short)

pub loop-call-preserved-then-is_change : goal.loop-call-preserved-then-is_change
loop-call-preserved-then-is_change c =
    let l = c.loop-call.invariant in
    let s = c.in-Some.ensures.steps.1 in
    let e = changes_first _ _ _ _ s.0 (s.1 ∙ l.five) (sym c.is_change.ensures ∙ c.if-is_change.true) in
    record { next = search rules; five = c.in-Some.ensures.steps.0 ∙ l.five; short = omega (arith, e.0, l.short); counted = omega (arith, e.1, l.counted) }

pub loop-call-preserved : goal.loop-call-preserved
loop-call-preserved c =
    let l = c.loop-call.invariant in
    let s = c.in-Some.ensures.steps.1 in
    let e = changes_first _ _ _ _ s.0 (s.1 ∙ l.five) (sym c.is_change.ensures ∙ c.if-is_change.false) in
    record { next = search rules; five = c.in-Some.ensures.steps.0 ∙ l.five; short = omega (arith, e.0, l.short); counted = omega (arith, e.1, l.counted) }

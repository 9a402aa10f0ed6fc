use mathlib.Core.Path.{refl, sym, ◌∙◌}
use native.Mathlib.Omega.{arith}
use lib.ListN.{get_or}
use Rattle.arrangement.proofs.Turns.{taken_stop, taken_turn, taken_end}
use Rattle.arrangement.proofs.take_off.Goals as goal

pub returns-then-look-ne1 : goal.returns-then-look-ne1
returns-then-look-ne1 c =
    let a = c.args in
    let l = c.loop-number in
    taken_stop a.wanted.now l.items l.number-index (get_or a.wanted.now l.number-index 0) (omega arith) refl c.look.result c.look.ensures
    c.if-look-ne1.true
    ∙ l.invariant

pub loop-number-preserved : goal.loop-number-preserved
loop-number-preserved c =
    let a = c.args in
    let l = c.loop-number in
    taken_turn a.wanted.now l.items l.number-index (get_or a.wanted.now l.number-index 0) (omega arith) refl c.look.result c.put.new.list c.look.ensures
    c.if-look-ne1.false c.put.ensures
    ∙ l.invariant

pub returns : goal.returns
returns c =
    let a = c.args in
    let l = c.loop-number in
    sym (taken_end a.wanted.now l.items l.number-index (omega arith)) ∙ l.invariant

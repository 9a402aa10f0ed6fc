use borrow.Author.Tests.{not-true, not-false}
use Rattle.arrangement.specs.Orders.{kind_number}
use Rattle.arrangement.proofs.Settles.{settle_other, settle_not, settle_short, settle_written}
use Rattle.arrangement.proofs.settle.Goals as goal
use Rattle.arrangement.proofs.settle.Goals.{then-wanted-count-via-then-wanted-count, then-wanted-count-via-else-wanted-count+then-not-take_off}

pub returns-then-wanted-count : goal.returns-then-wanted-count
returns-then-wanted-count c =
    let a = c.args in
    elim c.then-wanted-count.branch [
      | then-wanted-count-via-then-wanted-count w ↦ settle_other (kind_number a.kind) a.wanted.now a.count a.items.now a.list.now w.if-wanted-count.true
      | then-wanted-count-via-else-wanted-count+then-not-take_off w ↦ settle_not (kind_number a.kind) a.wanted.now a.count a.items.now a.list.now
          w.if-wanted-count.false w.take_off.result w.take_off.ensures (not-true _ w.if-not-take_off.true-raw)
    ]

pub returns-then-list-calls : goal.returns-then-list-calls
returns-then-list-calls c =
    let a = c.args in
    settle_short (kind_number a.kind) a.wanted.now a.count a.items.now a.list.now c.if-wanted-count.false
    c.take_off.result c.take_off.ensures
    (not-false _ c.if-not-take_off.false-raw) c.saturating_sub-calls.result c.saturating_sub-calls.ensures c.if-list-calls.true

pub returns : goal.returns
returns c =
    let a = c.args in
    settle_written (kind_number a.kind) a.wanted.now a.count a.items.now a.list.now c.if-wanted-count.false
    c.take_off.result
    c.take_off.ensures (not-false _ c.if-not-take_off.false-raw)
    c.saturating_sub-calls.result c.saturating_sub-calls.ensures c.if-list-calls.false
    c.write_calls.new.list c.write_calls.ensures

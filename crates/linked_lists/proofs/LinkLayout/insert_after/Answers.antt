-- `linked_lists::LinkLayout::insert_after` meets its contract.
use Rattle.linked_lists.proofs.Steps.{put_steps}
use Rattle.linked_lists.proofs.LinkLayout.insert_after.Goals as goal

pub returns-clause-table : goal.returns-clause-table
returns-clause-table c =
    (put_steps c.args.self c.args.table.now c.args.ends c.args.x c.requires.node c.address-at.ensures.has_address _ c.address-at.ensures.address c.next-n.ensures
    (c.put_next-ends.ensures.table, c.put_next-ends.ensures.ends) (c.put_prev.ensures.table, c.put_prev.ensures.ends)).0

pub returns-clause-ends : goal.returns-clause-ends
returns-clause-ends c =
    (put_steps c.args.self c.args.table.now c.args.ends c.args.x c.requires.node c.address-at.ensures.has_address _ c.address-at.ensures.address c.next-n.ensures
    (c.put_next-ends.ensures.table, c.put_next-ends.ensures.ends) (c.put_prev.ensures.table, c.put_prev.ensures.ends)).1

-- `linked_lists::LinkLayout::relink` meets its contract.
use Rattle.linked_lists.proofs.Steps.{moved}
use Rattle.linked_lists.proofs.LinkLayout.relink.Goals as goal

pub returns-clause-table : goal.returns-clause-table
returns-clause-table c =
    (moved c.args.self c.args.x c.args.p c.args.table.now c.args.ends (c.unlink-without.ensures.table, c.unlink-without.ensures.ends)
    (c.insert_after.ensures.table, c.insert_after.ensures.ends)).0

pub returns-clause-ends : goal.returns-clause-ends
returns-clause-ends c =
    (moved c.args.self c.args.x c.args.p c.args.table.now c.args.ends (c.unlink-without.ensures.table, c.unlink-without.ensures.ends)
    (c.insert_after.ensures.table, c.insert_after.ensures.ends)).1

-- `linked_lists::LinkLayout::append` meets its contract.
use Rattle.linked_lists.proofs.Steps.{append_steps}
use Rattle.linked_lists.proofs.LinkLayout.append.Goals as goal

pub returns-clause-table : goal.returns-clause-table
returns-clause-table c =
    (append_steps c.args.self c.args.table.now c.args.ends c.args.x c.requires c.either.ensures c.address-before.ensures.address
    c.address-at.ensures.address c.either-first.ensures).0

pub returns-clause-ends : goal.returns-clause-ends
returns-clause-ends c =
    (append_steps c.args.self c.args.table.now c.args.ends c.args.x c.requires c.either.ensures c.address-before.ensures.address
    c.address-at.ensures.address c.either-first.ensures).1

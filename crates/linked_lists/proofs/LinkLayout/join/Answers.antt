-- `linked_lists::LinkLayout::join` meets its contract.
use Rattle.linked_lists.proofs.Steps.{join_table, join_ends}
use Rattle.linked_lists.proofs.LinkLayout.join.Goals as goal

pub returns-clause-table : goal.returns-clause-table
returns-clause-table c = join_table c.args.self c.args.table.now c.args.ends c.args.a c.args.b c.put_next-ends.ensures.table c.put_prev.ensures.table

pub returns-clause-ends : goal.returns-clause-ends
returns-clause-ends c = join_ends c.args.ends c.args.a c.args.b c.put_next-ends.ensures.ends c.put_prev.ensures.ends

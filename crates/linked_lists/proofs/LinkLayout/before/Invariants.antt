-- What the walk of `linked_lists::LinkLayout::before` keeps, and what it makes less.
use Rattle.std.proofs.Common.{length}
use Rattle.linked_lists.specs.Links.{nodes}
use Rattle.linked_lists.proofs.Walks.{Walk, suffix}
use Rattle.linked_lists.proofs.LinkLayout.before.Given as goal

abbrev pub invariant-loop-x : goal.invariant-loop-x
invariant-loop-x l = Walk (nodes l.self l.table l.ends) l.a l.b l.x

abbrev pub decreases-loop-x : goal.decreases-loop-x
decreases-loop-x l = length (suffix l.x (nodes l.self l.table l.ends))

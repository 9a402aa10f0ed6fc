-- `linked_lists::LinkLayout::next` meets its contract.
use borrow.Author.Tests.{eq-eqb, ne_eqb, le-ltb}
use Rattle.linked_lists.specs.Links.{link_of}
use Rattle.linked_lists.proofs.LinkLayout.next.Goals as goal

pub returns-then-x-eq0 : goal.returns-then-x-eq0
unfolding link_of
returns-then-x-eq0 c = simp (eq-eqb _ _ c.if-x-eq0.true)

pub returns-else-x-eq0 : goal.returns-else-x-eq0
unfolding link_of
returns-else-x-eq0 c = simp (c.address.ensures.address, le-ltb _ _ c.address.ensures.has_address, ne_eqb _ _ c.if-x-eq0.false)

-- `linked_lists::LinkLayout::put_prev` meets its contract.
use mathlib.Core.Path.{refl}
use borrow.Author.Tests.{eq-eqb, ne_eqb, le-ltb}
use Rattle.linked_lists.specs.Links.{table_put, ends_put}
use Rattle.linked_lists.proofs.LinkLayout.put_prev.Goals as goal

pub returns-then-x-eq0-clause-table : goal.returns-then-x-eq0-clause-table
unfolding table_put
returns-then-x-eq0-clause-table c = simp (eq-eqb _ _ c.if-x-eq0.true) refl

pub returns-then-x-eq0-clause-ends : goal.returns-then-x-eq0-clause-ends
unfolding ends_put
returns-then-x-eq0-clause-ends c = simp (eq-eqb _ _ c.if-x-eq0.true) refl

pub returns-clause-table : goal.returns-clause-table
unfolding table_put
returns-clause-table c = simp (c.address.ensures.address, le-ltb _ _ c.address.ensures.has_address, ne_eqb _ _ c.if-x-eq0.false) refl

pub returns-clause-ends : goal.returns-clause-ends
unfolding ends_put
returns-clause-ends c = simp (ne_eqb _ _ c.if-x-eq0.false) refl

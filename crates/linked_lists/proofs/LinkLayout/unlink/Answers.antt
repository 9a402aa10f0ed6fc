-- `linked_lists::LinkLayout::unlink` meets its contract.
use mathlib.Core.Path.{refl}
use Rattle.linked_lists.proofs.Steps.{inside_by, unlink_steps, word_prev, word_next}
use Rattle.linked_lists.proofs.LinkLayout.unlink.Goals as goal

pub join-requires-clause-inside_a : goal.join-requires-clause-inside_a
join-requires-clause-inside_a c =
    inside_by c.args.self (word_prev c.args.self c.args.table.now c.args.ends c.args.x c.requires.node c.address-at.ensures.has_address c.address-at.ensures.address) refl c.requires.prev

pub join-requires-clause-inside_b : goal.join-requires-clause-inside_b
join-requires-clause-inside_b c =
    inside_by c.args.self (word_next c.args.self c.args.table.now c.args.ends c.args.x c.requires.node c.address-at.ensures.has_address c.address-at.ensures.address) refl c.requires.next

pub returns-clause-table : goal.returns-clause-table
returns-clause-table c =
    (unlink_steps _ _ _ _ (word_prev c.args.self c.args.table.now c.args.ends c.args.x c.requires.node c.address-at.ensures.has_address c.address-at.ensures.address)
    (word_next c.args.self c.args.table.now c.args.ends c.args.x c.requires.node c.address-at.ensures.has_address c.address-at.ensures.address) (c.join.ensures.table, c.join.ensures.ends)).0

pub returns-clause-ends : goal.returns-clause-ends
returns-clause-ends c =
    (unlink_steps _ _ _ _ (word_prev c.args.self c.args.table.now c.args.ends c.args.x c.requires.node c.address-at.ensures.has_address c.address-at.ensures.address)
    (word_next c.args.self c.args.table.now c.args.ends c.args.x c.requires.node c.address-at.ensures.has_address c.address-at.ensures.address) (c.join.ensures.table, c.join.ensures.ends)).1

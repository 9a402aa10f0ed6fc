-- `linked_lists::LinkLayout::before` meets its contract.
use borrow.Author.Tests.{eq-eqb, ne_eqb}
use Rattle.lists.proofs.Picks.{same, differ, same?}
use Rattle.linked_lists.proofs.Walks.{walk_inside, walk_start, walk_end, walk_here, walk_found, walk_more, walk_less}
use Rattle.linked_lists.proofs.LinkLayout.before.Goals as goal

pub next-x-requires-clause-inside : goal.next-x-requires-clause-inside
next-x-requires-clause-inside c =
    walk_inside c.args.self c.args.table.now c.args.ends c.requires.valid_layout c.args.a c.requires.held_at

pub loop-x-init : goal.loop-x-init
loop-x-init c =
    walk_start c.args.self c.args.table.now c.args.ends c.requires.valid_layout c.args.a c.requires.held_at c.args.b c.next-x.result c.next-x.ensures

pub returns-then-x-eq0 : goal.returns-then-x-eq0
returns-then-x-eq0 c =
    walk_end c.args.self c.args.table.now c.args.ends c.requires.valid_layout c.args.a c.requires.held_at c.args.b
    c.loop-x.x c.loop-x.invariant c.if-x-eq0.true

pub next-x-requires-in-loop-x-clause-inside : goal.next-x-requires-in-loop-x-clause-inside
next-x-requires-in-loop-x-clause-inside c =
    walk_here c.args.self c.args.table.now c.args.ends c.requires.valid_layout c.args.a c.requires.held_at c.args.b
    c.loop-x.x c.loop-x.invariant c.if-x-eq0.false

pub loop-x-smaller : goal.loop-x-smaller
loop-x-smaller c =
    walk_less c.args.self c.args.table.now c.args.ends c.requires.valid_layout c.args.a c.requires.held_at c.args.b
    c.loop-x.x c.loop-x.invariant c.if-x-eq0.false c.next-x-in-loop-x.result c.next-x-in-loop-x.ensures

pub loop-x-preserved : goal.loop-x-preserved
loop-x-preserved c =
    walk_more c.args.self c.args.table.now c.args.ends c.requires.valid_layout c.args.a c.requires.held_at c.args.b
    c.loop-x.x c.loop-x.invariant c.if-x-eq0.false c.next-x-in-loop-x.result c.next-x-in-loop-x.ensures c.loop-x-test.true

pub returns : goal.returns
returns c =
    elim (same? c.loop-x.x 0) [
      | same e f ↦ rw (eq-eqb c.loop-x.x 0 e) (walk_end c.args.self c.args.table.now c.args.ends c.requires.valid_layout c.args.a c.requires.held_at c.args.b c.loop-x.x c.loop-x.invariant e)
      | differ e f ↦ rw (ne_eqb c.loop-x.x 0 e) (walk_found c.args.self c.args.table.now c.args.ends c.requires.valid_layout c.args.a c.requires.held_at c.args.b c.loop-x.x
          c.loop-x.invariant e c.loop-x-test.false)
    ]

use native.Mathlib.Omega.{arith}
use Rattle.graph_tables.specs.Tables.{state_of}
use Rattle.timeline.proofs.Steps.{holds_current}
use Rattle.vertex_deletion.proofs.Deleting.{lacking, allowed, costs, too_dear, deleted}
use Rattle.vertex_deletion.proofs.delete.Goals as goal

pub returns-in_default-clause-made : goal.returns-in_default-clause-made
returns-in_default-clause-made c =
    let a = c.args in
    lacking a.vertex a.free a.current.position (state_of a.current.head a.tables.now) a.journal.now _ c.find_vertex.ensures c.in_default.is

pub cost_of-cost-requires : goal.cost_of-cost-requires
cost_of-cost-requires c =
    let a = c.args in
    let j = a.current.position in
    let s = state_of a.current.head a.tables.now in
    let t = a.journal.now in
    let p = c.requires in
    (a.current.head, (p.0, _, p.2.rows.sized, holds_current p.0 j s t p.1 p.2, allowed a.vertex a.free j s t _ c.find_vertex.ensures _ c.in-Found.is p.0 p.1 p.2))

pub returns-then-free-cost-clause-made : goal.returns-then-free-cost-clause-made
returns-then-free-cost-clause-made c =
    let a = c.args in
    too_dear a.vertex a.free a.current.position (state_of a.current.head a.tables.now) a.journal.now _ c.find_vertex.ensures _ c.in-Found.is _
    (c.cost_of-cost.ensures a.current.head) c.if-free-cost.true

pub make_rows-head-requires : goal.make_rows-head-requires
make_rows-head-requires c =
    let a = c.args in
    let j = a.current.position in
    let s = state_of a.current.head a.tables.now in
    let t = a.journal.now in
    let p = c.requires in (
      p.0,
      p.1,
      allowed a.vertex a.free j s t _ c.find_vertex.ensures _ c.in-Found.is p.0 p.1 p.2,
      costs a.vertex a.free j s t _ c.find_vertex.ensures _ c.in-Found.is _ (c.cost_of-cost.ensures a.current.head) p.0 p.1 p.2,
      omega (arith, p.3, c.if-free-cost.false),
      p.2,
    )

pub returns-clause-made : goal.returns-clause-made
returns-clause-made c =
    let a = c.args in
    let j = a.current.position in
    let s = state_of a.current.head a.tables.now in
    let t = a.journal.now in
    let p = c.requires in
    let k = c.make_rows-head in
    deleted a.vertex a.free j s t _ c.find_vertex.ensures _ c.in-Found.is _ (c.cost_of-cost.ensures a.current.head) c.if-free-cost.false p.0 p.1 p.2
    (state_of k.result k.new.tables) k.new.journal
    (λ b l y. k.ensures.made b l (allowed a.vertex a.free j s t _ c.find_vertex.ensures _ c.in-Found.is b l y) y)

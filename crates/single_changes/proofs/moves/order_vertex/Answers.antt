use Prim.Native.Nat.{ℕ}
use Rattle.std.proofs.Common.{Bool, not, nat_eq}
use Rattle.lists.specs.Choice.{◌⇒◌else◌}
use Rattle.std.proofs.lemmas.Result.{err_from_is_err_and}
use Rattle.graph.specs.declared.SingleChange.TheVariants.{VertexAfter, VertexBefore}
use Rattle.graph_tables.specs.Tables.{state_of}
use Rattle.tried_edits.specs.Tried.{attempt_of}
use Rattle.single_changes.proofs.OneLaws.{seen, Accepted, accept, side_refused, side_accept, can_make, one_tried, tries_by, vertex_planned}
use Rattle.single_changes.proofs.moves.order_vertex.Given.{Over}
use Rattle.single_changes.proofs.moves.order_vertex.Goals.{In_ok-order_vertices}
use Rattle.single_changes.proofs.moves.order_vertex.Goals as goal

-- the rows that are read on either side
rows : (o : Over) (c : In_ok-order_vertices o) → let a = c.args in Accepted (VertexBefore a.a a.b) 0 (attempt_of a.head a.tables.now a.room.now)
rows o c = accept tt (seen (VertexBefore c.args.a c.args.b) 0 c.args.head c.view.ensures.vertices c.view.ensures.edges (λ g y. c.order_vertices.ensures.of_graph g (_, y))) c.in_ok-order_vertices.was c.requires

pub returns-in_err-order_vertices-clause-made : goal.returns-in_err-order_vertices-clause-made
returns-in_err-order_vertices-clause-made g c =
    let a = c.args in
    let p = err_from_is_err_and c.from_residual.result c.from_residual.ensures.1 in
    λ types. rw (p.1, p.2)
    (side_refused (not (nat_eq g.row.AFTER 0)) (VertexAfter a.a a.b) (VertexBefore a.a a.b) (tt, tt) (λ h y. let e = seen (VertexBefore c.args.a c.args.b) 0 c.args.head c.view.ensures.vertices c.view.ensures.edges (λ g z. c.order_vertices.ensures.of_graph g (_, z)) h y in (e, e)) c.in_err-order_vertices.was)

accepted : (side : Bool) (types : ℕ) (o : Over) (c : In_ok-order_vertices o) → let a = c.args in Accepted (side ⇒ VertexAfter a.a a.b else VertexBefore a.a a.b) types (attempt_of a.head a.tables.now a.room.now)
accepted side types o c =
    let a = c.args in
    side_accept side (VertexAfter a.a a.b) (VertexBefore a.a a.b) (tt, tt) (λ h y. let e = seen (VertexBefore c.args.a c.args.b) 0 c.args.head c.view.ensures.vertices c.view.ensures.edges (λ g z. c.order_vertices.ensures.of_graph g (_, z)) h y in (e, e)) c.in_ok-order_vertices.was c.requires

pub vertex_field-old-requires-clause-row : goal.vertex_field-old-requires-clause-row
vertex_field-old-requires-clause-row g c = (rows g (goal.at.vertex_field-old-requires-clause-row g c).In_ok-order_vertices).rows.0

pub vertex_field-requires-clause-row : goal.vertex_field-requires-clause-row
vertex_field-requires-clause-row g c = (rows g (goal.at.vertex_field-requires-clause-row g c).In_ok-order_vertices).rows.1

pub move_vertex-requires : goal.move_vertex-requires
move_vertex-requires g c =
    let a = c.args in
    can_make (accepted (not (nat_eq g.row.AFTER 0)) 0 g (goal.at.move_vertex-requires g c).In_ok-order_vertices)
    (vertex_planned (not (nat_eq g.row.AFTER 0)) (state_of a.head a.tables.now) a.a a.b c.vertex_field-old.ensures c.vertex_field.ensures c.place-new.ensures)

pub returns-clause-made : goal.returns-clause-made
returns-clause-made g c =
    let a = c.args in
    λ types. one_tried (accepted (not (nat_eq g.row.AFTER 0)) types g (goal.at.returns-clause-made g c).In_ok-order_vertices)
    (tries_by (vertex_planned (not (nat_eq g.row.AFTER 0)) (state_of a.head a.tables.now) a.a a.b c.vertex_field-old.ensures c.vertex_field.ensures c.place-new.ensures) c.move_vertex.ensures.tries)

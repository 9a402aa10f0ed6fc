use Prim.Native.Nat.{ℕ}
use Rattle.std.proofs.Common.{Bool, not, nat_eq}
use Rattle.lists.specs.Choice.{◌⇒◌else◌}
use Rattle.std.proofs.lemmas.Result.{err_from_is_err_and}
use Rattle.graph.specs.declared.SingleChange.TheVariants.{EdgeAfter, EdgeBefore}
use Rattle.graph_tables.specs.Tables.{state_of}
use Rattle.tried_edits.specs.Tried.{attempt_of}
use Rattle.single_changes.proofs.OneLaws.{seen, Accepted, accept, side_refused, side_accept, can_make, one_tried, tries_by, edge_planned}
use Rattle.single_changes.proofs.moves.order_edge.Given.{Over}
use Rattle.single_changes.proofs.moves.order_edge.Goals.{In_ok-order_edges}
use Rattle.single_changes.proofs.moves.order_edge.Goals as goal

-- the rows that are read on either side
rows : (o : Over) (c : In_ok-order_edges o) → let a = c.args in Accepted (EdgeBefore a.a a.b) 0 (attempt_of a.head a.tables.now a.room.now)
rows o c = accept tt (seen (EdgeBefore c.args.a c.args.b) 0 c.args.head c.view.ensures.vertices c.view.ensures.edges (λ g y. c.order_edges.ensures.of_graph g (_, y))) c.in_ok-order_edges.was c.requires

pub returns-in_err-order_edges-clause-made : goal.returns-in_err-order_edges-clause-made
returns-in_err-order_edges-clause-made g c =
    let a = c.args in
    let p = err_from_is_err_and c.from_residual.result c.from_residual.ensures.1 in
    λ types. rw (p.1, p.2)
    (side_refused (not (nat_eq g.row.AFTER 0)) (EdgeAfter a.a a.b) (EdgeBefore a.a a.b) (tt, tt) (λ h y. let e = seen (EdgeBefore c.args.a c.args.b) 0 c.args.head c.view.ensures.vertices c.view.ensures.edges (λ g z. c.order_edges.ensures.of_graph g (_, z)) h y in (e, e)) c.in_err-order_edges.was)

accepted : (side : Bool) (types : ℕ) (o : Over) (c : In_ok-order_edges o) → let a = c.args in Accepted (side ⇒ EdgeAfter a.a a.b else EdgeBefore a.a a.b) types (attempt_of a.head a.tables.now a.room.now)
accepted side types o c =
    let a = c.args in
    side_accept side (EdgeAfter a.a a.b) (EdgeBefore a.a a.b) (tt, tt) (λ h y. let e = seen (EdgeBefore c.args.a c.args.b) 0 c.args.head c.view.ensures.vertices c.view.ensures.edges (λ g z. c.order_edges.ensures.of_graph g (_, z)) h y in (e, e)) c.in_ok-order_edges.was c.requires

pub edge_field-old-requires-clause-row : goal.edge_field-old-requires-clause-row
edge_field-old-requires-clause-row g c = (rows g (goal.at.edge_field-old-requires-clause-row g c).In_ok-order_edges).rows.0

pub edge_field-requires-clause-row : goal.edge_field-requires-clause-row
edge_field-requires-clause-row g c = (rows g (goal.at.edge_field-requires-clause-row g c).In_ok-order_edges).rows.1

pub move_edge-requires : goal.move_edge-requires
move_edge-requires g c =
    let a = c.args in
    can_make (accepted (not (nat_eq g.row.AFTER 0)) 0 g (goal.at.move_edge-requires g c).In_ok-order_edges)
    (edge_planned (not (nat_eq g.row.AFTER 0)) (state_of a.head a.tables.now) a.a a.b c.edge_field-old.ensures c.edge_field.ensures c.place-new.ensures)

pub returns-clause-made : goal.returns-clause-made
returns-clause-made g c =
    let a = c.args in
    λ types. one_tried (accepted (not (nat_eq g.row.AFTER 0)) types g (goal.at.returns-clause-made g c).In_ok-order_edges)
    (tries_by (edge_planned (not (nat_eq g.row.AFTER 0)) (state_of a.head a.tables.now) a.a a.b c.edge_field-old.ensures c.edge_field.ensures c.place-new.ensures) c.move_edge.ensures.tries)

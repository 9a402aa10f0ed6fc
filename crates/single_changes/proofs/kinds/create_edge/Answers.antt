use Rattle.graph.specs.declared.SingleChange.TheVariants.{CreateEdge}
use Rattle.std.proofs.lemmas.Result.{err_from_is_err_and}
use Rattle.tried_edits.specs.Tried.{attempt_of}
use Rattle.single_changes.proofs.OneLaws.{seen, Accepted, one_refused, accept, one_tried, can_make, tries_by, insert_edge_by}
use Prim.Native.Nat.{ℕ, ◌*◌}
use mathlib.Core.Path.{◌≡◌, sym, ap, ◌∙◌}
use Rattle.graph_tables.specs.Tables.{vlast}
use native.Mathlib.Omega.{arith}
use Rattle.lists.specs.Choice.{if_equal}
use Rattle.lists.proofs.Picks.{pick_yes, pick_no}
use Rattle.single_changes.proofs.kinds.create_edge.Goals.{After-vertex_field-last, then-a-z, else-a-z}
use Rattle.single_changes.proofs.kinds.create_edge.Goals.{In_ok-create_edge}
use Rattle.single_changes.proofs.kinds.create_edge.Goals as goal

accepted : (c : In_ok-create_edge) → let a = c.args in Accepted (CreateEdge a.n a.a a.z a.sort) a.types (attempt_of a.head a.tables.now a.room.now)
accepted c = accept tt (seen (CreateEdge c.args.n c.args.a c.args.z c.args.sort) c.args.types c.args.head c.view.ensures.vertices c.view.ensures.edges (λ g y. c.create_edge.ensures.of_graph g y)) c.in_ok-create_edge.was c.requires

pub returns-in_err-create_edge-clause-made : goal.returns-in_err-create_edge-clause-made
returns-in_err-create_edge-clause-made c =
    let p = err_from_is_err_and c.from_residual.result c.from_residual.ensures.1 in
    rw (p.1, p.2) (one_refused tt (seen (CreateEdge c.args.n c.args.a c.args.z c.args.sort) c.args.types c.args.head c.view.ensures.vertices c.view.ensures.edges (λ g y. c.create_edge.ensures.of_graph g y)) c.in_err-create_edge.was)

pub vertex_field-out-requires-clause-row : goal.vertex_field-out-requires-clause-row
vertex_field-out-requires-clause-row c = (accepted (goal.at.vertex_field-out-requires-clause-row c).In_ok-create_edge).rows.1

pub vertex_field-last-requires-clause-row : goal.vertex_field-last-requires-clause-row
vertex_field-last-requires-clause-row c = (accepted (goal.at.vertex_field-last-requires-clause-row c).In_ok-create_edge).rows.2

pub overflow_mul-into : goal.overflow_mul-into
overflow_mul-into c = omega (arith, (accepted (goal.at.overflow_mul-into c).In_ok-create_edge).rows.0)

pub insert_edge-requires-clause-number : goal.insert_edge-requires-clause-number
insert_edge-requires-clause-number c = (accepted (goal.at.insert_edge-requires-clause-number c).In_ok-create_edge).rows.0

-- where the in word goes
placed : (c : After-vertex_field-last) {q : ℕ} → q ≡ if_equal c.args.a c.args.z (2 * c.args.n) c.vertex_field-last.result
    → q ≡ if_equal c.args.a c.args.z (2 * c.args.n) (vlast c.args.tables.now.vertices.now c.args.z)
placed c e = e ∙ ap (if_equal c.args.a c.args.z (2 * c.args.n)) c.vertex_field-last.ensures

pub insert_edge-requires-clause-can : goal.insert_edge-requires-clause-can
insert_edge-requires-clause-can c =
    let a = c.args in
    let q : c.if-a-z.into ≡ if_equal a.a a.z (2 * a.n) c.vertex_field-last.result = elim c.if-a-z.branch [ then-a-z w ↦ w.into-is ∙ sym (pick_yes _ _ _ _ w.if-a-z.true) | else-a-z w ↦ w.into-is ∙ sym (pick_no _ _ _ _ w.if-a-z.false) ] in
    (can_make (accepted (goal.at.insert_edge-requires-clause-can c).In_ok-create_edge) (insert_edge_by a.n a.a a.z a.sort a.head.elast c.vertex_field-out.ensures
    (placed (goal.at.insert_edge-requires-clause-can c).After-vertex_field-last q))).1

pub returns-clause-made : goal.returns-clause-made
returns-clause-made c =
    let a = c.args in
    let q : c.if-a-z.into ≡ if_equal a.a a.z (2 * a.n) c.vertex_field-last.result = elim c.if-a-z.branch [ then-a-z w ↦ w.into-is ∙ sym (pick_yes _ _ _ _ w.if-a-z.true) | else-a-z w ↦ w.into-is ∙ sym (pick_no _ _ _ _ w.if-a-z.false) ] in
    one_tried (accepted (goal.at.returns-clause-made c).In_ok-create_edge) (tries_by (insert_edge_by a.n a.a a.z a.sort a.head.elast c.vertex_field-out.ensures
    (placed (goal.at.returns-clause-made c).After-vertex_field-last q)) c.insert_edge.ensures.tries)

use Rattle.graph.specs.declared.SingleChange.TheVariants.{CreateVertex}
use Rattle.std.proofs.lemmas.Result.{err_from_is_err_and}
use Rattle.tried_edits.specs.Tried.{attempt_of}
use Rattle.single_changes.proofs.OneLaws.{seen, Accepted, one_refused, accept, one_tried}
use native.Mathlib.Omega.{arith}
use Rattle.single_changes.proofs.kinds.create_vertex.Goals.{In_ok-create_vertex}
use Rattle.single_changes.proofs.kinds.create_vertex.Goals as goal

accepted : (c : In_ok-create_vertex) → let a = c.args in Accepted (CreateVertex a.n a.sort a.value) a.types (attempt_of a.head a.tables.now a.room.now)
accepted c = accept (omega (arith, c.ranges.value)) (seen (CreateVertex c.args.n c.args.sort c.args.value) c.args.types c.args.head c.view.ensures.vertices c.view.ensures.edges (λ g y. c.create_vertex.ensures.of_graph g (_, y))) c.in_ok-create_vertex.was c.requires

pub returns-in_err-create_vertex-clause-made : goal.returns-in_err-create_vertex-clause-made
returns-in_err-create_vertex-clause-made c =
    let p = err_from_is_err_and c.from_residual.result c.from_residual.ensures.1 in
    rw (p.1, p.2) (one_refused (omega (arith, c.ranges.value)) (seen (CreateVertex c.args.n c.args.sort c.args.value) c.args.types c.args.head c.view.ensures.vertices c.view.ensures.edges (λ g y. c.create_vertex.ensures.of_graph g (_, y))) c.in_err-create_vertex.was)

pub insert_vertex-requires : goal.insert_vertex-requires
insert_vertex-requires c = (accepted (goal.at.insert_vertex-requires c).In_ok-create_vertex).can

pub returns-clause-made : goal.returns-clause-made
returns-clause-made c = one_tried (accepted (goal.at.returns-clause-made c).In_ok-create_vertex) c.insert_vertex.ensures.tries

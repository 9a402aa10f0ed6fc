use Rattle.graph.specs.declared.SingleChange.TheVariants.{RetypeEdge}
use Rattle.std.proofs.lemmas.Result.{err_from_is_err_and}
use Rattle.tried_edits.specs.Tried.{attempt_of}
use Rattle.single_changes.proofs.OneLaws.{seen, Accepted, one_refused, accept, one_tried, tries_by, set_edge_by}
use mathlib.Core.Path.{refl, ap}
use Rattle.tried_edits.specs.declared.EdgeWords.{EdgeWords}
use Rattle.single_changes.proofs.kinds.retype_edge.Goals.{In_ok-retype_edge}
use Rattle.single_changes.proofs.kinds.retype_edge.Goals as goal

accepted : (c : In_ok-retype_edge) → let a = c.args in Accepted (RetypeEdge a.n a.sort) a.types (attempt_of a.head a.tables.now a.room.now)
accepted c = accept tt (seen (RetypeEdge c.args.n c.args.sort) c.args.types c.args.head c.view.ensures.vertices c.view.ensures.edges (λ g y. c.retype_edge.ensures.of_graph g (_, y))) c.in_ok-retype_edge.was c.requires

pub returns-in_err-retype_edge-clause-made : goal.returns-in_err-retype_edge-clause-made
returns-in_err-retype_edge-clause-made c =
    let p = err_from_is_err_and c.from_residual.result c.from_residual.ensures.1 in
    rw (p.1, p.2) (one_refused tt (seen (RetypeEdge c.args.n c.args.sort) c.args.types c.args.head c.view.ensures.vertices c.view.ensures.edges (λ g y. c.retype_edge.ensures.of_graph g (_, y))) c.in_err-retype_edge.was)

pub edge_words-old-requires : goal.edge_words-old-requires
edge_words-old-requires c = (accepted (goal.at.edge_words-old-requires c).In_ok-retype_edge).rows

pub set_edge-requires-clause-row : goal.set_edge-requires-clause-row
set_edge-requires-clause-row c = (accepted (goal.at.set_edge-requires-clause-row c).In_ok-retype_edge).rows

pub returns-clause-made : goal.returns-clause-made
returns-clause-made c =
    let e = c.edge_words-old.ensures in
    let k = ap (λ (w : EdgeWords). w.kind) e in
    let d = ap (λ (w : EdgeWords). w.decimetres) e in
    one_tried (accepted (goal.at.returns-clause-made c).In_ok-retype_edge) (tries_by (set_edge_by c.args.n (ap (λ (w : EdgeWords). w.sort) e) k d refl k d) c.set_edge.ensures.tries)

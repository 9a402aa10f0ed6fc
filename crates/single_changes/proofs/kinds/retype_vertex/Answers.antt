use Rattle.graph.specs.declared.SingleChange.TheVariants.{RetypeVertex}
use Rattle.std.proofs.lemmas.Result.{err_from_is_err_and}
use Rattle.tried_edits.specs.Tried.{attempt_of}
use Rattle.single_changes.proofs.OneLaws.{seen, Accepted, one_refused, accept, one_tried, tries_by, set_vertex_by}
use mathlib.Core.Path.{refl, ap}
use Rattle.tried_edits.specs.declared.VertexWords.{VertexWords}
use Rattle.single_changes.proofs.kinds.retype_vertex.Goals.{In_ok-retype_vertex}
use Rattle.single_changes.proofs.kinds.retype_vertex.Goals as goal

accepted : (c : In_ok-retype_vertex) → let a = c.args in Accepted (RetypeVertex a.n a.sort) a.types (attempt_of a.head a.tables.now a.room.now)
accepted c = accept tt (seen (RetypeVertex c.args.n c.args.sort) c.args.types c.args.head c.view.ensures.vertices c.view.ensures.edges (λ g y. c.retype_vertex.ensures.of_graph g (_, y))) c.in_ok-retype_vertex.was c.requires

pub returns-in_err-retype_vertex-clause-made : goal.returns-in_err-retype_vertex-clause-made
returns-in_err-retype_vertex-clause-made c =
    let p = err_from_is_err_and c.from_residual.result c.from_residual.ensures.1 in
    rw (p.1, p.2) (one_refused tt (seen (RetypeVertex c.args.n c.args.sort) c.args.types c.args.head c.view.ensures.vertices c.view.ensures.edges (λ g y. c.retype_vertex.ensures.of_graph g (_, y))) c.in_err-retype_vertex.was)

pub vertex_words-old-requires : goal.vertex_words-old-requires
vertex_words-old-requires c = (accepted (goal.at.vertex_words-old-requires c).In_ok-retype_vertex).rows

pub set_vertex-requires : goal.set_vertex-requires
set_vertex-requires c = (accepted (goal.at.set_vertex-requires c).In_ok-retype_vertex).rows

pub returns-clause-made : goal.returns-clause-made
returns-clause-made c =
    let e = c.vertex_words-old.ensures in
    let x = ap (λ (w : VertexWords). w.value) e in
    one_tried (accepted (goal.at.returns-clause-made c).In_ok-retype_vertex) (tries_by (set_vertex_by c.args.n (ap (λ (w : VertexWords). w.sort) e) x refl x) c.set_vertex.ensures.tries)

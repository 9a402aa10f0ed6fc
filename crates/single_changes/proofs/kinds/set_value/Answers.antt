use Prim.Native.Nat.{ℕ}
use native.Mathlib.Omega.{arith}
use Rattle.graph.specs.declared.SingleChange.TheVariants.{SetValue}
use Rattle.std.proofs.lemmas.Result.{err_from_is_err_and}
use Rattle.tried_edits.specs.Tried.{attempt_of}
use Rattle.single_changes.proofs.OneLaws.{seen, Accepted, one_refused, accept, one_tried, tries_by, set_vertex_by}
use mathlib.Core.Path.{refl, ap}
use Rattle.tried_edits.specs.declared.VertexWords.{VertexWords}
use Rattle.single_changes.proofs.kinds.set_value.Goals.{In_ok-check_vertex}
use Rattle.single_changes.proofs.kinds.set_value.Goals as goal

accepted : (types : ℕ) (c : In_ok-check_vertex) → let a = c.args in Accepted (SetValue a.n a.value) types (attempt_of a.head a.tables.now a.room.now)
accepted types c = accept (omega (arith, c.ranges.value)) (seen (SetValue c.args.n c.args.value) types c.args.head c.view.ensures.vertices c.view.ensures.edges (λ g y. c.check_vertex.ensures.of_graph g (_, y))) c.in_ok-check_vertex.was c.requires

pub returns-in_err-check_vertex-clause-made : goal.returns-in_err-check_vertex-clause-made
returns-in_err-check_vertex-clause-made c =
    let p = err_from_is_err_and c.from_residual.result c.from_residual.ensures.1 in
    λ types. rw (p.1, p.2) (one_refused (omega (arith, c.ranges.value)) (seen (SetValue c.args.n c.args.value) types c.args.head c.view.ensures.vertices c.view.ensures.edges (λ g y. c.check_vertex.ensures.of_graph g (_, y))) c.in_err-check_vertex.was)

pub vertex_words-old-requires : goal.vertex_words-old-requires
vertex_words-old-requires c = (accepted 0 (goal.at.vertex_words-old-requires c).In_ok-check_vertex).rows

pub set_vertex-requires : goal.set_vertex-requires
set_vertex-requires c = (accepted 0 (goal.at.set_vertex-requires c).In_ok-check_vertex).rows

pub returns-clause-made : goal.returns-clause-made
returns-clause-made c =
    let e = c.vertex_words-old.ensures in
    let s = ap (λ (w : VertexWords). w.sort) e in
    λ types. one_tried (accepted types (goal.at.returns-clause-made c).In_ok-check_vertex) (tries_by (set_vertex_by c.args.n s (ap (λ (w : VertexWords). w.value) e) s refl) c.set_vertex.ensures.tries)

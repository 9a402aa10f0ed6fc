use Prim.Native.Nat.{ℕ, ◌^◌, ◌<◌}
use mathlib.Core.Path.{◌≡◌, sym, ap, subst, ◌∙◌}
use Rattle.std.specs.Prelude.{List}
use Rattle.graph.specs.Graph.{IsWords}
use Rattle.graph_tables.specs.Tables.{state_of, CanRemoveEdge, EdgeRowIn}
use Rattle.tried_edits.specs.declared.removal.RemovedEdge.{RemovedEdge}
use Rattle.tried_edits.specs.Plans.{removal_of, removed_edge}
use Rattle.graph.specs.declared.SingleChange.TheVariants.{DeleteEdge}
use Rattle.std.proofs.lemmas.Result.{err_from_is_err_and}
use Rattle.tried_edits.specs.Tried.{attempt_of}
use Rattle.single_changes.proofs.OneLaws.{seen, Accepted, one_refused, accept, one_tried, tries_by}
use Rattle.single_changes.proofs.kinds.delete_edge.Goals.{In_ok-check_edge, After-removed_edge}
use Rattle.single_changes.proofs.kinds.delete_edge.Goals as goal

accepted : (types : ℕ) (c : In_ok-check_edge) → let a = c.args in Accepted (DeleteEdge a.n) types (attempt_of a.head a.tables.now a.room.now)
accepted types c = accept tt (seen (DeleteEdge c.args.n) types c.args.head c.view.ensures.vertices c.view.ensures.edges (λ g y. c.check_edge.ensures.of_graph g (_, y))) c.in_ok-check_edge.was c.requires

pub returns-in_err-check_edge-clause-made : goal.returns-in_err-check_edge-clause-made
returns-in_err-check_edge-clause-made c =
    let p = err_from_is_err_and c.from_residual.result c.from_residual.ensures.1 in
    λ types. rw (p.1, p.2) (one_refused tt (seen (DeleteEdge c.args.n) types c.args.head c.view.ensures.vertices c.view.ensures.edges (λ g y. c.check_edge.ensures.of_graph g (_, y))) c.in_err-check_edge.was)

pub removed_edge-requires : goal.removed_edge-requires
removed_edge-requires c =
    subst (λ (es : List ℕ). (c.args.n < 2 ^ 31) × EdgeRowIn es c.args.n) (sym c.view-2.ensures.edges) (accepted 0 (goal.at.removed_edge-requires c).In_ok-check_edge).rows

-- what was read off the view is what the tables say
removed : (c : After-removed_edge) → c.removed_edge.result ≡ removed_edge c.args.tables.now.edges.now c.args.n
removed c = c.removed_edge.ensures ∙ ap (λ (es : List ℕ). removed_edge es c.args.n) c.view-2.ensures.edges

pub remove_edge-requires : goal.remove_edge-requires
remove_edge-requires c =
    let a = c.args in
    let k = accepted 0 (goal.at.remove_edge-requires c).In_ok-check_edge in
    let r =
    subst (λ (w : RemovedEdge). ((a.n < 2 ^ 31) × CanRemoveEdge a.n w.alpha w.omega (state_of a.head a.tables.now)) × IsWords w.kind w.decimetres)
    (sym (removed (goal.at.remove_edge-requires c).After-removed_edge)) (k.can, k.words) in
    record { number = r.0.0; can = r.0.1; words = r.1 }

pub returns-clause-made : goal.returns-clause-made
returns-clause-made c =
    λ types. one_tried (accepted types (goal.at.returns-clause-made c).In_ok-check_edge) (tries_by (ap (removal_of c.args.n) (removed (goal.at.returns-clause-made c).After-removed_edge)) c.remove_edge.ensures.tries)

use Prim.Native.Nat.{ℕ, ◌^◌, ◌<◌}
use mathlib.Core.Path.{◌≡◌, sym, ap, subst, ◌∙◌}
use Rattle.std.specs.Prelude.{List}
use Rattle.graph.specs.Graph.{IsWords}
use Rattle.graph_tables.specs.Tables.{state_of, CanRemoveEdge, EdgeRowIn}
use Rattle.tried_edits.specs.declared.removal.RemovedEdge.{RemovedEdge}
use Rattle.journal.proofs.RowLaws.{rowed_by}
use Rattle.tried_edits.proofs.Tries.{removal_written, removed_words}
use Rattle.tried_edits.specs.Plans.{removed_edge}
use Rattle.vertex_deletion.proofs.remove_edge.Goals.{After-removed_edge-removed}
use Rattle.vertex_deletion.proofs.remove_edge.Goals as goal

pub removed_edge-removed-requires : goal.removed_edge-removed-requires
removed_edge-removed-requires c =
    let p = c.requires in
    (p.can.0, subst (λ (es : List ℕ). EdgeRowIn es c.args.n) (sym c.view.ensures.edges) p.row)

-- what was read off the view is what the tables say
removed : (c : After-removed_edge-removed) → c.removed_edge-removed.result ≡ removed_edge c.args.tables.now.edges.now c.args.n
removed c = c.removed_edge-removed.ensures ∙ ap (λ (es : List ℕ). removed_edge es c.args.n) c.view.ensures.edges

pub remove_edge-requires : goal.remove_edge-requires
remove_edge-requires c =
    let a = c.args in
    let r = subst (λ (w : RemovedEdge). (a.n < 2 ^ 31) × CanRemoveEdge a.n w.alpha w.omega (state_of a.head a.tables.now))
    (sym (removed (goal.at.remove_edge-requires c).After-removed_edge-removed)) c.requires.can in
    record { number = r.0; can = r.1 }

pub returns-clause-made : goal.returns-clause-made
returns-clause-made c =
    let a = c.args in
    let e = removed (goal.at.returns-clause-made c).After-removed_edge-removed in
    let w = subst (λ (x : RemovedEdge). IsWords x.kind x.decimetres) (sym e) c.requires.words in
    removal_written (state_of a.head a.tables.now) a.n a.cost a.row a.journal.now _ e _ _ c.remove_edge.ensures.removed
    (rowed_by _ _ _ _ _ _ (c.row_words.ensures ∙ removed_words a.n _ w) c.put_row.ensures)

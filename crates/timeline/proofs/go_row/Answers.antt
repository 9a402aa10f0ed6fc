use Rattle.std.proofs.Common.{not, nat_eq}
use mathlib.Core.Path.{sym, ap, subst, ◌∙◌}
use Rattle.graph.specs.declared.Edit.{Edit}
use Rattle.graph_tables.specs.Tables.{state}
use Rattle.graph_tables.specs.Edits.{state_apply, Can}
use Rattle.timeline.proofs.JournalRowLaws.{edit_is, row_can, row_done}
use Rattle.timeline.proofs.go_row.Goals as goal

pub apply-requires : goal.apply-requires
apply-requires g c =
    let s = c in
    let a = s.args in
    let p = s.requires in
    let e = edit_is a.journal.now (not (nat_eq g.row.BACK 0)) a.u _ _ c.row_crossed-i.ensures c.row_at-e.ensures in
    subst (λ (x : Edit). Can x (state a.head a.tables.now.vertices.now a.tables.now.edges.now)) (sym e)
    (row_can p.0 a.journal.now p.1 p.2 _ a.u p.4 (not (nat_eq g.row.BACK 0)) p.3)

pub returns-clause-rows : goal.returns-clause-rows
returns-clause-rows g c =
    λ b r n h k.
    let a = c.args in
    let s₀ = state a.head a.tables.now.vertices.now a.tables.now.edges.now in
    let e = edit_is a.journal.now (not (nat_eq g.row.BACK 0)) a.u _ _ c.row_crossed-i.ensures
    c.row_at-e.ensures in
    row_done b a.journal.now r n s₀ a.u k (not (nat_eq g.row.BACK 0)) h _ (c.apply.ensures.applied ∙ ap (λ (x : Edit). state_apply x s₀) e)

use mathlib.Core.Path.{refl, ◌∙◌}
use Rattle.graph.specs.declared.Edit.TheVariants.{RemoveVertex}
use Rattle.journal.specs.Rows.{rowed, costing}
use Rattle.journal.proofs.RowLaws.{rowed_by}
use Rattle.vertex_deletion.proofs.remove_vertex.Goals as goal

pub returns-clause-made : goal.returns-clause-made
returns-clause-made c =
    let a = c.args in
    let s = c.vertex_field-sort.ensures in
    let x = c.vertex_field-value.ensures in
    let p = c.vertex_field-p.ensures in
    record {
      state = c.remove_vertex.ensures.removed;
      row = rowed_by _ _ _ _ _ _ refl c.put_row.ensures
          ∙ (λ k. rowed a.row (RemoveVertex a.n (s k) (x k) (p k)) (costing a.cost) a.journal.now);
    }

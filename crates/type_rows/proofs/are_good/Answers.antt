-- `type_rows::are_good` meets its contract.
use Rattle.std.proofs.Common.{◌∙◌, arith, ap, Bool}
use Rattle.lists.specs.Choice.{◌⇒◌else◌}
use mathlib.Core.Logic.{inl, inr}
use borrow.Author.Tests.{lt-leb}
use Rattle.type_rows.proofs.RowLaws.{good_by, bad_by}
use Rattle.type_rows.proofs.are_good.Goals as goal
use Rattle.type_rows.proofs.are_good.Goals.{then-n-ge1, else-n-ge1}

pub returns-then-n-le64-clause-value : goal.returns-then-n-le64-clause-value
returns-then-n-le64-clause-value c = good_by c.args.rows.now _ c.if-n-le64.true.0 c.if-n-le64.true.1 c.all_fit.ensures

pub returns-else-n-le64-clause-value : goal.returns-else-n-le64-clause-value
returns-else-n-le64-clause-value c =
    elim c.if-n-ge1.branch [
      | then-n-ge1 w ↦ elim c.if-n-le64.either [
        | inl h ↦ w.t-4-is ∙ lt-leb _ _ h.1 ∙ bad_by _ (λ _. h.1)
        | inr h ↦ absurd (omega arith)
      ]
      | else-n-ge1 w ↦ w.t-4-is ∙ lt-leb _ _ w.if-n-ge1.false ∙ bad_by _ (λ h. absurd (omega arith))
    ]

pub returns-then-n-le64-clause-coded : goal.returns-then-n-le64-clause-coded
returns-then-n-le64-clause-coded c = ap (λ (good : Bool). good ⇒ 0 else 104) (good_by c.args.rows.now _ c.if-n-le64.true.0 c.if-n-le64.true.1 c.all_fit.ensures)

pub returns-else-n-le64-clause-coded : goal.returns-else-n-le64-clause-coded
returns-else-n-le64-clause-coded c = ap (λ (good : Bool). good ⇒ 0 else 104) (returns-else-n-le64-clause-value c)

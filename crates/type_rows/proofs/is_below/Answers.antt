-- `type_rows::is_below` meets its contract.
use mathlib.Core.Path.{sym, ◌∙◌}
use mathlib.Core.Logic.{inl, inr}
use borrow.Author.Tests.{le-ltb}
use native.Mathlib.Omega.{arith}
use Rattle.type_rows.proofs.RowLaws.{good_facts}
use Rattle.type_rows.proofs.Closing.{not_below, closed_below}
use Rattle.type_rows.proofs.is_below.Goals as goal
use Rattle.type_rows.proofs.is_below.Goals.{then-s-lt64, else-s-lt64}

pub returns-then-t-lt64-clause-by_index : goal.returns-then-t-lt64-clause-by_index
returns-then-t-lt64-clause-by_index c = λ rows good e. c.has_bit.ensures ∙ closed_below rows _ _ _ e (omega arith)

pub returns-else-t-lt64-clause-by_index : goal.returns-else-t-lt64-clause-by_index
returns-else-t-lt64-clause-by_index c = λ rows good e.
    elim c.if-s-lt64.branch [
      | then-s-lt64 w ↦ elim c.if-t-lt64.either [
        | inl h ↦ w.t-5-is ∙ le-ltb _ _ h.1 ∙ sym (not_below rows _ _ (inr (omega (arith, (good_facts rows good).few, h.1))))
        | inr h ↦ absurd (omega arith)
      ]
      | else-s-lt64 w ↦
          w.t-5-is ∙ le-ltb _ _ w.if-s-lt64.false ∙ sym (not_below rows _ _ (inl (omega (arith, (good_facts rows good).few, w.if-s-lt64.false))))
    ]

use Prim.Native.Nat.{ℕ}
use mathlib.Core.Path.{refl, sym, ap, ◌∙◌}
use mathlib.Core.List.{List}
use Rattle.prices.specs.Grades.{grade_by}
use Rattle.commands.specs.Answers.{accepts}
use Rattle.commands.specs.Refusals.{answer_by}
use Rattle.price_calls.proofs.PricedLaws.{grade_done}
use Rattle.price_calls.proofs.grade.Goals as goal

pub returns : goal.returns
returns c =
    let a = c.args in
    let n = c.in_ok-decimetres.decimetres in
    let listed = c.in_ok-list.ensures in
    λ head g o.
    grade_done g a.a a.b a.c (accepts n) (ap answer_by (sym c.in_ok-decimetres.was) ∙ c.range.ensures head g o) refl listed.0 _
    (c.grade.ensures ∙ ap (λ (limits : List ℕ). grade_by limits n) listed.1)

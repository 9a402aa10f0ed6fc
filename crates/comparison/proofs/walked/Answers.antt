use Prim.Native.Nat.{ℕ}
use mathlib.Core.Path.{ap, ◌∙◌}
use mathlib.Core.List.{List}
use Rattle.comparison.specs.Comparison.{matches, alike}
use Rattle.comparison.specs.Walks.{paired_from}
use Rattle.comparison.proofs.walked.Goals as goal

pub returns-clause-matched : goal.returns-clause-matched
returns-clause-matched c = λ m n em en.
    let a = c.args in
    c.counted.ensures.matched m em ∙ ap (λ (places : List ℕ). paired_from matches places a.b.now m a.a.now) (c.note.ensures n en)

pub returns-clause-agreeing : goal.returns-clause-agreeing
returns-clause-agreeing c = λ m n em en.
    let a = c.args in
    c.counted.ensures.agreeing m em ∙ ap (λ (places : List ℕ). paired_from (alike a.tolerance) places a.b.now m a.a.now) (c.note.ensures n en)

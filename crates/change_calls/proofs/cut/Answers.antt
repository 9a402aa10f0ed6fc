use Rattle.change_calls.proofs.Following.{cut_nothing}
use Rattle.change_calls.proofs.cut.Goals as goal

pub returns-then-position : goal.returns-then-position
returns-then-position c =
    let a = c.args in
    λ ms h f. cut_nothing a.position.place a.position.steps a.set.bits a.marks.now ms c.if-position.true h f

use mathlib.Core.Path.{◌∙◌}
use Rattle.arrangement.specs.Orders.{kind_number}
use Rattle.arrangement.specs.Scratch.{settled}
use Rattle.arrangement.proofs.order_numbers.Goals as goal

pub returns : goal.returns
returns c =
    let a = c.args in
    c.settle.ensures ∙ (λ i. settled (kind_number a.kind) a.wanted.now a.count (c.mark_numbers.ensures a.count c.requires.whole i) a.list.now)

use mathlib.Core.Path.{◌∙◌}
use Rattle.arrangement.specs.Scratch.{settled}
use Rattle.arrangement.proofs.order_words.Goals as goal

pub returns : goal.returns
returns c = λ count e.
    let a = c.args in
    let f = c.mark_words-found.ensures in
    c.settle.ensures ∙ (λ i. settled 16 a.wanted.now (f.value count e i) (f.marked count e i) a.list.now)

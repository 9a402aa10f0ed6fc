use Rattle.engine.proofs.RunLaws.{held_at}
use Rattle.engine.proofs.begin.begin.Goals as goal

pub returns : goal.returns
returns c =
    λ b journal marks z w l r.
    c.start.ensures.represents b _ _ z w (held_at _ _ _ _ _ c.start.ensures.value c.load-head.ensures) l r

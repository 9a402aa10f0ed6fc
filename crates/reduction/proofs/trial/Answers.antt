use mathlib.Core.Path.{refl}
use Rattle.reduction.specs.Trials.{last_code}
use Rattle.reduction.proofs.TrialLaws.{ready_runs}
use Rattle.reduction.proofs.trial.Goals as goal

pub last_code-requires-clause-runs : goal.last_code-requires-clause-runs
last_code-requires-clause-runs c =
    let p = c.requires.can_try in
    let b = c.begin-begun in
    (p.0, _, ready_runs p.0 _ _ _ _ _ _ p.1 b.result _ _ _ b.auto.vertices b.auto.edges refl b.ensures)

pub returns : goal.returns
unfolding last_code
returns c =
    let b = c.begin-begun in
    λ w h. c.last_code.ensures w _ (ready_runs w _ _ _ _ _ _ h b.result _ _ _ b.auto.vertices b.auto.edges refl b.ensures)

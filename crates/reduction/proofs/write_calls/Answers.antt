use mathlib.Core.Path.{refl, ◌∙◌}
use native.Mathlib.Omega.{arith}
use lib.ListN.{get_or}
use Rattle.reduction.proofs.TrialLaws.{written_more, five_part}
use Rattle.reduction.proofs.write_calls.Goals as goal

pub loop-i-preserved : goal.loop-i-preserved
loop-i-preserved c =
    let i = c.loop-i.i in
    rw c.loop-i.invariant
    (written_more _ c.args.kept.now _ _ i _ c.loop-i-test.true (c.requires.numbered.numbers i c.loop-i-test.true)
    (c.copy_from_slice.ensures.after ∙ five_part c.args.calls.now (get_or c.args.kept.now i 0) _ refl) (omega arith))

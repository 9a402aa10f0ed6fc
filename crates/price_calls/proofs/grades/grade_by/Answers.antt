use native.Mathlib.Omega.{arith}
use lib.ListN.{get_or}
use lib.Dec.{leb}
use Rattle.lists.proofs.Sums.{bit_le}
use Rattle.prices.specs.Grades.{grade_by}
use Rattle.price_calls.proofs.Counted.{bit, turn, end}
use Rattle.price_calls.proofs.grades.grade_by.Goals as goal

pub overflow_add-reached : goal.overflow_add-reached
overflow_add-reached c =
    let t = leb (get_or c.args.limits.now c.loop-limit.limit-index 0) c.args.range in
    omega (arith, c.from-reached.ensures, bit t, bit_le t)

pub loop-limit-preserved : goal.loop-limit-preserved
loop-limit-preserved c =
    let l = c.loop-limit in
    let t = leb (get_or c.args.limits.now l.limit-index 0) c.args.range in (
      omega (arith, c.from-reached.ensures, bit t, bit_le t),
      omega (arith, c.from-reached.ensures, bit t, turn c.args.limits.now c.args.range l.limit-index (omega arith)),
    )

pub returns : goal.returns
unfolding grade_by
returns c = omega (arith, end c.args.limits.now c.args.range c.loop-limit.limit-index (omega arith))

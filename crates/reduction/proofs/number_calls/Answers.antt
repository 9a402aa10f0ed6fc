use mathlib.Core.Path.{◌≡◌, ap, ◌∙◌}
use mathlib.Core.List.{List, ◌++◌, append-nil}
use native.Mathlib.Omega.{arith}
use Prim.Native.Nat.{ℕ}
use lib.ListN.{length, drop_of_length-le}
use Rattle.lists.specs.Lists.{range, overwritten}
use Rattle.lists.proofs.Ranges.{range_length, range_more}
use Rattle.reduction.proofs.number_calls.Goals as goal

pub loop-i-preserved : goal.loop-i-preserved
loop-i-preserved c = rw c.loop-i.invariant (range_more c.loop-i.i c.args.kept.now (omega arith))

pub returns : goal.returns
returns c =
    let kept = c.args.kept.now in
    let n = length kept in
    let e : c.loop-i.i ≡ n = omega arith in
    c.loop-i.invariant ∙ ap (λ (i : ℕ). overwritten (range i) kept) e
    ∙ ap (λ (l : List ℕ). range n ++ l) (drop_of_length-le kept (omega (arith, range_length n))) ∙ append-nil (range n)

use mathlib.Core.Path.{◌≡◌, sym}
use Prim.Native.Nat.{ℕ}
use lib.Dec.{leb}
use native.Mathlib.Omega.{arith}
use Rattle.std.proofs.Common.{rules}
use Rattle.std.specs.Ordering.{is_le, nat_cmp}
use Rattle.text.specs.ImageLine.{framed}
use Rattle.text.proofs.image_line.is_framed.Goals.{then-contains, else-contains}
use Rattle.text.proofs.image_line.is_framed.Goals as goal

at_most : (a b : ℕ) → is_le (nat_cmp a b) ≡ leb a b
at_most a b = grind (arith, rules)

pub returns-then-starts_with : goal.returns-then-starts_with
unfolding framed
returns-then-starts_with c = search rules

pub returns-else-starts_with : goal.returns-else-starts_with
unfolding framed
returns-else-starts_with c = elim c.if-contains.branch [
  | then-contains w ↦ search rules
  | else-contains w ↦
      let n = w.if-contains.ensures.value in
      let k = c.new.ensures in
      let e = simp (k.start, k.end, k.exhausted, at_most) at n in
      simp (w.value-is, w.if-contains.false, sym e)
]

use Rattle.lists.specs.Choice.{if_equal, to_bit, ◌⇒◌else◌}
use Rattle.std.specs.Prelude.{◌==◌}
use mathlib.Core.Bool.{Bool, true, false, not}
use Rattle.lists.proofs.Picks.{pick_yes, pick_no}
use mathlib.Core.Path.{◌≡◌, refl, sym, ap, ◌∙◌}
use borrow.Author.Tests.{eq-eqb}
use Prim.Native.Nat.{ℕ}
use Rattle.walks.proofs.counting.is_counted.Goals as goal

-- 1 where two numbers differ
other : (x y : ℕ) → to_bit (not (x == y)) ≡ if_equal x y 0 1
unfolding if_equal
other x y = go (x == y)
  where
    go : (b : Bool) → to_bit (not b) ≡ (b ⇒ 0 else 1)
    go true = refl
    go false = refl

pub returns-then-w-eq0 : goal.returns-then-w-eq0
returns-then-w-eq0 c = ap to_bit (eq-eqb _ _ c.if-w-eq0.true) ∙ sym (pick_yes _ _ _ _ c.if-w-eq0.true)

pub returns-else-w-eq0 : goal.returns-else-w-eq0
returns-else-w-eq0 c = other _ _ ∙ (λ i. if_equal (c.half_field.ensures i) (c.half_field-else-w-eq0.ensures i) 0 1) ∙ sym (pick_no _ _ _ _ c.if-w-eq0.false)

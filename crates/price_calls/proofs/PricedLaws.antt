-- The grade's answer from that of the range.
use Rattle.std.specs.Prelude.{◌==◌}
use Prim.Native.Nat.{ℕ, ◌≤◌, ◌<◌}
use mathlib.Core.Path.{◌≡◌, ap, ◌∙◌}
use mathlib.Core.Bool.{Bool, true, false, ◌||◌}
use lib.Dec.{ltb}
use borrow.Author.Tests.{ne_eqb, lt-ltb, le-ltb}
use Rattle.lists.specs.Choice.{◌⇒◌else◌}
use Rattle.graph.specs.Graph.{Graph}
use Rattle.prices.specs.Prices.{nothing_heard, grade_of, grade}
use Rattle.commands.specs.declared.PriceCall.TheVariants.{Range, Grade}
use Rattle.commands.specs.declared.Answer.{Answer}
use Rattle.commands.specs.Answers.{answer_of, accepts, refuses}
use Rattle.machine.specs.Codes.{lacks_vertex, price_code}
use Rattle.machine.specs.Machine.{price_number}

-- the code of a grade is that of the range, or 17
then_17 : (u v t : Bool) (n : ℕ) → n ≡ (u ⇒ 4 else v ⇒ 16 else 0) →
    (u ⇒ 4 else v ⇒ 16 else t ⇒ 17 else 0) ≡ ((n == 0) ⇒ (t ⇒ 17 else 0) else n)
then_17 true v t n e = rw e
then_17 false true t n e = rw e
then_17 false false t n e = rw e

module _ (g : Graph) (a b c : ℕ) (r : Answer) (d : r ≡ answer_of (price_code g (Range a b)) (price_number g (Range a b))) where
  coded : r.code ≡ price_code g (Range a b)
  coded = ap (λ (x : Answer). x.code) d

  grade_code : price_code g (Grade a b c) ≡ ((r.code == 0) ⇒ (ltb 2 c ⇒ 17 else 0) else r.code)
  grade_code = then_17 (lacks_vertex g a || lacks_vertex g b) (nothing_heard g a b) (ltb 2 c) r.code coded

  abbrev graded : Answer
  graded = answer_of (price_code g (Grade a b c)) (price_number g (Grade a b c))

  pub grade_refused : (r.code ≡ 0 → ⊥) → refuses r.code ≡ graded
  grade_refused n = rw (grade_code, ne_eqb r.code 0 n, ne_eqb r.code 0 n)

  pub grade_outside : r.code ≡ 0 → 2 < c → refuses 17 ≡ graded
  grade_outside z l = rw (grade_code, z, lt-ltb 2 c l)

  pub grade_done : r.code ≡ 0 → c ≤ 2 → (n : ℕ) → n ≡ grade_of c r.number → accepts n ≡ graded
  unfolding grade
  grade_done z l n e =
      rw (grade_code, z, le-ltb 2 c l) (ap accepts (e ∙ ap (grade_of c) (ap (λ (x : Answer). x.number) d ∙ rw (← coded, z))))

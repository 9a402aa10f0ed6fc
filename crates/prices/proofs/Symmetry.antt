-- A price is the same seen from both vertices.
use Prim.Native.Nat.{ℕ}
use mathlib.Core.Path.{◌≡◌, refl, ap}
use mathlib.Core.Bool.{Bool, true, false, not, ◌||◌}
use native.Mathlib.Omega.{arith}
use Rattle.graph.specs.Graph.{Graph}
use Rattle.prices.specs.Prices.{way, is_heard, two_way, nothing_heard, grade_of, grade}

or_swap : (p q : Bool) → (p || q) ≡ (q || p)
or_swap true true = refl
or_swap true false = refl
or_swap false true = refl
or_swap false false = refl

pub two_way_symmetric : (g : Graph) (a b : ℕ) → two_way g a b ≡ two_way g b a
unfolding two_way
two_way_symmetric g a b = omega arith

pub nothing_heard_symmetric : (g : Graph) (a b : ℕ) → nothing_heard g a b ≡ nothing_heard g b a
unfolding nothing_heard
nothing_heard_symmetric g a b = or_swap (not (is_heard (way g a b))) (not (is_heard (way g b a)))

pub grade_symmetric : (c : ℕ) (g : Graph) (a b : ℕ) → grade c g a b ≡ grade c g b a
unfolding grade
grade_symmetric c g a b = ap (grade_of c) (two_way_symmetric g a b)

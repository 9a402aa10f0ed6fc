-- Decimetres are 0 to 9,999, so every range is; a grade is a line of its list, at most 49.
use Prim.Native.Nat.{ℕ, ◌%◌, ◌/◌, ◌≤◌, ◌<◌}
use mathlib.Core.Path.{◌≡◌}
use mathlib.Core.List.{List, [], ◌∷◌}
use native.Mathlib.Omega.{arith}
use borrow.Author.Tests.{ne_eqb}
use Rattle.lists.proofs.Picks.{pick_yes, pick_no, same, differ, same?}
use Rattle.lists.proofs.Sums.{all_imp}
use Rattle.lists.proofs.KeyedAll.{all_found}
use Rattle.graph.specs.declared.Reading.{Reading}
use Rattle.graph.specs.declared.Reading.TheVariants.{Untested, Silent, Heard}
use Rattle.graph.specs.Graph.{Edge, Graph, edge_number, no_edge, edge, edge_of, list_of, decimetres}
use Rattle.graph.specs.WellFormed.{Bounds, Within}
use Rattle.graph.proofs.Readings.{reading_range}
use Rattle.prices.specs.Grades.{limits_of}
use Rattle.prices.specs.Prices.{reading_out, later, last_tested, one_way, two_way, grade}
use Rattle.prices.proofs.GradeLaws.{graded, limits_rise, lines_le, old_grade, new_grade}

-- where every reading is of n decimetres at most, the last tested one is
module _ (n : ℕ) (f : ℕ → Reading) (h : (w : ℕ) → decimetres (f w) ≤ n) where
  later_le : (r s : Reading) → decimetres r ≤ n → decimetres s ≤ n → decimetres (later r s) ≤ n
  later_le r Untested p q = p
  later_le r Silent p q = omega arith
  later_le r (Heard d) p q = q

  last_le : (r : Reading) (ws : List ℕ) → decimetres r ≤ n → decimetres (last_tested f r ws) ≤ n
  last_le r [] p = p
  last_le r (w ∷ ws) p = last_le (later r (f w)) ws (later_le r (f w) p (h w))

module _ (k : Bounds) (g : Graph) (w : Within k g) where
  edge_le : (e : ℕ) → decimetres (edge g e).reading ≤ 9999
  edge_le e =
      all_found edge_number (λ (x : Edge). decimetres x.reading ≤ 9999) no_edge e (omega arith)
      (all_imp (λ (x : Edge) f. (reading_range x.reading f.reading).1) w.edges)

  out_le : (b x : ℕ) → decimetres (reading_out g b x) ≤ 9999
  out_le b x = elim (same? (x % 2) 0) [
    | differ i j ↦ simp pick_no (omega arith)
    | same i j ↦ simp pick_yes (elim (same? (edge g (edge_of x)).omega b) [
      | same p q ↦ simp pick_yes (edge_le (edge_of x))
      | differ p q ↦ simp pick_no (omega arith)
    ])
  ]

  pub one_way_range : (a b : ℕ) → one_way g a b ≤ 9999
  unfolding one_way
  one_way_range a b = last_le 9999 (reading_out g b) (out_le b) Untested (list_of g a) (omega arith)

module _ (k : Bounds) (g : Graph) (w : Within k g) (a b : ℕ) where
  pub two_way_range : two_way g a b ≤ 9999
  unfolding two_way
  two_way_range = omega (arith, one_way_range k g w a b)

  -- lists 0 and 1, and list 2
  pub old_grade_is : (c : ℕ) → c < 2 → grade c g a b ≡ two_way g a b / 250
  unfolding grade
  old_grade_is c h = rw (ne_eqb c 2 (λ e. omega (arith, e))) (old_grade (two_way g a b) two_way_range)

  pub new_grade_is : grade 2 g a b ≡ two_way g a b / 200
  unfolding grade
  new_grade_is = new_grade (two_way g a b) two_way_range

  pub grade_range : (c : ℕ) → grade c g a b ≤ 49
  unfolding grade
  grade_range c = omega (arith, (graded (limits_of c) (two_way g a b) (limits_rise c)).line, lines_le c)

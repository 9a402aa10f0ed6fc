-- The price list: range and grade of a pair.
use Rattle.std.specs.Prelude.{ℕ, min, Bool, true, false, not, ◌||◌, List, [], ◌∷◌}
use Rattle.lists.specs.Choice.{if_equal}
use Rattle.graph.specs.declared.Reading.{Reading}
use Rattle.graph.specs.declared.Reading.TheVariants.{Untested, Silent, Heard}
use Rattle.graph.specs.Graph.{Graph, edge, edge_of, by_side, list_of, decimetres}
use Rattle.prices.specs.Grades.{limits_of, grade_by}

-- the reading of the edge of word w where w goes out to b, else untested
abbrev pub reading_out : Graph → ℕ → ℕ → Reading
reading_out g b w = by_side w (if_equal (edge g (edge_of w)).omega b (edge g (edge_of w)).reading Untested) Untested

-- silent, or heard
pub data Tested : Reading → Type 0 where
  silent : Tested Silent
  heard : (d : ℕ) → Tested (Heard d)

-- the later of two readings, unless that is untested
abbrev pub later : Reading → Reading → Reading
later r Untested = r
later r Silent = Silent
later r (Heard d) = Heard d

-- the last reading along a list of words that is not untested; r where all are
abbrev pub last_tested : (ℕ → Reading) → Reading → List ℕ → Reading
last_tested f r [] = r
last_tested f r (w ∷ ws) = last_tested f (later r (f w)) ws

-- the reading that sets the way from a to b: the last tested one along the list of a, on words out to b (REFERENCE 6.1)
unfoldable pub way : Graph → ℕ → ℕ → Reading
way g a b = last_tested (reading_out g b) Untested (list_of g a)

abbrev pub is_heard : Reading → Bool
is_heard Untested = false
is_heard Silent = false
is_heard (Heard d) = true

unfoldable pub one_way : Graph → ℕ → ℕ → ℕ
unfolding way
one_way g a b = decimetres (way g a b)

-- code 16: one of the ways is silent, or has no tested word (REFERENCE 7.16)
unfoldable pub nothing_heard : Graph → ℕ → ℕ → Bool
unfolding way
nothing_heard g a b = not (is_heard (way g a b)) || not (is_heard (way g b a))

-- both ways count, the smaller sets the range; a and b may be one vertex (REFERENCE 6.2)
unfoldable pub two_way : Graph → ℕ → ℕ → ℕ
unfolding one_way
two_way g a b = min (one_way g a b) (one_way g b a)

-- the grade of a range by price list c (REFERENCE 6.3)
abbrev pub grade_of : ℕ → ℕ → ℕ
grade_of c range = grade_by (limits_of c) range

unfoldable pub grade : ℕ → Graph → ℕ → ℕ → ℕ
unfolding two_way
grade c g a b = grade_of c (two_way g a b)

-- Orders of Seven (REFERENCE 15.1).
use Prim.Native.Nat.{ℕ}
use mathlib.Core.Path.{◌≡◌, refl}
use mathlib.Core.List.{List, [], ◌∷◌}
use Rattle.lists.specs.Choice.{if_equal}
use Rattle.graph.specs.Graph.{vertex_numbers, list_of}
use Rattle.machine.specs.Seven.{seven}
use Rattle.arrangement.specs.Orders.{refusal, arrangement}

abbrev blank : List ℕ
blank = 7 ∷ 7 ∷ 7 ∷ 7 ∷ 7 ∷ 7 ∷ 7 ∷ 7 ∷ 7 ∷ 7 ∷ 7 ∷ 7 ∷ 7 ∷ 7 ∷ []

pub vertices_of_seven : arrangement 12 (vertex_numbers seven) (3 ∷ 1 ∷ 4 ∷ 2 ∷ []) (7 ∷ 7 ∷ blank)
    ≡ record { code = 0; calls = 3; list = 12 ∷ 1 ∷ 3 ∷ 0 ∷ 0 ∷ 12 ∷ 4 ∷ 1 ∷ 0 ∷ 0 ∷ 12 ∷ 2 ∷ 4 ∷ 0 ∷ 0 ∷ 7 ∷ [] }
unfolding arrangement if_equal
vertices_of_seven = refl

pub words_of_four : arrangement 16 (list_of seven 4) (15 ∷ 14 ∷ 12 ∷ 10 ∷ []) (7 ∷ blank)
    ≡ record { code = 0; calls = 3; list = 16 ∷ 14 ∷ 15 ∷ 0 ∷ 0 ∷ 16 ∷ 12 ∷ 14 ∷ 0 ∷ 0 ∷ 16 ∷ 10 ∷ 12 ∷ 0 ∷ 0 ∷ [] }
unfolding arrangement if_equal
words_of_four = refl

-- one word twice; words of another end; one word of the list too few
pub twice : arrangement 16 (list_of seven 4) (10 ∷ 12 ∷ 14 ∷ 14 ∷ []) blank ≡ refusal 111 blank
unfolding arrangement if_equal
twice = refl

pub others : arrangement 16 (list_of seven 4) (11 ∷ 13 ∷ 14 ∷ 15 ∷ []) blank ≡ refusal 111 blank
unfolding arrangement if_equal
others = refl

pub short : arrangement 12 (vertex_numbers seven) (1 ∷ 2 ∷ 3 ∷ 4 ∷ []) blank ≡ refusal 112 blank
unfolding arrangement if_equal
short = refl

-- no items, no calls, and no room needed
pub nothing : arrangement 16 (list_of seven 3) [] [] ≡ record { code = 0; calls = 0; list = [] }
unfolding arrangement if_equal
nothing = refl

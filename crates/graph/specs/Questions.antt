-- The question that counts: degree in a class. The others read Graph and the list operations first, after and before.
use Rattle.std.specs.Prelude.{ℕ, Bool, not, ◌&&◌, ◌||◌, length, ◌==◌}
use Rattle.lists.specs.Lists.{filter}
use Rattle.graph.specs.Graph.{Graph, edge, edge_of, is_out, list_of}

-- the sides of kind 45: all, out words, in words
abbrev pub on_side : ℕ → ℕ → Bool
on_side c w = (c == 0) || ((c == 1) && is_out w) || ((c == 2) && not (is_out w))

-- REFERENCE 5.4: the words of a's list on that side whose edge has a type in the class
unfoldable pub degree : (ℕ → Bool) → ℕ → Graph → ℕ → ℕ
degree in_class c g a = length (filter (λ w. in_class (edge g (edge_of w)).type && on_side c w) (list_of g a))

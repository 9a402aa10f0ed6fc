-- Walks along one incidence list.
use Rattle.std.specs.Prelude.{ℕ, ◌-◌, ◌/◌, ◌^◌, ◌<◌, Bool, ◌&&◌, ◌≡◌, List, length, Result, Ok, Err}
use Rattle.lists.specs.Choice.{if_equal, to_bit}
use Rattle.lists.specs.Lists.{sum_of, filter}
use Rattle.linked_lists.specs.Lists.{Every}
use Rattle.linked_lists.specs.Links.{Held, nodes}
use Rattle.graph.specs.Graph.{by_side}
use Rattle.graph.specs.Questions.{on_side}
use Rattle.graph_tables.specs.Tables.{incidence_links, vertex_ends, VertexRowIn, EdgeRowIn, etype, wthis}
use Rattle.walks.specs.declared.Side.{Side}
use Rattle.walks.specs.declared.Side.TheVariants.{All, Out, In}
use Rattle.walks.specs.declared.NoSide.{NoSide}

-- the list of v is held, and each of its words has its edge's row
pub record CanWalk (vertices edges : List ℕ) (v : ℕ) : Type 0 where
  pub row : VertexRowIn vertices v
  pub small : length edges < 2 ^ 31
  pub list : List ℕ
  pub held : Held incidence_links edges (vertex_ends vertices v) list
  pub rows : Every (λ w. EdgeRowIn edges (w / 2)) list

-- 1 for the word at which an edge is counted: an out word, and an in word whose edge is no loop
abbrev pub counted_at : List ℕ → ℕ → ℕ
counted_at edges w = by_side w 1 (if_equal (wthis edges (w - 1)) (wthis edges w) 0 1)

-- how many edges are counted along the list of v
unfoldable pub distinct_edges_at : List ℕ → List ℕ → ℕ → ℕ
distinct_edges_at vertices edges v = sum_of (counted_at edges) (nodes incidence_links edges (vertex_ends vertices v))

-- 1 where word w is on the side c and its edge has a type in the class, else 0
abbrev pub degree_one : (ℕ → Bool) → ℕ → List ℕ → ℕ → ℕ
degree_one in_class c edges w = to_bit (in_class (etype edges (w / 2)) && on_side c w)

-- how many words of the list of v are on the side c, with an edge whose type is in the class
unfoldable pub degree_at : (ℕ → Bool) → ℕ → List ℕ → List ℕ → ℕ → ℕ
degree_at in_class c vertices edges v = length (filter (λ w. in_class (etype edges (w / 2))
    && on_side c w) (nodes incidence_links edges (vertex_ends vertices v)))

-- the number of a side in kind 45
abbrev pub side_number : Side → ℕ
side_number All = 0
side_number Out = 1
side_number In = 2

-- what is read of a number: the side that has it, or that none has
abbrev pub NumberOf : ℕ → Result Side NoSide → Type 0
NumberOf c (Ok side) = c ≡ side_number side
NumberOf c (Err _) = 2 < c

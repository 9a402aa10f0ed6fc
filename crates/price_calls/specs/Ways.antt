-- One way and both ways, as the tables are read.
use Rattle.std.specs.Prelude.{ℕ, ◌+◌, ◌/◌, min, List}
use Rattle.lists.specs.Choice.{if_equal}
use Rattle.linked_lists.specs.Links.{nodes}
use Rattle.graph.specs.declared.Reading.{Reading}
use Rattle.graph.specs.declared.Reading.TheVariants.{Untested, Silent, Heard}
use Rattle.graph.specs.Graph.{by_side}
use Rattle.graph_tables.specs.Tables.{incidence_links, vertex_ends, wthis, reading_at}
use Rattle.commands.specs.declared.Answer.{Answer}
use Rattle.commands.specs.Answers.{accepts, refuses}
use Rattle.prices.specs.Prices.{last_tested}

-- the reading of the edge of word w where it goes out to b, else untested
abbrev pub reading_to : List ℕ → ℕ → ℕ → Reading
reading_to edges b w = by_side w (if_equal (wthis edges (w + 1)) b (reading_at edges (w / 2)) Untested) Untested

-- one way from a to b, along the nodes of a's list: the last reading that is not untested (REFERENCE 6.1)
unfoldable pub way_at : List ℕ → List ℕ → ℕ → ℕ → Reading
way_at vertices edges a b = last_tested (reading_to edges b) Untested (nodes incidence_links edges (vertex_ends vertices a))

-- the smaller of both ways; code 16 where one is not heard (REFERENCE 7.16)
abbrev pub both_ways : Reading → Reading → Answer
both_ways Untested back = refuses 16
both_ways Silent back = refuses 16
both_ways (Heard x) Untested = refuses 16
both_ways (Heard x) Silent = refuses 16
both_ways (Heard x) (Heard y) = accepts (min x y)

-- the two-way range of a and b
abbrev pub price_at : List ℕ → List ℕ → ℕ → ℕ → Answer
price_at vertices edges a b = both_ways (way_at vertices edges a b) (way_at vertices edges b a)

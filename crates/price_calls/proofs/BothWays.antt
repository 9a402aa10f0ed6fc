-- Two ways together are the price of the graph.
use Prim.Native.Nat.{ℕ, min}
use mathlib.Core.Path.{◌≡◌, refl, ◌∙◌}
use mathlib.Core.Bool.{not, ◌||◌}
use Rattle.lists.specs.Choice.{◌⇒◌else◌}
use Rattle.graph.specs.declared.Reading.{Reading}
use Rattle.graph.specs.declared.Reading.TheVariants.{Untested, Silent, Heard}
use Rattle.graph.specs.Graph.{Graph, decimetres}
use Rattle.prices.specs.Prices.{way, is_heard, nothing_heard, one_way, two_way}
use Rattle.graph.specs.Changes.{VertexThere}
use Rattle.graph_tables.specs.Tables.{State}
use Rattle.graph_tables.specs.Holds.{Holds}
use Rattle.commands.specs.Answers.{answer_of}
use Rattle.price_calls.specs.Ways.{both_ways, price_at}
use Rattle.price_calls.proofs.Heard.{way_is}

both : (x y : Reading) →
    both_ways x y ≡ answer_of ((not (is_heard x) || not (is_heard y)) ⇒ 16 else 0) (min (decimetres x) (decimetres y))
both Untested y = refl
both Silent y = refl
both (Heard d) Untested = refl
both (Heard d) Silent = refl
both (Heard d) (Heard k) = refl

both_is : (g : Graph) (a b : ℕ) → both_ways (way g a b) (way g b a) ≡ answer_of (nothing_heard g a b ⇒ 16 else 0) (two_way g a b)
unfolding nothing_heard two_way one_way
both_is g a b = both (way g a b) (way g b a)

-- the price that the tables give is that of the graph
pub price_is : (s : State) (g : Graph) → Holds s g → (a b : ℕ) → VertexThere g a → VertexThere g b →
    price_at s.vertices s.edges a b ≡ answer_of (nothing_heard g a b ⇒ 16 else 0) (two_way g a b)
price_is s g h a b there back = (λ i. both_ways (way_is s g h a b there i) (way_is s g h b a back i)) ∙ both_is g a b

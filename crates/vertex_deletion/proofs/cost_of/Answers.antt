use native.Mathlib.Omega.{arith}
use mathlib.Core.Path.{◌≡◌, sym, ap, subst, ◌∙◌}
use Rattle.std.specs.Prelude.{List, ℕ}
use Rattle.graph_tables.specs.Tables.{state_of}
use Rattle.walks.specs.Walks.{CanWalk, distinct_edges_at}
use Rattle.vertex_deletion.proofs.Costs.{can_count, count_short, counted}
use Rattle.vertex_deletion.proofs.cost_of.Goals.{After-count_edges}
use Rattle.vertex_deletion.proofs.cost_of.Goals as goal

pub count_edges-requires : goal.count_edges-requires
count_edges-requires c =
    let a = c.args in
    let p = c.requires.1 in
    let v = c.view.ensures in
    subst (λ (vs : List ℕ). CanWalk vs c.view.result.edges.now a.a) (sym v.vertices)
    (subst (λ (es : List ℕ). CanWalk a.tables.now.vertices.now es a.a) (sym v.edges) (can_count p.0 (state_of c.requires.0 a.tables.now) p.2 p.1 p.3 a.a p.4))

-- what was counted on the view is what the tables say
seen : (c : After-count_edges) → c.count_edges.result ≡ distinct_edges_at c.args.tables.now.vertices.now c.args.tables.now.edges.now c.args.a
seen c =
    let a = c.args in
    let v = c.view.ensures in
    c.count_edges.ensures
    ∙ ap (λ (vs : List ℕ). distinct_edges_at vs c.view.result.edges.now a.a) v.vertices
    ∙ ap (λ (es : List ℕ). distinct_edges_at a.tables.now.vertices.now es a.a) v.edges

pub overflow_add-result : goal.overflow_add-result
overflow_add-result c =
    let a = c.args in
    let p = c.requires.1 in
    omega (arith, count_short p.0 (state_of c.requires.0 a.tables.now) p.2 p.1 p.3 a.a p.4 _ (seen (goal.at.overflow_add-result c).After-count_edges))

pub returns : goal.returns
returns c =
    λ head b g h i.
    let a = c.args in
    counted (state_of head a.tables.now) g h a.a _ i (seen (goal.at.returns c).After-count_edges)

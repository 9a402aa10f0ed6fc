use mathlib.Core.Path.{sym, ◌∙◌}
use Rattle.type_rows.specs.Closure.{bit_of}
use Rattle.walks.specs.Walks.{degree_at}
use Rattle.walks.proofs.Degrees.{degree_below, class_none, class_same, side_beyond}
use Rattle.walks.proofs.counting.degree.Goals as goal

-- a class above 63: nothing is in it
pub returns-then-t-gt63-clause-value : goal.returns-then-t-gt63-clause-value
returns-then-t-gt63-clause-value c =
    let a = c.args in
    class_none a.words.now a.t a.c a.tables.now.vertices.now a.tables.now.edges.now a.v c.if-t-gt63.true

pub returns-then-t-gt63-clause-by_index : goal.returns-then-t-gt63-clause-by_index
returns-then-t-gt63-clause-by_index c =
    let a = c.args in
    λ rows good q.
    class_none a.words.now a.t a.c a.tables.now.vertices.now a.tables.now.edges.now a.v c.if-t-gt63.true
    ∙ degree_below rows a.words.now good q a.t a.c a.tables.now.vertices.now a.tables.now.edges.now a.v

-- a number that no side has
pub returns-in_default-clause-value : goal.returns-in_default-clause-value
returns-in_default-clause-value c =
    let a = c.args in
    side_beyond (λ s. bit_of a.words.now s a.t) a.c a.tables.now.vertices.now a.tables.now.edges.now a.v c.in_default.ensures

pub returns-in_default-clause-by_index : goal.returns-in_default-clause-by_index
returns-in_default-clause-by_index c =
    let a = c.args in
    λ rows good q.
    side_beyond (λ s. bit_of a.words.now s a.t) a.c a.tables.now.vertices.now a.tables.now.edges.now a.v c.in_default.ensures
    ∙ degree_below rows a.words.now good q a.t a.c a.tables.now.vertices.now a.tables.now.edges.now a.v

pub returns-clause-by_index : goal.returns-clause-by_index
returns-clause-by_index c =
    let a = c.args in
    λ rows good q.
    c.degree_from.ensures
    ∙ (λ i. degree_at (λ s. bit_of a.words.now s (class_same a.t c.if-t-gt63.false i)) (sym c.in-Ok.ensures i) a.tables.now.vertices.now a.tables.now.edges.now a.v)
    ∙ degree_below rows a.words.now good q a.t a.c a.tables.now.vertices.now a.tables.now.edges.now a.v

use Prim.Native.Nat.{◌+◌}
use mathlib.Core.Path.{refl, ◌∙◌}
use mathlib.Core.Logic.{◌≢◌}
use native.Mathlib.Omega.{arith}
use Rattle.graph.specs.declared.Change.TheVariants.{DeleteVertex}
use Rattle.graph_tables.specs.Tables.{state_of}
use Rattle.vertex_deletion.specs.Making.{next_edit}
use Rattle.vertex_deletion.proofs.Rows.{first_next, making_start, allowed_now, row_room, making_turn, cost_same}
use Rattle.vertex_deletion.proofs.make_rows.Goals as goal

pub loop-row-init : goal.loop-row-init
loop-row-init c =
    let a = c.args in (
      λ b y i k. making_start (DeleteVertex a.a) b a.current.position (state_of a.current.head a.tables.now) a.journal.now y a.rows _ refl k i,
      record { vertices = refl; edges = refl; vertices_length = refl; edges_length = refl },
    )

pub next_row-head-requires-clause-holds : goal.next_row-head-requires-clause-holds
next_row-head-requires-clause-holds c =
    let p = c.requires in
    let k = c.loop-row.invariant.0 p.0 p.1 p.2 p.5 in
    (p.0, k.graph, k.opened.rows.sized, k.holds, allowed_now k p.3 (λ e. omega (arith, e, c.loop-row-test.true)))

pub loop-row-preserved : goal.loop-row-preserved
loop-row-preserved c =
    let a = c.args in
    let p = c.requires in
    let j = a.current.position in
    let s = state_of a.current.head a.tables.now in
    let l = c.loop-row in
    let s₁ = state_of l.head l.tables in
    let m = c.next_row-head in
    let loan = m.ensures.same_loan in
    let was = l.invariant.1 in (
      λ b y i k.
          let z = l.invariant.0 b y i k in
          let o = cost_same (DeleteVertex a.a) p.0 b j s a.journal.now p.1 y p.5 k a.rows p.3 in
          let f : l.row ≢ j.used + a.rows = λ e. omega (arith, e, c.loop-row-test.true) in
          let w = allowed_now z o f in
          making_turn z o f (next_edit s₁ a.a) (first_next b s₁ z.graph z.holds a.a w) (row_room z o f p.4) (state_of m.result m.new.tables) m.new.journal
          (l.row + 1) m.ensures.made (omega arith),
      record {
        vertices = loan.vertices ∙ was.vertices;
        edges = loan.edges ∙ was.edges;
        vertices_length = loan.vertices_length ∙ was.vertices_length;
        edges_length = loan.edges_length ∙ was.edges_length;
      },
    )

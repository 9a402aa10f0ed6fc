use Prim.Native.Nat.{◌+◌}
use mathlib.Core.Path.{refl, ap}
use mathlib.Core.List.{[]}
use lib.ListN.{length}
use native.Mathlib.Omega.{arith}
use Rattle.graph_tables.specs.Tables.{edge_links}
use Rattle.graph_tables.proofs.Frames.{valid_e}
use Rattle.image_tables.specs.Words.{edge_words}
use Rattle.image_tables.proofs.Walks.{Turn, writing_start, writing_turn, writing_end, edges_by}
use Rattle.image_tables.proofs.write.edges.Goals as goal

-- what is known in a turn
turn : (c : goal.After-edge-arg-1) → let s = c in let l = c.loop-e in
    Turn (edge_words s.args.edges.now) edge_links s.args.edges.now c.edge_ends-ends.result s.args.out.now s.args.from l.out l.at l.e
turn c =
    let s = c in
    let l = c.loop-e in
    writing_turn (edge_words s.args.edges.now) edge_links s.args.edges.now c.edge_ends-ends.result s.args.out.now s.args.from l.out l.at l.e l.invariant.1
    c.loop-e-test.true

turn_at_After_slice_known_in_loop_e_1 : (c : goal.After-slice_known-in-loop-e-1) → let s = c in let l = c.loop-e in
    Turn (edge_words s.args.edges.now) edge_links s.args.edges.now c.edge_ends-ends.result s.args.out.now s.args.from l.out l.at l.e
turn_at_After_slice_known_in_loop_e_1 c =
    let s = c in
    let l = c.loop-e in
    writing_turn (edge_words s.args.edges.now) edge_links s.args.edges.now c.edge_ends-ends.result s.args.out.now s.args.from l.out l.at l.e l.invariant.1
    c.loop-e-test.true

turn_at_After_next_e_in_loop_e : (c : goal.After-next-e-in-loop-e) → let s = c in let l = c.loop-e in
    Turn (edge_words s.args.edges.now) edge_links s.args.edges.now c.edge_ends-ends.result s.args.out.now s.args.from l.out l.at l.e
turn_at_After_next_e_in_loop_e c =
    let s = c in
    let l = c.loop-e in
    writing_turn (edge_words s.args.edges.now) edge_links s.args.edges.now c.edge_ends-ends.result s.args.out.now s.args.from l.out l.at l.e l.invariant.1
    c.loop-e-test.true

pub loop-e-init : goal.loop-e-init
loop-e-init c =
    let s = c in (
      refl,
      writing_start (edge_words s.args.edges.now) edge_links s.args.edges.now c.edge_ends-ends.result s.args.out.now s.args.from valid_e (rw c.edge_ends-ends.ensures s.requires.0)
          c.next-e.result c.next-e.ensures,
    )

pub edge-requires : goal.edge-requires
edge-requires c =
    let t = turn c in
    let s = c in
    let i = t.inside c.loop-e-test.true in
    ((omega arith, omega arith), omega (arith, t.room, s.requires.1, ap length (edges_by c.args.head [] c.args.edges.now _ c.edge_ends-ends.ensures)))

pub overflow_add-at : goal.overflow_add-at
overflow_add-at c = omega (arith, (turn_at_After_slice_known_in_loop_e_1 c).room, ap length (edges_by c.args.head [] c.args.edges.now _ c.edge_ends-ends.ensures))

pub next-e-requires-in-loop-e : goal.next-e-requires-in-loop-e
next-e-requires-in-loop-e c = record { valid_layout = valid_e; inside = (turn_at_After_slice_known_in_loop_e_1 c).inside }

pub loop-e-smaller : goal.loop-e-smaller
loop-e-smaller c = (turn_at_After_next_e_in_loop_e c).less c.next-e-in-loop-e.result c.next-e-in-loop-e.ensures

pub loop-e-preserved : goal.loop-e-preserved
loop-e-preserved c =
    let d = c in (
      omega (arith, d.edge.auto, d.loop-e.invariant.0),
      (turn_at_After_next_e_in_loop_e d).next d.edge.new.out (d.loop-e.at + 6) c.next-e-in-loop-e.result d.edge.ensures refl c.next-e-in-loop-e.ensures,
    )

pub returns : goal.returns
returns c =
    let s = c in
    let l = c.loop-e in
    rw (edges_by c.args.head [] c.args.edges.now _ c.edge_ends-ends.ensures)
    (writing_end (edge_words s.args.edges.now) edge_links s.args.edges.now c.edge_ends-ends.result s.args.out.now s.args.from l.out l.at l.e l.invariant.1
    c.loop-e-test.false).0

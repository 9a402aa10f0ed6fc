use Prim.Native.Nat.{◌+◌}
use mathlib.Core.Path.{refl, ap}
use lib.ListN.{length}
use native.Mathlib.Omega.{arith}
use Rattle.graph_tables.specs.Tables.{vertex_links}
use Rattle.graph_tables.proofs.Frames.{valid_v}
use Rattle.image_tables.specs.Words.{vertex_words, list_words}
use Rattle.image_tables.proofs.Walks.{PairTurn, pairs_start, pairs_turn, pairs_end, vertices_by, lists_by}
use Rattle.image_tables.proofs.write.vertices.Goals as goal

-- what is known in a turn
turn : (c : goal.After-vertex-arg-1) → let s = c in let l = c.loop-v in
    PairTurn (vertex_words s.args.vertices.now s.args.edges.now) (list_words s.args.vertices.now s.args.edges.now) vertex_links s.args.vertices.now
    c.vertex_ends-ends.result s.args.out.now s.args.from s.args.behind l.out l.at l.to l.v
turn c =
    let s = c in
    let l = c.loop-v in
    pairs_turn (vertex_words s.args.vertices.now s.args.edges.now) (list_words s.args.vertices.now s.args.edges.now) vertex_links s.args.vertices.now
    c.vertex_ends-ends.result s.args.out.now s.args.from s.args.behind l.out l.at l.to l.v (omega (arith, s.requires.2, ap length (vertices_by c.args.head c.args.vertices.now c.args.edges.now _ c.vertex_ends-ends.ensures))) l.invariant.1 c.loop-v-test.true

turn_at_After_slice_known_in_loop_v_1 : (c : goal.After-slice_known-in-loop-v-1) → let s = c in let l = c.loop-v in
    PairTurn (vertex_words s.args.vertices.now s.args.edges.now) (list_words s.args.vertices.now s.args.edges.now) vertex_links s.args.vertices.now
    c.vertex_ends-ends.result s.args.out.now s.args.from s.args.behind l.out l.at l.to l.v
turn_at_After_slice_known_in_loop_v_1 c =
    let s = c in
    let l = c.loop-v in
    pairs_turn (vertex_words s.args.vertices.now s.args.edges.now) (list_words s.args.vertices.now s.args.edges.now) vertex_links s.args.vertices.now
    c.vertex_ends-ends.result s.args.out.now s.args.from s.args.behind l.out l.at l.to l.v (omega (arith, s.requires.2, ap length (vertices_by c.args.head c.args.vertices.now c.args.edges.now _ c.vertex_ends-ends.ensures))) l.invariant.1 c.loop-v-test.true

turn_at_After_next_v_in_loop_v : (c : goal.After-next-v-in-loop-v) → let s = c in let l = c.loop-v in
    PairTurn (vertex_words s.args.vertices.now s.args.edges.now) (list_words s.args.vertices.now s.args.edges.now) vertex_links s.args.vertices.now
    c.vertex_ends-ends.result s.args.out.now s.args.from s.args.behind l.out l.at l.to l.v
turn_at_After_next_v_in_loop_v c =
    let s = c in
    let l = c.loop-v in
    pairs_turn (vertex_words s.args.vertices.now s.args.edges.now) (list_words s.args.vertices.now s.args.edges.now) vertex_links s.args.vertices.now
    c.vertex_ends-ends.result s.args.out.now s.args.from s.args.behind l.out l.at l.to l.v (omega (arith, s.requires.2, ap length (vertices_by c.args.head c.args.vertices.now c.args.edges.now _ c.vertex_ends-ends.ensures))) l.invariant.1 c.loop-v-test.true

pub loop-v-init : goal.loop-v-init
loop-v-init c =
    let s = c in (
      refl,
      pairs_start (vertex_words s.args.vertices.now s.args.edges.now) (list_words s.args.vertices.now s.args.edges.now) vertex_links s.args.vertices.now
          c.vertex_ends-ends.result s.args.out.now s.args.from s.args.behind valid_v (rw c.vertex_ends-ends.ensures s.requires.0) c.next-v.result c.next-v.ensures,
    )

pub vertex-to-requires : goal.vertex-to-requires
vertex-to-requires c =
    let t = turn c in
    let s = c in
    let l = c.loop-v in
    let i = t.inside c.loop-v-test.true in
    ((omega arith, omega arith), s.requires.1 l.v (omega arith), t.before, omega (arith, t.room, s.requires.3, l.invariant.0, ap length (lists_by c.args.head c.args.vertices.now c.args.edges.now _ c.vertex_ends-ends.ensures)), omega (arith, t.few, s.requires.4, ap length (lists_by c.args.head c.args.vertices.now c.args.edges.now _ c.vertex_ends-ends.ensures)))

pub next-v-requires-in-loop-v : goal.next-v-requires-in-loop-v
next-v-requires-in-loop-v c = record { valid_layout = valid_v; inside = (turn_at_After_slice_known_in_loop_v_1 c).inside }

pub loop-v-smaller : goal.loop-v-smaller
loop-v-smaller c = (turn_at_After_next_v_in_loop_v c).less c.next-v-in-loop-v.result c.next-v-in-loop-v.ensures

pub loop-v-preserved : goal.loop-v-preserved
loop-v-preserved c =
    let d = c in
    let l = d.loop-v in (
      omega (arith, d.vertex-to.auto, l.invariant.0),
      (turn_at_After_next_v_in_loop_v d).next d.vertex-to.new.out (l.at + 4) d.vertex-to.result c.next-v-in-loop-v.result d.vertex-to.ensures.0 refl d.vertex-to.ensures.1 c.next-v-in-loop-v.ensures,
    )

pub returns : goal.returns
returns c =
    let s = c in
    let l = c.loop-v in
    rw (vertices_by c.args.head c.args.vertices.now c.args.edges.now _ c.vertex_ends-ends.ensures, lists_by c.args.head c.args.vertices.now c.args.edges.now _ c.vertex_ends-ends.ensures)
    (pairs_end (vertex_words s.args.vertices.now s.args.edges.now) (list_words s.args.vertices.now s.args.edges.now) vertex_links s.args.vertices.now
    c.vertex_ends-ends.result s.args.out.now s.args.from s.args.behind l.out l.at l.to l.v l.invariant.1 c.loop-v-test.false)

pub overflow_add-at : goal.overflow_add-at
overflow_add-at c = omega (arith, (turn_at_After_slice_known_in_loop_v_1 c).before)

use Prim.Native.Nat.{◌+◌, ◌≤◌}
use mathlib.Core.Path.{◌≡◌, refl, sym, ap, ◌∙◌}
use mathlib.Core.List.{[], ◌∷◌}
use native.Mathlib.Omega.{arith}
use lib.ListN.{length, length-set}
use Rattle.lists.specs.Lists.{concat_map}
use Rattle.linked_lists.specs.Links.{nodes}
use Rattle.graph_tables.specs.Tables.{incidence_links}
use Rattle.graph_tables.proofs.Frames.{valid_i}
use Rattle.image_tables.specs.Words.{list_words}
use Rattle.image_tables.proofs.Walks.{Turn, writing_start, writing_turn, writing_end, each_one}
use Rattle.image_tables.proofs.write.list.Goals as goal

-- what is known in a turn
turn : (c : goal.In-loop-w) → let s = c in let l = c.loop-w in
    Turn (λ x. x ∷ []) incidence_links s.args.edges.now c.ends_of-ends.result s.args.out.now s.args.from l.out l.at l.w
turn c =
    let s = c in
    let l = c.loop-w in
    writing_turn (λ x. x ∷ []) incidence_links s.args.edges.now c.ends_of-ends.result s.args.out.now s.args.from l.out l.at l.w l.invariant.1
    c.loop-w-test.true

turn_at_After_next_w_in_loop_w : (c : goal.After-next-w-in-loop-w) → let s = c in let l = c.loop-w in
    Turn (λ x. x ∷ []) incidence_links s.args.edges.now c.ends_of-ends.result s.args.out.now s.args.from l.out l.at l.w
turn_at_After_next_w_in_loop_w c =
    let s = c in
    let l = c.loop-w in
    writing_turn (λ x. x ∷ []) incidence_links s.args.edges.now c.ends_of-ends.result s.args.out.now s.args.from l.out l.at l.w l.invariant.1
    c.loop-w-test.true

-- there is room for the word
room : (c : goal.In-loop-w) → c.loop-w.at + 1 ≤ length c.loop-w.out
room c =
    let s = c in
    let e = c.ends_of-ends in
    let q : length (list_words s.args.vertices.now s.args.edges.now s.args.v) ≡ length (concat_map (λ x. x ∷ []) (nodes incidence_links s.args.edges.now e.result)) =
    ap length (sym (each_one _ ∙ ap (nodes incidence_links s.args.edges.now) e.ensures)) in
    omega (arith, (turn c).room, s.requires.2, q, c.loop-w.invariant.0)

pub loop-w-init : goal.loop-w-init
loop-w-init c =
    let e = c.ends_of-ends in
    let s = c in
    (refl, writing_start (λ x. x ∷ []) incidence_links s.args.edges.now e.result s.args.out.now s.args.from valid_i (rw e.ensures s.requires.1) c.next-w.result c.next-w.ensures)

pub next-w-requires-in-loop-w : goal.next-w-requires-in-loop-w
next-w-requires-in-loop-w c = record { valid_layout = valid_i; inside = (turn c).inside }

pub loop-w-smaller : goal.loop-w-smaller
loop-w-smaller c = (turn_at_After_next_w_in_loop_w c).less c.next-w-in-loop-w.result c.next-w-in-loop-w.ensures

pub loop-w-preserved : goal.loop-w-preserved
loop-w-preserved c =
    let l = c.loop-w in
    (simp length-set l.invariant.0, (turn_at_After_next_w_in_loop_w c).next _ (l.at + 1) c.next-w-in-loop-w.result refl refl c.next-w-in-loop-w.ensures)

pub returns : goal.returns
returns c =
    let s = c in
    let e = c.ends_of-ends in
    let l = c.loop-w in
    let q : concat_map (λ x. x ∷ []) (nodes incidence_links s.args.edges.now e.result) ≡ list_words s.args.vertices.now s.args.edges.now s.args.v =
    each_one _ ∙ ap (nodes incidence_links s.args.edges.now) e.ensures in
    rw (← q) (writing_end (λ x. x ∷ []) incidence_links s.args.edges.now e.result s.args.out.now s.args.from l.out l.at l.w l.invariant.1 c.loop-w-test.false)

pub offset_bounds-out-at : goal.offset_bounds-out-at
offset_bounds-out-at c = omega (arith, room c)

pub bounds-out-at : goal.bounds-out-at
bounds-out-at c = omega (arith, room c)

pub overflow_add-at : goal.overflow_add-at
overflow_add-at c = omega (arith, room c)

use Prim.Native.Nat.{ℕ, suc, ◌+◌, ◌-◌, ◌*◌, ◌/◌, ◌^◌, min, ◌≤◌, ◌<◌}
use mathlib.Core.Path.{◌≡◌, refl, sym, ap, subst, ◌∙◌}
use mathlib.Core.List.{List, []}
use native.Mathlib.Omega.{arith}
use lib.ListN.{length, get_or, set, take, drop, length-drop}
use lib.Seq.{length-take-le, get_or-take, get_or-drop}
use Rattle.machine.specs.Calls.{Parameters}
use Rattle.machine.specs.Run.{answer_words}
use Rattle.lists.specs.Choice.{within}
use Rattle.lists.specs.Lists.{overwritten}
use Rattle.history_calls.specs.declared.Store.{Store}
use Rattle.machine.specs.Stores.{Stores, StoreCall, store_calls_of, joint_room, answers_in, last_in}
use Rattle.machine.proofs.StoreLaws.{limits_last}
use Rattle.store_calls.specs.Parts.{with_part}
use Rattle.store_calls.specs.Serving.{slot_of, store_at, Serving, sizes, whole, AfterAll}
use Rattle.store_calls.proofs.Parts.{part_length, length_with, behind_with}
use Rattle.store_calls.proofs.StretchLaws.{OfStore, of_store}
use Rattle.store_calls.proofs.ServingLaws.{vertices_end, edges_end, journal_end, in_eight, used_fits, room_short, part_short, told, room_enough, room_after, serving_after}
use Rattle.store_calls.proofs.CallsIn.{six, first_at, first_length, part_kept, stores_more, written_more, all_done}
use Rattle.store_calls.proofs.serving.serve.Goals as goal

record Facts (v e t i stores : ℕ) (vertices edges journal : List ℕ) (used room : ℕ) : Type 0 where
  eight : i < 8
  vend : i * v + v ≤ length vertices
  eend : i * e + e ≤ length edges
  tend : i * t + t ≤ length journal
  vshort : length vertices * 4 < 9223372036854775808
  eshort : length edges * 4 < 9223372036854775808
  tshort : length journal * 4 < 9223372036854775808
  fits : used ≤ t / 12
  short : used + room < 2 ^ 32
  words : t < 2 ^ 32

-- what they leave
record Left (w : Parameters) (s : Stores) (v e t k c n : ℕ) (calls : List ℕ) (all : List Store) (vertices edges journal : List ℕ) (marks : List (List ℕ)) (closed : List ℕ) (types : ℕ)
    (used room : ℕ) (part part' : List ℕ) : Type 0 where
  serving : Serving w (sizes v e t) all (whole vertices edges journal marks) closed types
      (last_in w (last_in w s (take k (store_calls_of calls))) (take c (store_calls_of (take (6 * n - 6 * k) (drop (6 * k) calls)))))
  enough : used ≤ room
  rest : room - used ≡ joint_room (last_in w (last_in w s (take k (store_calls_of calls))) (take c (store_calls_of (take (6 * n - 6 * k) (drop (6 * k) calls)))))
  written : part' ≡ overwritten (answer_words (answers_in w (last_in w s (take k (store_calls_of calls))) (take c (store_calls_of (take (6 * n - 6 * k) (drop (6 * k) calls)))))) part

facts_at_After_x_1 : (c : goal.After-x-1) → Facts c.args.v
    c.args.e c.args.t
    c.slot-i.result c.args.stores c.loop-k.vertices
    c.loop-k.edges c.loop-k.journal
    (store_at c.loop-k.all c.slot-i.result).current.position.used c.loop-k.room
facts_at_After_x_1 c =
    let a = c.args in
    let l = c.loop-k in
    let p = c.requires.serves in
    let g = l.invariant.5 p.0 p.1 p.2 p.3 p.4 in
    let S = last_in p.0 p.1 (take l.k (store_calls_of a.calls.now)) in
    let z = sizes a.v a.e a.t in
    let m = whole l.vertices l.edges l.journal l.marks in
    let h = g.0.after in
    let q = limits_last p.0 p.1 (take l.k (store_calls_of a.calls.now)) in
    let i : c.slot-i.result < S.count = omega (arith, c.slot-i.ensures.upper_bound, q.0, p.2) in
    record {
      eight = in_eight p.0 z l.all m _ _ S h c.slot-i.result i;
      vend = vertices_end p.0 z l.all m _ _ S h c.slot-i.result i;
      eend = edges_end p.0 z l.all m _ _ S h c.slot-i.result i;
      tend = journal_end p.0 z l.all m _ _ S h c.slot-i.result i;
      vshort = omega (arith, l.invariant.1, c.well_formed.1.0.1);
      eshort = omega (arith, l.invariant.2, c.well_formed.1.1.0.1);
      tshort = omega (arith, l.invariant.3, c.well_formed.1.1.1.0.1);
      fits = used_fits p.0 z l.all m _ _ S h c.slot-i.result i;
      short = let r = room_short p.0 z l.all m _ _ S h c.slot-i.result i in omega (arith, r, g.1);
      words = part_short p.0 z l.all m _ _ S h;
    }

-- the lists are as long as slices can be
facts_at_After_answer_arg_in_loop_k_5_1 : (c : goal.After-answer-arg-in-loop-k-5-1) → Facts c.args.v
    c.args.e c.args.t
    c.slot-i.result c.args.stores c.loop-k.vertices
    c.loop-k.edges c.loop-k.journal
    (store_at c.loop-k.all c.slot-i.result).current.position.used c.loop-k.room
facts_at_After_answer_arg_in_loop_k_5_1 c =
    let a = c.args in
    let l = c.loop-k in
    let p = c.requires.serves in
    let g = l.invariant.5 p.0 p.1 p.2 p.3 p.4 in
    let S = last_in p.0 p.1 (take l.k (store_calls_of a.calls.now)) in
    let z = sizes a.v a.e a.t in
    let m = whole l.vertices l.edges l.journal l.marks in
    let h = g.0.after in
    let q = limits_last p.0 p.1 (take l.k (store_calls_of a.calls.now)) in
    let i : c.slot-i.result < S.count = omega (arith, c.slot-i.ensures.upper_bound, q.0, p.2) in
    record {
      eight = in_eight p.0 z l.all m _ _ S h c.slot-i.result i;
      vend = vertices_end p.0 z l.all m _ _ S h c.slot-i.result i;
      eend = edges_end p.0 z l.all m _ _ S h c.slot-i.result i;
      tend = journal_end p.0 z l.all m _ _ S h c.slot-i.result i;
      vshort = omega (arith, l.invariant.1, c.well_formed.1.0.1);
      eshort = omega (arith, l.invariant.2, c.well_formed.1.1.0.1);
      tshort = omega (arith, l.invariant.3, c.well_formed.1.1.1.0.1);
      fits = used_fits p.0 z l.all m _ _ S h c.slot-i.result i;
      short = let r = room_short p.0 z l.all m _ _ S h c.slot-i.result i in omega (arith, r, g.1);
      words = part_short p.0 z l.all m _ _ S h;
    }

-- the calls and answers that are lent to it
rest_long : (c : goal.After-answer-arg-in-loop-k-5-1)
    → length (take (6 * (length c.args.calls.now / 6) - 6 * c.loop-k.k)
    (drop (6 * c.loop-k.k) c.args.calls.now))
    ≡ 6 * (length c.args.calls.now / 6) - 6 * c.loop-k.k
rest_long c = length-take-le _ (drop (6 * c.loop-k.k) c.args.calls.now)
    (rw (length-drop (6 * c.loop-k.k) c.args.calls.now) (omega (arith, c.loop-k-test)))

lists_short_at_After_answer_arg_in_loop_k_5_1 : (c : goal.After-answer-arg-in-loop-k-5-1) → (length c.args.calls.now * 4 < 9223372036854775808)
    × (length c.loop-k.answers * 4 < 9223372036854775808)
    × (2 * (length c.args.calls.now / 6) ≤ length c.loop-k.answers)
lists_short_at_After_answer_arg_in_loop_k_5_1 c = (
  c.well_formed.1.1.1.1.1.1.1.0.1,
  omega (arith, c.loop-k.invariant.4, c.well_formed.1.1.1.1.1.1.1.1.0.1),
  omega (arith, c.loop-k.invariant.4, c.requires.calls_in_bounds),
)

room_long : (c : goal.After-answer-arg-in-loop-k-5-1)
    → length (take (2 * (length c.args.calls.now / 6) - 2 * c.loop-k.k)
    (drop (2 * c.loop-k.k) c.loop-k.answers)) ≡ 2 * (length c.args.calls.now / 6) - 2 * c.loop-k.k
room_long c = length-take-le _ (drop (2 * c.loop-k.k) c.loop-k.answers) (rw (length-drop (2 * c.loop-k.k) c.loop-k.answers) (omega (arith, (lists_short_at_After_answer_arg_in_loop_k_5_1 c).2)))

facts_at_After_same_y : (c : goal.After-same-y) → Facts c.args.v
    c.args.e c.args.t
    c.slot-i.result c.args.stores c.loop-k.vertices
    c.loop-k.edges c.loop-k.journal
    (store_at c.loop-k.all c.slot-i.result).current.position.used c.loop-k.room
facts_at_After_same_y c =
    let a = c.args in
    let l = c.loop-k in
    let p = c.requires.serves in
    let g = l.invariant.5 p.0 p.1 p.2 p.3 p.4 in
    let S = last_in p.0 p.1 (take l.k (store_calls_of a.calls.now)) in
    let z = sizes a.v a.e a.t in
    let m = whole l.vertices l.edges l.journal l.marks in
    let h = g.0.after in
    let q = limits_last p.0 p.1 (take l.k (store_calls_of a.calls.now)) in
    let i : c.slot-i.result < S.count = omega (arith, c.slot-i.ensures.upper_bound, q.0, p.2) in
    record {
      eight = in_eight p.0 z l.all m _ _ S h c.slot-i.result i;
      vend = vertices_end p.0 z l.all m _ _ S h c.slot-i.result i;
      eend = edges_end p.0 z l.all m _ _ S h c.slot-i.result i;
      tend = journal_end p.0 z l.all m _ _ S h c.slot-i.result i;
      vshort = omega (arith, l.invariant.1, c.well_formed.1.0.1);
      eshort = omega (arith, l.invariant.2, c.well_formed.1.1.0.1);
      tshort = omega (arith, l.invariant.3, c.well_formed.1.1.1.0.1);
      fits = used_fits p.0 z l.all m _ _ S h c.slot-i.result i;
      short = let r = room_short p.0 z l.all m _ _ S h c.slot-i.result i in omega (arith, r, g.1);
      words = part_short p.0 z l.all m _ _ S h;
    }

one_store_at_After_same_y : (c : goal.After-same-y)
    → OfStore
    (get_or c.args.calls.now
    (6 * c.loop-k.k) 0) (take c.answer-done.result.calls
    (store_calls_of
    (take (6 * (length
    c.args.calls.now / 6) - 6 *
    c.loop-k.k) (drop
    (6 * c.loop-k.k)
    c.args.calls.now))))
one_store_at_After_same_y c =
    let t = c.answer-done.ensures.alike in
    let ws = c.args.calls.now in
    let from = 6 * c.loop-k.k in
    let rest = take (6 * (length ws / 6) - from) (drop from ws) in
    let n = c.answer-done.result.calls in
    let zero_at : from + 0 ≡ from = omega arith in
    of_store (get_or ws from 0) (take n (store_calls_of rest)) (six 0 0 []) (λ j h.
    let i : j < n = omega (arith, h, first_length n rest t.there) in
    ap (λ (x : StoreCall). x.store) (first_at n j rest (six 0 0 []) i t.there) ∙ t.alike j i
    ∙ get_or-take (6 * (length ws / 6) - from) (drop from ws) 0 0 (omega (arith, c.loop-k-test))
    ∙ get_or-drop from ws 0 0 ∙ ap (λ (m : ℕ). get_or ws m 0) zero_at)

after_at_After_same_y : (c : goal.After-same-y) (w : Parameters) (s : Stores)
    → s.count
    ≡ c.args.stores
    → c.args.joint ≡ joint_room s
    → Serving w (sizes
    c.args.v
    c.args.e
    c.args.t)
    c.args.first (whole
    c.args.vertices.now
    c.args.edges.now
    c.args.journal.now
    c.args.marks.now)
    c.args.closed.now
    c.args.types s
    → Left w s c.args.v
    c.args.e
    c.args.t
    c.loop-k.k c.answer-done.result.calls (length
    c.args.calls.now / 6)
    c.args.calls.now (set
    c.loop-k.all c.slot-i.result
    c.same-y.result)
    (with_part c.args.v
    c.slot-i.result
    c.answer-done.new.vertices
    c.loop-k.vertices) (with_part
    c.args.e
    c.slot-i.result
    c.answer-done.new.edges
    c.loop-k.edges)
    (with_part c.args.t
    c.slot-i.result
    c.answer-done.new.journal
    c.loop-k.journal) (set
    c.loop-k.marks c.slot-i.result
    c.answer-done.new.marks)
    c.args.closed.now
    c.args.types
    c.same-y.result.current.position.used
    (c.loop-k.room + (store_at
    c.loop-k.all
    c.slot-i.result).current.position.used)
    (take (2 * (length
    c.args.calls.now / 6) - 2 *
    c.loop-k.k) (drop
    (2 * c.loop-k.k)
    c.loop-k.answers)) c.answer-done.new.answers
after_at_After_same_y c w s e f h₀ =
    let A = c.args in
    let l = c.loop-k in
    let st = c.answer-done in
    let i = c.slot-i.result in
    let F = facts_at_After_same_y c in
    let g = l.invariant.5 w s e f h₀ in
    let S = last_in w s (take l.k (store_calls_of A.calls.now)) in
    let z = sizes A.v A.e A.t in
    let m = whole l.vertices l.edges l.journal l.marks in
    let h = g.0.after in
    let q : S.count ≡ A.stores = (limits_last w s (take l.k (store_calls_of A.calls.now))).0 ∙ e in
    let inside : i < S.count =
    omega (
      arith,
      c.slot-i.ensures.upper_bound,
      q,
    ) in
    let number = get_or A.calls.now (6 * l.k) 0 in
    let slot : i ≡ slot_of number S.count =
    c.slot-i.ensures.value
    ∙ ap (slot_of number) (sym q) in
    let there = c.is_store-there.result in
    let th : there ≡ within 1 S.count number =
    c.is_store-there.ensures
    ∙ ap (λ (j : ℕ). within 1 j number) (sym q) in
    let n = c.min-granted.result in
    let ne : n ≡ min (A.t / 12) ((store_at l.all i).current.position.used + joint_room S) =
    c.min-granted.ensures
    ∙ ap (λ (r : ℕ). min (A.t / 12) ((store_at l.all i).current.position.used + r)) g.1 in
    let an = st.ensures.takes w (S.machine (suc i)) (h.each i inside) in
    let xs = take st.result.calls (store_calls_of (take (6 * (length A.calls.now / 6) - 6 * l.k) (drop (6 * l.k) A.calls.now))) in
    let of = one_store_at_After_same_y c in
    let vl = st.auto.vertices ∙ part_length A.v i l.vertices F.vend in
    let el = st.auto.edges ∙ part_length A.e i l.edges F.eend in
    let tl = st.auto.journal ∙ part_length A.t i l.journal F.tend in
    let sm = c.same-y.ensures in
    let us : c.same-y.result.current.position.used ≡ st.result.store.current.position.used = ap (λ (y : Store). y.current.position.used) sm in
    let sa = serving_after w z l.all m _ _ S h i inside number slot xs of there th n ne st.result.store _ _ _ _ vl el tl an.after in
    let re = room_enough w z l.all m _ _ S h i inside number slot xs of there th n ne st.result.store _ _ _ _ vl el tl an.after in
    let ra = room_after w z l.all m _ _ S h i inside number slot xs of there th n ne st.result.store _ _ _ _ vl el tl an.after in
    let to = told w z l.all m _ _ S h i inside number slot xs of there th n ne in
    record {
      serving = rw sm sa;
      enough = omega (arith, us, re, g.1);
      rest = omega (arith, us, ra, g.1);
      written = an.answered
          ∙ ap (λ (b : List Rattle.commands.specs.declared.Answer.Answer). overwritten (answer_words b) (take (2 * (length A.calls.now / 6) - 2 * l.k) (drop (2 * l.k) l.answers)))
          (sym to);
    }

rest_long_with_same_y : (c : goal.After-same-y)
    → length (take (6 * (length c.args.calls.now / 6) - 6 * c.loop-k.k)
    (drop (6 * c.loop-k.k) c.args.calls.now))
    ≡ 6 * (length c.args.calls.now / 6) - 6 * c.loop-k.k
rest_long_with_same_y c = length-take-le _ (drop (6 * c.loop-k.k) c.args.calls.now)
    (rw (length-drop (6 * c.loop-k.k) c.args.calls.now) (omega (arith, c.loop-k-test)))

-- how many calls were taken
taken_in : (c : goal.After-same-y) → (1 ≤ c.answer-done.result.calls)
    × (c.loop-k.k + c.answer-done.result.calls ≤ length
    c.args.calls.now / 6)
taken_in c = let t = c.answer-done.ensures.alike in (
  t.some,
  omega (
    arith,
    t.there,
    rest_long_with_same_y c,
    c.loop-k-test,
  ),
)

facts_with_same_y : (c : goal.After-same-y) → Facts c.args.v
    c.args.e c.args.t
    c.slot-i.result c.args.stores c.loop-k.vertices
    c.loop-k.edges c.loop-k.journal
    (store_at c.loop-k.all c.slot-i.result).current.position.used c.loop-k.room
facts_with_same_y c =
    let a = c.args in
    let l = c.loop-k in
    let p = c.requires.serves in
    let g = l.invariant.5 p.0 p.1 p.2 p.3 p.4 in
    let S = last_in p.0 p.1 (take l.k (store_calls_of a.calls.now)) in
    let z = sizes a.v a.e a.t in
    let m = whole l.vertices l.edges l.journal l.marks in
    let h = g.0.after in
    let q = limits_last p.0 p.1 (take l.k (store_calls_of a.calls.now)) in
    let i : c.slot-i.result < S.count = omega (arith, c.slot-i.ensures.upper_bound, q.0, p.2) in
    record {
      eight = in_eight p.0 z l.all m _ _ S h c.slot-i.result i;
      vend = vertices_end p.0 z l.all m _ _ S h c.slot-i.result i;
      eend = edges_end p.0 z l.all m _ _ S h c.slot-i.result i;
      tend = journal_end p.0 z l.all m _ _ S h c.slot-i.result i;
      vshort = omega (arith, l.invariant.1, c.well_formed.1.0.1);
      eshort = omega (arith, l.invariant.2, c.well_formed.1.1.0.1);
      tshort = omega (arith, l.invariant.3, c.well_formed.1.1.1.0.1);
      fits = used_fits p.0 z l.all m _ _ S h c.slot-i.result i;
      short = let r = room_short p.0 z l.all m _ _ S h c.slot-i.result i in omega (arith, r, g.1);
      words = part_short p.0 z l.all m _ _ S h;
    }

one_store_with_same_y : (c : goal.After-same-y)
    → OfStore
    (get_or c.args.calls.now
    (6 * c.loop-k.k) 0) (take c.answer-done.result.calls
    (store_calls_of
    (take (6 * (length
    c.args.calls.now / 6) - 6 *
    c.loop-k.k) (drop
    (6 * c.loop-k.k)
    c.args.calls.now))))
one_store_with_same_y c =
    let t = c.answer-done.ensures.alike in
    let ws = c.args.calls.now in
    let from = 6 * c.loop-k.k in
    let rest = take (6 * (length ws / 6) - from) (drop from ws) in
    let n = c.answer-done.result.calls in
    let zero_at : from + 0 ≡ from = omega arith in
    of_store (get_or ws from 0) (take n (store_calls_of rest)) (six 0 0 []) (λ j h.
    let i : j < n = omega (arith, h, first_length n rest t.there) in
    ap (λ (x : StoreCall). x.store) (first_at n j rest (six 0 0 []) i t.there) ∙ t.alike j i
    ∙ get_or-take (6 * (length ws / 6) - from) (drop from ws) 0 0 (omega (arith, c.loop-k-test))
    ∙ get_or-drop from ws 0 0 ∙ ap (λ (m : ℕ). get_or ws m 0) zero_at)

after_with_same_y : (c : goal.After-same-y) (w : Parameters) (s : Stores)
    → s.count
    ≡ c.args.stores
    → c.args.joint ≡ joint_room s
    → Serving w (sizes
    c.args.v
    c.args.e
    c.args.t)
    c.args.first (whole
    c.args.vertices.now
    c.args.edges.now
    c.args.journal.now
    c.args.marks.now)
    c.args.closed.now
    c.args.types s
    → Left w s c.args.v
    c.args.e
    c.args.t
    c.loop-k.k c.answer-done.result.calls (length
    c.args.calls.now / 6)
    c.args.calls.now (set
    c.loop-k.all c.slot-i.result
    c.same-y.result)
    (with_part c.args.v
    c.slot-i.result
    c.answer-done.new.vertices
    c.loop-k.vertices) (with_part
    c.args.e
    c.slot-i.result
    c.answer-done.new.edges
    c.loop-k.edges)
    (with_part c.args.t
    c.slot-i.result
    c.answer-done.new.journal
    c.loop-k.journal) (set
    c.loop-k.marks c.slot-i.result
    c.answer-done.new.marks)
    c.args.closed.now
    c.args.types
    c.same-y.result.current.position.used
    (c.loop-k.room + (store_at
    c.loop-k.all
    c.slot-i.result).current.position.used)
    (take (2 * (length
    c.args.calls.now / 6) - 2 *
    c.loop-k.k) (drop
    (2 * c.loop-k.k)
    c.loop-k.answers)) c.answer-done.new.answers
after_with_same_y c w s e f h₀ =
    let A = c.args in
    let l = c.loop-k in
    let st = c.answer-done in
    let i = c.slot-i.result in
    let F = facts_with_same_y c in
    let g = l.invariant.5 w s e f h₀ in
    let S = last_in w s (take l.k (store_calls_of A.calls.now)) in
    let z = sizes A.v A.e A.t in
    let m = whole l.vertices l.edges l.journal l.marks in
    let h = g.0.after in
    let q : S.count ≡ A.stores = (limits_last w s (take l.k (store_calls_of A.calls.now))).0 ∙ e in
    let inside : i < S.count =
    omega (
      arith,
      c.slot-i.ensures.upper_bound,
      q,
    ) in
    let number = get_or A.calls.now (6 * l.k) 0 in
    let slot : i ≡ slot_of number S.count =
    c.slot-i.ensures.value
    ∙ ap (slot_of number) (sym q) in
    let there = c.is_store-there.result in
    let th : there ≡ within 1 S.count number =
    c.is_store-there.ensures
    ∙ ap (λ (j : ℕ). within 1 j number) (sym q) in
    let n = c.min-granted.result in
    let ne : n ≡ min (A.t / 12) ((store_at l.all i).current.position.used + joint_room S) =
    c.min-granted.ensures
    ∙ ap (λ (r : ℕ). min (A.t / 12) ((store_at l.all i).current.position.used + r)) g.1 in
    let an = st.ensures.takes w (S.machine (suc i)) (h.each i inside) in
    let xs = take st.result.calls (store_calls_of (take (6 * (length A.calls.now / 6) - 6 * l.k) (drop (6 * l.k) A.calls.now))) in
    let of = one_store_with_same_y c in
    let vl = st.auto.vertices ∙ part_length A.v i l.vertices F.vend in
    let el = st.auto.edges ∙ part_length A.e i l.edges F.eend in
    let tl = st.auto.journal ∙ part_length A.t i l.journal F.tend in
    let sm = c.same-y.ensures in
    let us : c.same-y.result.current.position.used ≡ st.result.store.current.position.used = ap (λ (y : Store). y.current.position.used) sm in
    let sa = serving_after w z l.all m _ _ S h i inside number slot xs of there th n ne st.result.store _ _ _ _ vl el tl an.after in
    let re = room_enough w z l.all m _ _ S h i inside number slot xs of there th n ne st.result.store _ _ _ _ vl el tl an.after in
    let ra = room_after w z l.all m _ _ S h i inside number slot xs of there th n ne st.result.store _ _ _ _ vl el tl an.after in
    let to = told w z l.all m _ _ S h i inside number slot xs of there th n ne in
    record {
      serving = rw sm sa;
      enough = omega (arith, us, re, g.1);
      rest = omega (arith, us, ra, g.1);
      written = an.answered
          ∙ ap (λ (b : List Rattle.commands.specs.declared.Answer.Answer). overwritten (answer_words b) (take (2 * (length A.calls.now / 6) - 2 * l.k) (drop (2 * l.k) l.answers)))
          (sym to);
    }

pub overflow_cast-capacity : goal.overflow_cast-capacity
overflow_cast-capacity c = let p = c.requires.serves in omega (arith, part_short p.0 _ _ _ _ _ _ p.4)

pub loop-k-init : goal.loop-k-init
unfolding last_in answers_in
loop-k-init c = (omega arith, refl, refl, refl, refl, (λ w s e f h. (record { after = h; answered = refl }, f)), refl, refl, refl)

pub slot-i-requires : goal.slot-i-requires
slot-i-requires c = let p = c.requires.serves in omega (arith, p.2, p.4.some)

pub overflow_add-used : goal.overflow_add-used
overflow_add-used c = let f = (facts_at_After_x_1 c).short in omega (arith, f)

pub answer-done-requires : goal.answer-done-requires
answer-done-requires c =
    let a = c.args in
    let l = c.loop-k in
    let p = c.requires.serves in
    let i = c.slot-i in
    let f = facts_at_After_answer_arg_in_loop_k_5_1 c in
    let g = l.invariant.5 p.0 p.1 p.2 p.3 p.4 in
    let q = limits_last p.0 p.1 (take l.k (store_calls_of a.calls.now)) in
    let r = c.min-granted.ensures in
    let long = rest_long c in record {
      runs = (
        (p.0, _, g.0.after.each i.result (omega (arith, i.ensures.upper_bound, q.0, p.2))),
        (omega (arith, r, f.fits), omega (arith, r, part_length a.t i.result l.journal f.tend)),
      );
      in_bounds = omega (arith, long, c.loop-k-test);
      calls_in_bounds = omega (
        arith,
        long,
        room_long c,
        c.loop-k-test,
      );
    }

pub overflow_add-room : goal.overflow_add-room
overflow_add-room c =
    let f =
    (facts_at_After_same_y c).short in omega (arith, f)

pub overflow_sub-room : goal.overflow_sub-room
overflow_sub-room c =
    let p =
    c.requires.serves in (after_at_After_same_y (c) p.0 p.1 p.2 p.3 p.4).enough

pub loop-k-smaller : goal.loop-k-smaller
loop-k-smaller c =
    omega (
      arith,
      taken_in c,
      c.loop-k-test,
    )

pub loop-k-preserved : goal.loop-k-preserved
loop-k-preserved c =
    let a = c.args in
    let l = c.loop-k in
    let st = c.answer-done in
    let F = facts_with_same_y c in
    let i = c.slot-i.result in
    let n = length a.calls.now / 6 in
    let t = taken_in c in
    let vl = st.auto.vertices ∙ part_length a.v i l.vertices F.vend in
    let el = st.auto.edges ∙ part_length a.e i l.edges F.eend in
    let tl = st.auto.journal ∙ part_length a.t i l.journal F.tend in (
      t.1,
      length_with a.v i st.new.vertices l.vertices vl F.vend ∙ l.invariant.1,
      length_with a.e i st.new.edges l.edges el F.eend ∙ l.invariant.2,
      length_with a.t i st.new.journal l.journal tl F.tend ∙ l.invariant.3,
      part_kept (2 * l.k) (2 * n - 2 * l.k) st.new.answers l.answers st.auto.answers ∙ l.invariant.4,
      (λ w s e f h.
          let r = after_with_same_y c w s e f h in
          let g = l.invariant.5 w s e f h in
          let m = stores_more w s a.calls.now l.k st.result.calls n (omega arith) t.1 in (
            record {
              after = subst
                  (λ (S : Stores). Serving w (sizes a.v a.e a.t) (set l.all i c.same-y.result)
                  (whole (with_part a.v i st.new.vertices l.vertices) (with_part a.e i st.new.edges l.edges) (with_part a.t i st.new.journal l.journal)
                  (set l.marks i st.new.marks)) a.closed.now a.types S) (sym m) r.serving;
              answered = written_more w s a.calls.now l.k st.result.calls n (omega arith) t.1 a.answers.now l.answers g.0.answered
                  c.requires.calls_in_bounds _ r.written;
            },
            r.rest ∙ ap joint_room (sym m),
          )),
      behind_with a.v i st.new.vertices l.vertices vl F.vend a.stores
          c.slot-i.ensures.upper_bound
          ∙ l.invariant.6,
      behind_with a.e i st.new.edges l.edges el F.eend a.stores
          c.slot-i.ensures.upper_bound
          ∙ l.invariant.7,
      behind_with a.t i st.new.journal l.journal tl F.tend a.stores
          c.slot-i.ensures.upper_bound
          ∙ l.invariant.8,
    )

pub returns : goal.returns
returns c =
    let a = c.args in
    let l = c.loop-k in record {
      served = (λ w s e f h.
          let g = (l.invariant.5 w s e f h).0 in
          let d = all_done a.calls.now l.k (omega (arith, c.loop-k-test)) in
          subst (λ (xs : List StoreCall). AfterAll w (sizes a.v a.e a.t) s xs l.all (whole l.vertices l.edges l.journal l.marks) a.closed.now a.types
          a.answers.now l.answers) d g);
      rest_stays = (l.invariant.6, l.invariant.7, l.invariant.8);
    }

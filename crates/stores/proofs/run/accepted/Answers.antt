use Prim.Native.Nat.{◌/◌}
use mathlib.Core.Path.{◌≡◌, refl, ◌∙◌}
use native.Mathlib.Omega.{arith}
use lib.ListN.{length}
use Rattle.type_rows.specs.Closure.{closure_words}
use Rattle.type_rows.proofs.Closing.{closure_good}
use Rattle.machine.specs.StoreRun.{LentStores, parameters_in, opened}
use Rattle.engine.specs.Outcomes.{lent}
use Rattle.store_calls.specs.Serving.{Serving, sizes, whole}
use Rattle.stores.specs.Outcomes.{several}
use Rattle.stores.proofs.RefusalLaws.{PassedIn, passed_in}
use Rattle.stores.proofs.RunLaws.{no_marks, can_open, room_is, serving, can_save_all, ends}
use Rattle.stores.proofs.run.accepted.Goals as goal

-- what is lent, and what the list has passed
abbrev given : goal.After-closure-closed → LentStores
given s =
    let a = s.args in
    several (lent a.start.now a.rows.now a.calls.now a.vertices.now a.edges.now a.journal.now a.answers.now a.image.now) a.stores a.limit

passed : (s : goal.After-closure-closed) → PassedIn (given s)
passed s = passed_in (given s) s.requires

abbrev given-at-After-open_all-arg-2-1 : goal.After-open_all-arg-2-1 → LentStores
given-at-After-open_all-arg-2-1 s =
    let a = s.args in
    several (lent a.start.now a.rows.now a.calls.now a.vertices.now a.edges.now a.journal.now a.answers.now a.image.now) a.stores a.limit

abbrev given-at-After-serve-arg-4-1 : goal.After-serve-arg-4-1 → LentStores
given-at-After-serve-arg-4-1 s =
    let a = s.args in
    several (lent a.start.now a.rows.now a.calls.now a.vertices.now a.edges.now a.journal.now a.answers.now a.image.now) a.stores a.limit

passed_at_After_serve_arg_4_1 : (s : goal.After-serve-arg-4-1) → PassedIn (given-at-After-serve-arg-4-1 s)
passed_at_After_serve_arg_4_1 s = passed_in (given-at-After-serve-arg-4-1 s) s.requires

closed : (c : goal.After-serve-arg-4-1) → c.closure-closed.result ≡ closure_words c.args.rows.now
closed c = c.closure-closed.ensures ∙ closure_good c.args.rows.now
    (passed_at_After_serve_arg_4_1 c).rows_good

-- before the first call
begun : (c : goal.After-serve-arg-4-1) → let s = c in let a = s.args in
    Serving (parameters_in (given-at-After-serve-arg-4-1 s)) (sizes (length a.vertices.now / a.stores) (length a.edges.now / a.stores) (length a.journal.now / a.stores)) c.open_all-all.result
    (whole c.open_all-all.new.vertices c.open_all-all.new.edges a.journal.now no_marks) c.closure-closed.result (length a.rows.now) (opened (given-at-After-serve-arg-4-1 s))
begun c =
    let s = c in
    let d = c in
    let x = c.open_all-all in
    serving (given-at-After-serve-arg-4-1 s) s.requires d.closure-closed.result (length s.args.rows.now) (closed d) refl (omega (arith, s.ranges.limit)) x.result x.new.vertices x.new.edges
    s.args.journal.now
    x.auto.vertices x.auto.edges refl x.ensures.many x.ensures.begun

abbrev given-at-After-save_all-arg-1 : goal.After-save_all-arg-1 → LentStores
given-at-After-save_all-arg-1 s =
    let a = s.args in
    several (lent a.start.now a.rows.now a.calls.now a.vertices.now a.edges.now a.journal.now a.answers.now a.image.now) a.stores a.limit

passed_at_After_save_all_arg_1 : (s : goal.After-save_all-arg-1) → PassedIn (given-at-After-save_all-arg-1 s)
passed_at_After_save_all_arg_1 s = passed_in (given-at-After-save_all-arg-1 s) s.requires

closed_at_After_save_all_arg_1 : (c : goal.After-save_all-arg-1) → c.closure-closed.result ≡ closure_words c.args.rows.now
closed_at_After_save_all_arg_1 c = c.closure-closed.ensures ∙ closure_good c.args.rows.now
    (passed_at_After_save_all_arg_1 c).rows_good

begun_at_After_save_all_arg_1 : (c : goal.After-save_all-arg-1) → let s = c in let a = s.args in
    Serving (parameters_in (given-at-After-save_all-arg-1 s)) (sizes (length a.vertices.now / a.stores) (length a.edges.now / a.stores) (length a.journal.now / a.stores)) c.open_all-all.result
    (whole c.open_all-all.new.vertices c.open_all-all.new.edges a.journal.now no_marks) c.closure-closed.result (length a.rows.now) (opened (given-at-After-save_all-arg-1 s))
begun_at_After_save_all_arg_1 c =
    let s = c in
    let d = c in
    let x = c.open_all-all in
    serving (given-at-After-save_all-arg-1 s) s.requires d.closure-closed.result (length s.args.rows.now) (closed_at_After_save_all_arg_1 d) refl (omega (arith, s.ranges.limit)) x.result
    x.new.vertices x.new.edges s.args.journal.now
    x.auto.vertices x.auto.edges refl x.ensures.many x.ensures.begun

abbrev given-at-After-slice_known-12-1 : goal.After-slice_known-12-1 → LentStores
given-at-After-slice_known-12-1 s =
    let a = s.args in
    several (lent a.start.now a.rows.now a.calls.now a.vertices.now a.edges.now a.journal.now a.answers.now a.image.now) a.stores a.limit

passed_at_After_slice_known_12_1 : (s : goal.After-slice_known-12-1) → PassedIn (given-at-After-slice_known-12-1 s)
passed_at_After_slice_known_12_1 s = passed_in (given-at-After-slice_known-12-1 s) s.requires

closed_at_After_slice_known_12_1 : (c : goal.After-slice_known-12-1) → c.closure-closed.result ≡ closure_words c.args.rows.now
closed_at_After_slice_known_12_1 c = c.closure-closed.ensures ∙ closure_good c.args.rows.now
    (passed_at_After_slice_known_12_1 c).rows_good

begun_at_After_slice_known_12_1 : (c : goal.After-slice_known-12-1) → let s = c in let a = s.args in
    Serving (parameters_in (given-at-After-slice_known-12-1 s)) (sizes (length a.vertices.now / a.stores) (length a.edges.now / a.stores) (length a.journal.now / a.stores)) c.open_all-all.result
    (whole c.open_all-all.new.vertices c.open_all-all.new.edges a.journal.now no_marks) c.closure-closed.result (length a.rows.now) (opened (given-at-After-slice_known-12-1 s))
begun_at_After_slice_known_12_1 c =
    let s = c in
    let d = c in
    let x = c.open_all-all in
    serving (given-at-After-slice_known-12-1 s) s.requires d.closure-closed.result (length s.args.rows.now) (closed_at_After_slice_known_12_1 d) refl (omega (arith, s.ranges.limit)) x.result
    x.new.vertices x.new.edges s.args.journal.now
    x.auto.vertices x.auto.edges refl x.ensures.many x.ensures.begun

pub overflow_cast-types : goal.overflow_cast-types
overflow_cast-types c = omega (arith, (passed c).limits.few_types)

pub nonzero_div-v : goal.nonzero_div-v
nonzero_div-v c = omega (arith, (passed c).some)

pub nonzero_div-e : goal.nonzero_div-e
nonzero_div-e c = omega (arith, (passed c).some)

pub nonzero_div-t : goal.nonzero_div-t
nonzero_div-t c = omega (arith, (passed c).some)

pub nonzero_div-n : goal.nonzero_div-n
nonzero_div-n c = omega (arith, (passed c).some)

pub open_all-all-requires : goal.open_all-all-requires
open_all-all-requires c =
    let s =
    c in can_open (given-at-After-open_all-arg-2-1 s) s.requires s.args.vertices.now s.args.edges.now refl refl

pub serve-last-requires : goal.serve-last-requires
serve-last-requires c =
    let s =
    c in
    record {
      serves = (_, _, refl, room_is (given-at-After-serve-arg-4-1 s) s.requires, begun c);
      calls_in_bounds = (passed_at_After_serve_arg_4_1 s).answers_room;
    }

pub save_all-words-requires : goal.save_all-words-requires
save_all-words-requires c =
    let s = c in
    let d = c in
    let k = c.serve-last in
    can_save_all (given-at-After-save_all-arg-1 s) s.requires d.closure-closed.result _ (closed_at_After_save_all_arg_1 d) refl k.result _ _
    (k.ensures.served _ _ refl (room_is (given-at-After-save_all-arg-1 s) s.requires)
    (begun_at_After_save_all_arg_1 c))

pub returns : goal.returns
returns c =
    let s = c in
    let d = c in
    let o = c in
    let k = c.serve-last in
    let all = k.ensures.served _ _ refl (room_is (given-at-After-slice_known-12-1 s) s.requires) (begun_at_After_slice_known_12_1 o) in
    let behind = k.ensures.rest_stays in record {
      image_after = ends (given-at-After-slice_known-12-1 s) s.requires d.closure-closed.result _ (closed_at_After_slice_known_12_1 d) refl
          k.result _ _ all _ c.save_all-words.result c.save_all-words.ensures;
      behind_stays =
          (behind.0 ∙ o.open_all-all.ensures.behind_vertices, behind.1 ∙ o.open_all-all.ensures.behind_edges, behind.2);
    }

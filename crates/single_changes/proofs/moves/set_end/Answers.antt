use Prim.Native.Nat.{ℕ, ◌≤◌}
use mathlib.Core.Path.{◌≡◌, ap}
use mir.Val.{bool_byte}
use native.Mathlib.Omega.{arith}
use Rattle.std.proofs.Common.{Bool, not, nat_eq}
use Rattle.std.proofs.lemmas.Result.{err_from_is_err_and}
use Rattle.lists.specs.Choice.{◌⇒◌else◌}
use Rattle.graph.specs.declared.SingleChange.TheVariants.{SetOmega, SetAlpha}
use Rattle.graph_tables.specs.Tables.{state_of}
use Rattle.tried_edits.specs.declared.WordPlace.{WordPlace}
use Rattle.tried_edits.specs.Tried.{attempt_of}
use Rattle.single_changes.proofs.OneLaws.{seen, Accepted, accept, side_refused, side_accept, can_make, one_tried, tries_by, end_planned, byte_small}
use Rattle.single_changes.proofs.moves.set_end.Given.{Over}
use Rattle.single_changes.proofs.moves.set_end.Goals.{In_ok-set_end}
use Rattle.single_changes.proofs.moves.set_end.Goals as goal

-- the rows that are read on either side
rows : (o : Over) (c : In_ok-set_end o) → let a = c.args in Accepted (SetAlpha a.e a.u) 0 (attempt_of a.head a.tables.now a.room.now)
rows o c = accept tt (seen (SetAlpha c.args.e c.args.u) 0 c.args.head c.view.ensures.vertices c.view.ensures.edges (λ g y. c.set_end.ensures.of_graph g y)) c.in_ok-set_end.was c.requires

pub returns-in_err-set_end-clause-made : goal.returns-in_err-set_end-clause-made
returns-in_err-set_end-clause-made g c =
    let a = c.args in
    let p = err_from_is_err_and c.from_residual.result c.from_residual.ensures.1 in
    λ types. rw (p.1, p.2)
    (side_refused (not (nat_eq g.row.IN 0)) (SetOmega a.e a.u) (SetAlpha a.e a.u) (tt, tt) (λ h y. let e = seen (SetAlpha c.args.e c.args.u) 0 c.args.head c.view.ensures.vertices c.view.ensures.edges (λ g z. c.set_end.ensures.of_graph g z) h y in (e, e)) c.in_err-set_end.was)

accepted : (side : Bool) (types : ℕ) (o : Over) (c : In_ok-set_end o) → let a = c.args in Accepted (side ⇒ SetOmega a.e a.u else SetAlpha a.e a.u) types (attempt_of a.head a.tables.now a.room.now)
accepted side types o c =
    let a = c.args in
    side_accept side (SetOmega a.e a.u) (SetAlpha a.e a.u) (tt, tt) (λ h y. let e = seen (SetAlpha c.args.e c.args.u) 0 c.args.head c.view.ensures.vertices c.view.ensures.edges (λ g z. c.set_end.ensures.of_graph g z) h y in (e, e)) c.in_ok-set_end.was c.requires

pub overflow_mul-w : goal.overflow_mul-w
overflow_mul-w g c = omega (arith, (rows g (goal.at.overflow_mul-w g c).In_ok-set_end).rows.0)

-- what is added to twice the number
added : {k : ℕ} (side : Bool) → k ≡ bool_byte side → k ≤ 1
added side e = omega (arith, e, byte_small side)

pub overflow_add-w : goal.overflow_add-w
overflow_add-w g c = omega (arith, (rows g (goal.at.overflow_add-w g c).In_ok-set_end).rows.0, added (not (nat_eq g.row.IN 0)) c.from.ensures)

pub word_place-old-requires : goal.word_place-old-requires
word_place-old-requires g c =
    let k = added (not (nat_eq g.row.IN 0)) c.from.ensures in
    let r = (rows g (goal.at.word_place-old-requires g c).In_ok-set_end).rows.1 in
    (omega (arith, r.0), omega (arith, r.1, k))

pub vertex_field-requires-clause-row : goal.vertex_field-requires-clause-row
vertex_field-requires-clause-row g c = (rows g (goal.at.vertex_field-requires-clause-row g c).In_ok-set_end).rows.2

pub move_word-requires : goal.move_word-requires
move_word-requires g c =
    let a = c.args in
    let e = c.word_place-old.ensures in
    can_make (accepted (not (nat_eq g.row.IN 0)) 0 g (goal.at.move_word-requires g c).In_ok-set_end)
    (end_planned (not (nat_eq g.row.IN 0)) (state_of a.head a.tables.now) a.e a.u c.from.ensures (ap (λ (k : WordPlace). k.vertex) e) (ap (λ (k : WordPlace). k.after) e) c.vertex_field.ensures c.unless.ensures)

pub returns-clause-made : goal.returns-clause-made
returns-clause-made g c =
    let a = c.args in
    let e = c.word_place-old.ensures in
    λ types. one_tried (accepted (not (nat_eq g.row.IN 0)) types g (goal.at.returns-clause-made g c).In_ok-set_end)
    (tries_by (end_planned (not (nat_eq g.row.IN 0)) (state_of a.head a.tables.now) a.e a.u c.from.ensures (ap (λ (k : WordPlace). k.vertex) e) (ap (λ (k : WordPlace). k.after) e) c.vertex_field.ensures
    c.unless.ensures) c.move_word.ensures.tries)

use Prim.Native.Nat.{ℕ}
use Rattle.std.proofs.Common.{Bool, not, nat_eq}
use Rattle.lists.specs.Choice.{◌⇒◌else◌}
use Rattle.std.proofs.lemmas.Result.{err_from_is_err_and}
use Rattle.graph.specs.declared.SingleChange.TheVariants.{WordAfter, WordBefore}
use Rattle.graph_tables.specs.Tables.{state_of}
use Rattle.tried_edits.specs.Tried.{attempt_of}
use Rattle.single_changes.proofs.OneLaws.{seen, Accepted, accept, side_refused, side_accept, can_make, one_tried, tries_by, word_planned}
use mathlib.Core.Path.{ap}
use Rattle.tried_edits.specs.declared.WordPlace.{WordPlace}
use Rattle.single_changes.proofs.moves.order_word.Given.{Over}
use Rattle.single_changes.proofs.moves.order_word.Goals.{In_ok-order_words}
use Rattle.single_changes.proofs.moves.order_word.Goals as goal

-- the rows that are read on either side
rows : (o : Over) (c : In_ok-order_words o) → let a = c.args in Accepted (WordBefore a.a a.b) 0 (attempt_of a.head a.tables.now a.room.now)
rows o c = accept tt (seen (WordBefore c.args.a c.args.b) 0 c.args.head c.view.ensures.vertices c.view.ensures.edges (λ g y. c.order_words.ensures.of_graph g (_, y))) c.in_ok-order_words.was c.requires

pub returns-in_err-order_words-clause-made : goal.returns-in_err-order_words-clause-made
returns-in_err-order_words-clause-made g c =
    let a = c.args in
    let p = err_from_is_err_and c.from_residual.result c.from_residual.ensures.1 in
    λ types. rw (p.1, p.2)
    (side_refused (not (nat_eq g.row.AFTER 0)) (WordAfter a.a a.b) (WordBefore a.a a.b) (tt, tt) (λ h y. let e = seen (WordBefore c.args.a c.args.b) 0 c.args.head c.view.ensures.vertices c.view.ensures.edges (λ g z. c.order_words.ensures.of_graph g (_, z)) h y in (e, e)) c.in_err-order_words.was)

accepted : (side : Bool) (types : ℕ) (o : Over) (c : In_ok-order_words o) → let a = c.args in Accepted (side ⇒ WordAfter a.a a.b else WordBefore a.a a.b) types (attempt_of a.head a.tables.now a.room.now)
accepted side types o c =
    let a = c.args in
    side_accept side (WordAfter a.a a.b) (WordBefore a.a a.b) (tt, tt) (λ h y. let e = seen (WordBefore c.args.a c.args.b) 0 c.args.head c.view.ensures.vertices c.view.ensures.edges (λ g z. c.order_words.ensures.of_graph g (_, z)) h y in (e, e)) c.in_ok-order_words.was c.requires

pub word_place-old-requires : goal.word_place-old-requires
word_place-old-requires g c = (rows g (goal.at.word_place-old-requires g c).In_ok-order_words).rows.0

pub half_field-requires-clause-row : goal.half_field-requires-clause-row
half_field-requires-clause-row g c = (rows g (goal.at.half_field-requires-clause-row g c).In_ok-order_words).rows.1

pub move_word-requires : goal.move_word-requires
move_word-requires g c =
    let a = c.args in
    let e = c.word_place-old.ensures in
    can_make (accepted (not (nat_eq g.row.AFTER 0)) 0 g (goal.at.move_word-requires g c).In_ok-order_words)
    (word_planned (not (nat_eq g.row.AFTER 0)) (state_of a.head a.tables.now) a.a a.b (ap (λ (k : WordPlace). k.vertex) e) (ap (λ (k : WordPlace). k.after) e) c.half_field.ensures c.place.ensures)

pub returns-clause-made : goal.returns-clause-made
returns-clause-made g c =
    let a = c.args in
    let e = c.word_place-old.ensures in
    λ types. one_tried (accepted (not (nat_eq g.row.AFTER 0)) types g (goal.at.returns-clause-made g c).In_ok-order_words)
    (tries_by (word_planned (not (nat_eq g.row.AFTER 0)) (state_of a.head a.tables.now) a.a a.b (ap (λ (k : WordPlace). k.vertex) e) (ap (λ (k : WordPlace). k.after) e) c.half_field.ensures c.place.ensures)
    c.move_word.ensures.tries)

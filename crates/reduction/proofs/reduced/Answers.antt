use mathlib.Core.Path.{sym, ◌∙◌}
use native.Mathlib.Omega.{arith}
use lib.Seq.{length-take-le}
use Rattle.reduction.proofs.TrialLaws.{ready_again, front_numbered}
use Rattle.reduction.proofs.OutcomeLaws.{Reducible, given, past, list_room, ready, answers_many, all_many, all_numbered, code_sent, searched_is, no_failure, left_least}
use Rattle.reduction.proofs.reduced.Goals.{After-closure-closed}
use Rattle.reduction.proofs.reduced.Goals as goal

abbrev lent : After-closure-closed → Reducible
lent c =
    let a = c.args in record {
      start = a.start.now;
      rows = a.rows.now;
      calls = a.calls.now;
      vertices = a.vertices.now;
      edges = a.edges.now;
      journal = a.journal.now;
      answers = a.answers.now;
      image = a.image.now;
      list = a.list.now;
      accepted = c.requires.image_value;
      short = c.requires.list_value;
    }

pub overflow_cast-types : goal.overflow_cast-types
overflow_cast-types c = omega (arith, (past (lent (goal.at.overflow_cast-types c).After-closure-closed)).limits.few_types)

pub slice_bounds-kept-end : goal.slice_bounds-kept-end
slice_bounds-kept-end c = answers_many (lent (goal.at.slice_bounds-kept-end c).After-closure-closed)

pub slice_bounds-kept-end-2 : goal.slice_bounds-kept-end-2
slice_bounds-kept-end-2 c = sym (length-take-le _ _ (answers_many (lent (goal.at.slice_bounds-kept-end-2 c).After-closure-closed)))

pub trial-wanted-requires-clause-can_try : goal.trial-wanted-requires-clause-can_try
trial-wanted-requires-clause-can_try c =
    (_, ready (lent (goal.at.trial-wanted-requires-clause-can_try c).After-closure-closed) _ c.closure-closed.ensures)

pub trial-wanted-requires-clause-numbered : goal.trial-wanted-requires-clause-numbered
trial-wanted-requires-clause-numbered c =
    all_numbered (lent (goal.at.trial-wanted-requires-clause-numbered c).After-closure-closed) _ c.number_calls.ensures

pub returns-then-wanted-eq0 : goal.returns-then-wanted-eq0
returns-then-wanted-eq0 c =
    let r = lent (goal.at.returns-then-wanted-eq0 c).After-closure-closed in
    let sent = code_sent r _ c.number_calls.ensures _ c.closure-closed.ensures _ c.trial-wanted.ensures in
    rw c.from.ensures (no_failure (given r) r.list r.accepted r.short (sym sent ∙ c.if-wanted-eq0.true))

pub search-found-requires-clause-can_try : goal.search-found-requires-clause-can_try
search-found-requires-clause-can_try c =
    let r = lent (goal.at.search-found-requires-clause-can_try c).After-closure-closed in
    let t = c.trial-wanted in
    (_, ready_again _ _ _ _ _ _ _ (ready r _ c.closure-closed.ensures) _ _ _ t.auto.vertices t.auto.edges t.auto.journal)

pub search-found-requires-clause-numbered : goal.search-found-requires-clause-numbered
search-found-requires-clause-numbered c =
    all_numbered (lent (goal.at.search-found-requires-clause-numbered c).After-closure-closed) _ c.number_calls.ensures

pub slice_bounds-write_calls-end : goal.slice_bounds-write_calls-end
slice_bounds-write_calls-end c =
    let r = lent (goal.at.slice_bounds-write_calls-end c).After-closure-closed in
    let t = c.trial-wanted in
    let s = searched_is r _ c.number_calls.ensures _ c.closure-closed.ensures _ t.ensures _ _ _ t.auto.vertices t.auto.edges t.auto.journal _ _ _ c.search-found.ensures in
    sym (length-take-le _ _ s.numbered.fits)

pub write_calls-requires : goal.write_calls-requires
write_calls-requires c =
    let r = lent (goal.at.write_calls-requires c).After-closure-closed in
    let t = c.trial-wanted in
    let s = searched_is r _ c.number_calls.ensures _ c.closure-closed.ensures _ t.ensures _ _ _ t.auto.vertices t.auto.edges t.auto.journal _ _ _ c.search-found.ensures in record {
      numbered = front_numbered _ _ _ s.numbered;
      room = omega (arith, length-take-le _ _ s.numbered.fits, s.few, all_many r _ c.number_calls.ensures, list_room r);
    }

pub returns : goal.returns
returns c =
    let r = lent (goal.at.returns c).After-closure-closed in
    let t = c.trial-wanted in
    let sent = code_sent r _ c.number_calls.ensures _ c.closure-closed.ensures _ t.ensures in
    let s = searched_is r _ c.number_calls.ensures _ c.closure-closed.ensures _ t.ensures _ _ _ t.auto.vertices t.auto.edges t.auto.journal _ _ _ c.search-found.ensures in
    left_least (given r) r.list r.accepted r.short _ r.calls _ _ _ (λ z. c.if-wanted-eq0.false (sent ∙ z)) s c.write_calls.ensures

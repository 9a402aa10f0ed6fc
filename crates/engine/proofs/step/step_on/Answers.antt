use mathlib.Core.Path.{refl, sym, ap}
use native.Mathlib.Omega.{arith}
use Rattle.history.specs.Machine.{present}
use Rattle.machine.specs.Calls.{bounds_in}
use Rattle.history_calls.specs.declared.Called.{Called}
use Rattle.graph_tables.specs.Holds.{Holds}
use Rattle.graph_tables.specs.Capacities.{Sized}
use Rattle.engine.proofs.StepLaws.{seen, holds, free_is, sized, answered_by, alter_answers, recall_answers, ask_answers, quote_answers, unknown_answers}
use Rattle.engine.proofs.step.step_on.Goals as goal

pub alter-requires : goal.alter-requires
alter-requires c =
    let p = c.requires in
    (bounds_in p.0.0, p.0.1, sym p.0.2.setting.types_in, p.0.2.represents, omega (arith, p.1.0, p.1.1))

pub perform-requires : goal.perform-requires
perform-requires c = let p = c.requires.0 in (bounds_in p.0, p.1, p.2.represents)

pub reply-answer-requires : goal.reply-answer-requires
reply-answer-requires c =
    let p = c.requires.0 in
    let h = c.args.store.current.head in
    let v = c.view.ensures in
    record { sized = (bounds_in p.0, present p.1, seen (Sized (bounds_in p.0)) h v.vertices v.edges (sized p.0 p.1 _ _ _ _ p.2), seen (λ s. Holds s (present p.1)) h v.vertices v.edges (holds p.0 p.1 _ _ _ _ p.2)); by_index = (p.0.rows, p.2.setting.rows, p.2.setting.closed_rows) }

pub quote-answer-requires : goal.quote-answer-requires
quote-answer-requires c =
    let p = c.requires.0 in
    let h = c.args.store.current.head in
    let v = c.view-in-Quote.ensures in
    (bounds_in p.0, h, present p.1, seen (Sized (bounds_in p.0)) h v.vertices v.edges (sized p.0 p.1 _ _ _ _ p.2), seen (λ s. Holds s (present p.1)) h v.vertices v.edges (holds p.0 p.1 _ _ _ _ p.2))

pub returns-in-Alter : goal.returns-in-Alter
returns-in-Alter c =
    record {
      answers_near = λ w m h near. let n =
          c.args.capacity in
          rw c.in-Alter.is
          (alter_answers w m _ _ _ _ h n _ _ _ c.alter.auto.journal
          (c.alter.ensures.changes.follows (bounds_in w) m n (sym h.setting.types_in) h.represents (free_is w m _ _ _ _ h n)));
      leaves = c.alter.ensures.changes.leaves;
      same_loan = c.alter.ensures.same_loan;
    }

pub returns-in-History : goal.returns-in-History
returns-in-History c =
    record {
      answers_near = λ w m h near. let n =
          c.args.capacity in let e =
          c.in-History.is in
          rw e (recall_answers w m _ _ _ _ h n _ (rw e at near) _ _ refl
          (c.perform.ensures.performs (bounds_in w) m n h.represents (free_is w m _ _ _ _ h n)));
      leaves = c.perform.ensures.leaves;
      same_loan = c.perform.ensures.same_loan;
    }

pub returns-in-Ask : goal.returns-in-Ask
returns-in-Ask c =
    record {
      answers_near = λ w m h near. let n = c.args.capacity in
          rw c.in-Ask.is
          (answered_by w n m _ _ _ _ c.stay.ensures
          (ask_answers w m _ _ _ _ h n _ c.reply-answer.result
          (c.reply-answer.ensures (present m) w.rows (bounds_in w) (seen (Sized (bounds_in w)) c.args.store.current.head c.view.ensures.vertices c.view.ensures.edges (sized w m _ _ _ _ h))
          (seen (λ s. Holds s (present m)) c.args.store.current.head c.view.ensures.vertices c.view.ensures.edges (holds w m _ _ _ _ h)) h.setting.rows h.setting.closed_rows)));
      leaves = λ z. (ap (λ (d : Called). d.store) c.stay.ensures, refl);
      same_loan = record { vertices = refl; edges = refl; vertices_length = refl; edges_length = refl };
    }

pub returns-in-Quote : goal.returns-in-Quote
returns-in-Quote c =
    record {
      answers_near = λ w m h near. let n = c.args.capacity in
          rw c.in-Quote.is
          (answered_by w n m _ _ _ _ c.stay-in-Quote.ensures (quote_answers w m _ _ _ _ h n _ c.quote-answer.result (c.quote-answer.ensures c.args.store.current.head (present m) (seen (λ s. Holds s (present m)) c.args.store.current.head c.view-in-Quote.ensures.vertices c.view-in-Quote.ensures.edges (holds w m _ _ _ _ h)))));
      leaves = λ z. (ap (λ (d : Called). d.store) c.stay-in-Quote.ensures, refl);
      same_loan = record { vertices = refl; edges = refl; vertices_length = refl; edges_length = refl };
    }

pub returns-in-Unknown : goal.returns-in-Unknown
returns-in-Unknown c =
    record {
      answers_near = λ w m h near. let n = c.args.capacity in
          rw c.in-Unknown.is (answered_by w n m _ _ _ _ c.answer.ensures (unknown_answers w m _ _ _ _ h n));
      leaves = λ z. (ap (λ (d : Called). d.store) c.answer.ensures, refl);
      same_loan = record { vertices = refl; edges = refl; vertices_length = refl; edges_length = refl };
    }

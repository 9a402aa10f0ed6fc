-- Every list of several stores that is not refused meets the way back over all of them.
use Prim.Native.Nat.{ℕ, suc}
use mathlib.Core.Path.{◌≡◌, refl, sym, ap, ◌∙◌}
use mathlib.Core.Bool.{true}
use mathlib.Core.List.{List, [], ◌∷◌, map}
use native.Mathlib.Omega.{arith}
use borrow.Author.Tests.{ne_eqb}
use Rattle.history.specs.Machine.{Machine, fresh}
use Rattle.commands.specs.Calls.{Call}
use Rattle.commands.specs.declared.Answer.{Answer}
use Rattle.machine.specs.Calls.{Parameters}
use Rattle.machine.specs.Marks.{Event}
use Rattle.machine.specs.Posed.{Posed, answer_at, step_at, answers_at, events_at}
use Rattle.machine.specs.Run.{AfterRun, refused}
use Rattle.machine.specs.Stores.{spent_by, is_store, store_calls_of, answers_to}
use Rattle.machine.specs.StoreRun.{LentStores, parameters_in, stores_refusal, stores_number, opened, after_in, to_store, start_of, accepted_in, run_in, Demand3In}
use Rattle.machine.proofs.MarkLaws.{mark_sentence_at}
use Rattle.machine.proofs.NameLaws.{name_sentence_at}
use Rattle.machine.proofs.BenchLaws.{bench_sentence_at}
use Rattle.machine.proofs.StepsAlter.{steps_alter_at}
use Rattle.machine.proofs.StoreGoing.{going_in, back_in}
use Rattle.machine.proofs.StoreLaws.{others_stay, store_runs, store_answers, answered_in, last_fits, limits_last, fresh_spent}

-- the events are the calls with their answers
called_at : (w : Parameters) (m : Machine) (ys : List Posed) → map (λ (e : Event). e.call) (events_at w m ys) ≡ map (λ (y : Posed). y.call) ys
unfolding events_at
called_at w m [] = refl
called_at w m (y ∷ ys) = ap (λ (r : List Call). y.call ∷ r) (called_at w (step_at w m y) ys)

answered_at : (w : Parameters) (m : Machine) (ys : List Posed) → map (λ (e : Event). e.answer) (events_at w m ys) ≡ answers_at w m ys
unfolding events_at answers_at
answered_at w m [] = refl
answered_at w m (y ∷ ys) = ap (λ (r : List Answer). answer_at w m y ∷ r) (answered_at w (step_at w m y) ys)

pub refused_in : (l : LentStores) (k : ℕ) → stores_refusal l ≡ suc k → run_in l ≡ refused (suc k) (stores_number l) l.lent
unfolding run_in
refused_in l k e = rw (e, ne_eqb (suc k) 0 (omega arith))

runs_in : (l : LentStores) → stores_refusal l ≡ 0 → run_in l ≡ accepted_in l
unfolding run_in
runs_in l e = rw e

pub demand_3_in : (l : LentStores) → stores_refusal l ≡ 0 → Demand3In l (run_in l)
unfolding accepted_in
demand_3_in l e = record {
  code = ap (λ (r : AfterRun). r.code) (runs_in l e);
  done = ap (λ (r : AfterRun). r.done) (runs_in l e);
  answered = ap (λ (r : AfterRun). r.answers) (runs_in l e);
  saved = ap (λ (r : AfterRun). r.end) (runs_in l e);
  words = ap (λ (r : AfterRun). r.words) (runs_in l e);
  each_call = λ xs ys x c. rw (← c) (answered_in (parameters_in l) (opened l) xs ys x);
  store_is = λ xs n i. store_runs (parameters_in l) n (opened l) xs i;
  events_are = λ xs n i. (
    called_at (parameters_in l) (fresh (start_of l n)) (to_store l n xs),
    answered_at (parameters_in l) (fresh (start_of l n)) (to_store l n xs) ∙ sym (store_answers (parameters_in l) n (opened l) xs i),
  );
  every_point = λ xs ys c n i. mark_sentence_at (parameters_in l) (start_of l n) (to_store l n xs);
  steps_alter = λ xs ys c n i. steps_alter_at (parameters_in l) (start_of l n) (to_store l n xs);
  names = λ xs ys c n i. name_sentence_at (parameters_in l) (start_of l n) (to_store l n xs);
  benches = λ xs ys c n i. bench_sentence_at (parameters_in l) (start_of l n) (to_store l n xs);
  going = going_in l;
  going_back = back_in l;
  stays = λ xs x n f. others_stay (parameters_in l) (after_in l xs) x n f;
  fits = λ xs.
      let h = last_fits (parameters_in l) (opened l) xs (omega (arith, fresh_spent l.count (start_of l))) in
      let q = limits_last (parameters_in l) (opened l) xs in
      omega (arith, h, q.1, ap (λ (k : ℕ). spent_by k (after_in l xs).machine) q.0);
}

-- REFERENCE 21.10: two lists that give a store the same type rows, capacities, start and calls, each call at the same joint room, give it
-- the same answers, whatever the other stores do
pub isolated_runs : (l l' : LentStores) (n n' : ℕ) → is_store (opened l) n ≡ true → is_store (opened l') n' ≡ true
    → parameters_in l ≡ parameters_in l' → start_of l n ≡ start_of l' n'
    → to_store l n (store_calls_of l.lent.calls) ≡ to_store l' n' (store_calls_of l'.lent.calls)
    → answers_to (parameters_in l) n (opened l) (store_calls_of l.lent.calls)
    ≡ answers_to (parameters_in l') n' (opened l') (store_calls_of l'.lent.calls)
isolated_runs l l' n n' i i' w g c =
    store_answers (parameters_in l) n (opened l) (store_calls_of l.lent.calls) i
    ∙ (λ j. answers_at (w j) (fresh (g j)) (c j))
    ∙ sym (store_answers (parameters_in l') n' (opened l') (store_calls_of l'.lent.calls) i')

-- The way back (REFERENCE 14.2, 14.3) holds for every list that is not refused.
use Prim.Native.Nat.{ℕ, zero, suc, ◌*◌, ◌/◌, ◌≤◌, ◌+◌, ◌<◌}
use mathlib.Core.Path.{◌≡◌, refl, ap, ◌∙◌}
use mathlib.Core.List.{List, [], ◌∷◌, ◌++◌, map}
use native.Mathlib.Omega.{arith}
use lib.ListN.{length, length-append, length-drop}
use Rattle.lists.specs.Lists.{All, overwritten}
use Rattle.history.specs.Machine.{Machine, present}
use Rattle.image.specs.Image.{save, load}
use Rattle.image.proofs.WordSize.{Word}
use Rattle.commands.specs.Calls.{Call, calls_of}
use Rattle.machine.specs.Calls.{Parameters}
use Rattle.commands.specs.declared.Answer.{Answer}
use Rattle.machine.specs.Machine.{answer, answers, step, last}
use Rattle.machine.specs.Marks.{Event, events}
use Rattle.machine.specs.Run.{Lent, AfterRun, parameters_of, list_refusal, answer_words, accepted, run}
use Rattle.machine.specs.Demand.{begins, after, Demand3}
use Rattle.machine.proofs.MarkLaws.{mark_sentence}
use Rattle.machine.proofs.NameLaws.{name_sentence}
use Rattle.machine.proofs.BenchLaws.{bench_sentence}
use Rattle.machine.proofs.ListRows.{passed}
use Rattle.machine.proofs.StepsAlter.{steps_alter}
use Rattle.machine.proofs.Ends.{run_end_fits}

-- the answer to each call of a list is the one on what the calls before it left
pub answered : (w : Parameters) (m : Machine) (xs ys : List Call) (x : Call) →
    answers w m (xs ++ (x ∷ ys)) ≡ answers w m xs ++ (answer w (last w m xs) x ∷ answers w (step w (last w m xs) x) ys)
unfolding answers last
answered w m [] ys x = refl
answered w m (y ∷ xs) ys x = ap (λ (r : List Answer). answer w m y ∷ r) (answered w (step w m y) xs ys x)

-- the events are the calls with their answers
pub events_called : (w : Parameters) (m : Machine) (xs : List Call) → map (λ (e : Event). e.call) (events w m xs) ≡ xs
unfolding events
events_called w m [] = refl
events_called w m (x ∷ xs) = ap (λ (r : List Call). x ∷ r) (events_called w (step w m x) xs)

pub events_answered : (w : Parameters) (m : Machine) (xs : List Call) → map (λ (e : Event). e.answer) (events w m xs) ≡ answers w m xs
unfolding answers events
events_answered w m [] = refl
events_answered w m (x ∷ xs) = ap (λ (r : List Answer). answer w m x ∷ r) (events_answered w (step w m x) xs)

runs : (l : Lent) → list_refusal l ≡ 0 → run l ≡ accepted l
unfolding run
runs l e = rw e

pub demand_3 : (l : Lent) → list_refusal l ≡ 0 → Demand3 l (run l)
unfolding accepted
demand_3 l e = record {
  code = ap (λ (r : AfterRun). r.code) (runs l e);
  done = ap (λ (r : AfterRun). r.done) (runs l e);
  answered = ap (λ (r : AfterRun). r.answers) (runs l e);
  saved = ap (λ (r : AfterRun). r.end) (runs l e);
  words = ap (λ (r : AfterRun). r.words) (runs l e);
  each_call = λ xs ys x c. rw (← c) (answered (parameters_of l) (begins l) xs ys x);
  events_are = λ xs. (events_called (parameters_of l) (begins l) xs, events_answered (parameters_of l) (begins l) xs);
  every_point = λ xs ys c. mark_sentence (parameters_of l) (load l.start) xs;
  steps_alter = λ xs ys c. steps_alter (parameters_of l) (load l.start) xs;
  names = λ xs ys c. name_sentence (parameters_of l) (load l.start) xs;
  benches = λ xs ys c. bench_sentence (parameters_of l) (load l.start) xs;
}

-- ---- the slices keep their lengths

pub over_length : (ws slice : List ℕ) → length ws ≤ length slice → length (overwritten ws slice) ≡ length slice
over_length ws slice h = rw (length-append, length-drop) (omega arith)

pub calls_length : (n : ℕ) (ws : List ℕ) → 5 * n ≤ length ws → length ws < 5 * n + 5 → length (calls_of ws) ≡ n
calls_length zero (k ∷ a ∷ b ∷ c ∷ d ∷ ws) h i = absurd (omega arith)
calls_length (suc n) (k ∷ a ∷ b ∷ c ∷ d ∷ ws) h i = ap suc (calls_length n ws (omega arith) (omega arith))
calls_length n [] h i = omega arith
calls_length n (k ∷ []) h i = omega arith
calls_length n (k ∷ a ∷ []) h i = omega arith
calls_length n (k ∷ a ∷ b ∷ []) h i = omega arith
calls_length n (k ∷ a ∷ b ∷ c ∷ []) h i = omega arith

pub done_is : (l : Lent) → list_refusal l ≡ 0 → (run l).done ≡ length l.calls / 5
done_is l e =
    let p = (passed l e).calls_whole in
    (demand_3 l e).done ∙ calls_length (length l.calls / 5) l.calls (omega arith) (omega arith)

pub answers_length : (w : Parameters) (m : Machine) (xs : List Call) → length (answer_words (answers w m xs)) ≡ 2 * length xs
unfolding answers
answers_length w m [] = refl
answers_length w m (x ∷ xs) = omega (arith, answers_length w (step w m x) xs)

pub answers_keep : (l : Lent) → list_refusal l ≡ 0 → length (run l).answers ≡ length l.answers
answers_keep l e =
    ap length (demand_3 l e).answered
    ∙ over_length (answer_words (answers (parameters_of l) (begins l) (calls_of l.calls))) l.answers
    (omega (
      arith,
      answers_length (parameters_of l) (begins l) (calls_of l.calls),
      (passed l e).answers_room,
      done_is l e,
      (demand_3 l e).done,
    ))

pub end_keeps : (l : Lent) → list_refusal l ≡ 0 → All Word l.calls → length (run l).end ≡ length l.end
end_keeps l e f = ap length (demand_3 l e).saved ∙ over_length (save (present (after l (calls_of l.calls)))) l.end (run_end_fits l e f)

-- The way back as one claim about a whole list that is not refused: REFERENCE 14.2 and 14.3.
use Rattle.std.specs.Prelude.{ℕ, suc, ◌<◌, ◌≡◌, ◌≢◌, List, ◌∷◌, ◌++◌, map, length}
use Rattle.lists.specs.Lists.{overwritten}
use Rattle.image.specs.Image.{save, load}
use Rattle.history.specs.Machine.{Timeline, Machine, graph_at, fresh, present}
use Rattle.commands.specs.Calls.{Call, calls_of}
use Rattle.commands.specs.declared.Answer.{Answer}
use Rattle.machine.specs.Machine.{answer, answers, step, last}
use Rattle.machine.specs.Marks.{Event, events, MarkSentence}
use Rattle.machine.specs.Names.{NameSentence}
use Rattle.machine.specs.Benches.{BenchSentence}
use Rattle.machine.specs.Run.{Lent, AfterRun, parameters_of, answer_words}

-- the plain machine as the list begins
abbrev pub begins : Lent → Machine
begins l = fresh (load l.start)

-- the machine after some of the calls
abbrev pub after : Lent → List Call → Machine
after l xs = last (parameters_of l) (begins l) xs

-- the plain machine as the list ends, and its answers
abbrev pub ends : Lent → Machine
ends l = after l (calls_of l.calls)

abbrev pub all_answers : Lent → List Answer
all_answers l = answers (parameters_of l) (begins l) (calls_of l.calls)

-- each graph of a timeline differs from the one before it
abbrev pub Altering : Timeline → Type 0
Altering t = (i : ℕ) → i < length t.steps
    → graph_at i t.start t.steps ≢ graph_at (suc i) t.start t.steps

-- what the result r of the list l has to be
pub record Demand3 (l : Lent) (r : AfterRun) : Type 0 where
  -- REFERENCE 9.5
  pub code : r.code ≡ 0
  pub done : r.done ≡ length (calls_of l.calls)
  -- the answers are the plain machine's, and the words behind them stay
  pub answered : r.answers ≡ overwritten (answer_words (all_answers l)) l.answers
  -- the end image is that of the last graph, and its length is told
  pub saved : r.end ≡ overwritten (save (present (ends l))) l.end
  pub words : r.words ≡ length (save (present (ends l)))
  -- REFERENCE 2.3
  pub each_call : (xs ys : List Call) (x : Call) → xs ++ (x ∷ ys) ≡ calls_of l.calls →
      all_answers l ≡ answers (parameters_of l) (begins l) xs
      ++ (answer (parameters_of l) (after l xs) x ∷ answers (parameters_of l)
      (step (parameters_of l) (after l xs) x) ys)
  -- at each point, also after the last call: the events are the calls with their answers
  pub events_are : (xs : List Call)
      → (map (λ (e : Event). e.call) (events (parameters_of l) (begins l) xs) ≡ xs)
      × (map (λ (e : Event). e.answer) (events (parameters_of l) (begins l) xs)
      ≡ answers (parameters_of l) (begins l) xs)
  pub every_point : (xs ys : List Call) → xs ++ ys ≡ calls_of l.calls
      → MarkSentence (parameters_of l) (load l.start) xs
  -- and the steps between two marks altered something
  pub steps_alter : (xs ys : List Call) → xs ++ ys ≡ calls_of l.calls → Altering (after l xs).line
  -- and the names of the marks
  pub names : (xs ys : List Call) → xs ++ ys ≡ calls_of l.calls
      → NameSentence (parameters_of l) (load l.start) xs
  -- and the benches of the steps
  pub benches : (xs ys : List Call) → xs ++ ys ≡ calls_of l.calls
      → BenchSentence (parameters_of l) (load l.start) xs

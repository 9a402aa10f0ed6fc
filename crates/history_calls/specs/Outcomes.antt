-- What the history calls return, where nothing is left open, and what a refused one leaves.
use Rattle.std.specs.Prelude.{ℕ, ◌≡◌, Bool, true, false, ◌≢◌, List, ltb, Result, Ok, Err, ◌==◌}
use Rattle.std.specs.Int.Count.{ones}
use Rattle.lists.specs.Choice.{◌⇒◌else◌}
use Rattle.commands.specs.declared.HistoryCall.{HistoryCall}
use Rattle.commands.specs.declared.HistoryCall.TheVariants.{
  SetMark,
  DropMark,
  Undo,
  Redo,
  GoTo,
  Commit,
  Between,
  Standing,
  Free,
  NameMark,
  GoToName,
  SetBench,
  MadeBy,
}
use Rattle.commands.specs.Answers.{answer_of}
use Rattle.commands.specs.declared.refusal.Refusal.{Refusal}
use Rattle.commands.specs.Refusals.{refusal_code, answer_by}
use Rattle.history.specs.Machine.{distance, Name, name}
use Rattle.marks.specs.Marked.{place_in, with_mark, without_mark}
use Rattle.marks.specs.Named.{name_set, mark_put, holder_in}
use Rattle.marks.specs.Codes.{standing_code, new_code, both_code, name_code}
use Rattle.machine.specs.HistoryCodes.{no_bench}
use Rattle.machine.specs.Rules.{first_code}
use Rattle.graph_tables.specs.declared.Head.{Head}
use Rattle.timeline.specs.Current.{no_steps}
use Rattle.history_calls.specs.declared.Store.{Store}
use Rattle.history_calls.specs.declared.Called.{Called}
use Rattle.history_calls.specs.declared.Way.{Way as Steps}
use Rattle.history_calls.specs.Memory.{Memory}

-- ---- codes, read off the set

-- of two marks that must stand
abbrev pub pair_code : Store → ℕ → ℕ → ℕ
pair_code x a c = both_code (standing_code x.set.bits a) (standing_code x.set.bits c)

-- ---- what is returned

abbrev pub done : Store → ℕ → ℕ → Called
done x code number = record { store = x; answer = record { code = code; number = number } }

-- after what came of a call: with a number, or with a store and no number
abbrev pub called : Store → Result ℕ Refusal → Called
called x came = record { store = x; answer = answer_by came }

abbrev pub stored : Store → Result Store Refusal → Called
stored x (Ok y) = done y 0 0
stored x (Err refusal) = done x (refusal_code refusal) 0

-- a graph with this head, no step and no mark, at this bench
abbrev pub begun_by : ℕ → Head → Store
begun_by b h = record { current = record { head = h; position = no_steps }; set = record { bits = 0 }; bench = b }

abbrev pub begun_at : Head → Store
begun_at h = begun_by 0 h

-- mark a is set, with its place and no name; a mark that stands, or that is no mark, is refused and changes neither
abbrev pub mark_set : Store → ℕ → Called
mark_set x a = done (record { current = x.current; set = record { bits = with_mark a x.set.bits }; bench = x.bench }) (new_code x.set.bits a) 0

abbrev pub places_set : Store → ℕ → List ℕ → List ℕ
places_set x a marks = (new_code x.set.bits a == 0) ⇒ mark_put a x.current.position.place marks else marks

-- mark a is dropped; one that does not stand is refused
abbrev pub mark_dropped : Store → ℕ → Called
mark_dropped x a =
    done (record { current = x.current; set = record { bits = without_mark a x.set.bits }; bench = x.bench }) (standing_code x.set.bits a) 0

abbrev pub committed : Store → Called
committed x = done (begun_by x.bench x.current.head) 0 x.current.position.place

-- the code of marks a and c, and the steps between their places
abbrev pub between_marks : Store → List ℕ → ℕ → ℕ → Called
between_marks x marks a c = record {
  store = x;
  answer = answer_of (pair_code x a c) (distance (place_in marks a) (place_in marks c));
}

abbrev pub marks_standing : Store → Called
marks_standing x = done x 0 (ones x.set.bits)

abbrev pub changes_free : Store → ℕ → Called
changes_free x free = done x 0 free

-- mark a is named; refused, it and its words stay
abbrev pub mark_named : Store → List ℕ → ℕ → Name → Called
mark_named x marks a n = done x (name_code x.set.bits marks a n) 0

abbrev pub names_set : Store → ℕ → Name → List ℕ → List ℕ
names_set x a n marks = (name_code x.set.bits marks a n == 0) ⇒ name_set a n marks else marks

-- 20
abbrev pub bench_code : ℕ → ℕ
bench_code b = no_bench b ⇒ 20 else 0

-- 11, 13, 20
abbrev pub made_code : ℕ → ℕ → ℕ → ℕ → ℕ
made_code set a c b = first_code (both_code (standing_code set a) (standing_code set c)) (bench_code b)

-- later steps are made by bench b; refused, it stays
abbrev pub bench_set : Store → ℕ → Called
bench_set x b =
    done (record { current = x.current; set = x.set; bench = (bench_code b == 0) ⇒ b else x.bench }) (bench_code b) 0

-- ---- the calls that lead to another place

abbrev pub Leads : HistoryCall → Type 0
Leads (SetMark a) = ⊥
Leads (DropMark a) = ⊥
Leads Undo = Unit {0}
Leads Redo = Unit {0}
Leads (GoTo a) = Unit {0}
Leads Commit = ⊥
Leads (Between a c) = ⊥
Leads Standing = ⊥
Leads Free = ⊥
Leads (NameMark a b c) = ⊥
Leads (SetBench b) = ⊥
Leads (MadeBy a c b) = ⊥
Leads (GoToName b c) = Unit {0}

-- a code, or so many steps back or on
pub record Way : Type 0 where
  pub code : ℕ
  pub back : Bool
  pub steps : ℕ

abbrev pub nowhere : Way
nowhere = record { code = 0; back = false; steps = 0 }

-- one step, where the place is not at this end
abbrev pub step_way : Bool → ℕ → ℕ → Way
step_way back place end = record { code = (place == end) ⇒ 14 else 0; back = back; steps = 1 }

-- to the place of mark a
abbrev pub way_to : List ℕ → ℕ → ℕ → ℕ → Way
way_to marks place code a = record {
  code = code;
  back = ltb (place_in marks a) place;
  steps = distance place (place_in marks a);
}

-- one step back or on, where the place is not at that end; to the place of a mark that stands, or of the one that has a
-- name
abbrev pub way_of : Store → List ℕ → HistoryCall → Way
way_of x marks (SetMark a) = nowhere
way_of x marks (DropMark a) = nowhere
way_of x marks Undo = step_way true x.current.position.place 0
way_of x marks Redo = step_way false x.current.position.place x.current.position.steps
way_of x marks (GoTo a) = way_to marks x.current.position.place (standing_code x.set.bits a) a
way_of x marks (GoToName b c) =
    way_to marks x.current.position.place ((holder_in x.set.bits marks 0 (name b c) == 0) ⇒ 19 else 0)
    (holder_in x.set.bits marks 0 (name b c))
way_of x marks Commit = nowhere
way_of x marks (Between a c) = nowhere
way_of x marks Standing = nowhere
way_of x marks Free = nowhere
way_of x marks (NameMark a b c) = nowhere
way_of x marks (SetBench b) = nowhere
way_of x marks (MadeBy a c b) = nowhere

-- what comes of a way that is asked for
abbrev pub Comes : Way → Result Steps Refusal → Type 0
Comes w (Ok way) = (w.code ≡ 0) × (way.back ≡ w.back) × (way.steps ≡ w.steps)
Comes w (Err refusal) = w.code ≡ refusal_code refusal

-- ---- what a refused call leaves

-- where the code is not 0, the store and the lent words are as they were
abbrev pub Leaves : Store → Memory → Called → Memory → Type 0
Leaves x mem d mem' = d.answer.code ≢ 0 → (d.store ≡ x) × (mem' ≡ mem)

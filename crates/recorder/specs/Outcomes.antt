-- A recorded run: its refusals, its result, and the lent words after it.
use Rattle.std.specs.Prelude.{ℕ, ◌/◌, ◌≢◌, List, ltb, length, ◌==◌}
use Rattle.lists.specs.Choice.{◌⇒◌else◌}
use Rattle.lists.specs.Slices.{Slice}
use Rattle.graph.specs.Graph.{Graph}
use Rattle.history.specs.Machine.{fresh}
use Rattle.image.specs.Image.{load}
use Rattle.commands.specs.Calls.{calls_of}
use Rattle.machine.specs.Run.{Lent, AfterRun, parameters_of, list_refusal, list_number, accepted, refused}
use Rattle.machine.specs.Demands.{Demand1, Demand2}
use Rattle.engine.specs.Outcomes.{Same}
use Rattle.copies.specs.Copies.{step_graphs, stretch, recorded, changes_in}

-- the graphs after its steps, in the order in which they are made
abbrev pub made_in : Lent → List Graph
made_in l = step_graphs (parameters_of l) (fresh (load l.start)) (calls_of l.calls)

-- the refusals of a run, then 113: more calls of kinds 1 to 16 than there are stretches
unfoldable pub recording_refusal : Lent → ℕ → ℕ
unfolding list_refusal
recording_refusal l room =
    (list_refusal l == 0) ⇒ (ltb (room / stretch (parameters_of l)) (changes_in (calls_of l.calls)) ⇒ 113 else 0)
    else list_refusal l

pub record AfterRecording : Type 0 where
  pub run : AfterRun
  pub copies : List ℕ

abbrev pub after_recording : AfterRun → List ℕ → AfterRecording
after_recording r copies = record { run = r; copies = copies }

unfoldable pub recording : Lent → List ℕ → AfterRecording
unfolding recording_refusal list_number accepted refused step_graphs
recording l copies =
    let r = recording_refusal l (length copies) in
    (r == 0) ⇒ after_recording (accepted l) (recorded (stretch (parameters_of l)) (made_in l) copies)
    else after_recording (refused r (list_number l) l) copies

-- ---- for contracts

-- a refused list leaves the tables
abbrev pub Untouched : Lent → ℕ → Slice → Slice → Slice → Type 0
Untouched l room vertices edges journal =
    recording_refusal l room ≢ 0 → Same vertices × Same edges × Same journal

-- demands 1 and 2 are met as the run meets them, but for a list that is refused by 113, as its caller sees by the code;
-- demand 3 is met in the run's own words
abbrev pub MeetsDemand1 : Lent → AfterRun → Slice → Slice → Slice → Type 0
MeetsDemand1 l r vertices edges journal = r.code ≢ 113 → Demand1 l r (Same vertices × Same edges × Same journal)

abbrev pub MeetsDemand2 : Lent → AfterRun → Type 0
MeetsDemand2 l r = r.code ≢ 113 → Demand2 l r

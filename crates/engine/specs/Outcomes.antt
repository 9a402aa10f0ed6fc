-- The result of a run and the words after it, as the specification of the run has them.
use Rattle.std.specs.Prelude.{ℕ, List, ◌≡◌, length}
use Rattle.machine.specs.Demand.{Demand3}
use Rattle.machine.specs.Demands.{Demand1}
use Rattle.machine.specs.Run.{Lent, AfterRun, list_refusal}
use Rattle.engine.specs.declared.run.RunResult.{RunResult}
use Rattle.lists.specs.Slices.{Slice}

-- REFERENCE 9.1
abbrev pub lent : List ℕ → List ℕ → List ℕ → List ℕ → List ℕ → List ℕ → List ℕ → List ℕ → Lent
lent start rows calls vertices edges journal answers image = record {
  start = start;
  rows = rows;
  calls = calls;
  vertex_table = length vertices;
  edge_table = length edges;
  change_table = length journal;
  answers = answers;
  end = image;
}

-- REFERENCE 9.4, with the two slices that a run writes
abbrev pub run_result : RunResult → List ℕ → List ℕ → AfterRun
run_result r answers image = record { code = r.code; done = r.done; words = r.words; answers = answers; end = image }

-- ---- for contracts

abbrev pub Same : Slice → Type 0
Same s = s.new ≡ s.old

-- REFERENCE 9.8, for the tables
abbrev pub Untouched : Lent → Slice → Slice → Slice → Type 0
Untouched l vertices edges journal = (list_refusal l ≡ 0 → ⊥) → Same vertices × Same edges × Same journal

-- REFERENCE 14.1: of a refused list the tables are as they were
abbrev pub MeetsDemand1 : Lent → AfterRun → Slice → Slice → Slice → Type 0
MeetsDemand1 l r vertices edges journal = Demand1 l r (Same vertices × Same edges × Same journal)

-- REFERENCE 14.3, for a list that is not refused, as its caller sees by the code
abbrev pub MeetsDemand3 : Lent → AfterRun → Type 0
MeetsDemand3 l r = r.code ≡ 0 → Demand3 l r

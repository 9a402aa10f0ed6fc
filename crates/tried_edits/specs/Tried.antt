-- An edit tried: its code, its cost, and the words that it leaves.
use Rattle.std.specs.Prelude.{ℕ, ◌≡◌, List, ◌==◌, Result, Ok, Err}
use Rattle.lists.specs.Choice.{◌⇒◌else◌}
use Rattle.graph.specs.declared.Edit.{Edit}
use Rattle.graph.specs.Same.{idle}
use Rattle.graph_tables.specs.declared.Head.{Head}
use Rattle.graph_tables.specs.declared.Tables.{Tables}
use Rattle.graph_tables.specs.Tables.{State, state_of}
use Rattle.graph_tables.specs.Edits.{state_apply}
use Rattle.journal.specs.Rows.{costing, rowed}
use Rattle.journal.specs.declared.room.Room.{Room}
use Rattle.commands.specs.declared.refusal.Refusal.{Refusal}
use Rattle.commands.specs.Refusals.{refusal_code}
use Rattle.tried_edits.specs.declared.Made.{Made}

-- what an edit is tried on: its row, how many rows are free, the tables with their head, and the journal
pub record Attempt : Type 0 where
  pub row : ℕ
  pub free : ℕ
  pub state : State
  pub journal : List ℕ

abbrev pub attempt : ℕ → ℕ → State → List ℕ → Attempt
attempt i free s t = record { row = i; free = free; state = s; journal = t }

-- the next row, the head and what the lent words hold
abbrev pub attempt_of : Head → Tables → Room → Attempt
attempt_of h t r = attempt r.row r.free (state_of h t) r.journal.now

-- what it came to: code and cost, the tables with their head, and the journal
pub record Outcome : Type 0 where
  pub code : ℕ
  pub cost : ℕ
  pub state : State
  pub journal : List ℕ

abbrev pub outcome : ℕ → ℕ → State → List ℕ → Outcome
outcome code cost s t = record { code = code; cost = cost; state = s; journal = t }

-- what a change came to, with what tables and journal hold; a refused one leaves the head that was
abbrev pub outcome_of : Head → Result Made Refusal → Tables → List ℕ → Outcome
outcome_of h (Ok made) tables t = outcome 0 made.cost (state_of made.head tables) t
outcome_of h (Err refusal) tables t = outcome (refusal_code refusal) 0 (state_of h tables) t

-- nothing is written
abbrev pub kept : ℕ → Attempt → Outcome
kept code a = outcome code 0 a.state a.journal

-- the edit is written down as a row, a step of cost 1, and carried out
abbrev pub written : Edit → Attempt → Outcome
written e a = outcome 0 1 (state_apply e a.state) (rowed a.row e (costing 1) a.journal)

-- an edit whose old and new agree writes nothing, any other is written where there is room
unfoldable pub tried : Edit → Attempt → Outcome
tried e a = idle e ⇒ kept 0 a else (a.free == 0) ⇒ kept 10 a else written e a

pub record Tries (e : Edit) (a : Attempt) (o : Outcome) : Type 0 where
  pub comes : o ≡ tried e a

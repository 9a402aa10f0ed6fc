-- What the state of a run, the lent words and the closed type rows have to do with the plain machine.
use Rattle.std.specs.Prelude.{ℕ, ◌*◌, ◌/◌, ◌≤◌, ◌≡◌, true, false, List, length}
use Rattle.type_rows.specs.Rows.{good_rows}
use Rattle.type_rows.specs.Closure.{closure_words}
use Rattle.history.specs.Machine.{Machine}
use Rattle.history_calls.specs.declared.Called.{Called}
use Rattle.history_calls.specs.declared.Store.{Store}
use Rattle.history_calls.specs.Memory.{Memory, memory}
use Rattle.history_calls.specs.Represents.{Represents}
use Rattle.machine.specs.Calls.{Parameters, bounds_in}
use Rattle.machine.specs.Run.{Limits}
use Rattle.commands.specs.declared.Command.{Command}
use Rattle.commands.specs.Commands.{call_of}
use Rattle.machine.specs.HistoryCodes.{out_of_reach}
use Rattle.machine.specs.Machine.{answer_to, step_to}

-- the capacities, the types and the limits are those of w
pub record Setting (w : Parameters) (mem : Memory) (closed : List ℕ) (types : ℕ) : Type 0 where
  pub limits : Limits w
  pub vertices : w.vertices ≡ length mem.vertices / 8
  pub edges : w.edges ≡ length mem.edges / 12
  pub changes : w.changes ≡ length mem.journal / 12
  pub rows : good_rows w.rows ≡ true
  pub closed_rows : closed ≡ closure_words w.rows
  pub types_in : types ≡ length w.rows

-- a run with parameters w whose machine is m
pub record Running (w : Parameters) (x : Store) (mem : Memory) (closed : List ℕ) (types : ℕ)
    (m : Machine) : Type 0 where
  pub setting : Setting w mem closed types
  pub represents : Represents (bounds_in w) x mem m

-- the same with another capacity of changes
abbrev pub allowing : ℕ → Parameters → Parameters
allowing n w = record { rows = w.rows; vertices = w.vertices; edges = w.edges; changes = n }

-- the answer is the machine's to the command at this capacity of changes, and so is what is represented afterwards
pub record Answered (w : Parameters) (capacity : ℕ) (m : Machine) (c : Command) (d : Called) (mem : Memory)
    (closed : List ℕ) (types : ℕ) : Type 0 where
  pub answered : d.answer ≡ answer_to (allowing capacity w) m c
  pub after : Running w d.store mem closed types (step_to (allowing capacity w) m c)

-- ---- for contracts

-- some run stands at the lent words
abbrev pub Runs : Store → List ℕ → List ℕ → List ℕ → List ℕ → List ℕ → ℕ → Type 0
Runs x vertices edges journal marks closed types =
    (w : Parameters) × (m : Machine)
    × Running w x (memory vertices edges journal marks) closed types m

-- so many changes may be remembered up to the place: no fewer than are, and no more than the journal has rows
abbrev pub Granted : ℕ → Store → List ℕ → Type 0
Granted capacity x journal = (x.current.position.used ≤ capacity) × (12 * capacity ≤ length journal)

-- whatever run stood there that the command leads no farther than the capacity of changes allows: the answer is its
-- machine's at this capacity, and so is what stands afterwards
abbrev pub AnswersNear : Command → ℕ → Store → Called → Memory → Memory → List ℕ → ℕ → Type 0
AnswersNear c capacity x d mem mem' closed types =
    (w : Parameters) → (m : Machine)
    → Running w x mem closed types m
    → out_of_reach capacity m (call_of c) ≡ false
    → Answered w capacity m c d mem' closed types

-- the same of any command
abbrev pub Answers : Command → ℕ → Store → Called → Memory → Memory → List ℕ → ℕ → Type 0
Answers c capacity x d mem mem' closed types =
    (w : Parameters) → (m : Machine)
    → Running w x mem closed types m
    → Answered w capacity m c d mem' closed types

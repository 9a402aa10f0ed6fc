-- What the program's state and the lent words have to do with the plain machine.
use Rattle.std.specs.Prelude.{ℕ, ◌+◌, ◌*◌, ◌≤◌, ◌≡◌, length}
use Rattle.graph.specs.WellFormed.{Bounds}
use Rattle.history.specs.Machine.{Machine, at, free_of}
use Rattle.commands.specs.declared.HistoryCall.{HistoryCall}
use Rattle.machine.specs.Rules.{Rule, answered, followed, history_rule}
use Rattle.marks.specs.Marked.{Marked}
use Rattle.marks.specs.Named.{Named}
use Rattle.timeline.specs.Steps.{Journal}
use Rattle.history_calls.specs.declared.Store.{Store}
use Rattle.history_calls.specs.declared.Called.{Called}
use Rattle.history_calls.specs.Memory.{Memory, tables_of}

-- the store x and the lent words stand for the machine m
pub record Represents (b : Bounds) (x : Store) (mem : Memory) (m : Machine) : Type 0 where
  pub journal : Journal b x.current.position (tables_of x mem) mem.journal m.line
  pub marks : Marked m.marks x.set.bits mem.marks
  pub inside : (k q : ℕ) → m.marks k ≡ at q → q ≤ length m.line.steps
  pub names : Named m.marks m.names mem.marks
  pub bench : x.bench ≡ m.bench

-- a call by this rule: the answer is the machine's, and so is what is represented afterwards
pub record Follows (r : Rule) (m : Machine) (b : Bounds) (d : Called) (mem : Memory) : Type 0 where
  pub obeys : d.answer ≡ answered r m
  pub after : Represents b d.store mem (followed r m)

-- ---- for contracts

-- some machine is represented
abbrev pub Stands : Store → Memory → Type 0
Stands x mem = (b : Bounds) × (m : Machine) × Represents b x mem m

-- the journal has so many rows more than are used
abbrev pub Spare : ℕ → Store → Memory → Type 0
Spare free x mem = 12 * (x.current.position.used + free) ≤ length mem.journal

-- whatever machine was, and by whatever capacity so many changes are free, the history call does by its rule
abbrev pub Performs : HistoryCall → ℕ → Store → Memory → Called → Memory → Type 0
Performs h free x mem d mem' =
    (b : Bounds) → (m : Machine) → (capacity : ℕ) → Represents b x mem m → free ≡ free_of capacity m.line
    → Follows (history_rule capacity h) m b d mem'

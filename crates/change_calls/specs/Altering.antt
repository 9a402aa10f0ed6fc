-- A change as a call: what it does to the store and the lent words.
use Rattle.std.specs.Prelude.{ℕ, ◌≡◌}
use Rattle.graph.specs.declared.Change.{Change}
use Rattle.graph.specs.WellFormed.{Bounds}
use Rattle.history.specs.Machine.{Machine, free_of}
use Rattle.machine.specs.Rules.{change_rule}
use Rattle.history_calls.specs.declared.Store.{Store}
use Rattle.history_calls.specs.declared.Called.{Called}
use Rattle.history_calls.specs.Memory.{Memory}
use Rattle.history_calls.specs.Represents.{Represents, Follows, Spare}
use Rattle.history_calls.specs.Outcomes.{Leaves}

-- some machine is represented whose graphs have so many types, and the journal has so many rows to spare
abbrev pub StandsTyped : ℕ → ℕ → Store → Memory → Type 0
StandsTyped types free x mem =
    (b : Bounds) × (m : Machine) × (b.types ≡ types) × Represents b x mem m × Spare free x mem

-- what a change does to the store and the lent words
pub record DoesChange (c : Change) (types free : ℕ) (x : Store) (mem : Memory) (d : Called)
    (mem' : Memory) : Type 0 where
  -- whatever machine was represented, and by whatever capacity so many changes are free, it does by its rule: all its
  -- codes, its number, the machine after it
  pub follows : (b : Bounds) (m : Machine) (capacity : ℕ) → b.types ≡ types → Represents b x mem m
      → free ≡ free_of capacity m.line → Follows (change_rule b capacity c) m b d mem'
  -- refused, it leaves everything
  pub leaves : Leaves x mem d mem'
  -- alike where the number is 0: it is refused, or alters nothing
  pub idle : d.answer.number ≡ 0 → (d.store ≡ x) × (mem' ≡ mem)

-- For contracts: what the functions of the recorder ask.
use Rattle.std.specs.Prelude.{ℕ, ◌+◌, ◌*◌, ◌≤◌, true, ◌≡◌, List, [], get_or}
use Rattle.lists.specs.Choice.{within}
use Rattle.graph.specs.Graph.{Graph}
use Rattle.history.specs.Machine.{Machine}
use Rattle.machine.specs.Calls.{Parameters}
use Rattle.history_calls.specs.declared.Store.{Store}
use Rattle.history_calls.specs.declared.Called.{Called}
use Rattle.history_calls.specs.Memory.{memory}
use Rattle.engine.specs.Running.{Running}
use Rattle.copies.specs.Copies.{stretch}
use Rattle.copies.specs.Recording.{Covers}
use Rattle.recorder.specs.declared.Progress.{Progress}

-- the words of a slice as a function begins
abbrev pub Words : Type 0
Words = List ℕ

-- some run stands at the lent words, and its copies
abbrev pub CanRecord : Store → Words → Words → Words → Words → Words → Words → ℕ → Words → ℕ → Words → Words → Type 0
CanRecord x start vertices edges journal marks closed types copies size numbers used =
    (w : Parameters) × (m : Machine) × (lent : List ℕ) × (gs : List Graph) × (n : ℕ)
    × Running w x (memory vertices edges journal marks) closed types m
    × Covers w start lent copies numbers used gs n m × (size ≡ stretch w)

-- the same with so many copies
abbrev pub CanAdd : Store → Words → Words → Words → Words → Words → Words → ℕ → Words → ℕ → Words → Words → ℕ → Type 0
CanAdd x start vertices edges journal marks closed types copies size numbers used n =
    (w : Parameters) × (m : Machine) × (lent : List ℕ) × (gs : List Graph)
    × Running w x (memory vertices edges journal marks) closed types m
    × Covers w start lent copies numbers used gs n m × (size ≡ stretch w)

-- a call of kinds 1 to 16 finds a stretch for its copy
abbrev pub HasStretch : List ℕ → ℕ → ℕ → ℕ → Type 0
HasStretch call size count room = within 1 16 (get_or call 0 0) ≡ true → size * count + size ≤ room

abbrev pub called_by : Progress → Called
called_by r = record { store = r.store; answer = r.answer }

-- no copy yet
abbrev pub CanBegin : Store → Words → Words → Words → Words → Words → Words → ℕ → Words → ℕ → Words → Words → Type 0
CanBegin x start vertices edges journal marks closed types copies size numbers used =
    (w : Parameters) × (m : Machine)
    × Running w x (memory vertices edges journal marks) closed types m
    × Covers w start copies copies numbers used [] 0 m × (size ≡ stretch w)

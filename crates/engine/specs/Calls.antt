-- What the calls of a list leave, some or all of them.
use Rattle.std.specs.Prelude.{ℕ, ◌+◌, ◌*◌, ◌≤◌, ◌<◌, ◌≡◌, false, List, [], ◌∷◌, length, get_or, take, drop}
use Rattle.lists.specs.Lists.{overwritten}
use Rattle.history.specs.Machine.{Machine}
use Rattle.history_calls.specs.declared.Store.{Store}
use Rattle.history_calls.specs.Memory.{Memory}
use Rattle.commands.specs.Calls.{Call, call_at}
use Rattle.commands.specs.Commands.{call_of, command_of}
use Rattle.machine.specs.Calls.{Parameters}
use Rattle.machine.specs.HistoryCodes.{out_of_reach}
use Rattle.machine.specs.Machine.{answers, step, last}
use Rattle.machine.specs.Run.{answer_words}
use Rattle.engine.specs.Running.{Running, allowing}

-- so many calls, read from words: each has five, and begins `width` words behind the one before
pub record Reads (width count : ℕ) (words : List ℕ) (xs : List Call) : Type 0 where
  pub many : length xs ≡ count
  pub there : (k : ℕ) → k < count → k * width + 5 ≤ length words
  pub each : (k : ℕ) → k < count → get_or xs k (call_at []) ≡ call_at (take 5 (drop (k * width) words))

-- none of the calls, one after another, leads farther than the capacity of changes allows
abbrev pub AllNear : Parameters → Machine → List Call → Type 0
AllNear w m [] = Unit {0}
AllNear w m (x ∷ xs) = (out_of_reach w.changes m (call_of (command_of x)) ≡ false) × AllNear w (step w m x) xs

-- after the calls xs at this capacity of changes: what stands is the machine's, and so are the words written over the
-- slice of answers
pub record AfterCalls (w : Parameters) (capacity : ℕ) (m : Machine) (xs : List Call) (x : Store) (mem : Memory)
    (closed : List ℕ) (types : ℕ) (slice slice' : List ℕ) : Type 0 where
  pub after : Running w x mem closed types (last (allowing capacity w) m xs)
  pub answered : slice' ≡ overwritten (answer_words (answers (allowing capacity w) m xs)) slice

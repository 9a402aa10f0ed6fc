-- Where a call leads, read off the store and its marks; calls of one store, which is there or not.
use Rattle.std.specs.Prelude.{ℕ, ◌+◌, ◌*◌, ◌≤◌, ◌<◌, ◌≡◌, Bool, true, not, Option, Some, None, ◌&&◌, ◌||◌, List, map, length, get_or, take, ◌==◌}
use Rattle.lists.specs.Choice.{◌⇒◌else◌}
use Rattle.lists.specs.Lists.{overwritten}
use Rattle.history.specs.Machine.{Machine, name}
use Rattle.marks.specs.Marked.{in_set, place_in}
use Rattle.marks.specs.Named.{holder_in}
use Rattle.commands.specs.Answers.{refuses}
use Rattle.commands.specs.Calls.{Call}
use Rattle.history_calls.specs.declared.Store.{Store}
use Rattle.history_calls.specs.Memory.{Memory}
use Rattle.machine.specs.Calls.{Parameters}
use Rattle.machine.specs.Machine.{answers, last}
use Rattle.machine.specs.Run.{answer_words}
use Rattle.machine.specs.Stores.{StoreCall, store_calls_of}
use Rattle.engine.specs.Running.{Running, allowing}
use Rattle.store_calls.specs.declared.guard.Stretch.{Stretch}

-- the place of mark a, where it stands
abbrev pub standing_place : ℕ → List ℕ → ℕ → Option ℕ
standing_place set marks a = in_set set a ⇒ Some (place_in marks a) else None

-- the place of mark a where it stands, else the present one
abbrev pub mark_place : Store → List ℕ → ℕ → ℕ
mark_place x marks a = in_set x.set.bits a ⇒ place_in marks a else x.current.position.place

-- one step on, where there is one
abbrev pub next_place : ℕ → ℕ → ℕ
next_place place steps = (place == steps) ⇒ place else (place + 1)

abbrev pub place_ahead : Store → List ℕ → Call → ℕ
place_ahead x marks c =
    (c.kind == 20) ⇒ next_place x.current.position.place x.current.position.steps else
    (c.kind == 21) ⇒ mark_place x marks c.a else
    (c.kind == 57) ⇒ mark_place x marks (holder_in x.set.bits marks 0 (name c.a c.b)) else
    x.current.position.place

-- ---- calls of six words that one loop answers

abbrev pub may_redo : ℕ → Bool
may_redo kind = (kind == 20) || (kind == 21) || (kind == 57)

-- call k of these words is of the first call's store, and none that may redo unless there is room for every step
abbrev pub goes_on : Bool → ℕ → List ℕ → Bool
goes_on ample k words =
    (get_or words (6 * k) 0 == get_or words 0 0) && (ample || not (may_redo (get_or words (6 * k + 1) 0)))

-- the first c calls, one at least, are of one store
pub record Alike (c : ℕ) (words : List ℕ) : Type 0 where
  pub some : 1 ≤ c
  pub there : 6 * c ≤ length words
  pub alike : (k : ℕ) → k < c → get_or words (6 * k) 0 ≡ get_or words 0 0

-- and behind the first all go on
pub record Together (ample : Bool) (c : ℕ) (words : List ℕ) : Type 0 where
  pub some : 1 ≤ c
  pub there : 6 * c ≤ length words
  pub going : (k : ℕ) → 1 ≤ k → k < c → goes_on ample k words ≡ true

abbrev pub calls_in : List StoreCall → List Call
calls_in xs = map (λ (x : StoreCall). x.call) xs

-- after the calls xs of one store at this capacity of changes: what stands is the machine's, and so are the words
-- written over the slice of answers; 21 for each where the store is not there
pub record Taken (w : Parameters) (capacity : ℕ) (m : Machine) (there : Bool) (xs : List StoreCall) (x : Store)
    (mem : Memory) (closed : List ℕ) (types : ℕ) (slice slice' : List ℕ) : Type 0 where
  pub after : Running w x mem closed types (there ⇒ last (allowing capacity w) m (calls_in xs) else m)
  pub answered : slice' ≡ overwritten (answer_words (there ⇒ answers (allowing capacity w) m (calls_in xs) else
      map (λ (y : StoreCall). refuses 21) xs)) slice

-- whatever run stood there
abbrev pub Takes : Bool → ℕ → Store → Stretch → Memory → Memory → List ℕ → ℕ → List ℕ → List ℕ → List ℕ → Type 0
Takes there capacity x d mem mem' closed types calls answered answered' =
    (w : Parameters) → (m : Machine)
    → Running w x mem closed types m
    → Taken w capacity m there (take d.calls (store_calls_of calls)) d.store mem' closed types answered answered'

-- A list that is tried: the calls of some numbers, one of them left out, and the code of its last call.
use Rattle.std.specs.Prelude.{ℕ, ◌/◌, ◌≤◌, ◌<◌, ◌≡◌, true, List, [], ◌∷◌, Option, Some, None, map, length, get_or}
use Rattle.graph.specs.Graph.{Graph}
use Rattle.history.specs.Machine.{fresh}
use Rattle.image.specs.Image.{loadable}
use Rattle.commands.specs.Calls.{Call, call_at, calls_of}
use Rattle.commands.specs.declared.Answer.{Answer}
use Rattle.machine.specs.Calls.{Parameters, bounds_in}
use Rattle.machine.specs.Machine.{answers}
use Rattle.history_calls.specs.Memory.{memory}
use Rattle.engine.specs.Running.{Setting}
use Rattle.lists.specs.Lists.{without}

-- the code of the last answer, another where there is none
abbrev pub last_of : ℕ → List Answer → ℕ
last_of c [] = c
last_of c (a ∷ rest) = last_of a.code rest

-- the code that the plain machine, fresh, gives the last of the calls; 0 where there is none
unfoldable pub last_code : Parameters → Graph → List Call → ℕ
unfolding answers
last_code w g xs = last_of 0 (answers w (fresh g) xs)

-- the calls of these numbers, from 0
abbrev pub call_numbered : List ℕ → ℕ → Call
call_numbered calls k = get_or (calls_of calls) k (call_at [])

abbrev pub calls_at : List ℕ → List ℕ → List Call
calls_at calls ks = map (call_numbered calls) ks

-- the numbers that are kept, without the one at `skip`
abbrev pub left_out : Option ℕ → List ℕ → List ℕ
left_out None kept = kept
left_out (Some skip) kept = without skip kept

-- the first n numbers that are kept are those of calls
pub record Numbered (calls kept : List ℕ) (n : ℕ) : Type 0 where
  pub fits : n ≤ length kept
  pub few : n ≤ 20000
  pub numbers : (i : ℕ) → i < n → get_or kept i 0 < length calls / 5

-- whatever the tables hold, a run with parameters w can begin
pub record Ready (w : Parameters) (start vertices edges journal closed : List ℕ) (types : ℕ) : Type 0 where
  pub setting : Setting w (memory vertices edges journal []) closed types
  pub start_loads : loadable (bounds_in w) start ≡ true

-- ---- for contracts

abbrev pub CanTry : List ℕ → List ℕ → List ℕ → List ℕ → List ℕ → ℕ → Type 0
CanTry start vertices edges journal closed types =
    (w : Parameters) × Ready w start vertices edges journal closed types

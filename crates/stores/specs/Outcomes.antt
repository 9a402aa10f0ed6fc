-- The result of a run of several stores and the words after it, as the specification of the run has them.
use Rattle.std.specs.Prelude.{ℕ, ◌/◌, ◌≡◌, length}
use Rattle.lists.specs.Slices.{Slice}
use Rattle.machine.specs.Run.{Lent, AfterRun}
use Rattle.machine.specs.StoreRun.{LentStores, stores_refusal, Demand3In}
use Rattle.machine.specs.StoreDemands.{Demand1In}
use Rattle.engine.specs.Outcomes.{Same}
use Rattle.store_calls.specs.Parts.{RestStays}

-- what is lent for so many stores and this limit
abbrev pub several : Lent → ℕ → ℕ → LentStores
several l stores limit = record { lent = l; count = stores; limit = limit }

-- ---- for contracts

-- a refused list writes nowhere: the tables
abbrev pub UntouchedIn : LentStores → Slice → Slice → Slice → Type 0
UntouchedIn l vertices edges journal = (stores_refusal l ≡ 0 → ⊥) → Same vertices × Same edges × Same journal

-- of a table of K parts, each of length ÷ K words, the words behind the last part stay
abbrev pub Remainder : ℕ → Slice → Type 0
Remainder stores s = RestStays stores (length s.old / stores) s.old s.new

abbrev pub BehindStays : ℕ → Slice → Slice → Slice → Type 0
BehindStays stores vertices edges journal =
    Remainder stores vertices × Remainder stores edges × Remainder stores journal

-- REFERENCE 21.12: of a refused list the tables are as they were
abbrev pub MeetsDemand1In : LentStores → AfterRun → Slice → Slice → Slice → Type 0
MeetsDemand1In l r vertices edges journal = Demand1In l r (Same vertices × Same edges × Same journal)

-- REFERENCE 21.12: the way back, for a list that is not refused, as its caller sees by the code
abbrev pub MeetsDemand3In : LentStores → AfterRun → Type 0
MeetsDemand3In l r = r.code ≡ 0 → Demand3In l r

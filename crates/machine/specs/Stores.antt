-- Several stores in one run (REFERENCE 21): as many plain machines, one limit.
use Rattle.std.specs.Prelude.{ℕ, suc, ◌-◌, Bool, List, [], ◌∷◌, ◌==◌}
use Rattle.lists.specs.Choice.{◌⇒◌else◌, within}
use Rattle.lists.specs.Lists.{sum_of, range}
use Rattle.history.specs.Machine.{Machine, spent}
use Rattle.commands.specs.Calls.{Call, five}
use Rattle.commands.specs.declared.Answer.{Answer}
use Rattle.commands.specs.Answers.{refuses}
use Rattle.machine.specs.Calls.{Parameters}
use Rattle.machine.specs.Posed.{Posed, posed, answer_at, step_at}

-- REFERENCE 21.4: six words, the store's number first
pub record StoreCall : Type 0 where
  pub store : ℕ
  pub call : Call

abbrev pub store_call : ℕ → Call → StoreCall
store_call n x = record { store = n; call = x }

abbrev pub store_calls_of : List ℕ → List StoreCall
store_calls_of (s ∷ k ∷ a ∷ b ∷ c ∷ d ∷ ws) = store_call s (five k a b c d) ∷ store_calls_of ws
store_calls_of [] = []
store_calls_of (s ∷ []) = []
store_calls_of (s ∷ k ∷ []) = []
store_calls_of (s ∷ k ∷ a ∷ []) = []
store_calls_of (s ∷ k ∷ a ∷ b ∷ []) = []
store_calls_of (s ∷ k ∷ a ∷ b ∷ c ∷ []) = []

-- K, L, and the machine of each store from 1 to K
pub record Stores : Type 0 where
  pub count : ℕ
  pub limit : ℕ
  pub machine : ℕ → Machine

-- the costs of steps 1 to p of stores 1 to k
abbrev pub spent_by : ℕ → (ℕ → Machine) → ℕ
spent_by k f = sum_of (λ (i : ℕ). spent (f (suc i)).line) (range k)

-- REFERENCE 21.5: what is left of L to all stores
unfoldable pub joint_room : Stores → ℕ
joint_room s = s.limit - spent_by s.count s.machine

abbrev pub is_store : Stores → ℕ → Bool
is_store s n = within 1 s.count n

-- the machine of store n replaced
abbrev pub with : ℕ → Machine → Stores → Stores
with n m s = record { count = s.count; limit = s.limit; machine = λ k. (k == n) ⇒ m else s.machine k }

-- the call as its store's machine finds it
abbrev pub found : Stores → StoreCall → Posed
found s x = posed (joint_room s) x.call

-- REFERENCE 7.21: a number of no store has 21, before every other code of a call
unfoldable pub answer_in : Parameters → Stores → StoreCall → Answer
answer_in w s x = is_store s x.store ⇒ answer_at w (s.machine x.store) (found s x) else refuses 21

-- REFERENCE 21.7: a call is its own store's; the others stay
unfoldable pub step_in : Parameters → Stores → StoreCall → Stores
step_in w s x = is_store s x.store ⇒ with x.store (step_at w (s.machine x.store) (found s x)) s else s

unfoldable pub answers_in : Parameters → Stores → List StoreCall → List Answer
answers_in w s [] = []
answers_in w s (x ∷ xs) = answer_in w s x ∷ answers_in w (step_in w s x) xs

unfoldable pub last_in : Parameters → Stores → List StoreCall → Stores
last_in w s [] = s
last_in w s (x ∷ xs) = last_in w (step_in w s x) xs

-- ---- one store of the run

-- the calls of store n, each with the joint room before it
unfoldable pub calls_to : Parameters → ℕ → Stores → List StoreCall → List Posed
calls_to w n s [] = []
calls_to w n s (x ∷ xs) =
    (x.store == n) ⇒ (found s x ∷ calls_to w n (step_in w s x) xs) else calls_to w n (step_in w s x) xs

-- of the answers to calls, those to the calls of store n
abbrev pub of_store : ℕ → List StoreCall → List Answer → List Answer
of_store n [] bs = []
of_store n (x ∷ xs) [] = []
of_store n (x ∷ xs) (b ∷ bs) = (x.store == n) ⇒ (b ∷ of_store n xs bs) else of_store n xs bs

abbrev pub answers_to : Parameters → ℕ → Stores → List StoreCall → List Answer
answers_to w n s xs = of_store n xs (answers_in w s xs)

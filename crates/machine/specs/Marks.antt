-- When a mark stands and what going to it gives (REFERENCE 4.11, 4.12), told by the calls and answers so far.
use Rattle.std.specs.Prelude.{ℕ, ◌≡◌, ◌↔◌, Bool, true, false, not, ◌&&◌, List, [], ◌∷◌, ltb, ◌==◌}
use Rattle.lists.specs.Choice.{◌⇒◌else◌}
use Rattle.lists.specs.Lists.{any, ◌is◌}
use Rattle.graph.specs.Graph.{Graph}
use Rattle.history.specs.Machine.{Machine, at, distance, fresh, present}
use Rattle.commands.specs.Calls.{Call, five}
use Rattle.commands.specs.declared.Answer.{Answer}
use Rattle.machine.specs.Calls.{Parameters}
use Rattle.commands.specs.Kinds.{is_change}
use Rattle.machine.specs.Machine.{answer, step, last}

-- a call, its answer, and p and Gp as it begins
pub record Event : Type 0 where
  pub call : Call
  pub answer : Answer
  pub place : ℕ
  pub graph : Graph

abbrev pub event_of : Parameters → Machine → Call → Event
event_of w m x = record { call = x; answer = answer w m x; place = m.line.place; graph = present m }

-- what happened, in the order of the calls
unfoldable pub events : Parameters → Machine → List Call → List Event
events w m [] = []
events w m (x ∷ xs) = event_of w m x ∷ events w (step w m x) xs

-- kind 17 of mark k
abbrev pub call_sets : ℕ → Call → Bool
call_sets k x = (x.kind == 17) && (k == x.a)

-- the call was accepted, and set mark k
abbrev pub sets_mark : ℕ → Event → Bool
sets_mark k e = (e.answer.code == 0) && call_sets k e.call

-- whether an accepted call at place p, with the number n, ends mark k, which stands at q: k set anew or dropped, a
-- commit, or a change with p below q. A change that alters nothing has the number 0 and is not counted (REFERENCE
-- 3.11).
abbrev pub call_ends : ℕ → ℕ → ℕ → ℕ → Call → Bool
call_ends k q p n x =
    (x.kind is (17 ∷ 18 ∷ [])) ⇒ (k == x.a) else
    (x.kind == 22) ⇒ true else
    is_change x.kind ⇒ (not (n == 0) && ltb p q) else
    false

abbrev pub ends_mark : ℕ → ℕ → Event → Bool
ends_mark k q e = (e.answer.code == 0) && call_ends k q e.place e.answer.number e.call

-- an accepted call set mark k at place q, where the graph was g, and since then no call of these events ended it
pub data Kept (k q : ℕ) (g : Graph) : List Event → Type 0 where
  set_here : {e : Event} {es : List Event} →
      sets_mark k e ≡ true → e.place ≡ q → e.graph ≡ g → any (ends_mark k q) es ≡ false → Kept k q g (e ∷ es)
  set_later : {e : Event} {es : List Event} → Kept k q g es → Kept k q g (e ∷ es)

-- the call that goes to mark k; its other words are ignored
abbrev pub go_to : ℕ → ℕ → ℕ → ℕ → Call
go_to k b c d = five 21 k b c d

-- from the graph g on, the machine after the calls xs, and what happened until then
abbrev pub machine_after : Parameters → Graph → List Call → Machine
machine_after w g xs = last w (fresh g) xs

abbrev pub events_of : Parameters → Graph → List Call → List Event
events_of w g xs = events w (fresh g) xs

-- at the point after the calls xs
pub record MarkSentence (w : Parameters) (g : Graph) (xs : List Call) : Type 0 where
  -- a mark stands, with place q, exactly when a call set it there and it was kept since
  pub stands_iff : (k q : ℕ) → ((machine_after w g xs).marks k ≡ at q) ↔ ((h : Graph) × Kept k q h (events_of w g xs))
  -- going to it is accepted, gives the graph held when it was last set, and moves as many steps as lie between the
  -- places
  pub going : (k q : ℕ) (h : Graph) (b c d : ℕ) → Kept k q h (events_of w g xs) →
      ((answer w (machine_after w g xs) (go_to k b c d)).code ≡ 0)
      × (present (step w (machine_after w g xs) (go_to k b c d)) ≡ h)
      × ((answer w (machine_after w g xs) (go_to k b c d)).number ≡ distance (machine_after w g xs).line.place q)

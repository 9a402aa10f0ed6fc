-- A call of one of several stores that goes to a mark of it, and what that gives.
use Rattle.std.specs.Prelude.{ℕ, ◌≡◌, List}
use Rattle.graph.specs.Graph.{Graph}
use Rattle.history.specs.Machine.{Name, distance, present}
use Rattle.machine.specs.Calls.{Parameters}
use Rattle.machine.specs.Marks.{Event, Kept, go_to}
use Rattle.machine.specs.Names.{HasName, go_by}
use Rattle.machine.specs.Stores.{Stores, StoreCall, store_call, answer_in, step_in}

-- by what happened to store n, the call goes to a mark of it that stands at q since the graph was h: by its number, or
-- by its name
pub data ToMark (n : ℕ) (es : List Event) : StoreCall → ℕ → Graph → Type 0 where
  by_number : {k q : ℕ} {h : Graph} (b c d : ℕ) → Kept k q h es → ToMark n es (store_call n (go_to k b c d)) q h
  by_name : {k q : ℕ} {h : Graph} {t : Name} (c d : ℕ) → HasName k q h t es → ToMark n es (store_call n (go_by t c d)) q h

-- the call is accepted, gives its store the graph h, and moves as many steps as lie between that store's place and q
pub record GoesIn (w : Parameters) (s : Stores) (x : StoreCall) (q : ℕ) (h : Graph) : Type 0 where
  pub accepted : (answer_in w s x).code ≡ 0
  pub graph : present ((step_in w s x).machine x.store) ≡ h
  pub moved : (answer_in w s x).number ≡ distance (s.machine x.store).line.place q

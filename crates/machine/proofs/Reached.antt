-- A machine that calls have led to, each at parameters of its own, and what happened on the way. The sentences on marks,
-- names and benches hold of every such machine: of one store alone, and of one of several.
use mathlib.Core.List.{List, [], ◌∷◌}
use Rattle.history.specs.Machine.{Machine}
use Rattle.commands.specs.Calls.{Call}
use Rattle.machine.specs.Calls.{Parameters}
use Rattle.machine.specs.Machine.{step, last}
use Rattle.machine.specs.Marks.{Event, event_of, events}
use Rattle.machine.specs.Posed.{Posed, roomed, step_at, last_at, events_at}

pub data Reached : Machine → List Event → Machine → Type 0 where
  here : {m : Machine} → Reached m [] m
  by : {m n : Machine} {es : List Event} (w : Parameters) (x : Call) →
      Reached (step w m x) es n → Reached m (event_of w m x ∷ es) n

pub reached : (w : Parameters) (m : Machine) (xs : List Call) → Reached m (events w m xs) (last w m xs)
unfolding events last
reached w m [] = here
reached w m (x ∷ xs) = by w x (reached w (step w m x) xs)

pub reached_at : (w : Parameters) (m : Machine) (ys : List Posed) → Reached m (events_at w m ys) (last_at w m ys)
unfolding events_at last_at
reached_at w m [] = here
reached_at w m (y ∷ ys) = by (roomed w m y.room) y.call (reached_at w (step_at w m y) ys)

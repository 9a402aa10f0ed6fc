-- A call with the room that it finds beside its store's own, and lists of such calls on one store.
use Rattle.std.specs.Prelude.{ℕ, ◌+◌, min, List, [], ◌∷◌}
use Rattle.history.specs.Machine.{Machine, spent}
use Rattle.commands.specs.Calls.{Call}
use Rattle.commands.specs.declared.Answer.{Answer}
use Rattle.machine.specs.Calls.{Parameters}
use Rattle.machine.specs.Machine.{answer, step}
use Rattle.machine.specs.Marks.{Event, event_of}

-- a call, and how many changes are left to all stores before it: the joint room (REFERENCE 21.5)
pub record Posed : Type 0 where
  pub room : ℕ
  pub call : Call

abbrev pub posed : ℕ → Call → Posed
posed r x = record { room = r; call = x }

-- REFERENCE 21.6: the parameters that a call finds: its store has no more free changes than its own, and no more than
-- the joint room
abbrev pub roomed : Parameters → Machine → ℕ → Parameters
roomed w m r = record {
  rows = w.rows;
  vertices = w.vertices;
  edges = w.edges;
  changes = min w.changes (spent m.line + r);
}

abbrev pub answer_at : Parameters → Machine → Posed → Answer
answer_at w m y = answer (roomed w m y.room) m y.call

abbrev pub step_at : Parameters → Machine → Posed → Machine
step_at w m y = step (roomed w m y.room) m y.call

unfoldable pub answers_at : Parameters → Machine → List Posed → List Answer
answers_at w m [] = []
answers_at w m (y ∷ ys) = answer_at w m y ∷ answers_at w (step_at w m y) ys

unfoldable pub last_at : Parameters → Machine → List Posed → Machine
last_at w m [] = m
last_at w m (y ∷ ys) = last_at w (step_at w m y) ys

unfoldable pub events_at : Parameters → Machine → List Posed → List Event
events_at w m [] = []
events_at w m (y ∷ ys) = event_of (roomed w m y.room) m y.call ∷ events_at w (step_at w m y) ys

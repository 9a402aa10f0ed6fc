-- The room of a call: own free changes and joint room, and what going on takes of it.
use Prim.Native.Nat.{ℕ, ◌+◌, min, ◌≤◌, ◌<◌}
use mathlib.Core.Path.{◌≡◌}
use mathlib.Core.Bool.{true, false}
use native.Mathlib.Omega.{arith}
use borrow.Author.Tests.{le-ltb, lt-ltb}
use Rattle.history.specs.Machine.{Machine, costs, spent, onward}
use Rattle.history.proofs.Timelines.{costs_take}
use Rattle.machine.specs.Calls.{Parameters}
use Rattle.machine.specs.HistoryCodes.{too_far}
use Rattle.commands.specs.Calls.{five}
use Rattle.commands.specs.Commands.{command_of}
use Rattle.commands.specs.Answers.{accepts}
use Rattle.machine.specs.Codes.{free, refusal}
use Rattle.machine.specs.Machine.{answer_to}
use Rattle.machine.specs.Posed.{posed, roomed, answer_at}

module _ (w : Parameters) (m : Machine) where
  -- the room that a call finds is the least of the store's own and the joint
  pub free_roomed : (r : ℕ) → free (roomed w m r) m ≡ min (free w m) r
  unfolding free
  free_roomed r = omega arith

  -- kind 51 answers it
  pub free_answered : (r a b c d : ℕ) → answer_at w m (posed r (five 51 a b c d)) ≡ accepts (min (free w m) r)
  unfolding answer_to refusal command_of free
  free_answered r a b c d = let e = free_roomed r in λ i. accepts (e i)

  -- where the joint room is no less than the store's own, the call finds the parameters themselves
  pub roomed_is : (r : ℕ) → w.changes ≤ spent m.line + r → roomed w m r ≡ w
  roomed_is r h = let e : min w.changes (spent m.line + r) ≡ w.changes = omega arith in
      λ i. record { rows = w.rows; vertices = w.vertices; edges = w.edges; changes = e i }

  module _ (h : costs m.line.steps ≤ w.changes) (q : ℕ) where
    -- a store's own room is enough for all its steps
    pub own_reach : too_far w.changes m q ≡ false
    own_reach = le-ltb _ (onward q m.line) (omega (arith, h, costs_take q m.line.steps))

    pub near : (r : ℕ) → onward q m.line ≤ r → too_far (roomed w m r).changes m q ≡ false
    near r l = le-ltb _ (onward q m.line) (omega (arith, h, l, costs_take q m.line.steps))

  pub far : (q r : ℕ) → r < onward q m.line → too_far (roomed w m r).changes m q ≡ true
  far q r l = lt-ltb _ (onward q m.line) (omega (arith, l))

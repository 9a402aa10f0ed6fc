-- What it is that every order is within reach, over the plain machine.
use Rattle.std.specs.Prelude.{ℕ, ◌-◌, ◌≤◌, ◌≡◌, List}
use Rattle.lists.specs.Lists.{All}
use Rattle.graph.specs.Graph.{Graph}
use Rattle.history.specs.Machine.{Machine, present}
use Rattle.commands.specs.Calls.{Call}
use Rattle.commands.specs.declared.Answer.{Answer}
use Rattle.machine.specs.Calls.{Parameters}
use Rattle.machine.specs.Codes.{free}
use Rattle.machine.specs.Machine.{answers, last}

-- the calls are all accepted, the graph is then this one, and so many free changes at most are gone
pub record Reaches (w : Parameters) (m : Machine) (xs : List Call) (cost : ℕ) (g : Graph) : Type 0 where
  pub accepted : All (λ (a : Answer). a.code ≡ 0) (answers w m xs)
  pub reached : present (last w m xs) ≡ g
  pub left : free w m - cost ≤ free w (last w m xs)

use Prim.Native.Nat.{ℕ}
use mathlib.Core.List.{List}
use Rattle.graph.specs.Graph.{Graph}
use Rattle.history.specs.Machine.{Step}
use Rattle.timeline.specs.Steps.{Behind}
use Rattle.timeline.proofs.Counting.{Counted}
use Rattle.timeline.proofs.made_by.Given as goal

abbrev pub invariant-loop-p : goal.invariant-loop-p
invariant-loop-p l = (g : Graph) (ss : List Step) (u : ℕ) → Behind l.journal g ss l.high u → Counted l.journal g ss l.low l.high l.bench l.p l.row l.count

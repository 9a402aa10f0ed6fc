use Prim.Native.Nat.{ℕ, ◌+◌}
use mathlib.Core.Path.{◌≡◌}
use mathlib.Core.Bool.{false}
use mathlib.Core.List.{List}
use Rattle.graph.specs.Graph.{Graph}
use Rattle.history.specs.Machine.{Step}
use Rattle.timeline.specs.Steps.{Aims}
use Rattle.timeline.proofs.rows_on.Given as goal

abbrev pub invariant-loop : goal.invariant-loop
invariant-loop l =
    (l.ahead.left + l.counter ≡ l.steps)
    × ((g : Graph) → (ss : List Step) → (q : ℕ) → Aims l.journal g ss false q l.initial.ahead.end l.initial.ahead → Aims l.journal g ss false q l.ahead.end l.ahead)

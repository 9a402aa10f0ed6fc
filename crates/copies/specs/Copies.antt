-- The graphs that the steps of a list make, in the order in which they are made, and the copies of them.
use Rattle.std.specs.Prelude.{ℕ, suc, ◌*◌, List, [], ◌∷◌, ◌++◌, length, ◌==◌}
use Rattle.std.proofs.lemmas.List.Edits.{sets}
use Rattle.lists.specs.Choice.{◌⇒◌else◌, within}
use Rattle.lists.specs.Lists.{filter}
use Rattle.graph.specs.Graph.{Graph}
use Rattle.history.specs.Machine.{Machine}
use Rattle.image.specs.Image.{save, image_length}
use Rattle.commands.specs.Calls.{Call}
use Rattle.commands.specs.Commands.{command_of}
use Rattle.commands.specs.declared.Command.{Command}
use Rattle.machine.specs.Calls.{Parameters}
use Rattle.machine.specs.Codes.{refusal}
use Rattle.machine.specs.Rules.{Effect, steps, marks, unmarks, goes, names, benches, clears, nothing}
use Rattle.machine.specs.Machine.{deed_of, step}

-- the graph of a step
abbrev pub graph_of : Effect → List Graph
graph_of (steps s) = s.graph ∷ []
graph_of (marks n) = []
graph_of (unmarks n) = []
graph_of (goes p) = []
graph_of (names k n) = []
graph_of (benches b) = []
graph_of clears = []
graph_of nothing = []

-- the graph that a command makes, where it is accepted and a step
unfoldable pub graph_made : Parameters → Machine → Command → List Graph
unfolding refusal
graph_made w m c = (refusal w m c == 0) ⇒ graph_of (deed_of w c m).effect else []

-- the graphs after the 1st, 2nd, .. step made, steps that are cut later among them
unfoldable pub step_graphs : Parameters → Machine → List Call → List Graph
unfolding graph_made
step_graphs w m [] = []
step_graphs w m (x ∷ xs) = graph_made w m (command_of x) ++ step_graphs w (step w m x) xs

-- a stretch has room for the largest image that the capacities allow
abbrev pub stretch : Parameters → ℕ
stretch w = image_length w.vertices w.edges

-- each graph's words at the front of its stretch, from stretch k on
unfoldable pub recorded_from : ℕ → ℕ → List Graph → List ℕ → List ℕ
unfolding save
recorded_from size k [] copies = copies
recorded_from size k (g ∷ gs) copies = recorded_from size (suc k) gs (sets copies (size * k) (save g))

abbrev pub recorded : ℕ → List Graph → List ℕ → List ℕ
recorded size gs copies = recorded_from size 0 gs copies

-- the calls of kinds 1 to 16, accepted or not
abbrev pub changes_in : List Call → ℕ
changes_in xs = length (filter (λ x. within 1 16 x.kind) xs)

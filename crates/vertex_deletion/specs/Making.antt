-- A change as one step, edit by edit.
use Rattle.std.specs.Prelude.{ℕ, ◌+◌, ◌/◌, ◌≡◌, List, [], ◌∷◌, length, ◌==◌}
use Rattle.lists.specs.Choice.{◌⇒◌else◌}
use Rattle.lists.specs.Lists.{All}
use Rattle.graph.specs.declared.Edit.{Edit}
use Rattle.graph.specs.declared.Change.{Change}
use Rattle.graph.specs.declared.Change.TheVariants.{DeleteVertex}
use Rattle.graph.specs.Graph.{Graph}
use Rattle.graph.specs.WellFormed.{Bounds}
use Rattle.graph.specs.Changes.{changed, cost, Allowed}
use Rattle.graph.specs.Edits.{EditIn, apply}
use Rattle.graph.specs.Plans.{edits_of, apply_all, AppliesAll}
use Rattle.history.specs.Machine.{Timeline, present_in}
use Rattle.graph_tables.specs.Tables.{State, vfirst}
use Rattle.graph_tables.specs.Holds.{Holds}
use Rattle.graph_tables.specs.Capacities.{Sized}
use Rattle.tried_edits.specs.Plans.{plan_remove_vertex, plan_remove_edge}
use Rattle.journal.specs.Rows.{costing}
use Rattle.timeline.specs.declared.Position.{Position}
use Rattle.timeline.specs.Steps.{Open}

-- the tables hold a graph within bounds that has the vertex
abbrev pub Deletable : State → ℕ → Type 0
Deletable s a = (b : Bounds) × (g : Graph) × Sized b s × Holds s g × Allowed b g (DeleteVertex a)

-- what is left of a vertex's deletion begins with the first edge at it, or is the vertex
abbrev pub next_edit : State → ℕ → Edit
next_edit s a =
    (vfirst s.vertices a == 0) ⇒ plan_remove_vertex s.vertices a else plan_remove_edge s.edges
    (vfirst s.vertices a / 2)

-- the edits that are left: those of the change, made on what the ones before left, or none
pub data Rest (x : Change) (b : Bounds) (g : Graph) (es : List Edit) : Type 0 where
  some : Allowed b g x → es ≡ edits_of x g → Rest x b g es
  none : es ≡ [] → Rest x b g es

-- e is the first edit of the change
pub record FirstEdit (x : Change) (b : Bounds) (g : Graph) (e : Edit) : Type 0 where
  pub edits : List Edit
  pub all : edits_of x g ≡ e ∷ edits
  pub rest : Rest x b (apply e g) edits

-- where a step begins: bounds, position, tables and journal there, and the timeline that they stand for
pub record StepStart : Type 0 where
  pub bounds : Bounds
  pub position : Position
  pub state : State
  pub journal : List ℕ
  pub line : Timeline

abbrev pub step_start : Bounds → Position → State → List ℕ → Timeline → StepStart
step_start b j s t l = record { bounds = b; position = j; state = s; journal = t; line = l }

-- between two rows: the tables, the journal, and how many rows it has
pub record Stage : Type 0 where
  pub state : State
  pub journal : List ℕ
  pub used : ℕ

abbrev pub stage : State → List ℕ → ℕ → Stage
stage s t u = record { state = s; journal = t; used = u }

-- between the rows of the change: what is left makes the step's graph of the one that the tables hold, a row an edit
pub record Making (x : Change) (o : StepStart) (c : ℕ) (n : Stage) : Type 0 where
  pub graph : Graph
  pub holds : Holds n.state graph
  pub opened : Open o.bounds o.position o.state o.journal o.line (costing c) n.state n.journal
      n.used
  pub edits : List Edit
  pub rest : Rest x o.bounds graph edits
  pub applies : AppliesAll edits graph
  pub inside : All (EditIn o.bounds) edits
  pub makes : apply_all edits graph ≡ changed x (present_in o.line)
  pub rows : n.used + length edits ≡ o.position.used + cost x (present_in o.line)

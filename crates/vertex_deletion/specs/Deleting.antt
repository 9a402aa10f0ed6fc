-- The deletion of a vertex: its code, and what it leaves.
use Rattle.std.specs.Prelude.{ℕ, ◌≡◌, ◌≢◌, not, List, ltb}
use Rattle.lists.specs.Choice.{◌⇒◌else◌}
use Rattle.graph.specs.declared.Change.TheVariants.{DeleteVertex}
use Rattle.graph.specs.Graph.{Graph, has_vertex}
use Rattle.graph.specs.WellFormed.{Bounds}
use Rattle.graph.specs.Changes.{cost}
use Rattle.history.specs.Machine.{Timeline, present_in, extended, step_of}
use Rattle.journal.specs.Rows.{signed}
use Rattle.graph_tables.specs.Tables.{State}
use Rattle.tried_edits.specs.Tried.{Outcome}
use Rattle.timeline.specs.Current.{after_step}
use Rattle.timeline.specs.declared.Position.{Position}
use Rattle.timeline.specs.Steps.{Journal}

-- with so many free changes: REFERENCE 7.4, then 7.10
abbrev pub deletion_code : ℕ → ℕ → Graph → ℕ
deletion_code a free g = not (has_vertex g a) ⇒ 4 else ltb free (cost (DeleteVertex a) g) ⇒ 10 else 0

-- whatever timeline there was: the cost is that of the deletion, which is its next step once a bench signs it
pub record DeletionMade (a : ℕ) (j : Position) (s : State) (t : List ℕ) (o : Outcome) : Type 0 where
  pub costs : (b : Bounds) (l : Timeline) → Journal b j s t l → o.cost ≡ cost (DeleteVertex a) (present_in l)
  pub steps : (b : Bounds) (l : Timeline) → Journal b j s t l → (bench : ℕ)
      → Journal b (after_step j o.state.head o.cost).position o.state
      (signed j.used bench o.journal) (extended (step_of bench (DeleteVertex a) (present_in l)) l)

-- cost 0 says that it is refused and nothing was written
pub record Deletes (a free : ℕ) (j : Position) (s : State) (t : List ℕ) (o : Outcome) : Type 0 where
  pub coded : (b : Bounds) (l : Timeline) → Journal b j s t l → o.code ≡ deletion_code a free (present_in l)
  pub stays : o.cost ≡ 0 → (o.code ≢ 0) × (o.state ≡ s) × (o.journal ≡ t)
  pub made : o.cost ≢ 0 → (o.code ≡ 0) × DeletionMade a j s t o

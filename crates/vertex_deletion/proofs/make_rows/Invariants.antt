use Rattle.graph.specs.declared.Change.TheVariants.{DeleteVertex}
use Rattle.graph.specs.WellFormed.{Bounds}
use Rattle.graph.specs.Changes.{Allowed}
use Rattle.history.specs.Machine.{Timeline, present_in}
use Rattle.graph_tables.specs.Tables.{state_of, SameLoan}
use Rattle.timeline.specs.Steps.{Journal}
use Rattle.vertex_deletion.specs.Making.{step_start, stage, Making}
use Rattle.vertex_deletion.proofs.make_rows.Given as goal

abbrev pub invariant-loop-row : goal.invariant-loop-row
invariant-loop-row l =
    let j = l.fn.current.position in
    let s = state_of l.initial.head l.initial.tables in
    ((b : Bounds) (y : Timeline) → Allowed b (present_in y) (DeleteVertex l.a) → Journal b j s l.initial.journal y
    → Making (DeleteVertex l.a) (step_start b j s l.initial.journal y) l.rows (stage (state_of l.head l.tables) l.journal l.row))
    × SameLoan l.initial.tables l.tables

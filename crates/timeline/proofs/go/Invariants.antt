use Rattle.std.proofs.Common.{not, nat_eq}
use Rattle.graph_tables.specs.Tables.{state_of, SameLoan}
use Rattle.timeline.proofs.Going.{Going, rows_left}
use Rattle.timeline.proofs.go.Given as goal

abbrev pub invariant-loop-ahead : goal.invariant-loop-ahead
invariant-loop-ahead g l =
    Going l.journal (not (nat_eq g.row.BACK 0)) (state_of l.initial.head l.initial.tables) l.initial.u l.initial.ahead (state_of l.head l.tables) l.u l.ahead
    × SameLoan l.initial.tables l.tables

abbrev pub decreases-loop-ahead : goal.decreases-loop-ahead
decreases-loop-ahead g l = rows_left l.u l.ahead

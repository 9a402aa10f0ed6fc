use mathlib.Core.Path.{◌≡◌}
use mathlib.Core.List.{map}
use Rattle.image.specs.Image.{edge_record, load}
use Rattle.graph_tables.specs.Tables.{state_of, SameLoan}
use Rattle.image_tables.specs.Filling.{without_list}
use Rattle.image_tables.proofs.Fills.{Fill}
use Rattle.image_tables.proofs.FillOrders.{ECore}
use Rattle.image_tables.proofs.fill.edges.Given as goal

abbrev pub invariant-loop-record : goal.invariant-loop-record
invariant-loop-record l =
    goal.iterator-loop-record.can_next l.record-iterator × goal.iterator-loop-record.is_finite l.record-iterator × (l.record-iterator.size ≡ 6)
    × SameLoan l.initial.tables l.tables
    × Fill edge_record (ECore (map without_list (load l.words).vseq)) (load l.words).eseq l.record-iterator.rest.now (state_of l.head l.tables) 0

use mathlib.Core.Path.{◌≡◌}
use Rattle.image.specs.Image.{vertex_record, record_size, load}
use Rattle.graph_tables.specs.Tables.{state_of, SameLoan}
use Rattle.image_tables.proofs.Fills.{Fill}
use Rattle.image_tables.proofs.FillOrders.{VCore}
use Rattle.image_tables.proofs.fill.vertices.Given as goal

abbrev pub invariant-loop-record : goal.invariant-loop-record
invariant-loop-record l =
    goal.iterator-loop-record.can_next l.record-iterator × goal.iterator-loop-record.is_finite l.record-iterator × (l.record-iterator.size ≡ record_size l.words)
    × SameLoan l.initial.tables l.tables
    × Fill (vertex_record (record_size l.words)) VCore (load l.words).vseq l.record-iterator.rest.now (state_of l.head l.tables) 0

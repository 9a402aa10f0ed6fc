use Rattle.std.proofs.Common.{◌≡◌}
use Rattle.walks.specs.Walks.{counted_at}
use Rattle.walks.proofs.ListWalks.{Along, along_left}
use Rattle.walks.proofs.counting.count_edges.Given as goal

abbrev pub invariant-loop-cursor : goal.invariant-loop-cursor
invariant-loop-cursor l =
    (l.cursor.edges.now ≡ l.tables.edges.now)
    × Along (counted_at l.tables.edges.now) l.tables.vertices.now l.tables.edges.now l.v l.cursor.word l.n

abbrev pub decreases-loop-cursor : goal.decreases-loop-cursor
decreases-loop-cursor l = along_left l.tables.vertices.now l.tables.edges.now l.v l.cursor.word

use Rattle.std.proofs.Common.{◌≡◌, ◌%◌}
use Rattle.type_rows.specs.Closure.{bit_of}
use Rattle.walks.specs.Walks.{degree_one, side_number}
use Rattle.walks.proofs.ListWalks.{Along, along_left}
use Rattle.walks.proofs.counting.degree_from.Given as goal

abbrev pub invariant-loop-cursor : goal.invariant-loop-cursor
invariant-loop-cursor l =
    (l.cursor.edges.now ≡ l.tables.edges.now)
    × Along (degree_one (λ s. bit_of l.words s (l.t % 64)) (side_number l.side) l.tables.edges.now) l.tables.vertices.now l.tables.edges.now l.v l.cursor.word l.n

abbrev pub decreases-loop-cursor : goal.decreases-loop-cursor
decreases-loop-cursor l = along_left l.tables.vertices.now l.tables.edges.now l.v l.cursor.word

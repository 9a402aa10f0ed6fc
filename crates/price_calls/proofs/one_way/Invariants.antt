use mathlib.Core.Path.{◌≡◌}
use Rattle.walks.proofs.ListWalks.{along_left}
use Rattle.prices.specs.Prices.{last_tested}
use Rattle.price_calls.specs.Ways.{reading_to, way_at}
use Rattle.price_calls.proofs.Passes.{Stands, rest}
use Rattle.price_calls.proofs.one_way.Given as goal

abbrev pub invariant-loop-cursor : goal.invariant-loop-cursor
invariant-loop-cursor l = record {
  edges : l.cursor.edges.now ≡ l.tables.edges.now;
  stands : Stands l.tables.vertices.now l.tables.edges.now l.a l.cursor.word;
  decides : last_tested (reading_to l.tables.edges.now l.b) l.way (rest l.tables.vertices.now l.tables.edges.now l.a l.cursor.word)
      ≡ way_at l.tables.vertices.now l.tables.edges.now l.a l.b;
}

abbrev pub decreases-loop-cursor : goal.decreases-loop-cursor
decreases-loop-cursor l = along_left l.tables.vertices.now l.tables.edges.now l.a l.cursor.word

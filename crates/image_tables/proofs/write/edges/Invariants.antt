use mathlib.Core.Path.{◌≡◌}
use lib.ListN.{length}
use Rattle.graph_tables.specs.Tables.{edge_links}
use Rattle.image_tables.specs.Words.{edge_words}
use Rattle.image_tables.proofs.Walks.{Writing, left}
use Rattle.image_tables.proofs.write.edges.Given as goal

abbrev pub invariant-loop-e : goal.invariant-loop-e
invariant-loop-e l = (length l.out ≡ length l.initial.out) × Writing (edge_words l.edges) edge_links l.edges l.ends l.initial.out l.from l.out l.at l.e

abbrev pub decreases-loop-e : goal.decreases-loop-e
decreases-loop-e l = left edge_links l.edges l.ends l.e

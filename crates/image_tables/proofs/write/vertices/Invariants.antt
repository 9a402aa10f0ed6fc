use mathlib.Core.Path.{◌≡◌}
use lib.ListN.{length}
use Rattle.graph_tables.specs.Tables.{vertex_links}
use Rattle.image_tables.specs.Words.{vertex_words, list_words}
use Rattle.image_tables.proofs.Walks.{Pairs, left}
use Rattle.image_tables.proofs.write.vertices.Given as goal

abbrev pub invariant-loop-v : goal.invariant-loop-v
invariant-loop-v l =
    (length l.out ≡ length l.initial.out) × Pairs (vertex_words l.vertices l.edges) (list_words l.vertices l.edges) vertex_links l.vertices l.ends l.initial.out l.from l.behind l.out l.at l.to l.v

abbrev pub decreases-loop-v : goal.decreases-loop-v
decreases-loop-v l = left vertex_links l.vertices l.ends l.v

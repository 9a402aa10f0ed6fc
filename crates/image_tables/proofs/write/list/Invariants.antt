use mathlib.Core.Path.{◌≡◌}
use mathlib.Core.List.{[], ◌∷◌}
use lib.ListN.{length}
use Rattle.graph_tables.specs.Tables.{incidence_links}
use Rattle.image_tables.proofs.Walks.{Writing, left}
use Rattle.image_tables.proofs.write.list.Given as goal

abbrev pub invariant-loop-w : goal.invariant-loop-w
invariant-loop-w l = (length l.out ≡ length l.initial.out) × Writing (λ x. x ∷ []) incidence_links l.edges l.ends l.initial.out l.from l.out l.at l.w

abbrev pub decreases-loop-w : goal.decreases-loop-w
decreases-loop-w l = left incidence_links l.edges l.ends l.w

use mathlib.Core.Path.{sym, ◌∙◌}
use Rattle.change_codes.proofs.Meanings.{edge_means}
use Rattle.change_codes.proofs.check_edge.Goals as goal

pub returns-in_default-clause-of_graph : goal.returns-in_default-clause-of_graph
returns-in_default-clause-of_graph c = λ g h. ◌∙◌ (rw (sym c.find_edge.ensures ∙ c.in_default.is)) (edge_means _ g h c.args.e)

pub returns-clause-of_graph : goal.returns-clause-of_graph
returns-clause-of_graph c = λ g h. ◌∙◌ (rw (sym c.find_edge.ensures ∙ c.in-Found.is)) (edge_means _ g h c.args.e)

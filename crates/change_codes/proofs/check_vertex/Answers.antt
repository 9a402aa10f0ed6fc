use mathlib.Core.Path.{sym, ◌∙◌}
use Rattle.change_codes.proofs.Meanings.{vertex_means}
use Rattle.change_codes.proofs.check_vertex.Goals as goal

pub returns-in_default-clause-of_graph : goal.returns-in_default-clause-of_graph
returns-in_default-clause-of_graph c = λ g h. ◌∙◌ (rw (sym c.find_vertex.ensures ∙ c.in_default.is)) (vertex_means _ g h c.args.v)

pub returns-clause-of_graph : goal.returns-clause-of_graph
returns-clause-of_graph c = λ g h. ◌∙◌ (rw (sym c.find_vertex.ensures ∙ c.in-Found.is)) (vertex_means _ g h c.args.v)

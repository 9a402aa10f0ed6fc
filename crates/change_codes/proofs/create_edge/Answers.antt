use mathlib.Core.Path.{◌∙◌}
use Rattle.std.proofs.Common.{arith}
use Rattle.std.proofs.lemmas.Grind.{common_steps}
use Rattle.change_codes.proofs.Meanings.{create_edge_means}
use Rattle.change_codes.proofs.create_edge.Goals as goal

pub returns-in_default-clause-of_graph : goal.returns-in_default-clause-of_graph
returns-in_default-clause-of_graph c = let a = c.args in λ g h. grind (arith, common_steps) ∙ create_edge_means _ _ g h a.types a.n a.x a.y a.t

pub returns-in_err-check_vertices-clause-of_graph :
    goal.returns-in_err-check_vertices-clause-of_graph
returns-in_err-check_vertices-clause-of_graph c = let a = c.args in λ g h. grind (arith, common_steps) ∙ create_edge_means _ _ g h a.types a.n a.x a.y a.t

pub returns-clause-of_graph : goal.returns-clause-of_graph
returns-clause-of_graph c = let a = c.args in λ g h. grind (arith, common_steps) ∙ create_edge_means _ _ g h a.types a.n a.x a.y a.t

use mathlib.Core.Path.{◌∙◌}
use Rattle.std.proofs.Common.{arith}
use Rattle.std.proofs.lemmas.Grind.{common_steps}
use Rattle.change_codes.proofs.Meanings.{create_vertex_means}
use Rattle.change_codes.proofs.create_vertex.Goals as goal

pub returns-in_default-clause-of_graph : goal.returns-in_default-clause-of_graph
returns-in_default-clause-of_graph c = let a = c.args in λ g h. grind (arith, common_steps) ∙ create_vertex_means _ g h a.types a.n a.t

pub returns-clause-of_graph : goal.returns-clause-of_graph
returns-clause-of_graph c = let a = c.args in λ g h. grind (arith, common_steps) ∙ create_vertex_means _ g h a.types a.n a.t

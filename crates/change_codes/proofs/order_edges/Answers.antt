use mathlib.Core.Path.{◌∙◌}
use Rattle.std.proofs.Common.{arith}
use Rattle.std.proofs.lemmas.Grind.{common_steps}
use Rattle.change_codes.proofs.Meanings.{edges_then}
use Rattle.change_codes.proofs.order_edges.Goals as goal

pub returns-in_err-check_edges-clause-of_graph : goal.returns-in_err-check_edges-clause-of_graph
returns-in_err-check_edges-clause-of_graph c = λ g h. grind (arith, common_steps) ∙ edges_then _ g h c.args.x c.args.y _

pub returns-clause-of_graph : goal.returns-clause-of_graph
returns-clause-of_graph c = λ g h. grind (arith, common_steps) ∙ edges_then _ g h c.args.x c.args.y _

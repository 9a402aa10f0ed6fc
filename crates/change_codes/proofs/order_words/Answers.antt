use mathlib.Core.Path.{sym, ap, ◌∙◌}
use Rattle.std.proofs.Common.{arith}
use Rattle.std.proofs.lemmas.Grind.{common_steps}
use Rattle.commands.specs.Refusals.{code_if_refused}
use Rattle.change_codes.proofs.Meanings.{words_then, words_in}
use Rattle.change_codes.proofs.order_words.Goals as goal

pub returns-in_err-check_words-clause-of_graph : goal.returns-in_err-check_words-clause-of_graph
returns-in_err-check_words-clause-of_graph c = λ g h. grind (arith, common_steps) ∙ words_then _ g h c.args.x c.args.y _

pub half_field-requires : goal.half_field-requires
half_field-requires c = ((words_in _ c.args.x c.args.y (ap code_if_refused (sym c.in_ok-check_words.was) ∙ c.check_words.ensures)).0, omega arith)

pub half_field-requires-2 : goal.half_field-requires-2
half_field-requires-2 c = ((words_in _ c.args.x c.args.y (ap code_if_refused (sym c.in_ok-check_words.was) ∙ c.check_words.ensures)).1, omega arith)

pub returns-in_err-refuse_if-clause-of_graph : goal.returns-in_err-refuse_if-clause-of_graph
returns-in_err-refuse_if-clause-of_graph c = λ g h. grind (arith, common_steps) ∙ words_then _ g h c.args.x c.args.y _

pub returns-clause-of_graph : goal.returns-clause-of_graph
returns-clause-of_graph c = λ g h. grind (arith, common_steps) ∙ words_then _ g h c.args.x c.args.y _

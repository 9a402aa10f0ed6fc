use mathlib.Core.Path.{◌∙◌}
use Rattle.question_calls.proofs.reply.Goals as goal

pub returns : goal.returns
returns c = λ g rows b z h e i. c.from.ensures ∙ c.number_of.ensures g rows b z h e i

use Rattle.std.proofs.Common.{rules}
use Rattle.text.specs.Writing.{answer_line}
use Rattle.text.proofs.writing.answer.Goals as goal

pub line-requires : goal.line-requires
unfolding answer_line
line-requires c = search rules

pub line-requires-else-code-eq0 : goal.line-requires-else-code-eq0
unfolding answer_line
line-requires-else-code-eq0 c = search rules

pub returns-then-code-eq0 : goal.returns-then-code-eq0
unfolding answer_line
returns-then-code-eq0 c = search rules

pub returns-else-code-eq0 : goal.returns-else-code-eq0
unfolding answer_line
returns-else-code-eq0 c = search rules

use Rattle.std.proofs.Common.{rules}
use Rattle.text.specs.Scan.{rest_in, line_ended}
use Rattle.text.proofs.line.Lines.end.Goals as goal

pub returns-then-not-is_blank : goal.returns-then-not-is_blank
unfolding rest_in line_ended
returns-then-not-is_blank c = search rules

pub returns-else-not-is_blank : goal.returns-else-not-is_blank
unfolding rest_in line_ended
returns-else-not-is_blank c = search rules

use Rattle.std.proofs.Common.{rules}
use Rattle.text.specs.Scan.{byte_in, newline_in, line_ended}
use Rattle.text.proofs.line.Lines.push.Goals as goal

pub returns-then-byte-eq10 : goal.returns-then-byte-eq10
unfolding byte_in newline_in line_ended
returns-then-byte-eq10 c = search rules

pub returns-else-byte-eq10 : goal.returns-else-byte-eq10
unfolding byte_in newline_in line_ended
returns-else-byte-eq10 c = search rules

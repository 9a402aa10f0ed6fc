use Rattle.std.proofs.Common.{rules}
use Rattle.text.specs.Scan.{line_in}
use Rattle.text.proofs.line.Line.with_byte.Goals as goal

pub returns-then-byte-eq32 : goal.returns-then-byte-eq32
unfolding line_in
returns-then-byte-eq32 c = search rules

pub returns : goal.returns
unfolding line_in
returns c = search rules

use Rattle.std.proofs.Common.{rules}
use Rattle.text.specs.Scan.{space_in}
use Rattle.text.proofs.line.Line.with_space.Goals as goal

pub returns-then-self-lt4 : goal.returns-then-self-lt4
unfolding space_in
returns-then-self-lt4 c = search rules

pub returns-else-is_value : goal.returns-else-is_value
unfolding space_in
returns-else-is_value c = search rules

use Rattle.std.proofs.Common.{rules}
use Rattle.text.specs.ImageLine.{field_in}
use Rattle.text.proofs.number.Number.after_in_line.Goals as goal

pub returns-then-byte-ne32 : goal.returns-then-byte-ne32
unfolding field_in
returns-then-byte-ne32 c = search rules

pub returns-then-is_value : goal.returns-then-is_value
unfolding field_in
returns-then-is_value c = search rules

pub returns-else-is_value : goal.returns-else-is_value
unfolding field_in
returns-else-is_value c = search rules

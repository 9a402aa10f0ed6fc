use Rattle.std.proofs.Common.{rules}
use Rattle.text.specs.Scan.{digit_in}
use Rattle.text.proofs.number.Number.with_byte.Goals as goal

pub returns-then-is_ascii_digit : goal.returns-then-is_ascii_digit
unfolding digit_in
returns-then-is_ascii_digit c = search rules

pub returns-else-is_ascii_digit : goal.returns-else-is_ascii_digit
unfolding digit_in
returns-else-is_ascii_digit c = search rules

use Rattle.std.proofs.Common.{rules}
use Rattle.text.specs.Scan.{number_after}
use Rattle.text.proofs.number.Number.after.Goals as goal

pub returns-then-ends_field : goal.returns-then-ends_field
unfolding number_after
returns-then-ends_field c = search rules

pub returns-else-ends_field : goal.returns-else-ends_field
unfolding number_after
returns-else-ends_field c = search rules

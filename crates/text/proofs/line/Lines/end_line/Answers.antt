use Rattle.std.proofs.Common.{rules}
use Rattle.text.specs.Scan.{line_ended, bad_after}
use Rattle.text.proofs.line.Lines.end_line.Goals as goal

pub returns : goal.returns
unfolding line_ended bad_after
returns c = search rules

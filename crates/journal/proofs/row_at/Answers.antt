use native.Mathlib.Omega.{arith}
use mathlib.Core.Path.{ap, ◌∙◌}
use Rattle.journal.specs.Rows.{turned, row_at}
use Rattle.journal.proofs.RowLaws.{part_edit}
use Rattle.journal.proofs.row_at.Goals as goal

pub returns : goal.returns
unfolding row_at
returns c = c.decode.ensures ∙ ap (turned c.args.back) (part_edit c.args.journal.now _ _ (omega arith))

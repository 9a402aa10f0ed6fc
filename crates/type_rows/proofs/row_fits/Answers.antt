-- `type_rows::row_fits` meets its contract.
use Rattle.type_rows.proofs.RowLaws.{shift_fits}
use Rattle.type_rows.proofs.row_fits.Goals as goal

pub returns-else-n-eq64 : goal.returns-else-n-eq64
returns-else-n-eq64 c = shift_fits c.args.n c.args.row

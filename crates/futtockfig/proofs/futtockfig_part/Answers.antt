use mathlib.Core.Path.{ap}
use lib.ListN.{length}
use Rattle.futtockfig.proofs.futtockfig_part.Goals as goal

pub returns : goal.returns
returns c = (c.part_start-offset.ensures, ap length c.part.ensures.0)

use mathlib.Core.Path.{◌≡◌}
use lib.ListN.{take}
use Rattle.journal.specs.Rows.{store_from}
use Rattle.journal.proofs.put_row.Given as goal

abbrev pub invariant-loop-i : goal.invariant-loop-i
invariant-loop-i l = l.journal ≡ store_from l.start (take l.i l.fn.words) l.initial.journal

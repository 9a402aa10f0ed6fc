-- `lists::numbers::choose` meets its contract.
use Rattle.lists.proofs.Picks.{pick_yes, pick_no}
use Rattle.std.proofs.Common.{sym}
use Rattle.lists.proofs.numbers.choose.Goals as goal

pub returns-then-m-n : goal.returns-then-m-n
returns-then-m-n c = sym (pick_yes _ _ _ _ c.if-m-n.true)

pub returns-else-m-n : goal.returns-else-m-n
returns-else-m-n c = sym (pick_no _ _ _ _ c.if-m-n.false)

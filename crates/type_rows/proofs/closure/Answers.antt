-- `type_rows::closure` meets its contract.
use Rattle.std.proofs.Common.{sym, ◌∙◌}
use Rattle.type_rows.proofs.Closing.{closure_good, closure_bad}
use Rattle.type_rows.proofs.closure.Goals as goal

pub returns-then-are_good : goal.returns-then-are_good
returns-then-are_good c = c.closed.ensures ∙ sym (closure_good _ (sym c.if-are_good.ensures.value))

pub returns-else-are_good : goal.returns-else-are_good
returns-else-are_good c = sym (closure_bad _ (sym c.if-are_good.ensures.value))

use Rattle.std.proofs.Common.{sym, ◌∙◌}
use Rattle.copies.proofs.RoleLaws.{other_role_lem, change_role}
use Rattle.copies.proofs.role_of.Goals as goal

pub returns-then-is_change : goal.returns-then-is_change
returns-then-is_change c = change_role _ _ _ _ _ (sym c.is_change.ensures ∙ c.if-is_change.true)

pub returns-else-is_change : goal.returns-else-is_change
returns-else-is_change c = c.other_role.ensures ∙ other_role_lem _ _ _ _ _ (sym c.is_change.ensures ∙ c.if-is_change.false)

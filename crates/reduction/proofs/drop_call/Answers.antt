use mathlib.Core.Path.{◌∙◌, refl}
use Rattle.reduction.proofs.ListLaws.{moved_down}
use Rattle.reduction.proofs.drop_call.Goals as goal

pub returns : goal.returns
returns c = c.copy_within.ensures.after ∙ moved_down _ _ _ c.requires refl

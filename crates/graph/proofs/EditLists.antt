-- Edits one after another.
use mathlib.Core.Path.{◌≡◌, refl}
use mathlib.Core.Bool.{true}
use mathlib.Core.List.{List, [], ◌∷◌, ◌++◌}
use Rattle.lists.specs.Lists.{All, more}
use Rattle.graph.specs.declared.Edit.{Edit}
use Rattle.graph.specs.Graph.{Graph}
use Rattle.graph.specs.WellFormed.{Bounds, well_formed, WellFormed, Within}
use Rattle.graph.specs.Edits.{apply, EditIn}
use Rattle.graph.specs.Plans.{apply_all, AppliesAll}
use Rattle.graph.proofs.Keeps.{keeps_formed}
use Rattle.graph.proofs.EditBounds.{keeps_within, keeps}

pub apply_append : (es fs : List Edit) (g : Graph) → apply_all (es ++ fs) g ≡ apply_all fs (apply_all es g)
apply_append [] fs g = refl
apply_append (e ∷ es) fs g = apply_append es fs (apply e g)

pub applies_append : (es fs : List Edit) (g : Graph) → AppliesAll es g → AppliesAll fs (apply_all es g) → AppliesAll (es ++ fs) g
applies_append [] fs g h i = i
applies_append (e ∷ es) fs g h i = (h.0, applies_append es fs (apply e g) h.1 i)

pub all_formed : (es : List Edit) (g : Graph) → AppliesAll es g → WellFormed g → WellFormed (apply_all es g)
all_formed [] g h w = w
all_formed (e ∷ es) g h w = all_formed es (apply e g) h.1 (keeps_formed e g h.0 w)

module _ (b : Bounds) where
  pub all_within : (es : List Edit) (g : Graph) → AppliesAll es g → All (EditIn b) es → Within b g → Within b (apply_all es g)
  all_within [] g h i w = w
  all_within (e ∷ es) g h (more i is) w = all_within es (apply e g) h.1 is (keeps_within b e g h.0 i w)

  pub keeps_all : (es : List Edit) (g : Graph) → well_formed b g ≡ true → AppliesAll es g → All (EditIn b) es → well_formed b (apply_all es g) ≡ true
  keeps_all [] g w h i = w
  keeps_all (e ∷ es) g w h (more i is) = keeps_all es (apply e g) (keeps b e g w h.0 i) h.1 is

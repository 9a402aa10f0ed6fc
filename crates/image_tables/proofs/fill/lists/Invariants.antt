use mathlib.Core.List.{[], ◌∷◌}
use Rattle.lists.specs.Lists.{concat_map}
use Rattle.image.specs.Image.{incidences_of, load}
use Rattle.graph_tables.specs.Tables.{state_of, SameLoan}
use Rattle.image_tables.proofs.Fills.{Fill}
use Rattle.image_tables.proofs.FillLists.{WCore}
use Rattle.image_tables.proofs.fill.lists.Given as goal

abbrev pub invariant-loop-w : goal.invariant-loop-w
invariant-loop-w l =
    SameLoan l.initial.tables l.tables
    × Fill (λ x. x ∷ []) (WCore (load l.words)) (concat_map incidences_of (load l.words).vseq) l.w-items (state_of l.fn.head l.tables) l.w-index

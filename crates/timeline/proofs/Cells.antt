-- A `Current` in memory: its cell beside what it owns. It serves a proof by hand of what lends a local of this type; there is none today.
use Prim.Native.Nat.{ℕ}
use mathlib.Core.List.{[], ◌∷◌, List}
use seplogic.Ra.Ura.{Ura}
use base.Fraction.{full_share}
use mir.Val.{Val}
use base.Logic.{SProp, ent, sep, ex}
use base.Fml.{fsep}
use types.Logic.{Logic, sem}
use types.Kit.{‵, ◌$◌, ◌∵◌, !, qed, fsplit, fjoin, fpick, fpack, frame, show, done}
use denote.Memory.{mem, cell_at, part_of}
use Rattle.timeline.specs.declared.Current.{Current}
use Rattle.timeline.specs.contracts.Current as T

module _ {M : Type 1} {𝓤 : Ura M} (𝓛 : Logic 𝓤) (h : Current) (b : ℕ) where
  abbrev pub Cell : List Val → SProp 𝓤
  Cell vs = sep 𝓤 (sem 𝓛 (cell_at full_share (T.the_row).mir vs b 0)) (sem 𝓛 ((T.the_row).own_val h vs))

  pub lies_in : (vs : List Val) → ent 𝓤 (Cell vs) (sem 𝓛 ((mem T.the_row).own_at h b 0))
  unfolding part_of
  lies_in vs = qed 𝓛 (‵ (cell_at full_share (T.the_row).mir vs b 0) ∷ ‵ ((T.the_row).own_val h vs) ∷ []) ∵ fjoin ! $
      fpack ! (List Val) (λ us. fsep (cell_at full_share (T.the_row).mir us b 0) ((T.the_row).own_val h us)) vs $ done !

  pub lies_out : ent 𝓤 (sem 𝓛 ((mem T.the_row).own_at h b 0)) (ex 𝓤 Cell)
  unfolding part_of
  lies_out = qed 𝓛 (‵ ((mem T.the_row).own_at h b 0) ∷ []) ∵ fpick ! (λ vs. fsplit ! $ show ! Cell vs $ frame ! $ done !)

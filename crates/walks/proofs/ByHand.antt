-- What walks by hand share, of which there is none today: the type of `Cursor` over a signature's one lifetime, and what a callee's `ensures` tells.
use seplogic.Ra.Ura.{Ura}
use base.Logic.{ent, via, snd∗, ex_e}
use types.Logic.{Logic, sem}
use contract.Lifetimes.{Lfts}
use contract.Monad.{fact}
use denote.RattleType.{RattleType}
use denote.Signature.{named_lft}
use denote.Struct.Declared.{Declared}
use denote.Struct.Laws as LL
use denote.Triple.Clauses.{Ended, Clauses, Lasts, at_exit, lasts, ensured}
use denote.Triple.Entry.{Args, Res}
use Rattle.walks.specs.contracts.cursor.Cursor as T
use Rattle.walks.proofs.cursor.Cursor.TheLaws as T'

-- what the struct owns and how it stands in memory
abbrev pub Row : Lfts 1 → RattleType
Row κs = T.the_row (named_lft 1 0 tt κs)

-- the same as its declaration, with the laws of that
abbrev pub Shape : Lfts 1 → Declared
Shape κs = T.the_type (named_lft 1 0 tt κs)

abbrev pub laws : (κs : Lfts 1) → LL.Laws (Shape κs)
laws κs = T'.the_laws (named_lft 1 0 tt κs)

-- of a callee that is lent nothing by `&mut`, the clause alone: what is said of last values is dropped
pub told : {M : Type 1} {𝓤 : Ura M} (𝓛 : Logic 𝓤) (E : Ended) (c : Clauses 𝓤 E) (κs : Lfts E.signature.lifetimes) (a : Args E.signature κs) (g : (c κs a).ghost)
    (r : Res E.signature κs) (φ : Type 0)
    → ((ws : Lasts E κs a) → ent 𝓤 ((c κs a).ensures g r (at_exit E κs a ws)) (fact 𝓤 φ)) → ent 𝓤 (ensured 𝓛 E c κs a g r) (fact 𝓤 φ)
told {𝓤 = 𝓤} 𝓛 E c κs a g r φ e = ex_e 𝓤 _ (λ ws. via 𝓤 _ (snd∗ 𝓤 (sem 𝓛 (lasts E κs a ws)) ((c κs a).ensures g r (at_exit E κs a ws))) (e ws))

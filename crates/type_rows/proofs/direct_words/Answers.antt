-- `type_rows::direct_words` meets its contract.
use mathlib.Core.Path.{refl, sym}
use native.Mathlib.Omega.{arith}
use lib.ListN.{length, get_or-replicate}
use Rattle.type_rows.specs.Types.{below_by}
use Rattle.type_rows.proofs.RowLaws.{good_facts}
use Rattle.type_rows.proofs.Closing.{fill_start, fill_turn, fill_end, direct_word, no_type}
use Rattle.type_rows.proofs.direct_words.Goals as goal

pub loop-s-init : goal.loop-s-init
loop-s-init c = ((good_facts _ c.requires).few, fill_start _ _ _ refl (λ i h. get_or-replicate 64 i 0 0 h))

pub loop-s-preserved : goal.loop-s-preserved
loop-s-preserved c =
    let l = c.loop-s in
    (l.invariant.0, fill_turn _ _ _ _ _ (omega arith) (direct_word _ _ c.requires (omega arith)) l.invariant.1)

pub returns : goal.returns
returns c =
    let rows = c.args.rows.now in
    fill_end (length rows) (below_by rows 0) _ _ _ (omega arith) (λ i h. sym (no_type rows 0 i h)) c.loop-s.invariant.1

use Prim.Native.Nat.{◌+◌, ◌-◌}
use mathlib.Core.Path.{ap, ◌∙◌}
use mathlib.Core.List.{[], ◌∷◌}
use native.Mathlib.Omega.{arith}
use lib.Seq.{sets}
use borrow.Rule.Slice.PartMut.{put_mid}
use Rattle.image_tables.proofs.Stores.{copied}
use Rattle.image_tables.proofs.write.edge.Goals as goal

pub returns : goal.returns
returns c =
    let a = c.args in
    let w = c.edge_fields-w in
    let r = w.result in
    ap (put_mid a.at (a.at + 6 - a.at) a.out.now) c.copy_from_slice.ensures.after
    ∙ copied a.out.now (a.e ∷ r.alpha ∷ r.omega ∷ r.sort ∷ r.kind ∷ r.decimetres ∷ []) a.at (a.at + 6 - a.at) (omega (arith, c.requires.1)) (omega arith)
    ∙ (λ i. sets a.out.now a.at (a.e ∷ (w.ensures i).alpha ∷ (w.ensures i).omega ∷ (w.ensures i).sort ∷ (w.ensures i).kind ∷ (w.ensures i).decimetres ∷ []))

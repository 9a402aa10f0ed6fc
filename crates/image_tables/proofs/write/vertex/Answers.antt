use Prim.Native.Nat.{◌+◌, ◌-◌}
use mathlib.Core.Path.{◌≡◌, ap, ◌∙◌}
use mathlib.Core.List.{[], ◌∷◌}
use native.Mathlib.Omega.{arith}
use lib.ListN.{length}
use lib.Seq.{sets}
use borrow.Rule.Slice.PartMut.{put_mid}
use Rattle.image_tables.specs.Words.{list_words}
use Rattle.image_tables.proofs.Stores.{copied}
use Rattle.image_tables.proofs.write.vertex.Goals as goal

pub returns : goal.returns
returns c =
    let a = c.args in
    let e = c.list-end.ensures in
    let degree : c.list-end.result - a.to ≡ length (list_words a.vertices.now a.edges.now a.v) = omega (arith, e.1, c.requires.4) in (
      ap (put_mid a.at (a.at + 4 - a.at) c.list-end.new.out) c.copy_from_slice.ensures.after
          ∙ copied c.list-end.new.out (a.v ∷ c.vertex_field-sort.result ∷ c.vertex_field-value.result ∷ (c.list-end.result - a.to) ∷ []) a.at (a.at + 4 - a.at)
          (omega (arith, c.requires.2, c.requires.3, c.list-end.auto)) (omega arith)
          ∙ (λ i. sets (e.0 i) a.at (a.v ∷ c.vertex_field-sort.ensures i ∷ c.vertex_field-value.ensures i ∷ degree i ∷ [])),
      e.1,
    )

use Rattle.std.proofs.Common.{◌*◌}
use Rattle.image.specs.Image.{save}
use Rattle.copies.proofs.CopyLaws.{part_put, saved_small}
use Rattle.copies.proofs.keep.Goals as goal

pub returns : goal.returns
returns c =
    let a = c.args in
    λ g h. part_put a.copies.now (a.size * a.count) a.size (save g) _ c.requires.1 (saved_small _ g a.size c.requires.0 h) (c.save.ensures g h).0

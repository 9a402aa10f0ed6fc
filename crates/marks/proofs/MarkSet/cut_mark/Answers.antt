use mathlib.Core.Path.{◌≡◌, refl}
use mathlib.Core.Bool.{true}
use borrow.Author.Tests.{lt-ltb}
use lib.Dec.{ltb}
use Rattle.marks.specs.Marked.{place_in}
use Rattle.marks.proofs.MarkLaws.{in_marks, in_range, without_is}
use Rattle.marks.proofs.MarkSet.cut_mark.Goals as goal

pub returns : goal.returns
returns c =
    let s = c in
    let w = in_range s.args.self.bits s.args.a s.requires.1 in
    let v : ltb s.args.p (place_in s.args.words.now s.args.a) ≡ true =
    rw (in_marks s.args.a w.0 w.1) (lt-ltb _ _ c.if-words-k.false) in
    rw v (without_is s.args.self.bits s.args.a _ s.requires.1 refl)

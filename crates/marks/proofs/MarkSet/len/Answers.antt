use mathlib.Core.Path.{refl}
use Rattle.marks.proofs.MarkLaws.{count_is}
use Rattle.marks.proofs.MarkSet.len.Goals as goal

pub returns : goal.returns
returns c = record { value = refl; by_index = λ places ms h. count_is ms c.args.self.bits places h }

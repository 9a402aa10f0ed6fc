use mathlib.Core.Path.{refl}
use Rattle.marks.proofs.MarkLaws.{none_marked}
use Rattle.marks.proofs.MarkSet.none.Goals as goal

pub returns : goal.returns
returns c = record { value = refl; by_index = λ places e. none_marked places e }

use Prim.Native.Nat.{◌/◌, ◌^◌}
use mathlib.Core.Path.{◌≡◌}
use Rattle.marks.specs.Marked.{binary}
use Rattle.marks.proofs.MarkLaws.{cut_to}
use Rattle.marks.proofs.MarkSet.cut.Given as goal

abbrev pub invariant-loop-left : goal.invariant-loop-left
invariant-loop-left l = (l.left ≡ l.fn.self.bits / 2 ^ l.a) × (l.set.bits ≡ binary 64 1 (cut_to l.a l.p l.words l.fn.self.bits))

abbrev pub decreases-loop-left : goal.decreases-loop-left
decreases-loop-left l = l.left

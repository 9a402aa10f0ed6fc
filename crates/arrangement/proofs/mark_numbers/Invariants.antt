use Prim.Native.Nat.{ℕ, ◌*◌}
use mathlib.Core.Path.{◌≡◌}
use lib.ListN.{length}
use Rattle.image.specs.Image.{numbers_in}
use Rattle.arrangement.specs.Scratch.{marked}
use Rattle.arrangement.proofs.mark_numbers.Given as goal

abbrev pub invariant-loop-record : goal.invariant-loop-record
invariant-loop-record l =
    goal.iterator-loop-record.can_next l.record-iterator × goal.iterator-loop-record.is_finite l.record-iterator × (l.record-iterator.size ≡ l.size)
    × ((count : ℕ) → l.size * count ≡ length l.part → (left : ℕ) × (l.size * left ≡ length l.record-iterator.rest.now)
    × (marked (numbers_in l.size left l.record-iterator.rest.now) l.items ≡ marked (numbers_in l.size count l.part) l.initial.items))

use Prim.Native.Nat.{ℕ, ◌+◌, ◌-◌, ◌*◌}
use mathlib.Core.Path.{◌≡◌}
use lib.ListN.{length}
use Rattle.comparison.specs.Walks.{noted}
use Rattle.comparison.proofs.note.Given as goal

abbrev pub invariant-loop-i : goal.invariant-loop-i
invariant-loop-i l =
    goal.iterator-loop-i.can_next l.i-iterator × goal.iterator-loop-i.is_finite l.i-iterator × (l.i-iterator.iter.size ≡ 6)
    × (6 * l.i-iterator.count + length l.i-iterator.iter.rest.now ≡ length l.part)
    × ((count : ℕ) → 6 * count ≡ length l.part →
    (6 * (count - l.i-iterator.count) ≡ length l.i-iterator.iter.rest.now)
    × (noted l.places l.i-iterator.count (count - l.i-iterator.count) l.i-iterator.iter.rest.now ≡ noted l.initial.places 0 count l.part))

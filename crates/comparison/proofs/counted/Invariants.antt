use Prim.Native.Nat.{ℕ, ◌+◌, ◌*◌, ◌≤◌}
use mathlib.Core.Path.{◌≡◌}
use lib.ListN.{length}
use Rattle.comparison.specs.Comparison.{matches, alike}
use Rattle.comparison.specs.Walks.{paired_from}
use Rattle.comparison.proofs.counted.Given as goal

abbrev pub invariant-loop-record : goal.invariant-loop-record
invariant-loop-record l =
    goal.iterator-loop-record.can_next l.record-iterator × goal.iterator-loop-record.is_finite l.record-iterator × (l.record-iterator.size ≡ 6)
    × (l.matched + length l.record-iterator.rest.now ≤ length l.a) × (l.agreeing + length l.record-iterator.rest.now ≤ length l.a)
    × ((count : ℕ) → 6 * count ≡ length l.a → (left : ℕ) × (6 * left ≡ length l.record-iterator.rest.now)
    × (l.matched + paired_from matches l.places l.b left l.record-iterator.rest.now ≡ paired_from matches l.places l.b count l.a)
    × (l.agreeing + paired_from (alike l.tolerance) l.places l.b left l.record-iterator.rest.now ≡ paired_from (alike l.tolerance) l.places l.b count l.a))

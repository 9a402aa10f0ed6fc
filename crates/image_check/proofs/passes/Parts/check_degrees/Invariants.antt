use Prim.Native.Nat.{ℕ, ◌+◌, ◌-◌, ◌*◌}
use mathlib.Core.Path.{◌≡◌}
use lib.ListN.{length}
use Rattle.image_check.specs.Scratch.{degree_run}
use Rattle.image_check.proofs.passes.Parts.check_degrees.Given as goal

abbrev pub invariant-loop-i : goal.invariant-loop-i
invariant-loop-i l =
    goal.iterator-loop-i.can_next l.i-iterator × goal.iterator-loop-i.is_finite l.i-iterator × (l.i-iterator.iter.size ≡ 4)
    × (4 * l.i-iterator.count + length l.i-iterator.iter.rest.now ≡ length l.self.vertices.now)
    × ((count : ℕ) → 4 * count ≡ length l.self.vertices.now →
    (4 * (count - l.i-iterator.count) ≡ length l.i-iterator.iter.rest.now)
    × (degree_run 4 l.deg (count - l.i-iterator.count) l.i-iterator.iter.rest.now (6 + 4 * l.i-iterator.count) ≡ degree_run 4 l.deg count l.self.vertices.now 6))

use Prim.Native.Nat.{ℕ, ◌+◌, ◌-◌, ◌*◌}
use mathlib.Core.Path.{◌≡◌}
use lib.ListN.{length}
use Rattle.image_check.specs.Checks.{part_limits}
use Rattle.image_check.specs.Scratch.{NoneAbove, vertex_run, vertex_marks}
use Rattle.image_check.proofs.passes.Parts.check_vertices.Given as goal

abbrev pub invariant-loop-i : goal.invariant-loop-i
invariant-loop-i l =
    goal.iterator-loop-i.can_next l.i-iterator × goal.iterator-loop-i.is_finite l.i-iterator × (l.i-iterator.iter.size ≡ l.self.size)
    × (l.self.size * l.i-iterator.count + length l.i-iterator.iter.rest.now ≡ length l.self.vertices.now) × (length l.deg ≡ length l.initial.deg) × (NoneAbove 1 l.initial.deg → NoneAbove 1 l.deg)
    × ((count : ℕ) → l.self.size * count ≡ length l.self.vertices.now →
    (l.self.size * (count - l.i-iterator.count) ≡ length l.i-iterator.iter.rest.now)
    × (vertex_run l.self.size (part_limits l.limits.vertices l.limits.types) l.deg (count - l.i-iterator.count) l.i-iterator.iter.rest.now (6 + l.self.size * l.i-iterator.count) ≡ vertex_run l.self.size (part_limits l.limits.vertices l.limits.types) l.initial.deg count l.self.vertices.now 6)
    × (vertex_marks l.self.size l.deg (count - l.i-iterator.count) l.i-iterator.iter.rest.now ≡ vertex_marks l.self.size l.initial.deg count l.self.vertices.now))

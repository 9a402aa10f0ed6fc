use Prim.Native.Nat.{ℕ, ◌+◌, ◌-◌, ◌*◌}
use mathlib.Core.Path.{◌≡◌}
use lib.ListN.{length}
use Rattle.image_check.specs.Checks.{part_limits}
use Rattle.image_check.specs.Scratch.{NoneAbove, edge_run, edge_degrees, edge_owners}
use Rattle.image_check.proofs.passes.Parts.check_edges.Given as goal

abbrev pub invariant-loop-i : goal.invariant-loop-i
invariant-loop-i l =
    goal.iterator-loop-i.can_next l.i-iterator × goal.iterator-loop-i.is_finite l.i-iterator × (l.i-iterator.iter.size ≡ 6)
    × (6 * l.i-iterator.count + length l.i-iterator.iter.rest.now ≡ length l.self.edges.now) × (length l.deg ≡ length l.initial.deg)
    × (length l.own ≡ length l.initial.own) × NoneAbove (1 + 6 * l.i-iterator.count) l.deg
    × ((count : ℕ) → 6 * count ≡ length l.self.edges.now →
    (6 * (count - l.i-iterator.count) ≡ length l.i-iterator.iter.rest.now)
    × (edge_run (part_limits l.limits.edges l.limits.types) l.deg l.own (count - l.i-iterator.count) l.i-iterator.iter.rest.now ((6 + length l.self.vertices.now) + 6 * l.i-iterator.count) ≡ edge_run (part_limits l.limits.edges l.limits.types) l.initial.deg l.initial.own count l.self.edges.now (6 + length l.self.vertices.now))
    × (edge_degrees l.deg (count - l.i-iterator.count) l.i-iterator.iter.rest.now ≡ edge_degrees l.initial.deg count l.self.edges.now)
    × (edge_owners l.own (count - l.i-iterator.count) l.i-iterator.iter.rest.now ≡ edge_owners l.initial.own count l.self.edges.now))

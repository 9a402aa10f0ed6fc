use Prim.Native.Nat.{ℕ, ◌+◌, ◌*◌, ◌≤◌}
use mathlib.Core.Path.{◌≡◌}
use lib.ListN.{length, drop}
use Rattle.image_check.specs.Scratch.{incidence_run}
use Rattle.image_check.proofs.passes.Parts.check_lists.Given as goal

abbrev pub invariant-loop-record : goal.invariant-loop-record
invariant-loop-record l =
    goal.iterator-loop-record.can_next l.record-iterator × goal.iterator-loop-record.is_finite l.record-iterator × (l.record-iterator.size ≡ l.self.size)
    × (l.at ≤ length l.self.incidences.now)
    × ((count : ℕ) → l.self.size * count ≡ length l.self.vertices.now → (left : ℕ) × (l.self.size * left ≡ length l.record-iterator.rest.now)
    × (incidence_run l.self.size l.deg l.own left l.record-iterator.rest.now (drop l.at l.self.incidences.now) ((6 + length l.self.vertices.now + length l.self.edges.now) + l.at) ≡ incidence_run l.self.size l.deg l.initial.own count l.self.vertices.now l.self.incidences.now (6 + length l.self.vertices.now + length l.self.edges.now)))

use Prim.Native.Nat.{ℕ, ◌+◌, ◌*◌, ◌≤◌}
use mathlib.Core.Path.{◌≡◌}
use lib.ListN.{length}
use Rattle.graph.specs.WellFormed.{words_at}
use Rattle.image.specs.Image.{edges_from}
use Rattle.arrangement.specs.Scratch.{marked}
use Rattle.arrangement.proofs.mark_words.Given as goal

abbrev pub invariant-loop-record : goal.invariant-loop-record
invariant-loop-record l =
    goal.iterator-loop-record.can_next l.record-iterator × goal.iterator-loop-record.is_finite l.record-iterator × (l.record-iterator.size ≡ 6)
    × (l.found + length l.record-iterator.rest.now ≤ length l.part)
    × ((count : ℕ) → 6 * count ≡ length l.part → (left : ℕ) × (6 * left ≡ length l.record-iterator.rest.now)
    × (l.found + length (words_at (edges_from left l.record-iterator.rest.now) l.vertex) ≡ length (words_at (edges_from count l.part) l.vertex))
    × (marked (words_at (edges_from left l.record-iterator.rest.now) l.vertex) l.items ≡ marked (words_at (edges_from count l.part) l.vertex) l.initial.items))

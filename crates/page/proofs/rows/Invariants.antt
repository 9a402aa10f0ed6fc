use mathlib.Core.Path.{◌≡◌}
use lib.ListN.{length}
use lib.Seq.{sets}
use Prim.Native.Nat.{◌+◌, ◌*◌, ◌/◌}
use Rattle.page.proofs.Turns.{all_rows}
use Rattle.page.proofs.rows.Given as goal

abbrev pub invariant-loop-edge : goal.invariant-loop-edge
invariant-loop-edge l = (l.edge-iterator.size ≡ 6) × (length l.out ≡ length l.initial.out)
    × (l.at + 25 * (length l.edge-iterator.rest.now / 6) ≡ 25 * (length l.records / 6))
    × (sets l.out l.at (all_rows l.edge-iterator.rest.now) ≡ sets l.initial.out 0 (all_rows l.records))

use Prim.Native.Nat.{◌-◌, ◌≤◌}
use mathlib.Core.Path.{◌≡◌}
use lib.ListN.{length, drop}
use Rattle.image_check.specs.Checks.{bounds}
use Rattle.machine.specs.StoreRun.{starts_code, starts_offset}
use Rattle.stores.proofs.refusals.check_starts.Given as goal

abbrev pub invariant-loop : goal.invariant-loop
invariant-loop l =
    (l.at ≤ length l.start)
    × (starts_code (bounds l.vertices l.edges l.types) l.stores l.start ≡ starts_code (bounds l.vertices l.edges l.types) (l.stores - l.counter) (drop l.at l.start))
    × (starts_offset (bounds l.vertices l.edges l.types) 0 l.stores l.start ≡ starts_offset (bounds l.vertices l.edges l.types) l.at (l.stores - l.counter) (drop l.at l.start))

-- When words are a reading.
use Rattle.std.specs.Prelude.{◌==◌}
use Prim.Native.Nat.{ℕ, ◌≤◌, ◌<◌}
use mathlib.Core.Path.{◌≡◌, refl}
use mathlib.Core.Bool.{Bool, true, false, ◌||◌}
use native.Mathlib.Omega.{arith}
use lib.Dec.{leb}
use borrow.Author.Tests.{le-leb, lt-leb, eq-eqb, ne_eqb}
use Rattle.graph.specs.Graph.{is_reading}

pub near_reading : (k d : ℕ) → k ≤ 1 → is_reading k d ≡ (d == 0)
near_reading k d h = rw (le-leb k 1 h, ne_eqb k 2 (omega arith)) (go (d == 0))
  where
    go : (t : Bool) → (t || false) ≡ t
    go true = refl
    go false = refl

pub far_reading : (d : ℕ) (k : ℕ) → k ≡ 2 → is_reading k d ≡ leb d 9999
far_reading d k e = rw (lt-leb k 1 (omega arith), eq-eqb k 2 e)

pub no_reading : (k d : ℕ) → 1 < k → (k ≡ 2 → ⊥) → is_reading k d ≡ false
no_reading k d h n = rw (lt-leb k 1 h, ne_eqb k 2 n)

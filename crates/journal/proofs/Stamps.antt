-- Word 11 of a row is no part of its edit or cost: rows and costs stay where it is written.
use Prim.Native.Nat.{ℕ, ◌+◌, ◌*◌, ◌<◌}
use mathlib.Core.Path.{◌≡◌}
use mathlib.Core.List.{List}
use native.Mathlib.Omega.{arith}
use lib.ListN.{get_or, set}
use lib.Seq.{get_or-set_other}
use Rattle.journal.specs.Rows.{row_at, step_at}

module _ (t : List ℕ) (i j x : ℕ) where
  other : (k : ℕ) → k < 11 → get_or (set t (12 * i + 11) x) (12 * j + k) 0 ≡ get_or t (12 * j + k) 0
  other k h = get_or-set_other t (12 * i + 11) (12 * j + k) x 0 (λ e. omega arith)

  pub stamped_row : row_at (set t (12 * i + 11) x) j ≡ row_at t j
  unfolding row_at
  stamped_row = rw (
    other 0 (omega arith),
    other 1 (omega arith),
    other 2 (omega arith),
    other 3 (omega arith),
    other 4 (omega arith),
    other 5 (omega arith),
    other 6 (omega arith),
    other 7 (omega arith),
    other 8 (omega arith),
    other 9 (omega arith),
  )

  pub stamped_cost : step_at (set t (12 * i + 11) x) j ≡ step_at t j
  unfolding step_at
  stamped_cost = rw (other 10 (omega arith))

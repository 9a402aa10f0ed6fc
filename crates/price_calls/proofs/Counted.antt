-- Counting the limits of a table from line i on.
use Prim.Native.Nat.{ℕ, ◌+◌, ◌≤◌, ◌<◌}
use mir.Val.{bool_byte}
use mathlib.Core.Path.{◌≡◌, refl}
use mathlib.Core.Bool.{Bool, true, false}
use mathlib.Core.List.{List}
use native.Mathlib.Numerals.{add-one}
use lib.ListN.{length, get_or, drop, drop_of_length-le}
use lib.Seq.{drop-cons}
use lib.Dec.{leb}
use Rattle.lists.specs.Choice.{to_bit}
use Rattle.prices.specs.Grades.{reached}

-- a test as a number
pub bit : (t : Bool) → bool_byte t ≡ to_bit t
bit true = refl
bit false = refl

module _ (ls : List ℕ) (r i : ℕ) where
  pub turn : i < length ls → reached (drop i ls) r ≡ to_bit (leb (get_or ls i 0) r) + reached (drop (i + 1) ls) r
  turn h = rw (add-one, drop-cons ls i 0)

  pub end : length ls ≤ i → reached (drop i ls) r ≡ 0
  end h = rw (drop_of_length-le ls h)

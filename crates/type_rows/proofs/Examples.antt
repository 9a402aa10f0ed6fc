-- Rows and what is below what, computed.
use Prim.Native.Nat.{ℕ}
use mathlib.Core.Path.{◌≡◌, refl}
use mathlib.Core.Bool.{true, false}
use mathlib.Core.List.{List, [], ◌∷◌}
use Rattle.type_rows.specs.Types.{below_by, below}
use Rattle.type_rows.specs.Rows.{good_rows, rows_code}

-- the types of the program chartrun: 0 to 4, with 2 and 3 below 1
abbrev five : List ℕ
five = 0 ∷ 0 ∷ 2 ∷ 2 ∷ 0 ∷ []

pub two_below_one : below five 2 1 ≡ true
unfolding below below_by
two_below_one = refl

pub one_not_below_two : below five 1 2 ≡ false
unfolding below below_by
one_not_below_two = refl

pub four_below_zero : below five 4 0 ≡ true
unfolding below below_by
four_below_zero = refl

pub zero_not_below_four : below five 0 4 ≡ false
unfolding below below_by
zero_not_below_four = refl

-- 3 below 2, 2 below 1, 1 below 3: a circle
abbrev circle : List ℕ
circle = 0 ∷ 8 ∷ 2 ∷ 4 ∷ []

pub three_below_one : below circle 3 1 ≡ true
unfolding below below_by
three_below_one = refl

pub two_below_three : below circle 2 3 ≡ true
unfolding below below_by
two_below_three = refl

-- where 0 is below 1, every type is
pub over_zero : below (2 ∷ 0 ∷ 0 ∷ []) 2 1 ≡ true
unfolding below below_by
over_zero = refl

-- code 104 for no rows and for a bit n, and the one row of REFERENCE 7.0's examples
pub no_rows : rows_code [] ≡ 104
unfolding good_rows
no_rows = refl

pub bit_one_of_one : rows_code (2 ∷ []) ≡ 104
unfolding good_rows
bit_one_of_one = refl

pub row_zero : rows_code (0 ∷ []) ≡ 0
unfolding good_rows
row_zero = refl

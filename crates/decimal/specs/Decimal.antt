-- The digits of a number, and the number that digits stand for. Bytes are numbers: the digits are 48 to 57.
use Rattle.std.specs.Prelude.{ℕ, zero, suc, ◌+◌, ◌-◌, ◌*◌, ◌/◌, ◌%◌, List, [], ◌∷◌, ◌++◌, ltb}
use Rattle.lists.specs.Choice.{◌⇒◌else◌}

-- the digits of n, which has at most so many
unfoldable pub digits : ℕ → ℕ → List ℕ
digits zero n = []
digits (suc f) n = ltb n 10 ⇒ ((48 + n) ∷ []) else (digits f (n / 10) ++ ((48 + n % 10) ∷ []))

-- the number that digits stand for, where n stands before them
unfoldable pub value_of : ℕ → List ℕ → ℕ
value_of n [] = n
value_of n (x ∷ xs) = value_of (10 * n + (x - 48)) xs

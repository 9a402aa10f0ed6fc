-- Choices by a test, and by equality of two numbers.
use Rattle.std.specs.Prelude.{ℕ, Bool, true, false, ◌&&◌, leb, ◌==◌}

infixr 5 ◌⇒◌else◌
-- the first value where the test holds, else the second
abbrev pub ◌⇒◌else◌ {ℓ} : {A : Type ℓ} → Bool → A → A → A
◌⇒◌else◌ true x y = x
◌⇒◌else◌ false x y = y

-- a where m and n are the same number, else b
unfoldable pub if_equal {ℓ} : {A : Type ℓ} → ℕ → ℕ → A → A → A
if_equal m n a b = (m == n) ⇒ a else b

-- 1 where m and n are the same number, else 0
abbrev pub indicator : ℕ → ℕ → ℕ
indicator m n = if_equal m n 1 0

abbrev pub to_bit : Bool → ℕ
to_bit true = 1
to_bit false = 0

abbrev pub within : ℕ → ℕ → ℕ → Bool
within lo hi n = leb lo n && leb n hi

-- A lent slice that a function may write, for contracts that say what becomes of it.
use Rattle.std.specs.Prelude.{ℕ, List}

-- the words of a slice as the function begins and as it ends
pub record Slice : Type 0 where
  pub old : List ℕ
  pub new : List ℕ

abbrev pub slice : List ℕ → List ℕ → Slice
slice old new = record { old = old; new = new }

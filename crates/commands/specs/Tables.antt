-- A table of codes: when each applies, and the first that does.
use Rattle.std.specs.Prelude.{ℕ, ◌≡◌, Bool, true, false, ◌||◌, List, [], ◌∷◌}
use Rattle.lists.specs.Choice.{◌⇒◌else◌}

-- a code, and whether it applies
pub record Row : Type 0 where
  pub code : ℕ
  pub applies : Bool

-- the code of the first row that applies, in the order of the rows; 0 where none does
abbrev pub in_turn : List Row → ℕ
in_turn [] = 0
in_turn (r ∷ rs) = r.applies ⇒ r.code else in_turn rs

-- the lowest code that applies (REFERENCE 7.0): of rows whose codes rise, the first
abbrev pub lowest : List Row → ℕ
lowest rs = in_turn rs

abbrev pub row : ℕ → Bool → Row
row k t = record { code = k; applies = t }

-- the test holds of one of these numbers
abbrev pub some : (ℕ → Bool) → List ℕ → Bool
some p [] = false
some p (x ∷ []) = p x
some p (x ∷ y ∷ ys) = p x || some p (y ∷ ys)

-- k is the code of a row that applies, and no row before it does
pub data FirstApplies (k : ℕ) : List Row → Type 0 where
  found : {r : Row} {rs : List Row} → r.applies ≡ true → r.code ≡ k → FirstApplies k (r ∷ rs)
  later : {r : Row} {rs : List Row} → r.applies ≡ false → FirstApplies k rs → FirstApplies k (r ∷ rs)

-- no row applies
pub data NoneApplies : List Row → Type 0 where
  none : NoneApplies []
  passed : {r : Row} {rs : List Row} → r.applies ≡ false → NoneApplies rs → NoneApplies (r ∷ rs)

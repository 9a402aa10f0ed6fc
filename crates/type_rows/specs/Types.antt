-- Types and the relation "below": REFERENCE 1.9 to 1.11.
use Rattle.std.specs.Prelude.{ℕ, zero, suc, ◌/◌, ◌%◌, ◌^◌, ◌<◌, Bool, true, ◌&&◌, ◌||◌, List, ◌≡◌, ltb, length, get_or, ◌==◌}

-- a type is a number under n, the number of rows
abbrev pub is_type : List ℕ → ℕ → Bool
is_type rows t = ltb t (length rows)

-- REFERENCE 1.9: row s has bit t set
abbrev pub declared : List ℕ → ℕ → ℕ → Bool
declared rows s t = get_or rows s 0 / 2 ^ t % 2 == 1

-- one link of a chain: declared, the type itself, or type 0
abbrev pub direct : List ℕ → ℕ → ℕ → Bool
direct rows s t = is_type rows s && is_type rows t && ((s == t) || (t == 0) || declared rows s t)

-- s comes to t by a chain of these whose inner types are under k
unfoldable pub below_by : List ℕ → ℕ → ℕ → ℕ → Bool
below_by rows zero s t = direct rows s t
below_by rows (suc k) s t = below_by rows k s t || (below_by rows k s k && below_by rows k k t)

-- chains over any inner types. What is no type is below nothing, and nothing is below it (DECISIONS 2).
unfoldable pub below : List ℕ → ℕ → ℕ → Bool
unfolding below_by
below rows s t = below_by rows (length rows) s t

-- REFERENCE 1.10 as the least relation; the law `below_least` says that `below` decides it.
pub data Below (rows : List ℕ) : ℕ → ℕ → Type 0 where
  by_row : {s t : ℕ} → s < length rows → t < length rows → declared rows s t ≡ true → Below rows s t
  itself : {s : ℕ} → s < length rows → Below rows s s
  top : {s : ℕ} → s < length rows → Below rows s 0
  chain : {s t u : ℕ} → Below rows s t → Below rows t u → Below rows s u

-- The kinds of calls that there are.
use Rattle.std.specs.Prelude.{ℕ, Bool, ◌||◌}
use Rattle.lists.specs.Choice.{within}

-- kinds 1 to 16: changes
abbrev pub is_change : ℕ → Bool
is_change k = within 1 16 k

-- those with a row in REFERENCE 2.5
abbrev pub known : ℕ → Bool
known k = within 1 22 k || (within 30 54 k || within 56 59 k)

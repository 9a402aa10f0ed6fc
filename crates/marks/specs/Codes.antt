-- The codes of a call that names marks, read off the set and the words of the marks.
use Rattle.std.specs.Prelude.{ℕ, Bool, not, ◌||◌, List, ◌==◌}
use Rattle.lists.specs.Choice.{◌⇒◌else◌}
use Rattle.history.specs.Machine.{is_mark, Name, is_name}
use Rattle.marks.specs.Marked.{in_set}
use Rattle.marks.specs.Named.{holder_in}

-- REFERENCE 7.11
abbrev pub no_mark : ℕ → Bool
no_mark a = not (is_mark a)

-- for a mark that must stand: 11, 13
abbrev pub standing_code : ℕ → ℕ → ℕ
standing_code set a = no_mark a ⇒ 11 else not (in_set set a) ⇒ 13 else 0

-- for a mark that is set: 11, 12
abbrev pub new_code : ℕ → ℕ → ℕ
new_code set a = no_mark a ⇒ 11 else in_set set a ⇒ 12 else 0

-- the code of two marks that must stand, from the code of each: the lowest that applies
abbrev pub both_code : ℕ → ℕ → ℕ
both_code c d = (c == 11) ⇒ 11 else (d == 11) ⇒ 11 else (c == 13) ⇒ 13 else d

-- for a mark that is named: 11, 13, 18
abbrev pub name_code : ℕ → List ℕ → ℕ → Name → ℕ
name_code set words a n =
    no_mark a ⇒ 11 else
    not (in_set set a) ⇒ 13 else
    (not (is_name n) || not (holder_in set words a n == 0)) ⇒ 18 else
    0

-- The names of the standing marks, in the words behind the places.
use Rattle.std.specs.Prelude.{ℕ, ◌+◌, ◌-◌, ◌*◌, ◌≡◌, Bool, true, not, ◌&&◌, List, get_or, set as set_at, Option, Some, None, ◌==◌}
use Rattle.lists.specs.Choice.{◌⇒◌else◌}
use Rattle.graph.specs.Limits.{most_marks}
use Rattle.history.specs.Machine.{MarkPlace, stands, is_mark, Name, name, no_name, is_name, same_name, seek}
use Rattle.marks.specs.Marked.{in_set}
use Rattle.marks.specs.declared.Name.{Name as Words}

-- the name that two words are
abbrev pub name_of : Words → Name
name_of n = name n.first n.second

-- where the two words of the name of mark a begin
abbrev pub name_at : ℕ → ℕ
name_at a = most_marks + 2 * (a - 1)

abbrev pub name_in : List ℕ → ℕ → Name
name_in words a = name (get_or words (name_at a) 0) (get_or words (name_at a + 1) 0)

-- mark a has the name n; where a is no mark, nothing changes
abbrev pub name_set : ℕ → Name → List ℕ → List ℕ
name_set a n words = is_mark a ⇒ set_at (set_at words (name_at a) n.first) (name_at a + 1) n.second else words

-- mark a is at place p and has no name
abbrev pub mark_put : ℕ → ℕ → List ℕ → List ℕ
mark_put a p words = name_set a no_name (set_at words (a - 1) p)

-- mark a is in the set and has the name n
abbrev pub bears_in : ℕ → List ℕ → Name → ℕ → Bool
bears_in set words n a = in_set set a && (is_name n && same_name (name_in words a) n)

-- the mark of the set, other than `but`, that has the name; 0 where none has
unfoldable pub holder_in : ℕ → List ℕ → ℕ → Name → ℕ
holder_in set words but n = seek most_marks 1 (λ k. not (k == but) && bears_in set words n k)

-- a mark that was sought, where 0 is none
abbrev pub mark_found : ℕ → Option ℕ
mark_found a = (a == 0) ⇒ None else Some a

-- each mark that stands has its name
abbrev pub Named : (ℕ → MarkPlace) → (ℕ → Name) → List ℕ → Type 0
Named ms ns words = (k : ℕ) → stands (ms k) ≡ true → name_in words k ≡ ns k

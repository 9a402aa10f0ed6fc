-- The set of standing marks and their places: what each call makes of them, and how they stand for the machine's marks.
use Rattle.std.specs.Prelude.{ℕ, zero, suc, ◌+◌, ◌-◌, ◌*◌, ◌/◌, ◌%◌, ◌^◌, ◌≤◌, ◌≡◌, Bool, not, ◌&&◌, List, leb, length, get_or, ◌==◌}
use Rattle.lists.specs.Choice.{◌⇒◌else◌, to_bit}
use Rattle.graph.specs.Limits.{most_marks}
use Rattle.history.specs.Machine.{MarkPlace, at, stands, is_mark}

-- the words lent for the marks: a place each, then the two words of the name of each
abbrev pub mark_words : ℕ
mark_words = 3 * most_marks

-- the number of n binary digits that are b k, b (k + 1), .., the lowest first
unfoldable pub binary : ℕ → ℕ → (ℕ → Bool) → ℕ
binary zero k b = 0
binary (suc n) k b = to_bit (b k) + 2 * binary n (suc k) b

-- mark a is in the set: digit a − 1, counted from 0, is 1. A number that is no mark is not in it.
abbrev pub in_set : ℕ → ℕ → Bool
in_set set a = is_mark a && (set / 2 ^ (a - 1) % 2 == 1)

-- the word of mark a; 0 where a is no mark
abbrev pub place_in : List ℕ → ℕ → ℕ
place_in places a = is_mark a ⇒ get_or places (a - 1) 0 else 0

-- the set with mark a, and without it
abbrev pub with_mark : ℕ → ℕ → ℕ
with_mark a set = (is_mark a && not (in_set set a)) ⇒ set + 2 ^ (a - 1) else set

abbrev pub without_mark : ℕ → ℕ → ℕ
without_mark a set = in_set set a ⇒ set - 2 ^ (a - 1) else set

-- the marks of the set whose place is not above p
abbrev pub cut_set : ℕ → List ℕ → ℕ → ℕ
cut_set p places set = binary most_marks 1 (λ a. in_set set a && leb (place_in places a) p)

-- the standing marks as a set of 64 bits: digit k says whether mark k + 1 stands, and each that stands has its place
pub record Marked (ms : ℕ → MarkPlace) (set : ℕ) (places : List ℕ) : Type 0 where
  pub room : length places ≡ mark_words
  pub bits : set ≡ binary most_marks 1 (λ k. stands (ms k))
  pub known : (k q : ℕ) → ms k ≡ at q → (1 ≤ k) × (k ≤ most_marks) × (get_or places (k - 1) 0 ≡ q)

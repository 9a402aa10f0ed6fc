-- The parts of a lent slice.
use Rattle.std.specs.Prelude.{ℕ, ◌+◌, ◌-◌, ◌*◌, ◌≡◌, List, ◌++◌, take, drop}

-- the part of n words of the store at place i, counted from 0, as `s[i * n..i * n + n]` lends it
abbrev pub part : ℕ → ℕ → List ℕ → List ℕ
part n i l = take (i * n + n - i * n) (drop (i * n) l)

-- the same slice with other words in that part
abbrev pub with_part : ℕ → ℕ → List ℕ → List ℕ → List ℕ
with_part n i ws l = take (i * n) l ++ (ws ++ drop (i * n + n - i * n) (drop (i * n) l))

-- the words behind the last of so many parts of n words stay
abbrev pub RestStays : ℕ → ℕ → List ℕ → List ℕ → Type 0
RestStays stores n l l' = drop (stores * n) l' ≡ drop (stores * n) l

-- The same over scratch: 1 at each item, and one look-up a wanted word.
use Rattle.std.specs.Prelude.{ℕ, ◌*◌, ◌-◌, Bool, true, false, not, ◌&&◌, List, [], ◌∷◌, length, get_or, set, ltb, ◌==◌}
use Rattle.lists.specs.Choice.{◌⇒◌else◌}
use Rattle.arrangement.specs.Orders.{Outcome, refusal, written}

-- 1 at each of these places
abbrev pub marked : List ℕ → List ℕ → List ℕ
marked [] s = s
marked (x ∷ xs) s = marked xs (set s x 1)

-- the word of an edge's end that is seen from v
abbrev pub seen_from : ℕ → ℕ → ℕ → List ℕ
seen_from v end word = (v == end) ⇒ (word ∷ []) else []

-- each wanted word in turn is there, and is then taken off
unfoldable pub taken : List ℕ → List ℕ → Bool
taken [] s = true
taken (w ∷ ws) s = (get_or s w 0 == 1) ⇒ taken ws (set s w 0) else false

-- of so many items, which are marked in s
unfoldable pub settled : ℕ → List ℕ → ℕ → List ℕ → List ℕ → Outcome
unfolding taken
settled kind wanted count s list =
    not ((length wanted == count) && taken wanted s) ⇒ refusal 111 list else
    ltb (length list) (5 * (length wanted - 1)) ⇒ refusal 112 list else
    written kind wanted list

-- The relation "below" as 64 words, one for each type.
use Rattle.std.specs.Prelude.{ℕ, ◌*◌, ◌/◌, ◌%◌, ◌^◌, Bool, false, List, [], map, length, get_or, ltb, ◌==◌}
use Rattle.lists.specs.Choice.{to_bit, ◌⇒◌else◌}
use Rattle.lists.specs.Lists.{sum_of, range}
use Rattle.type_rows.specs.Types.{below}
use Rattle.type_rows.specs.Rows.{good_rows}

-- the word whose bit t says `holds t`, for t under n, and whose other bits are 0
unfoldable pub word_of : ℕ → (ℕ → Bool) → ℕ
word_of n holds = sum_of (λ t. to_bit (holds t) * 2 ^ t) (range n)

-- 64 words; bit t of word s says `holds s t`, for t under n
unfoldable pub closure_rows : ℕ → (ℕ → ℕ → Bool) → List ℕ
closure_rows n holds = map (λ s. word_of n (holds s)) (range 64)

-- bit t of word s says that s is below t; the words at n and above are 0
abbrev pub closure_words : List ℕ → List ℕ
closure_words rows = closure_rows (length rows) (below rows)

-- the words of the closure; rows that are refused (REFERENCE 8.4) count as none
unfoldable pub closure_of : List ℕ → List ℕ
closure_of rows = good_rows rows ⇒ closure_words rows else closure_words []

-- bit t of word s; no where one of them is above 63
abbrev pub bit_of : List ℕ → ℕ → ℕ → Bool
bit_of words s t = ltb 63 s ⇒ false else ltb 63 t ⇒ false else (get_or words s 0 / 2 ^ t % 2 == 1)

-- Where the parts of an image lie in the caller's words.
use Rattle.std.specs.Prelude.{ℕ, ◌+◌, ◌*◌, ◌≡◌, Bool, ◌&&◌, List, get_or}
use Rattle.std.specs.Borrow.{Bor}
use Rattle.lists.specs.Choice.{◌⇒◌else◌, within}
use Rattle.image.specs.Image.{sound_header}

-- words with a sound header have parts 1, 2 and 3
unfoldable pub has_part : ℕ → List ℕ → Bool
unfolding sound_header
has_part k ws = sound_header ws && within 1 3 k

-- a header's word, counted from the number of a part that is there; else 0
unfoldable pub part_bound : ℕ → ℕ → List ℕ → ℕ
unfolding has_part
part_bound next k ws = has_part k ws ⇒ get_or ws (k + next) 0 else 0

-- a part starts at the header's offset of it and ends at the next offset, the last at the total
abbrev pub part_start : ℕ → List ℕ → ℕ
part_start k ws = part_bound 1 k ws

abbrev pub part_end : ℕ → List ℕ → ℕ
part_end k ws = part_bound 2 k ws

-- a slice that lies in the words, `at` words behind the first of them: in the same block, four bytes a word
pub record LiesAt (at : ℕ) (words slice : Bor (List ℕ)) : Type 0 where
  pub block : slice.ref_ptr.0 ≡ words.ref_ptr.0
  pub offset : slice.ref_ptr.1 ≡ at * 4 + words.ref_ptr.1

-- What a function that writes a text into a slice says of it.
use Rattle.std.specs.Prelude.{ℕ, ◌+◌, ◌≡◌, List, [], length, leb}
use Rattle.std.proofs.lemmas.List.Edits.{sets}
use Rattle.lists.specs.Choice.{◌⇒◌else◌}
use Rattle.lists.specs.Lists.{overwritten}

-- a text was stored at a place of a slice, and the place behind it is told
pub record Stored (text : List ℕ) (at : ℕ) (out last : List ℕ) (next : ℕ) : Type 0 where
  pub place : next ≡ at + length text
  pub stores : last ≡ sets out at text

-- a text where there is room for it; else none of it
unfoldable pub fitting : ℕ → List ℕ → List ℕ
fitting room text = leb (length text) room ⇒ text else []

-- a text was written to the front of a slice, the bytes behind it stay, and its length is told
abbrev pub WrittenAt : List ℕ → ℕ → List ℕ → List ℕ → Type 0
WrittenAt text n out last = (n ≡ length text) × (last ≡ overwritten text out)

-- The loop over the records: one turn, and the end.
use Prim.Native.Nat.{ℕ, suc, ◌+◌, ◌*◌, ◌/◌, ◌<◌}
use mathlib.Core.Path.{◌≡◌, refl, ap}
use mathlib.Core.List.{List, [], ◌∷◌, ◌++◌}
use native.Mathlib.Omega.{arith}
use lib.ListN.{length, length-append}
use Rattle.image.specs.Image.{edges_from}
use Rattle.image.proofs.EdgePart.{from_length}
use Rattle.page.proofs.RowLaws.{each_length}
use Rattle.page.specs.Rows.{row_of, edge_read, rows_from}

-- the rows of all whole records
abbrev pub all_rows : List ℕ → List ℕ
all_rows ws = rows_from (length ws / 6) ws

pub rows_turn : (ws part left : List ℕ) → ws ≡ part ++ left → length part ≡ 6 →
    row_of (edge_read part) ++ all_rows left ≡ all_rows ws
unfolding edges_from
rows_turn ws [] left e h = absurd (omega arith)
rows_turn ws (a ∷ []) left e h = absurd (omega arith)
rows_turn ws (a ∷ b ∷ []) left e h = absurd (omega arith)
rows_turn ws (a ∷ b ∷ c ∷ []) left e h = absurd (omega arith)
rows_turn ws (a ∷ b ∷ c ∷ d ∷ []) left e h = absurd (omega arith)
rows_turn ws (a ∷ b ∷ c ∷ d ∷ x ∷ []) left e h = absurd (omega arith)
rows_turn ws (a ∷ b ∷ c ∷ d ∷ x ∷ y ∷ []) left e h =
    let k : length (a ∷ b ∷ c ∷ d ∷ x ∷ y ∷ left) / 6 ≡ suc (length left / 6) = omega arith in
    rw (e, k) refl
rows_turn ws (a ∷ b ∷ c ∷ d ∷ x ∷ y ∷ z ∷ zs) left e h = absurd (omega arith)

pub rows_count : (ws part left : List ℕ) → ws ≡ part ++ left → length part ≡ 6 → length ws / 6 ≡ length left / 6 + 1
rows_count ws part left e h = omega (arith, ap length e, length-append part left, h)

pub rows_end : (ws : List ℕ) → length ws < 6 → all_rows ws ≡ []
unfolding edges_from
rows_end ws h = let k : length ws / 6 ≡ 0 = omega arith in rw k refl

pub all_rows_length : (ws : List ℕ) → length (all_rows ws) ≡ 25 * (length ws / 6)
all_rows_length ws = omega (arith, each_length (edges_from (length ws / 6) ws), from_length (length ws / 6) ws)

-- One turn of each loop over records, and its end.
use Prim.Native.Nat.{ℕ, suc, ◌+◌, ◌*◌, ◌<◌}
use mathlib.Core.Path.{◌≡◌, sym, ap, ap₂}
use mathlib.Core.Bool.{Bool}
use mathlib.Core.List.{List, ◌∷◌, ◌++◌}
use native.Mathlib.Omega.{arith}
use lib.ListN.{length, get_or, get_or-append, drop, set}
use lib.Seq.{drop-drop, drop-append_seam}
use Rattle.lists.specs.Choice.{to_bit}
use Rattle.lists.proofs.WordLaws.{word_at, first_at}
use Rattle.graph.specs.Graph.{Edge}
use Rattle.image.specs.Image.{edges_from}
use Rattle.comparison.specs.Walks.{edge_at, noted, paired_from}

-- the record at a place and those behind it
pub records_next : (k at : ℕ) (ws : List ℕ) → edges_from (suc k) (drop at ws) ≡ edge_at ws at ∷ edges_from k (drop (at + 6) ws)
unfolding edges_from
records_next k at ws =
    rw (first_at ws at, word_at ws at 1, word_at ws at 2, word_at ws at 3, word_at ws at 4, word_at ws at 5, drop-drop 6 at ws)

pub noted_next : (places : List ℕ) (i k at : ℕ) (ws : List ℕ) →
    noted places i (suc k) (drop at ws) ≡ noted (set places (get_or ws at 0) i) (i + 1) k (drop (at + 6) ws)
unfolding noted
noted_next places i k at ws = rw (first_at ws at, drop-drop 6 at ws)

-- x is the next of n records, and rest has the m behind it
module _ (n m : ℕ) (x rest ws : List ℕ) (more : n ≡ suc m) (cut : ws ≡ x ++ rest) (long : length x ≡ 6) where
  behind : drop 6 ws ≡ rest
  behind = rw (cut, ← long) (drop-append_seam x rest)

  word : (j : ℕ) → j < 6 → get_or ws j 0 ≡ get_or x j 0
  word j h = rw cut (get_or-append x rest 0 j (omega (arith, h, long)))

  pub note_go : (places : List ℕ) (i : ℕ) → noted (set places (get_or x 0 0) i) (i + 1) m rest ≡ noted places i n ws
  unfolding noted
  note_go places i =
      rw more (ap₂ (λ (s l : List ℕ). noted s (i + 1) m l) (ap (λ (k : ℕ). set places k i) (sym (word 0 (omega arith)))) (sym behind))

  records_here : edges_from n ws ≡ edge_at x 0 ∷ edges_from m rest
  unfolding edges_from
  records_here =
      rw (
        more,
        word 0 (omega arith),
        word 1 (omega arith),
        word 2 (omega arith),
        word 3 (omega arith),
        word 4 (omega arith),
        word 5 (omega arith),
        behind,
      )

  -- r is the bit of the record and the one that is noted for its number
  pub count_go : (q : Edge → Edge → Bool) (places b : List ℕ) (r : ℕ) → r ≡ to_bit (q (edge_at x 0) (edge_at b (6 * get_or places (get_or x 0 0) 0))) →
      r + paired_from q places b m rest ≡ paired_from q places b n ws
  count_go q places b r g = rw (g, records_here)

module _ (n : ℕ) (none : n ≡ 0) (ws : List ℕ) where
  pub note_end : (places : List ℕ) (i : ℕ) → noted places i n ws ≡ places
  unfolding noted
  note_end places i = rw none

  pub count_end : (q : Edge → Edge → Bool) (places b : List ℕ) → paired_from q places b n ws ≡ 0
  unfolding edges_from
  count_end q places b = rw none

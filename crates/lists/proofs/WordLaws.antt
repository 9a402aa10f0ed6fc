-- The word at a place, and what stands from it on.
use Prim.Native.Nat.{ℕ, zero, suc, ◌+◌, ◌<◌}
use mathlib.Core.Path.{◌≡◌, sym, ap, ◌∙◌}
use mathlib.Core.List.{List, [], ◌∷◌}
use native.Mathlib.Omega.{arith}
use native.Mathlib.Nat.{add-zero}
use native.Mathlib.Numerals.{add-one}
use lib.ListN.{length, get_or, drop}
use lib.Seq.{drop-cons, get_or-drop}

pub word_at : (ws : List ℕ) (at k : ℕ) → get_or (drop at ws) k 0 ≡ get_or ws (at + k) 0
word_at ws at k = get_or-drop at ws k 0

pub first_at : (ws : List ℕ) (at : ℕ) → get_or (drop at ws) 0 0 ≡ get_or ws at 0
first_at ws at = word_at ws at 0 ∙ ap (λ (k : ℕ). get_or ws k 0) (add-zero at)

-- the first of what is left, and the rest
pub one_drop : (xs : List ℕ) (i : ℕ) → i < length xs → drop i xs ≡ get_or xs i 0 ∷ drop (i + 1) xs
one_drop xs i h = drop-cons xs i 0 h ∙ ap (λ (j : ℕ). get_or xs i 0 ∷ drop j xs) (sym (add-one i))

-- a word that is not 0 is not past the end
pub inside : (s : List ℕ) (i : ℕ) → 0 < get_or s i 0 → i < length s
inside [] i h = absurd (omega arith)
inside (x ∷ s) zero h = omega arith
inside (x ∷ s) (suc i) h = omega (arith, inside s i h)

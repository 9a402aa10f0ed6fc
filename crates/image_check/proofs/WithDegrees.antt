-- The vertex part with the degrees that the edges ask for, whatever stood there: every other word stays.
use Prim.Native.Nat.{ℕ, zero, suc, ◌+◌, ◌*◌, ◌<◌}
use mathlib.Core.Path.{◌≡◌, refl, sym, ap, ◌∙◌}
use mathlib.Core.List.{List, [], ◌∷◌, ◌++◌}
use native.Mathlib.Omega.{arith}
use lib.ListN.{length, get_or, drop, length-append}
use lib.Seq.{drop_at}
use borrow.Author.Tests.{le-ltb}
use Rattle.graph.specs.Graph.{Edge}
use Rattle.graph.specs.WellFormed.{words_at}
use Rattle.image.specs.Image.{degree_word, numbers_in}
use Rattle.image_check.specs.Checks.{walk}
use Rattle.image_check.proofs.Walks.{vertex_walk, degree_walk}
use Rattle.image.proofs.Sizes.{Size, degree_length}
use Rattle.image_check.proofs.DegreePass.{degree_whole}
use Rattle.image_check.proofs.Offsets.{row_drop, row_first}
use Rattle.std.specs.Prelude.{Ok}

unfoldable pub with_degrees : ℕ → List Edge → ℕ → List ℕ → List ℕ
unfolding words_at
with_degrees size es zero vs = []
with_degrees size es (suc k) vs =
    get_or vs 0 0 ∷ get_or vs 1 0 ∷ get_or vs 2 0 ∷ (degree_word size (length (words_at es (get_or vs 0 0))) ++ with_degrees size es k (drop size vs))

module _ (size : ℕ) (z : Size size) (es : List Edge) where
  pub degrees_long : (k : ℕ) (vs : List ℕ) → length (with_degrees size es k vs) ≡ size * k
  unfolding with_degrees
  degrees_long zero vs = omega arith
  degrees_long (suc k) vs =
      let d = length (words_at es (get_or vs 0 0)) in
      omega (arith, length-append (degree_word size d) (with_degrees size es k (drop size vs)), degree_length size z d, degrees_long k (drop size vs))

  behind : (k : ℕ) (vs : List ℕ) → drop size (with_degrees size es (suc k) vs) ≡ with_degrees size es k (drop size vs)
  unfolding with_degrees
  behind k vs =
      let d = length (words_at es (get_or vs 0 0)) in
      drop_at (get_or vs 0 0 ∷ get_or vs 1 0 ∷ get_or vs 2 0 ∷ degree_word size d) (with_degrees size es k (drop size vs)) size (omega (arith, degree_length size z d))

  -- the walk over the other words finds the same
  pub degrees_walk : (cap types : ℕ) (seen : List ℕ) (k : ℕ) (vs : List ℕ) (at : ℕ) →
      vertex_walk size cap types seen k (with_degrees size es k vs) at ≡ vertex_walk size cap types seen k vs at
  unfolding walk with_degrees
  degrees_walk cap types seen zero vs at = refl
  degrees_walk cap types seen (suc k) vs at = rw (behind k vs, degrees_walk cap types (get_or vs 0 0 ∷ seen) k (drop size vs) (at + size))

  pub degrees_numbers : (k : ℕ) (vs : List ℕ) → numbers_in size k (with_degrees size es k vs) ≡ numbers_in size k vs
  unfolding numbers_in with_degrees
  degrees_numbers zero vs = refl
  degrees_numbers (suc k) vs = rw (behind k vs, degrees_numbers k (drop size vs))

  -- and the degrees are right
  pub degrees_sound : (k : ℕ) (vs : List ℕ) (at : ℕ) → degree_walk size es k (with_degrees size es k vs) at ≡ Ok tt
  unfolding walk with_degrees
  degrees_sound zero vs at = refl
  degrees_sound (suc k) vs at =
      let d = length (words_at es (get_or vs 0 0)) in
      rw (le-ltb _ size (degree_whole size z (get_or vs 0 0) (get_or vs 1 0) (get_or vs 2 0) d d (with_degrees size es k (drop size vs)) refl), behind k vs)
      (degrees_sound k (drop size vs) (at + size))

  -- a word but a degree is as it was
  pub degrees_stay : (k : ℕ) (vs : List ℕ) (j r : ℕ) → j < k → r < 3 → get_or (with_degrees size es k vs) (size * j + r) 0 ≡ get_or vs (size * j + r) 0
  unfolding with_degrees
  degrees_stay zero vs j r h l = absurd (omega arith)
  degrees_stay (suc k) vs zero r h l = row_first size r (with_degrees size es (suc k) vs) ∙ near r l ∙ sym (row_first size r vs)
    where
      near : (r : ℕ) → r < 3 → get_or (with_degrees size es (suc k) vs) r 0 ≡ get_or vs r 0
      near zero l = refl
      near (suc zero) l = refl
      near (suc (suc zero)) l = refl
      near (suc (suc (suc r))) l = absurd (omega arith)
  degrees_stay (suc k) vs (suc j) r h l =
      sym (row_drop size j r (with_degrees size es (suc k) vs)) ∙ ap (λ (l : List ℕ). get_or l (size * j + r) 0) (behind k vs)
      ∙ degrees_stay k (drop size vs) j r (omega arith) l ∙ row_drop size j r vs

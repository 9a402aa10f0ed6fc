-- The last tested reading along the list of a, on words out to b, sets the way from a to b.
use Prim.Native.Nat.{ℕ}
use mathlib.Core.Path.{◌≡◌, refl, ap, ◌∙◌}
use mathlib.Core.Bool.{true, false}
use mathlib.Core.List.{List, [], ◌∷◌, ◌++◌}
use Rattle.lists.specs.Lists.{All, done, more}
use Rattle.graph.specs.declared.Reading.{Reading}
use Rattle.graph.specs.declared.Reading.TheVariants.{Untested, Heard}
use Rattle.graph.specs.Graph.{Graph, list_of}
use Rattle.prices.specs.Prices.{reading_out, Tested, silent, heard, later, last_tested, way, is_heard, one_way, nothing_heard}

later_tested : (r s : Reading) → Tested s → later r s ≡ s
later_tested r s silent = refl
later_tested r s (heard d) = refl

module _ (f : ℕ → Reading) where
  after_none : (r : Reading) {ws : List ℕ} → All (λ w. f w ≡ Untested) ws → last_tested f r ws ≡ r
  after_none r done = refl
  after_none r (more {x = w} {xs = ws} e s) =
      ap (λ (x : Reading). last_tested f (later r x) ws) e ∙ after_none r s

  along : (r : Reading) (us vs : List ℕ) → last_tested f r (us ++ vs) ≡ last_tested f (last_tested f r us) vs
  along r [] vs = refl
  along r (u ∷ us) vs = along (later r (f u)) us vs

  last_is : (us vs : List ℕ) (w : ℕ) → Tested (f w) → All (λ x. f x ≡ Untested) vs →
      last_tested f Untested (us ++ (w ∷ vs)) ≡ f w
  last_is us vs w t n =
      along Untested us (w ∷ vs)
      ∙ ap (λ (x : Reading). last_tested f x vs) (later_tested (last_tested f Untested us) (f w) t)
      ∙ after_none (f w) n

module _ (g : Graph) (a b : ℕ) where
  -- w goes out to b with a tested reading, and no word after it does
  pub way_last : (w : ℕ) (us vs : List ℕ) → list_of g a ≡ us ++ (w ∷ vs) →
      Tested (reading_out g b w) → All (λ x. reading_out g b x ≡ Untested) vs → way g a b ≡ reading_out g b w
  unfolding way
  way_last w us vs e t n = ap (last_tested (reading_out g b) Untested) e ∙ last_is (reading_out g b) us vs w t n

  pub way_none : All (λ x. reading_out g b x ≡ Untested) (list_of g a) → way g a b ≡ Untested
  unfolding way
  way_none n = after_none (reading_out g b) Untested n

  -- ---- what the reading that sets a way comes to

  pub way_heard : (d : ℕ) → way g a b ≡ Heard d → one_way g a b ≡ d
  unfolding one_way
  way_heard d e = rw e

  -- silent, or none
  pub way_not_heard : is_heard (way g a b) ≡ false → nothing_heard g a b ≡ true
  unfolding nothing_heard
  way_not_heard e = rw e

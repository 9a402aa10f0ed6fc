-- The numbers of records that a walk finds sound are distinct, where each passes only if no record before has its number.
use Rattle.std.specs.Prelude.{◌==◌}
use Prim.Native.Nat.{ℕ, zero, suc, ◌+◌, ◌≤◌}
use mathlib.Core.Path.{◌≡◌, refl, sym, ap, ◌∙◌, subst}
use mathlib.Core.Bool.{Bool, true, false, not, ◌||◌}
use mathlib.Core.List.{List, ◌∷◌}
use lib.ListN.{get_or, drop}
use borrow.Author.Tests.{eqb-true}
use Rattle.lists.specs.Lists.{member, distinct}
use Rattle.lists.proofs.Bools.{tf, and_both}
use Rattle.lists.proofs.Members.{has_self}
use Rattle.image.specs.Image.{numbers_in}
use Rattle.image_check.specs.Checks.{passed, walk, seeing}
use Rattle.image_check.proofs.Verdicts.{record_sound}
use Rattle.std.specs.Prelude.{Ok}

module _ (tests : List ℕ → List ℕ → List Bool) (tested size : ℕ) (fresh : (seen ws : List ℕ) → tested ≤ passed (tests seen ws) → member (get_or ws 0 0) seen ≡ false) where
  step : (seen : List ℕ) (k : ℕ) (ws : List ℕ) (at : ℕ) → walk tests seeing tested size seen (suc k) ws at ≡ Ok tt →
      (member (get_or ws 0 0) seen ≡ false) × (walk tests seeing tested size (get_or ws 0 0 ∷ seen) k (drop size ws) (at + size) ≡ Ok tt)
  unfolding walk
  step seen k ws at s =
      let r = record_sound tested at (passed (tests seen ws)) (walk tests seeing tested size (get_or ws 0 0 ∷ seen) k (drop size ws) (at + size)) s in
      (fresh seen ws r.0, r.1)

  numbers_new : (seen : List ℕ) (k : ℕ) (ws : List ℕ) (at m : ℕ) → walk tests seeing tested size seen k ws at ≡ Ok tt → member m seen ≡ true → member m (numbers_in size k ws) ≡ false
  unfolding numbers_in
  numbers_new seen zero ws at m s h = refl
  numbers_new seen (suc k) ws at m s h =
      let r = step seen k ws at s in
      go r.0 (numbers_new (get_or ws 0 0 ∷ seen) k (drop size ws) (at + size) m r.1) (get_or ws 0 0 == m) refl
    where
      go : member (get_or ws 0 0) seen ≡ false → (((get_or ws 0 0 == m) || member m seen) ≡ true → member m (numbers_in size k (drop size ws)) ≡ false) →
          (t : Bool) → (get_or ws 0 0 == m) ≡ t → (t || member m (numbers_in size k (drop size ws))) ≡ false
      go f ih true e = tf (sym (subst (λ (k : ℕ). member k seen ≡ true) (sym (eqb-true (get_or ws 0 0) m e)) h) ∙ f)
      go f ih false e = ih (rw e h)

  pub numbers_distinct : (seen : List ℕ) (k : ℕ) (ws : List ℕ) (at : ℕ) → walk tests seeing tested size seen k ws at ≡ Ok tt → distinct (numbers_in size k ws) ≡ true
  unfolding numbers_in
  numbers_distinct seen zero ws at s = refl
  numbers_distinct seen (suc k) ws at s =
      let n = get_or ws 0 0 in
      let ns = numbers_in size k (drop size ws) in
      let r = step seen k ws at s in
      and_both (not (member n ns)) (distinct ns)
      (ap not (numbers_new (n ∷ seen) k (drop size ws) (at + size) n r.1 (has_self n seen)))
      (numbers_distinct (n ∷ seen) k (drop size ws) (at + size) r.1)

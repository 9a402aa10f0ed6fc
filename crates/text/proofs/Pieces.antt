-- The pieces between separators, one at a time.
use Rattle.std.specs.Prelude.{◌==◌}
use Prim.Native.Nat.{ℕ}
use mathlib.Core.Path.{◌≡◌, refl, sym, subst}
use mathlib.Core.Bool.{Bool, true, false}
use mathlib.Core.List.{List, [], ◌∷◌, ◌++◌}
use borrow.Author.Tests.{eqb-true, eq-eqb}
use Rattle.lists.specs.Lists.{All, done, more}
use Rattle.text.specs.Reading.{on_first, pieces}

-- no element is s
abbrev pub Free : ℕ → List ℕ → Type 0
Free s xs = All (λ x. (x == s) ≡ false) xs

-- a list as what stands before the first separator, and what stands behind it
pub data Parts (s : ℕ) : List ℕ → Type 0 where
  rest : {p : List ℕ} → Free s p → Parts s p
  cut : {p xs : List ℕ} → Free s p → Parts s xs → Parts s (p ++ s ∷ xs)

module _ (s : ℕ) where
  parts_more : (x : ℕ) {xs : List ℕ} → (x == s) ≡ false → Parts s xs → Parts s (x ∷ xs)
  parts_more x e (rest f) = rest (more e f)
  parts_more x e (cut f q) = cut (more e f) q

  pub parts : (xs : List ℕ) → Parts s xs
  parts [] = rest done
  parts (x ∷ xs) = go (parts xs) (x == s) refl
    where
      go : Parts s xs → (t : Bool) → (x == s) ≡ t → Parts s (x ∷ xs)
      go q true e = subst (λ (y : ℕ). Parts s (y ∷ xs)) (sym (eqb-true x s e)) (cut {p = []} done q)
      go q false e = parts_more x e q

  pub pieces_rest : {p : List ℕ} → Free s p → pieces s p ≡ p ∷ []
  unfolding pieces on_first
  pieces_rest done = refl
  pieces_rest (more e f) = rw (e, pieces_rest f)

  pub pieces_cut : {p : List ℕ} → Free s p → (xs : List ℕ) → pieces s (p ++ s ∷ xs) ≡ p ∷ pieces s xs
  unfolding pieces on_first
  pieces_cut done xs = rw (eq-eqb s s refl)
  pieces_cut (more e f) xs = rw (e, pieces_cut f xs)

-- there is at least one piece
pub data NonEmpty : List (List ℕ) → Type 0 where
  nonempty : (l : List ℕ) (ls : List (List ℕ)) → NonEmpty (l ∷ ls)

pub pieces_nonempty : (s : ℕ) {xs : List ℕ} → Parts s xs → NonEmpty (pieces s xs)
pieces_nonempty s (rest {p = p} f) = subst NonEmpty (sym (pieces_rest s f)) (nonempty p [])
pieces_nonempty s (cut {p = p} {xs = xs} f q) = subst NonEmpty (sym (pieces_cut s f xs)) (nonempty p (pieces s xs))

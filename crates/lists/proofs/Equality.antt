-- The test of equality of two lists of numbers.
use Rattle.std.specs.Prelude.{◌==◌}
use Prim.Native.Nat.{ℕ}
use mathlib.Core.Path.{◌≡◌, refl, ap₂}
use mathlib.Core.Bool.{true}
use mathlib.Core.List.{List, [], ◌∷◌}
use borrow.Author.Tests.{eqb-true, eq-eqb}
use Rattle.lists.specs.Lists.{equal_lists}
use Rattle.lists.proofs.Bools.{ft, and_true, and_both}

pub words_eq : (xs ys : List ℕ) → equal_lists xs ys ≡ true → xs ≡ ys
words_eq [] [] e = refl
words_eq [] (y ∷ ys) e = ft e
words_eq (x ∷ xs) [] e = ft e
words_eq (x ∷ xs) (y ∷ ys) e =
    let a = and_true (x == y) (equal_lists xs ys) e in
    ap₂ ◌∷◌ (eqb-true x y a.0) (words_eq xs ys a.1)

pub words_refl : (xs : List ℕ) → equal_lists xs xs ≡ true
words_refl [] = refl
words_refl (x ∷ xs) = and_both (x == x) (equal_lists xs xs) (eq-eqb x x refl) (words_refl xs)

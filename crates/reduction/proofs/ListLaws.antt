-- A number that is dropped: those behind it, moved down by one.
use Prim.Native.Nat.{ℕ, zero, suc, ◌+◌, ◌-◌, ◌<◌}
use mathlib.Core.Path.{◌≡◌, refl, ap, ◌∙◌}
use mathlib.Core.List.{List, [], ◌∷◌, ◌++◌}
use native.Mathlib.Omega.{arith}
use native.Mathlib.Numerals.{add-one}
use lib.ListN.{length, take, drop, length-drop}
use lib.Seq.{take_all}
use Rattle.std.specs.List.{copy_within}
use Rattle.lists.specs.Lists.{without}

without_parts : (s : ℕ) (xs : List ℕ) → take s xs ++ drop (suc s) xs ≡ without s xs
without_parts zero [] = refl
without_parts (suc s) [] = refl
without_parts zero (x ∷ xs) = refl
without_parts (suc s) (x ∷ xs) = ap (λ (l : List ℕ). x ∷ l) (without_parts s xs)

pub moved_down : (xs : List ℕ) (at n : ℕ) → at < length xs → n ≡ length xs → copy_within xs (at + 1) n at ≡ without at xs ++ drop (length xs - 1) xs
moved_down xs at n h e =
    let one : at + 1 ≡ suc at = add-one at in
    let all : n - suc at ≡ length xs - suc at = omega (arith, e) in
    let end : at + (length xs - suc at) ≡ length xs - 1 = omega arith in
    rw (one, all, end)
    (ap (λ (l : List ℕ). (take at xs ++ l) ++ drop (length xs - 1) xs) (take_all (length xs - suc at) (drop (suc at) xs) (rw length-drop (omega arith)))
    ∙ ap (λ (l : List ℕ). l ++ drop (length xs - 1) xs) (without_parts at xs))

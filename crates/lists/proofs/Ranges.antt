-- The numbers from 0 on.
use Prim.Native.Nat.{ℕ, zero, suc, ◌+◌, ◌≤◌, ◌<◌}
use mathlib.Core.Path.{◌≡◌, refl, sym, ap, ◌∙◌}
use mathlib.Core.Bool.{Bool, true, false}
use mathlib.Core.List.{List, [], ◌∷◌, ◌++◌, map, map-append}
use native.Mathlib.Omega.{arith}
use native.Mathlib.Numerals.{add-one}
use lib.Dec.{ltb}
use lib.ListN.{length, get_or, set, take, drop, length-append, get_or-append}
use lib.Seq.{take-suc, drop-cons, set_at, take_at, get_or_at}
use borrow.Author.Tests.{ltb-true, ltb-false}
use Rattle.lists.specs.Lists.{range, overwritten}

pub range_length : (n : ℕ) → length (range n) ≡ n
range_length zero = refl
range_length (suc n) = length-append (range n) (n ∷ []) ∙ omega (arith, range_length n)

-- one more at the front of a slice
pub range_more : (i : ℕ) (ks : List ℕ) → i < length ks → set (overwritten (range i) ks) i i ≡ overwritten (range (i + 1)) ks
range_more i ks h =
    let e = range_length i in
    let f : length (range i ++ (i ∷ [])) ≡ suc i = range_length (suc i) in
    ap (λ (j : ℕ). set (range i ++ drop j ks) i i) e
    ∙ ap (λ (l : List ℕ). set (range i ++ l) i i) (drop-cons ks i 0 h)
    ∙ set_at (range i) (get_or ks i 0) (drop (suc i) ks) i i e
    ∙ sym (glue (range i) i (drop (suc i) ks))
    ∙ ap (λ (j : ℕ). (range i ++ (i ∷ [])) ++ drop j ks) (sym f)
    ∙ ap (λ (j : ℕ). overwritten (range j) ks) (sym (add-one i))
  where
    glue : (xs : List ℕ) (x : ℕ) (ys : List ℕ) → (xs ++ (x ∷ [])) ++ ys ≡ xs ++ (x ∷ ys)
    glue [] x ys = refl
    glue (y ∷ xs) x ys = ap (λ (l : List ℕ). y ∷ l) (glue xs x ys)

pub range_front : (n : ℕ) (ks : List ℕ) → take n (overwritten (range n) ks) ≡ range n
range_front n ks = take_at (range n) (drop (length (range n)) ks) n (range_length n)

pub range_at : (n i : ℕ) → i < n → get_or (range n) i 0 ≡ i
range_at zero i h = absurd (omega arith)
range_at (suc n) i h = go (λ l. range_at n i l) (ltb i n) refl
  where
    go : (i < n → get_or (range n) i 0 ≡ i) → (t : Bool) → ltb i n ≡ t → get_or (range n ++ (n ∷ [])) i 0 ≡ i
    go f true e = get_or-append (range n) (n ∷ []) 0 i (omega (arith, ltb-true i n e, range_length n)) ∙ f (ltb-true i n e)
    go f false e = let z : i ≡ n = omega (arith, ltb-false i n e) in get_or_at (range n) n [] 0 i (omega (arith, range_length n)) ∙ sym z

pub picks_all : {A : Type 0} (xs : List A) (z : A) (n : ℕ) → n ≤ length xs → map (λ (k : ℕ). get_or xs k z) (range n) ≡ take n xs
picks_all xs z zero h = refl
picks_all xs z (suc n) h =
    map-append (λ (k : ℕ). get_or xs k z) (range n) (n ∷ []) ∙ ap (λ (l : List _). l ++ (get_or xs n z ∷ [])) (picks_all xs z n (omega arith)) ∙ sym (take-suc xs n z (omega arith))

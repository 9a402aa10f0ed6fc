-- The end images, each at the front of its part: one more.
use Prim.Native.Nat.{ℕ, zero, suc, ◌+◌, ◌*◌, ◌≤◌}
use mathlib.Core.Path.{◌≡◌, refl, sym, ap, subst, ◌∙◌}
use mathlib.Core.List.{List, [], ◌∷◌, ◌++◌, append_assoc, map-append}
use native.Mathlib.Omega.{arith}
use native.Mathlib.Numerals.{add-one}
use lib.ListN.{length, take, drop, length-append, length-drop, length-map}
use lib.Seq.{length-take-le, take-append-add, drop-append-add}
use Rattle.lists.specs.Lists.{sum_of, range, overwritten, All, done, more}
use Rattle.lists.proofs.Sums.{sum_append, all_append}
use Rattle.graph.specs.Graph.{Graph}
use Rattle.image.specs.Image.{save}
use Rattle.machine.specs.StoreRun.{over_parts}
use Rattle.machine.proofs.Whole.{over_length}
use Rattle.store_calls.specs.Parts.{part, with_part}
use Rattle.stores.specs.Saving.{images_to}
use Rattle.store_calls.proofs.Parts.{as_taken, with_is}

-- words at the front of part i
abbrev put : ℕ → ℕ → List ℕ → List ℕ → List ℕ
put n i x l = take (i * n) l ++ (overwritten x (take n (drop (i * n) l)) ++ drop (i * n + n) l)

put_is : (n i : ℕ) (x l : List ℕ) → with_part n i (overwritten x (part n i l)) l ≡ put n i x l
put_is n i x l =
    with_is n i (overwritten x (part n i l)) l ∙ ap (λ (p : List ℕ). take (i * n) l ++ (overwritten x p ++ drop (i * n + n) l)) (as_taken n i l)

-- what was written over a slice of n words is no longer
pub over_short : (x l : List ℕ) (n : ℕ) → length (overwritten x l) ≡ n → length x ≤ n
over_short x l n e = omega (arith, length-append x (drop (length x) l), e)

one_over : (n : ℕ) (xs : List (List ℕ)) (x ws : List ℕ) → All (λ (y : List ℕ). length y ≤ n) xs → length xs * n ≤ length ws →
    over_parts n (xs ++ (x ∷ [])) ws ≡ put n (length xs) x (over_parts n xs ws)
one_over n [] x ws a h =
    let z : 0 ≡ 0 * n = omega arith in
    let q : n ≡ 0 * n + n = omega arith in
    λ i. take (z i) ws ++ (overwritten x (take n (drop (z i) ws)) ++ drop (q i) ws)
one_over n (y ∷ xs) x ws (more p a) h =
    let Y = overwritten y (take n ws) in
    let R = over_parts n xs (drop n ws) in
    let i = length xs in
    let small : n ≤ length ws = omega (arith, h) in
    let t = length-take-le n ws small in
    let l : length Y ≡ n = over_length y (take n ws) (omega (arith, p, t)) ∙ t in
    let ih = one_over n xs x (drop n ws) a (omega (arith, h, length-drop n ws)) in
    let s : suc i * n ≡ length Y + i * n = omega (arith, l) in
    let u : suc i * n + n ≡ length Y + (i * n + n) = omega (arith, l) in
    let T = ap (λ (k : ℕ). take k (Y ++ R)) s ∙ take-append-add Y R (i * n) in
    let D = ap (λ (k : ℕ). drop k (Y ++ R)) s ∙ drop-append-add Y R (i * n) in
    let E = ap (λ (k : ℕ). drop k (Y ++ R)) u ∙ drop-append-add Y R (i * n + n) in
    ap (λ (k : List ℕ). Y ++ k) ih
    ∙ sym (append_assoc Y (take (i * n) R) (overwritten x (take n (drop (i * n) R)) ++ drop (i * n + n) R))
    ∙ (λ j. sym T j ++ (overwritten x (take n (sym D j)) ++ sym E j))

module _ (g : ℕ → Graph) (k : ℕ) where
  one_image : images_to g (k + 1) ≡ images_to g k ++ (save (g k) ∷ [])
  one_image = ap (λ (j : ℕ). images_to g j) (add-one k) ∙ map-append (λ (i : ℕ). save (g i)) (range k) (k ∷ [])

  module _ (n : ℕ) (a : All (λ (y : List ℕ). length y ≤ n) (images_to g k)) where
    pub short_more : length (save (g k)) ≤ n → All (λ (y : List ℕ). length y ≤ n) (images_to g (k + 1))
    short_more h = subst (All (λ (y : List ℕ). length y ≤ n)) (sym one_image) (all_append a (more h done))

    pub over_more : (ws : List ℕ) → k * n ≤ length ws →
        with_part n k (overwritten (save (g k)) (part n k (over_parts n (images_to g k) ws))) (over_parts n (images_to g k) ws) ≡ over_parts n (images_to g (k + 1)) ws
    over_more ws h =
        let m : length (images_to g k) ≡ k = images_many k in
        let o = one_over n (images_to g k) (save (g k)) ws a (omega (arith, h, ap (λ (j : ℕ). j * n) m)) in
        put_is n k (save (g k)) (over_parts n (images_to g k) ws)
        ∙ ap (λ (j : ℕ). put n j (save (g k)) (over_parts n (images_to g k) ws)) (sym m)
        ∙ sym o
        ∙ ap (λ (xs : List (List ℕ)). over_parts n xs ws) (sym one_image)
      where
        range_many : (j : ℕ) → length (range j) ≡ j
        range_many zero = refl
        range_many (suc j) = omega (arith, length-append (range j) (j ∷ []), range_many j)

        images_many : (j : ℕ) → length (images_to g j) ≡ j
        images_many j = length-map (range j) (λ (i : ℕ). save (g i)) ∙ range_many j

  pub sum_more : sum_of length (images_to g k) + length (save (g k)) ≡ sum_of length (images_to g (k + 1))
  sum_more =
      let s = sum_append length (images_to g k) (save (g k) ∷ []) in
      let e = ap (λ (xs : List (List ℕ)). sum_of length xs) one_image in
      omega (arith, s, e)

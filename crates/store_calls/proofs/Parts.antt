-- Another part's words stay where one part is replaced.
use Prim.Native.Nat.{ℕ, zero, suc, ◌+◌, ◌-◌, ◌*◌, ◌≤◌, ◌<◌}
use mathlib.Core.Path.{◌≡◌, refl, sym, ap, ◌∙◌}
use mathlib.Core.Logic.{◌≢◌}
use mathlib.Core.List.{List, ◌++◌}
use native.Mathlib.Omega.{arith}
use mathlib.Core.Bool.{Bool, true, false}
use lib.Dec.{ltb}
use borrow.Author.Tests.{ltb-true, ltb-false}
use lib.ListN.{length, get_or, take, drop, length-append, length-drop, get_or-append}
use lib.Seq.{length-take-le, get_or-take, get_or-drop, get_or-append-add, ext_get_or, take_at, drop_at, drop-drop, drop-append-add}
use Rattle.store_calls.specs.Parts.{part, with_part, RestStays}

-- the places of part i end where those of a later part begin
pub before_part : (n i j : ℕ) → i < j → i * n + n ≤ j * n
before_part n zero zero h = absurd (omega arith)
before_part n zero (suc j) h = omega arith
before_part n (suc i) zero h = absurd (omega arith)
before_part n (suc i) (suc j) h = let r = before_part n i j (omega arith) in omega (arith, r)

-- a part of one of k ends within words that have k
pub part_end : (n i k size : ℕ) → i < k → k * n ≤ size → i * n + n ≤ size
part_end n i k size h f = omega (arith, before_part n i k h, f)

pub as_taken : (n i : ℕ) (l : List ℕ) → part n i l ≡ take n (drop (i * n) l)
as_taken n i l = let e : i * n + n - i * n ≡ n = omega arith in ap (λ (k : ℕ). take k (drop (i * n) l)) e

pub part_length : (n i : ℕ) (l : List ℕ) → i * n + n ≤ length l → length (part n i l) ≡ n
part_length n i l g = ap length (as_taken n i l) ∙ length-take-le n (drop (i * n) l) (rw (length-drop (i * n) l) (omega (arith, g)))

-- the same by the end of the part
abbrev pub replaced : ℕ → ℕ → List ℕ → List ℕ → List ℕ
replaced n i ws l = take (i * n) l ++ (ws ++ drop (i * n + n) l)

pub with_is : (n i : ℕ) (ws l : List ℕ) → with_part n i ws l ≡ replaced n i ws l
with_is n i ws l = let e : i * n + (i * n + n - i * n) ≡ i * n + n = omega arith in
    ap (λ (r : List ℕ). take (i * n) l ++ (ws ++ r)) (drop-drop (i * n + n - i * n) (i * n) l ∙ ap (λ (k : ℕ). drop k l) e)

module _ (n i : ℕ) (ws l : List ℕ) (long : length ws ≡ n) (fits : i * n + n ≤ length l) where
  front : length (take (i * n) l) ≡ i * n
  front = length-take-le (i * n) l (omega (arith, fits))

  length_replaced : length (replaced n i ws l) ≡ length l
  length_replaced =
      let a = length-append (take (i * n) l) (ws ++ drop (i * n + n) l) in
      let b = length-append ws (drop (i * n + n) l) in
      omega (arith, a, b, length-drop (i * n + n) l, front, long, fits)

  same_replaced : part n i (replaced n i ws l) ≡ ws
  same_replaced =
      as_taken n i (replaced n i ws l)
      ∙ ap (take n) (drop_at (take (i * n) l) (ws ++ drop (i * n + n) l) (i * n) front)
      ∙ take_at ws (drop (i * n + n) l) n long

  get_or_below : (p : ℕ) → p < i * n → get_or (replaced n i ws l) p 0 ≡ get_or l p 0
  get_or_below p h =
      get_or-append (take (i * n) l) (ws ++ drop (i * n + n) l) 0 p (omega (arith, front, h)) ∙ get_or-take (i * n) l p 0 h

  get_or_above : (p : ℕ) → i * n + n ≤ p → get_or (replaced n i ws l) p 0 ≡ get_or l p 0
  get_or_above p h =
      let q = p - (i * n + n) in
      let e : p ≡ length (take (i * n) l) + (length ws + q) = omega (arith, front, long, h) in
      let f : i * n + n + q ≡ p = omega (arith, h) in
      ap (λ (k : ℕ). get_or (replaced n i ws l) k 0) e
      ∙ get_or-append-add (take (i * n) l) (ws ++ drop (i * n + n) l) (length ws + q) 0
      ∙ get_or-append-add ws (drop (i * n + n) l) q 0
      ∙ get_or-drop (i * n + n) l q 0
      ∙ ap (λ (k : ℕ). get_or l k 0) f

  other_replaced : (j : ℕ) → j ≢ i → j * n + n ≤ length l → part n j (replaced n i ws l) ≡ part n j l
  other_replaced j d h =
      ext_get_or 0 (part n j (replaced n i ws l)) (part n j l) (size (replaced n i ws l) (omega (arith, length_replaced, h)) ∙ sym (size l h))
      (λ k b. word k (omega (arith, b, size (replaced n i ws l) (omega (arith, length_replaced, h)))))
    where
      size : (xs : List ℕ) → j * n + n ≤ length xs → length (part n j xs) ≡ n
      size xs g = part_length n j xs g

      read : (xs : List ℕ) (k : ℕ) → k < n → get_or (part n j xs) k 0 ≡ get_or xs (j * n + k) 0
      read xs k b = ap (λ (ys : List ℕ). get_or ys k 0) (as_taken n j xs) ∙ get_or-take n (drop (j * n) xs) k 0 b ∙ get_or-drop (j * n) xs k 0

      there : (k : ℕ) → k < n → get_or (replaced n i ws l) (j * n + k) 0 ≡ get_or l (j * n + k) 0
      there k b = go (ltb j i) refl
        where
          go : (t : Bool) → ltb j i ≡ t → get_or (replaced n i ws l) (j * n + k) 0 ≡ get_or l (j * n + k) 0
          go true f = get_or_below (j * n + k) (omega (arith, b, before_part n j i (ltb-true j i f)))
          go false f = get_or_above (j * n + k) (omega (arith, before_part n i j (omega (arith, ltb-false j i f, d))))

      word : (k : ℕ) → k < n → get_or (part n j (replaced n i ws l)) k 0 ≡ get_or (part n j l) k 0
      word k b = read (replaced n i ws l) k b ∙ there k b ∙ sym (read l k b)

  pub length_with : length (with_part n i ws l) ≡ length l
  length_with = ap length (with_is n i ws l) ∙ length_replaced

  pub part_same : part n i (with_part n i ws l) ≡ ws
  part_same = ap (part n i) (with_is n i ws l) ∙ same_replaced

  pub part_other : (j : ℕ) → j ≢ i → j * n + n ≤ length l → part n j (with_part n i ws l) ≡ part n j l
  part_other j d h = ap (part n j) (with_is n i ws l) ∙ other_replaced j d h

  pub behind_with : (k : ℕ) → i < k → RestStays k n l (with_part n i ws l)
  behind_with k h =
      let b = before_part n i k h in
      let q = k * n - (i * n + n) in
      let e : k * n ≡ length (take (i * n) l) + (length ws + q) = omega (arith, front, long, b) in
      let f : i * n + n + q ≡ k * n = omega (arith, b) in
      ap (drop (k * n)) (with_is n i ws l)
      ∙ ap (λ (j : ℕ). drop j (replaced n i ws l)) e
      ∙ drop-append-add (take (i * n) l) (ws ++ drop (i * n + n) l) (length ws + q)
      ∙ drop-append-add ws (drop (i * n + n) l) q
      ∙ drop-drop q (i * n + n) l
      ∙ ap (λ (j : ℕ). drop j l) f

-- Stores one after another: what they write, what stays, and what is read back.
use Prim.Native.Nat.{ℕ, zero, suc, ◌+◌, ◌-◌, ◌≤◌, ◌<◌}
use mathlib.Core.Path.{◌≡◌, refl, sym, ap, ◌∙◌}
use mathlib.Core.List.{List, [], ◌∷◌, ◌++◌, append_assoc}
use native.Mathlib.Omega.{arith}
use lib.ListN.{length, get_or, take, drop, set, length-append, length-drop, take-append-drop}
use lib.Seq.{sets, sets-eq, set_comm, take-set-le, take-nil, take-append_seam, drop-append-add, drop_at, drop-drop, length-take-le, get_or-set_other}
use Rattle.lists.specs.Lists.{overwritten}

pub sets_append : (l xs ys : List ℕ) (at : ℕ) → sets (sets l at xs) (at + length xs) ys ≡ sets l at (xs ++ ys)
sets_append l [] ys at = let e : at + 0 ≡ at = omega arith in rw e
sets_append l (x ∷ xs) ys at =
    let e : at + suc (length xs) ≡ suc at + length xs = omega arith in
    rw e (sets_append _ xs ys (suc at))

pub sets_over : (ws l : List ℕ) → length ws ≤ length l → sets l 0 ws ≡ overwritten ws l
sets_over ws l h = let e : 0 + length ws ≡ length ws = omega arith in sets-eq ws l 0 (omega arith) ∙ ap (λ (k : ℕ). ws ++ drop k l) e

-- the front stays
pub sets_front : (j : ℕ) (cs : List ℕ) (i : ℕ) (vs : List ℕ) → j ≤ i → take j (sets cs i vs) ≡ take j cs
sets_front j cs i [] h = refl
sets_front j cs i (v ∷ vs) h = sets_front j (set cs i v) (suc i) vs (omega arith) ∙ take-set-le j cs i v h

-- a part, as what is left of a front
pub take_drop : (n i : ℕ) (cs : List ℕ) → take n (drop i cs) ≡ drop i (take (i + n) cs)
take_drop n zero cs = ap (λ (j : ℕ). take j cs) (let e : n ≡ 0 + n = omega arith in e)
take_drop n (suc i) [] = take-nil n ∙ sym (ap (drop (suc i)) (take-nil (suc i + n)))
take_drop n (suc i) (c ∷ cs) = let e : suc i + n ≡ suc (i + n) = omega arith in take_drop n i cs ∙ ap (λ (j : ℕ). drop (suc i) (take j (c ∷ cs))) (sym e)

-- what was written can be read
pub sets_read : (cs : List ℕ) (i : ℕ) (vs : List ℕ) → i + length vs ≤ length cs → take (length vs) (drop i (sets cs i vs)) ≡ vs
sets_read cs i vs h =
    let p : length (take i cs) ≡ i = length-take-le i cs (omega arith) in
    ap (λ (l : List ℕ). take (length vs) (drop i l)) (sets-eq vs cs i h ∙ append_assoc (take i cs) vs (drop (i + length vs) cs))
    ∙ ap (take (length vs)) (drop_at (take i cs) (vs ++ drop (i + length vs) cs) i p)
    ∙ take-append_seam vs (drop (i + length vs) cs)

-- a part that `save` overwrote, put back
pub part_sets : (cs : List ℕ) (at size : ℕ) (ws out : List ℕ) → at + size ≤ length cs → length ws ≤ size
    → out ≡ overwritten ws (take size (drop at cs)) → take at cs ++ out ++ drop (at + size) cs ≡ sets cs at ws
part_sets cs at size ws out h l e =
    let n = length ws in
    let k : at + size ≡ at + n + (size - n) = omega arith in
    let d : drop n (take size (drop at cs)) ++ drop (at + size) cs ≡ drop (at + n) cs =
    ap (λ (t : List ℕ). t ++ drop (at + size) cs) (drop_take n size (drop at cs) l ∙ ap (take (size - n)) (drop-drop n at cs))
    ∙ ap (λ (t : List ℕ). take (size - n) (drop (at + n) cs) ++ t) (ap (λ (j : ℕ). drop j cs) k ∙ sym (drop-drop (size - n) (at + n) cs))
    ∙ take-append-drop (size - n) (drop (at + n) cs) in
    ap (λ (o : List ℕ). take at cs ++ o ++ drop (at + size) cs) e
    ∙ sym (ap (λ (t : List ℕ). t ++ drop (at + size) cs) (append_assoc (take at cs) ws (drop n (take size (drop at cs)))))
    ∙ append_assoc (take at cs ++ ws) (drop n (take size (drop at cs))) (drop (at + size) cs)
    ∙ ap (λ (t : List ℕ). take at cs ++ ws ++ t) d
    ∙ sym (sets-eq ws cs at (omega arith))
  where
    drop_take : (n m : ℕ) (l : List ℕ) → n ≤ m → drop n (take m l) ≡ take (m - n) (drop n l)
    drop_take zero m l h = ap (λ (j : ℕ). take j l) (let e : m ≡ m - 0 = omega arith in e)
    drop_take (suc n) zero l h = absurd (omega arith)
    drop_take (suc n) (suc m) [] h = sym (nil (suc m - suc n))
      where
        nil : (j : ℕ) → ◌≡◌ {A = List ℕ} (take j []) []
        nil zero = refl
        nil (suc j) = refl
    drop_take (suc n) (suc m) (c ∷ l) h = let e : suc m - suc n ≡ m - n = omega arith in drop_take n m l (omega arith) ∙ ap (λ (j : ℕ). take j (drop n l)) (sym e)

-- every other word stays
pub sets_other : (cs : List ℕ) (i : ℕ) (vs : List ℕ) (j : ℕ) → (i ≤ j → j < i + length vs → ⊥) → get_or (sets cs i vs) j 0 ≡ get_or cs j 0
sets_other cs i [] j h = refl
sets_other cs i (v ∷ vs) j h =
    sets_other (set cs i v) (suc i) vs j (λ a b. h (omega arith) (omega arith)) ∙ get_or-set_other cs i j v 0 (λ q. h (omega (arith, q)) (omega (arith, q)))

-- words behind those at the front
pub over_sets : (A ws list : List ℕ) → length A + length ws ≤ length list → sets (overwritten A list) (length A) ws ≡ overwritten (A ++ ws) list
over_sets A ws list h =
    let D = drop (length A) list in
    let long : length (A ++ ws) ≡ length A + length ws = length-append A ws in
    let p : take (length A) (A ++ D) ≡ A = take-append_seam A D in
    let d : drop (length A + length ws) (A ++ D) ≡ drop (length ws) D = drop-append-add A D (length ws) in
    let t : drop (length ws) D ≡ drop (length (A ++ ws)) list = drop-drop (length ws) (length A) list ∙ ap (λ (j : ℕ). drop j list) (sym long) in
    sets-eq ws (A ++ D) (length A) (rw (length-append, length-drop) (omega arith))
    ∙ rw (p, d, t)

set_apart : (l : List ℕ) (i a to : ℕ) (vs : List ℕ) → i < to → sets (set l i a) to vs ≡ set (sets l to vs) i a
set_apart l i a to [] h = refl
set_apart l i a to (v ∷ vs) h = ap (λ (k : List ℕ). sets k (suc to) vs) (set_comm l i to a v (λ e. omega arith)) ∙ set_apart (set l to v) i a (suc to) vs (omega arith)

pub sets_apart : (l : List ℕ) (at to : ℕ) (us vs : List ℕ) → at + length us ≤ to → sets (sets l at us) to vs ≡ sets (sets l to vs) at us
sets_apart l at to [] vs h = refl
sets_apart l at to (u ∷ us) vs h =
    sets_apart (set l at u) (suc at) to us vs (omega arith) ∙ ap (λ (k : List ℕ). sets k (suc at) us) (set_apart l at u to vs (omega arith))

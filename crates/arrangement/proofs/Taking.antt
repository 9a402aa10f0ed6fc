-- Scratch that has 1 at each item: the wanted words can be taken off it, and are as many, exactly where they are the items.
use Rattle.std.specs.Prelude.{◌==◌}
use Prim.Native.Nat.{ℕ, ◌-◌, ◌*◌, ◌≤◌, ◌<◌}
use mathlib.Core.Path.{◌≡◌, refl, sym, ap, ◌∙◌, subst}
use mathlib.Core.Bool.{Bool, true, false, not, ◌&&◌}
use mathlib.Core.List.{List, [], ◌∷◌, ◌++◌}
use native.Mathlib.Omega.{arith}
use lib.Dec.{ltb}
use lib.ListN.{length, get_or, set, replicate, length-set, length-replicate, get_or-replicate, get_or-eq_default}
use lib.Seq.{get_or-set_same, get_or-set_other}
use borrow.Author.Tests.{eq-eqb, eqb-true, eqb-false, ltb-true, ltb-false}
use Rattle.lists.specs.Choice.{◌⇒◌else◌, to_bit}
use Rattle.lists.specs.Lists.{count}
use Rattle.lists.specs.Keyed.{remove_by}
use Rattle.lists.proofs.Bools.{ft, and_true, and_both}
use Rattle.lists.proofs.Sums.{Alike, alike_length, same_alike, alike_same}
use Rattle.graph.specs.Graph.{itself}
use Rattle.graph.specs.WellFormed.{same_words}
use Rattle.image.proofs.Counts.{rem_count, rem_length, self_one}
use Rattle.lists.proofs.WordLaws.{inside}
use Rattle.arrangement.specs.Orders.{refusal, written, arrangement}
use Rattle.arrangement.specs.Scratch.{marked, taken, settled}

abbrev pub Once : List ℕ → Type 0
Once items = (n : ℕ) → count n items ≤ 1

-- a scratch word for each item
abbrev pub Inside : ℕ → List ℕ → Type 0
Inside room items = (n : ℕ) → 1 ≤ count n items → n < room

abbrev pub Tied : List ℕ → List ℕ → Type 0
Tied s items = (n : ℕ) → get_or s n 0 ≡ count n items

-- ---- marking

pub marked_append : (xs ys s : List ℕ) → marked (xs ++ ys) s ≡ marked ys (marked xs s)
marked_append [] ys s = refl
marked_append (x ∷ xs) ys s = marked_append xs ys (set s x 1)

pub marked_length : (xs s : List ℕ) → length (marked xs s) ≡ length s
marked_length [] s = refl
marked_length (x ∷ xs) s = marked_length xs (set s x 1) ∙ length-set s x 1

marked_out : (n : ℕ) (xs s : List ℕ) → count n xs ≡ 0 → get_or (marked xs s) n 0 ≡ get_or s n 0
marked_out n [] s h = refl
marked_out n (x ∷ xs) s h = go (λ q. marked_out n xs (set s x 1) q) (x == n) refl
  where
    go : (count n xs ≡ 0 → get_or (marked xs (set s x 1)) n 0 ≡ get_or (set s x 1) n 0) → (t : Bool) → (x == n) ≡ t → get_or (marked xs (set s x 1)) n 0 ≡ get_or s n 0
    go ih true e = let q : to_bit (x == n) ≡ 1 = ap to_bit e in absurd (omega (arith, h))
    go ih false e = ih (omega (arith, h)) ∙ get_or-set_other s x n 1 0 (λ r. eqb-false x n e (sym r))

marked_in : (n : ℕ) (xs s : List ℕ) → Inside (length s) xs → 1 ≤ count n xs → get_or (marked xs s) n 0 ≡ 1
marked_in n [] s r h = absurd (omega arith)
marked_in n (x ∷ xs) s r h = go (λ l q. marked_in n xs (set s x 1) l q) (ltb 0 (count n xs)) refl
  where
    later : Inside (length (set s x 1)) xs
    later k q = omega (arith, r k (omega (arith, q)), length-set s x 1)

    go : (Inside (length (set s x 1)) xs → 1 ≤ count n xs → get_or (marked xs (set s x 1)) n 0 ≡ 1) → (t : Bool) → ltb 0 (count n xs) ≡ t → get_or (marked xs (set s x 1)) n 0 ≡ 1
    go ih true e = ih later (ltb-true 0 (count n xs) e)
    go ih false e =
        let z : count n xs ≡ 0 = omega (arith, ltb-false 0 (count n xs) e) in
        marked_out n xs (set s x 1) z ∙ at_x (x == n) refl z
      where
        at_x : (t : Bool) → (x == n) ≡ t → count n xs ≡ 0 → get_or (set s x 1) n 0 ≡ 1
        at_x true f z = subst (λ (y : ℕ). get_or (set s x 1) y 0 ≡ 1) (eqb-true x n f) (get_or-set_same s x 1 0 (r x (omega (arith, self_one x))))
        at_x false f z = let q : to_bit (x == n) ≡ 0 = ap to_bit f in absurd (omega (arith, h))

zeros : (k n : ℕ) → ◌≡◌ {A = ℕ} (get_or (replicate k 0) n 0) 0
zeros k n = go (ltb n k) refl
  where
    go : (t : Bool) → ltb n k ≡ t → ◌≡◌ {A = ℕ} (get_or (replicate k 0) n 0) 0
    go true e = get_or-replicate k n 0 0 (ltb-true n k e)
    go false e = get_or-eq_default (replicate k 0) 0 (omega (arith, length-replicate {A = ℕ} k 0, ltb-false n k e))

pub tied_marks : (room : ℕ) (items : List ℕ) → Once items → Inside room items → Tied (marked items (replicate room 0)) items
tied_marks room items o r n = go (ltb 0 (count n items)) refl
  where
    go : (t : Bool) → ltb 0 (count n items) ≡ t → get_or (marked items (replicate room 0)) n 0 ≡ count n items
    go true e =
        let q = ltb-true 0 (count n items) e in
        omega (arith, marked_in n items (replicate room 0) (λ k h. omega (arith, r k h, length-replicate {A = ℕ} room 0)) q, o n)
    go false e =
        let z : count n items ≡ 0 = omega (arith, ltb-false 0 (count n items) e) in
        marked_out n items (replicate room 0) z ∙ zeros room n ∙ sym z

-- ---- taking off

module _ (s items : List ℕ) (w : ℕ) (k : Tied s items) (o : Once items) (h : 1 ≤ count w items) where
  tied_off : Tied (set s w 0) (remove_by itself w items)
  tied_off n = go (w == n) refl
    where
      go : (t : Bool) → (w == n) ≡ t → get_or (set s w 0) n 0 ≡ count n (remove_by itself w items)
      go true e =
          let q : to_bit (w == n) ≡ 1 = ap to_bit e in
          let z : get_or (set s w 0) n 0 ≡ 0 = subst (λ (y : ℕ). get_or (set s w 0) y 0 ≡ 0) (eqb-true w n e) (get_or-set_same s w 0 0 (inside s w (omega (arith, k w)))) in
          omega (arith, z, rem_count w items h n, o n)
      go false e =
          let q : to_bit (w == n) ≡ 0 = ap to_bit e in
          omega (arith, get_or-set_other s w n 0 0 (λ r. eqb-false w n e (sym r)), rem_count w items h n, k n)

  once_off : Once (remove_by itself w items)
  once_off n = omega (arith, rem_count w items h n, o n)

pub taken_alike : (wanted items s : List ℕ) → Tied s items → Once items → length wanted ≡ length items → taken wanted s ≡ true → Alike wanted items
unfolding taken
taken_alike [] [] s k o l e = λ n. refl
taken_alike [] (x ∷ items) s k o l e = absurd (omega arith)
taken_alike (w ∷ ws) items s k o l e = go (λ xs u v q i. taken_alike ws xs (set s w 0) u v q i) (get_or s w 0 == 1) refl e
  where
    go : ((xs : List ℕ) → Tied (set s w 0) xs → Once xs → length ws ≡ length xs → taken ws (set s w 0) ≡ true → Alike ws xs) → (t : Bool) → (get_or s w 0 == 1) ≡ t
        → (t ⇒ taken ws (set s w 0) else false) ≡ true → Alike (w ∷ ws) items
    go ih true f i =
        let h : 1 ≤ count w items = omega (arith, eqb-true (get_or s w 0) 1 f, k w) in
        let a = ih (remove_by itself w items) (tied_off s items w k o h) (once_off s items w k o h) (omega (arith, rem_length w items h, l)) i in
        λ n. omega (arith, a n, rem_count w items h n)
    go ih false f i = ft i

pub alike_taken : (wanted items s : List ℕ) → Tied s items → Once items → Alike wanted items → taken wanted s ≡ true
unfolding taken
alike_taken [] items s k o a = refl
alike_taken (w ∷ ws) items s k o a =
    let h : 1 ≤ count w items = omega (arith, a w, self_one w) in
    let f : (get_or s w 0 == 1) ≡ true = eq-eqb (get_or s w 0) 1 (omega (arith, k w, o w)) in
    rw f (alike_taken ws (remove_by itself w items) (set s w 0) (tied_off s items w k o h) (once_off s items w k o h) (λ n. omega (arith, a n, rem_count w items h n)))

-- ---- the test on scratch is the one on lists

module _ (kind : ℕ) (items present wanted list s : List ℕ) (k : Tied s items) (o : Once items) (a : Alike items present) where
  same_test : ((length wanted == length items) && taken wanted s) ≡ same_words wanted present
  same_test = go ((length wanted == length items) && taken wanted s) (same_words wanted present) refl refl
    where
      go : (t u : Bool) → ((length wanted == length items) && taken wanted s) ≡ t → same_words wanted present ≡ u → t ≡ u
      go true true e f = refl
      go true false e f =
          let p = and_true (length wanted == length items) (taken wanted s) e in
          let b = taken_alike wanted items s k o (eqb-true (length wanted) (length items) p.0) p.1 in
          sym (alike_same wanted present (λ n. b n ∙ a n)) ∙ f
      go false true e f =
          let b : Alike wanted items = λ n. same_alike wanted present f n ∙ sym (a n) in
          sym e ∙ and_both (length wanted == length items) (taken wanted s) (eq-eqb (length wanted) (length items) (alike_length wanted items b)) (alike_taken wanted items s k o b)
      go false false e f = refl

  pub settled_is : settled kind wanted (length items) s list ≡ arrangement kind present wanted list
  unfolding settled arrangement
  settled_is =
      ap (λ (t : Bool). not t ⇒ refusal 111 list else ltb (length list) (5 * (length wanted - 1)) ⇒ refusal 112 list else written kind wanted list) same_test

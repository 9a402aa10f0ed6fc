-- What is left still fails alike, and no earlier element can be left out; and the search as it goes.
use Rattle.std.specs.Prelude.{◌==◌}
use Prim.Native.Nat.{ℕ, zero, suc, ◌+◌, ◌-◌, ◌≤◌, ◌<◌}
use mathlib.Core.Path.{◌≡◌, refl, sym, ap, ◌∙◌}
use mathlib.Core.Logic.{◌≢◌}
use mathlib.Core.Bool.{Bool, true, false}
use mathlib.Core.List.{List, [], ◌∷◌}
use native.Mathlib.Omega.{arith}
use lib.ListN.{length}
use borrow.Author.Tests.{eqb-true, eqb-false, eq-eqb, ne_eqb}
use Rattle.lists.specs.Choice.{◌⇒◌else◌}
use Rattle.lists.proofs.Picks.{same, differ, same?}
use Rattle.lists.proofs.Without.{without_length}
use Rattle.reduction.specs.Reduction.{Subsequence, none, kept, dropped, final_of, Reduced, first_loose, reduced_from, reduced, Least}
use Rattle.lists.specs.Lists.{without}

module _ {A : Type 0} (code : List A → ℕ) (c : ℕ) where
  -- what is found: an element that can be left out, or that none can
  record Found (i k : ℕ) (xs : List A) (f : ℕ) : Type 0 where
    low : i ≤ f
    high : f ≤ i + k
    loose : f ≢ i + k → code (without f xs) ≡ c
    tight : (j : ℕ) → i ≤ j → j < f → code (without j xs) ≢ c

  finds : (i k : ℕ) (xs : List A) → Found i k xs (first_loose code c i k xs)
  unfolding first_loose
  finds i zero xs = record { low = omega arith; high = omega arith; loose = λ n. absurd (n (omega arith)); tight = λ j l h. absurd (omega arith) }
  finds i (suc k) xs = go (finds (suc i) k xs) (code (without i xs) == c) refl
    where
      go : Found (suc i) k xs (first_loose code c (suc i) k xs) → (t : Bool) → (code (without i xs) == c) ≡ t →
          Found i (suc k) xs (t ⇒ i else first_loose code c (suc i) k xs)
      go r true e = record { low = omega arith; high = omega arith; loose = λ n. eqb-true (code (without i xs)) c e; tight = λ j l h. absurd (omega arith) }
      go r false e = record {
        low = omega (arith, r.low);
        high = omega (arith, r.high);
        loose = λ n. r.loose (λ q. n (omega (arith, q)));
        tight = λ j l h. elim (same? j i) [
          | same u v ↦ λ q. eqb-false (code (without i xs)) c e (ap (λ (k : ℕ). code (without k xs)) v ∙ q)
          | differ u v ↦ r.tight j (omega arith) h
        ];
      }

  pub first_within : (k : ℕ) (xs : List A) → first_loose code c 0 k xs ≤ k
  first_within k xs = omega (arith, (finds 0 k xs).high)

  -- one element decided: left out, or kept
  loose_here : (i k : ℕ) (xs : List A) → code (without i xs) ≡ c → first_loose code c i (suc k) xs ≡ i
  unfolding first_loose
  loose_here i k xs e = rw (eq-eqb (code (without i xs)) c e)

  tight_here : (i k : ℕ) (xs : List A) → code (without i xs) ≢ c → first_loose code c i (suc k) xs ≡ first_loose code c (suc i) k xs
  unfolding first_loose
  tight_here i k xs e = rw (ne_eqb (code (without i xs)) c e)

  least_from : (n : ℕ) (xs : List A) (r : ℕ) → length xs ≤ n → code xs ≡ c → Least code c (reduced_from code c n xs r).kept
  unfolding reduced_from
  least_from zero xs r h e = record { alike = e; tight = λ j l. absurd (omega (arith, h)) }
  least_from (suc n) xs r h e =
      let m = length xs - 1 in
      let i = first_loose code c 0 m xs in
      let f = finds 0 m xs in
      go f (λ l d. least_from n (without i xs) (r + suc i) (omega (arith, without_length i xs l)) d) (i == m) refl
    where
      go : Found 0 (length xs - 1) xs (first_loose code c 0 (length xs - 1) xs) →
          (first_loose code c 0 (length xs - 1) xs < length xs → code (without (first_loose code c 0 (length xs - 1) xs) xs) ≡ c →
          Least code c (reduced_from code c n (without (first_loose code c 0 (length xs - 1) xs) xs) (r + suc (first_loose code c 0 (length xs - 1) xs))).kept) →
          (t : Bool) → (first_loose code c 0 (length xs - 1) xs == (length xs - 1)) ≡ t →
          Least code c
          (t ⇒ record { kept = xs; runs = r + (length xs - 1) } else reduced_from code c n (without (first_loose code c 0 (length xs - 1) xs) xs)
          (r + suc (first_loose code c 0 (length xs - 1) xs))).kept
      go f s true q = record { alike = e; tight = λ j l. f.tight j (omega arith) (let z = eqb-true (first_loose code c 0 (length xs - 1) xs) (length xs - 1) q in omega (arith, z)) }
      go f s false q =
          let z = eqb-false (first_loose code c 0 (length xs - 1) xs) (length xs - 1) q in
          s (omega (arith, f.high, z)) (f.loose (λ y. z (omega (arith, y))))

  -- ---- the search as it goes

  -- elements before i were tried since the last drop, and r lists were run
  abbrev pub searching : ℕ → List A → ℕ → Reduced A
  searching i xs r =
      let e = length xs - 1 in
      let f = first_loose code c i (e - i) xs in
      (f == e) ⇒ record { kept = xs; runs = r + (e - i) } else reduced_from code c (length xs - 1) (without f xs) (r + suc (f - i))

  -- it begins with the whole list
  pub search_begins : (n : ℕ) (xs : List A) (r : ℕ) → length xs ≡ n → searching 0 xs r ≡ reduced_from code c n xs r
  unfolding reduced_from first_loose
  search_begins zero [] r h = λ i. record { kept = []; runs = zero_more i }
    where
      zero_more : r + 0 ≡ r
      zero_more = omega arith
  search_begins zero (x ∷ xs) r h = absurd (omega arith)
  search_begins (suc n) xs r h =
      let z : length xs - 1 - 0 ≡ length xs - 1 = omega arith in
      rw z (go (first_loose code c 0 (length xs - 1) xs))
    where
      go : (f : ℕ) → ((f == (length xs - 1)) ⇒ record { kept = xs; runs = r + (length xs - 1) } else reduced_from code c (length xs - 1) (without f xs) (r + suc (f - 0)))
          ≡ ((f == (length xs - 1)) ⇒ record { kept = xs; runs = r + (length xs - 1) } else reduced_from code c n (without f xs) (r + suc f))
      go f =
          let e : length xs - 1 ≡ n = omega arith in
          let y : f - 0 ≡ f = omega arith in
          λ j. (f == (length xs - 1)) ⇒ record { kept = xs; runs = r + (length xs - 1) } else reduced_from code c (e j) (without f xs) (r + suc (y j))

  -- it ends where every earlier element was tried
  pub search_ends : (i : ℕ) (xs : List A) (r : ℕ) → length xs ≤ i + 1 → i ≤ length xs - 1 → searching i xs r ≡ record { kept = xs; runs = r }
  unfolding first_loose
  search_ends i xs r h l =
      let e : length xs - 1 ≡ i = omega arith in
      let z : length xs - 1 - i ≡ 0 = omega arith in
      let n : r + 0 ≡ r = omega arith in
      rw (z, eq-eqb i (length xs - 1) (sym e)) (λ j. record { kept = xs; runs = n j })

  -- an element that can be left out is dropped, and the search begins again
  pub search_drops : (i : ℕ) (xs : List A) (r : ℕ) → i + 1 < length xs → code (without i xs) ≡ c → searching i xs r ≡ searching 0 (without i xs) (r + 1)
  search_drops i xs r h e =
      let k = length xs - 1 - i - 1 in
      let s : length xs - 1 - i ≡ suc k = omega arith in
      let f : first_loose code c i (length xs - 1 - i) xs ≡ i = ap (λ (n : ℕ). first_loose code c i n xs) s ∙ loose_here i k xs e in
      let z : i - i ≡ 0 = omega arith in
      rw (f, ne_eqb i (length xs - 1) (λ q. omega (arith, q)), z) (sym (search_begins (length xs - 1) (without i xs) (r + 1) (omega (arith, without_length i xs (omega arith)))))

  -- one that cannot stays, and the next one is tried
  pub search_keeps : (i : ℕ) (xs : List A) (r : ℕ) → i + 1 < length xs → code (without i xs) ≢ c → searching i xs r ≡ searching (i + 1) xs (r + 1)
  search_keeps i xs r h e =
      let k = length xs - 1 - i - 1 in
      let s : length xs - 1 - i ≡ suc k = omega arith in
      let t : k ≡ length xs - 1 - (i + 1) = omega arith in
      let o : suc i ≡ i + 1 = omega arith in
      let f : first_loose code c i (length xs - 1 - i) xs ≡ first_loose code c (i + 1) (length xs - 1 - (i + 1)) xs =
      ap (λ (n : ℕ). first_loose code c i n xs) s ∙ tight_here i k xs e ∙ (λ j. first_loose code c (o j) (t j) xs) in
      let low = (finds (i + 1) (length xs - 1 - (i + 1)) xs).low in
      go _ f low
    where
      go : (f : ℕ) → first_loose code c i (length xs - 1 - i) xs ≡ f → i + 1 ≤ f →
          searching i xs r
          ≡ ((f == (length xs - 1)) ⇒ record { kept = xs; runs = r + 1 + (length xs - 1 - (i + 1)) } else reduced_from code c (length xs - 1) (without f xs) (r + 1 + suc (f - (i + 1))))
      go f q l =
          let a : r + (length xs - 1 - i) ≡ r + 1 + (length xs - 1 - (i + 1)) = omega arith in
          let b : r + suc (f - i) ≡ r + 1 + suc (f - (i + 1)) = omega arith in
          rw q (λ j. (f == (length xs - 1)) ⇒ record { kept = xs; runs = a j } else reduced_from code c (length xs - 1) (without f xs) (b j))

-- what is left has the code of the whole list, and every earlier element is needed for it
pub least : {A : Type 0} (code : List A → ℕ) (xs : List A) → Least code (code xs) (reduced code xs).kept
unfolding reduced
least code xs = least_from code (code xs) (length xs) xs 1 (omega arith) refl

-- ---- what is left is part of what was sent, with the same last element

module _ {A : Type 0} where
  sub_all : (xs : List A) → Subsequence xs xs
  sub_all [] = none
  sub_all (x ∷ xs) = kept (sub_all xs)

  sub_without : (i : ℕ) (xs : List A) → Subsequence (without i xs) xs
  sub_without i [] = none
  sub_without zero (x ∷ xs) = dropped (sub_all xs)
  sub_without (suc i) (x ∷ xs) = kept (sub_without i xs)

  sub_trans : {xs ys zs : List A} → Subsequence xs ys → Subsequence ys zs → Subsequence xs zs
  sub_trans none none = none
  sub_trans (kept {xs = as'} h) (kept k) = kept (sub_trans {xs = as'} h k)
  sub_trans (dropped h) (kept k) = dropped (sub_trans h k)
  sub_trans h (dropped k) = dropped (sub_trans h k)

  final_without : (i : ℕ) (xs : List A) (z : A) → suc i < length xs → final_of z (without i xs) ≡ final_of z xs
  final_without i [] z h = absurd (omega arith)
  final_without zero (x ∷ []) z h = absurd (omega arith)
  final_without zero (x ∷ y ∷ xs) z h = refl
  final_without (suc i) (x ∷ xs) z h = final_without i xs x (omega arith)

  module _ (code : List A → ℕ) (c : ℕ) where
    left_from : (n : ℕ) (xs : List A) (r : ℕ) (z : A) → Subsequence (reduced_from code c n xs r).kept xs × (final_of z (reduced_from code c n xs r).kept ≡ final_of z xs)
    unfolding reduced_from
    left_from zero xs r z = (sub_all xs, refl)
    left_from (suc n) xs r z =
        let i = first_loose code c 0 (length xs - 1) xs in
        go (finds code c 0 (length xs - 1) xs).high (left_from n (without i xs) (r + suc i) z) (i == (length xs - 1)) refl
      where
        go : first_loose code c 0 (length xs - 1) xs ≤ 0 + (length xs - 1) →
            Subsequence (reduced_from code c n (without (first_loose code c 0 (length xs - 1) xs) xs) (r + suc (first_loose code c 0 (length xs - 1) xs))).kept
            (without (first_loose code c 0 (length xs - 1) xs) xs)
            × (final_of z (reduced_from code c n (without (first_loose code c 0 (length xs - 1) xs) xs) (r + suc (first_loose code c 0 (length xs - 1) xs))).kept
            ≡ final_of z (without (first_loose code c 0 (length xs - 1) xs) xs)) →
            (t : Bool) → (first_loose code c 0 (length xs - 1) xs == (length xs - 1)) ≡ t →
            Subsequence (t ⇒ record { kept = xs; runs = r + (length xs - 1) } else reduced_from code c n (without (first_loose code c 0 (length xs - 1) xs) xs)
            (r + suc (first_loose code c 0 (length xs - 1) xs))).kept xs
            × (final_of z
            (t ⇒ record { kept = xs; runs = r + (length xs - 1) } else reduced_from code c n (without (first_loose code c 0 (length xs - 1) xs) xs)
            (r + suc (first_loose code c 0 (length xs - 1) xs))).kept ≡ final_of z xs)
        go h s true q = (sub_all xs, refl)
        go h s false q =
            let i = first_loose code c 0 (length xs - 1) xs in
            let y = eqb-false i (length xs - 1) q in
            (sub_trans s.0 (sub_without i xs), s.1 ∙ final_without i xs z (omega (arith, h, y)))

-- for any list that is reduced
pub left_among : {A : Type 0} (code : List A → ℕ) (xs : List A) (z : A) → Subsequence (reduced code xs).kept xs × (final_of z (reduced code xs).kept ≡ final_of z xs)
unfolding reduced
left_among code xs z = left_from code (code xs) (length xs) xs 1 z

-- The set and the places as marks are set, dropped and cut.
use Rattle.std.specs.Prelude.{◌==◌}
use Prim.Native.Nat.{ℕ, zero, suc, ◌+◌, ◌-◌, ◌*◌, ◌/◌, ◌%◌, ◌^◌, ◌≤◌, ◌<◌}
use mathlib.Core.Bool.{Bool, true, false, not, ◌&&◌}
use mathlib.Core.Path.{◌≡◌, refl, sym, ap, ◌∙◌}
use mathlib.Core.Logic.{◌≢◌}
use mathlib.Core.List.{List}
use native.Mathlib.Nat.{div-eq_of_lt, div-le_self, div-one, pow-zero, lt_of_lt_of_le}
use native.Mathlib.Omega.{arith}
use borrow.Author.Tests.{eq-eqb, ne_eqb, eqb-true, le-leb, lt-leb, leb-false, leb-true, ltb-true, ltb-false}
use lib.Bits.{bit_or, bit_xor}
use lib.Count.{ones, count_trailing_zeros}
use lib.Dec.{leb, ltb}
use lib.Pow.{pow_mono, shr-shr}
use lib.ListN.{length, get_or, set, length-set}
use lib.Seq.{get_or-set_same, get_or-set_other}
use Rattle.lists.specs.Choice.{◌⇒◌else◌, to_bit, within}
use Rattle.lists.proofs.Bools.{ft, and_true, within_range}
use Rattle.lists.proofs.Picks.{Same, same, differ, same?}
use Rattle.history.specs.Machine.{MarkPlace, gone, at, no_marks, stands, place_or, marked, cut, cut_marks, count_standing}
use Rattle.marks.specs.Marked.{mark_words, binary, in_set, place_in, with_mark, without_mark, cut_set, Marked}
use Rattle.marks.proofs.Digits.{digits_at, digits_agree, digits_more, digits_of, digit_past, lowest, ones_count, one_shl, or_bit, or_same, xor_bit}

-- ---- one mark is another

pub marked_same : (n : ℕ) (s : MarkPlace) (ms : ℕ → MarkPlace) → marked n s ms n ≡ s
marked_same n s ms = rw (eq-eqb n n refl)

pub marked_other : (n k : ℕ) (s : MarkPlace) (ms : ℕ → MarkPlace) → k ≢ n → marked n s ms k ≡ ms k
marked_other n k s ms h = rw (ne_eqb k n h)

-- a mark that stands has a place
gone_not : (s : MarkPlace) (q : ℕ) → s ≡ gone → s ≡ at q → ⊥
gone_not s q e f = let z : ◌≡◌ {A = ℕ} 0 1 = cc in omega arith

-- ---- marks are 1 to 64

pub in_marks : (a : ℕ) → 1 ≤ a → a ≤ 64 → within 1 64 a ≡ true
in_marks a l h = rw (le-leb 1 a l, le-leb a 64 h)

and_yes : (t : Bool) → (t && true) ≡ t
and_yes true = refl
and_yes false = refl

pub in_range : (s a : ℕ) → in_set s a ≡ true → (1 ≤ a) × (a ≤ 64)
in_range s a h = within_range 1 64 a (and_true (within 1 64 a) (s / 2 ^ (a - 1) % 2 == 1) h).0

-- the set without mark a, where it stands
pub without_is : (s a r : ℕ) → in_set s a ≡ true → r ≡ bit_xor s ((1 * 2 ^ (a - 1)) % 2 ^ 64) → r ≡ without_mark a s
without_is s a r h e =
    let i = and_true (within 1 64 a) (s / 2 ^ (a - 1) % 2 == 1) h in
    let w = in_range s a h in
    let x = xor_bit s (a - 1) (eqb-true _ _ i.1) in
    rw h (e ∙ rw (one_shl (a - 1) (omega (arith, w.0, w.1))) (omega (arith, x)))

-- the set with mark a
pub with_is : (s a r : ℕ) → within 1 64 a ≡ true → r ≡ bit_or s ((1 * 2 ^ (a - 1)) % 2 ^ 64) → r ≡ with_mark a s
with_is s a r h e =
    let w = within_range 1 64 a h in
    rw h (e ∙ rw (one_shl (a - 1) (omega (arith, w.0, w.1))) (go (same? (s / 2 ^ (a - 1) % 2) 1)))
  where
    go : Same (s / 2 ^ (a - 1) % 2) 1 → bit_or s (2 ^ (a - 1)) ≡ (not (s / 2 ^ (a - 1) % 2 == 1) ⇒ s + 2 ^ (a - 1) else s)
    go (same x y) = rw (eq-eqb _ _ x) (or_same s (a - 1) x)
    go (differ x y) = rw (ne_eqb _ _ x) (or_bit s (a - 1) (omega arith))

-- ---- the set says which marks stand

module _ (ms : ℕ → MarkPlace) (s : ℕ) (places : List ℕ) (h : Marked ms s places) (a : ℕ) (low : 1 ≤ a) (high : a ≤ 64) where
  pub digit_is : s / 2 ^ (a - 1) % 2 ≡ to_bit (stands (ms a))
  digit_is =
      let e : 1 + (a - 1) ≡ a = omega arith in
      ap (λ (x : ℕ). x / 2 ^ (a - 1) % 2) h.bits ∙ digits_at 64 1 (a - 1) (λ k. stands (ms k)) (omega arith) ∙ ap (λ (k : ℕ). to_bit (stands (ms k))) e

  pub in_set_lem : in_set s a ≡ stands (ms a)
  in_set_lem = rw (in_marks a low high, digit_is) (go (stands (ms a)))
    where
      go : (t : Bool) → (to_bit t == 1) ≡ t
      go true = refl
      go false = refl

  -- the word at a standing mark is its place
  pub place_is : (other : ℕ) → stands (ms a) ≡ true → place_in places a ≡ place_or other (ms a)
  place_is other t = rw (in_marks a low high) (go (ms a) refl t)
    where
      go : (x : MarkPlace) → ms a ≡ x → stands x ≡ true → get_or places (a - 1) 0 ≡ place_or other (ms a)
      go gone e f = ft f
      go (at q) e f = (h.known a q e).2 ∙ sym (ap (place_or other) e)

  others : (x : MarkPlace) (j : ℕ) → j ≢ 1 + (a - 1) → stands (marked a x ms j) ≡ stands (ms j)
  others x j n = ap stands (marked_other a j x ms (λ e. n (omega arith)))

  here : (x : MarkPlace) → stands (marked a x ms (1 + (a - 1))) ≡ stands x
  here x =
      let e : 1 + (a - 1) ≡ a = omega arith in
      ap (λ (j : ℕ). stands (marked a x ms j)) e ∙ ap stands (marked_same a x ms)

  was : stands (ms (1 + (a - 1))) ≡ stands (ms a)
  was =
      let e : 1 + (a - 1) ≡ a = omega arith in
      ap (λ (j : ℕ). stands (ms j)) e

  pub mark_put_lem : (p r : ℕ) → stands (ms a) ≡ false → r ≡ bit_or s ((1 * 2 ^ (a - 1)) % 2 ^ 64) → Marked (marked a (at p) ms) r (set places (a - 1) p)
  mark_put_lem p r t q = record {
    room = length-set places (a - 1) p ∙ h.room;
    bits =
        let z : s / 2 ^ (a - 1) % 2 ≡ 0 = digit_is ∙ ap to_bit t in
        q ∙ rw (one_shl (a - 1) (omega arith), or_bit s (a - 1) z)
        (ap (λ (x : ℕ). x + 2 ^ (a - 1)) h.bits ∙ sym (digits_more 64 1 (a - 1) (λ k. stands (ms k)) (λ k. stands (marked a (at p) ms k)) (omega arith) (others (at p)) (was ∙ t) (here (at p))));
    known = λ k x e. go k x e (same? k a);
  }
    where
      go : (k x : ℕ) → marked a (at p) ms k ≡ at x → Same k a → (1 ≤ k) × (k ≤ 64) × (get_or (set places (a - 1) p) (k - 1) 0 ≡ x)
      go k x e (same u v) =
          let w : at p ≡ at x = sym (marked_same a (at p) ms) ∙ ap (λ (j : ℕ). marked a (at p) ms j) v ∙ e in
          let y : p ≡ x = cc in
          let z : get_or (set places (a - 1) p) (a - 1) 0 ≡ p = get_or-set_same places (a - 1) p 0 (omega (arith, h.room)) in
          (omega arith, omega arith, ap (λ (j : ℕ). get_or (set places (a - 1) p) (j - 1) 0) u ∙ z ∙ y)
      go k x e (differ u v) =
          let w = h.known k x (sym (marked_other a k (at p) ms u) ∙ e) in
          (w.0, w.1, get_or-set_other places (a - 1) (k - 1) p 0 (λ z. u (omega (arith, w.0))) ∙ w.2)

  pub mark_gone : (r : ℕ) → stands (ms a) ≡ true → r ≡ bit_xor s ((1 * 2 ^ (a - 1)) % 2 ^ 64) → Marked (marked a gone ms) r places
  mark_gone r t q = record {
    room = h.room;
    bits =
        let o : s / 2 ^ (a - 1) % 2 ≡ 1 = digit_is ∙ ap to_bit t in
        q ∙ rw (one_shl (a - 1) (omega arith))
        (omega (
          arith,
          xor_bit s (a - 1) o,
          h.bits,
          digits_more 64 1 (a - 1) (λ k. stands (marked a gone ms k)) (λ k. stands (ms k)) (omega arith) (λ j n. sym (others gone j n)) (here gone) (was ∙ t),
        ));
    known = λ k x e. go k x e (same? k a);
  }
    where
      go : (k x : ℕ) → marked a gone ms k ≡ at x → Same k a → (1 ≤ k) × (k ≤ 64) × (get_or places (k - 1) 0 ≡ x)
      go k x e (same u v) = absurd (gone_not (marked a gone ms k) x (ap (λ (j : ℕ). marked a gone ms j) u ∙ marked_same a gone ms) e)
      go k x e (differ u v) = h.known k x (sym (marked_other a k gone ms u) ∙ e)

-- ---- the marks whose place is above p go

pub cut_marked : (ms : ℕ → MarkPlace) (s p : ℕ) (places : List ℕ) → Marked ms s places → Marked (cut_marks p ms) (cut_set p places s) places
cut_marked ms s p places h = record {
  room = h.room;
  bits = digits_agree 64 1 (λ k. stands (cut p (ms k))) (λ a. in_set s a && leb (place_in places a) p) (λ a l u. agrees a l (omega arith));
  known = λ k q e. h.known k q (was_at (ms k) q e);
}
  where
    was_at : (x : MarkPlace) (q : ℕ) → cut p x ≡ at q → x ≡ at q
    was_at gone q e = e
    was_at (at y) q e = go (ltb p y) e
      where
        go : (t : Bool) → (t ⇒ gone else at y) ≡ at q → at y ≡ at q
        go true f = absurd (gone_not gone q refl f)
        go false f = f

    agrees : (a : ℕ) → 1 ≤ a → a ≤ 64 → (in_set s a && leb (place_in places a) p) ≡ stands (cut p (ms a))
    agrees a low high = rw (in_set_lem ms s places h a low high) (go (ms a) refl)
      where
        go : (x : MarkPlace) → ms a ≡ x → (stands (ms a) && leb (place_in places a) p) ≡ stands (cut p (ms a))
        go gone e = rw e
        go (at q) e = rw (e, in_marks a low high, (h.known a q e).2) (below (ltb p q) refl)
          where
            below : (t : Bool) → ltb p q ≡ t → leb q p ≡ stands (t ⇒ gone else at q)
            below true f = lt-leb q p (ltb-true p q f)
            below false f = le-leb q p (ltb-false p q f)

-- the marks up to n have been looked at
abbrev pub cut_to : ℕ → ℕ → List ℕ → ℕ → ℕ → Bool
cut_to n p places s j = in_set s j && (leb j n ⇒ leb (place_in places j) p else true)

pub cut_start : (s p a : ℕ) (places : List ℕ) → s < 2 ^ 64 → a ≡ 0 → s ≡ binary 64 1 (cut_to a p places s)
cut_start s p a places h e =
    sym (ap (λ (x : ℕ). s / x) (pow-zero 2) ∙ div-one s) ∙ digits_of 64 0 s h ∙ digits_agree 64 1 (cut_to a p places s) (λ j. s / 2 ^ (j - 1) % 2 == 1) (λ j l u. go j l (omega arith))
  where
    go : (j : ℕ) → 1 ≤ j → j ≤ 64 → (s / 2 ^ (j - 1) % 2 == 1) ≡ cut_to a p places s j
    go j l u = rw (in_marks j l u, lt-leb j a (omega arith)) (sym (and_yes _))

-- digits are left, so the next is one of the 64
pub left_marks : (s left a : ℕ) → s < 2 ^ 64 → left ≡ s / 2 ^ a → left ≢ 0 → a < 64
left_marks s left a h e n = elim (same? (64 - a) 0) [
  | same u v ↦ absurd (n (e ∙ div-eq_of_lt (lt_of_lt_of_le h (pow_mono {i = 64} {j = a} (omega arith)))))
  | differ u v ↦ omega arith
]

-- the next that stands is mark a + z + 1: z zeros stand below its digit
pub record Next (s left a z : ℕ) : Type 0 where
  pub inside : a + z + 1 ≤ 64
  pub rest : left / 2 ^ z ≡ s / 2 ^ (a + z)
  pub smaller : left / 2 ^ z ≤ left
  pub one : left / 2 ^ z % 2 ≡ 1
  pub below : (j : ℕ) → j < z → left / 2 ^ j % 2 ≡ 0

pub next_mark : (s left a : ℕ) → s < 2 ^ 64 → left ≡ s / 2 ^ a → left ≢ 0 → Next s left a (count_trailing_zeros 64 left)
next_mark s left a h e n =
    let z = count_trailing_zeros 64 left in
    let r = lowest 64 left n (omega (arith, h, e, div-le_self s (2 ^ a))) in
    let q : left / 2 ^ z ≡ s / 2 ^ (a + z) = ap (λ (x : ℕ). x / 2 ^ z) e ∙ shr-shr s a z in
    let o : left / 2 ^ z ≢ 0 = λ v. omega (arith, r.one, v) in
    record {
      inside = omega (arith, left_marks s (left / 2 ^ z) (a + z) h q o);
      rest = q;
      smaller = div-le_self left (2 ^ z);
      one = r.one;
      below = r.below;
    }

pub left_half : (s left a n : ℕ) → left ≡ s / 2 ^ a → n ≡ a + 1 → left / 2 ≡ s / 2 ^ n
left_half s left a n e f = ap (λ (x : ℕ). x / 2) e ∙ shr-shr s a 1 ∙ ap (λ (x : ℕ). s / 2 ^ x) (sym f)

-- the marks below the next that stands are none: they count as looked at
pub cut_skip : (s left a z p : ℕ) (places : List ℕ) → left ≡ s / 2 ^ a → ((j : ℕ) → j < z → left / 2 ^ j % 2 ≡ 0) →
    binary 64 1 (cut_to a p places s) ≡ binary 64 1 (cut_to (a + z) p places s)
cut_skip s left a z p places e h = digits_agree 64 1 (cut_to (a + z) p places s) (cut_to a p places s) (λ j l u. go j l (omega arith) (leb j a) refl (leb j (a + z)) refl)
  where
    go : (j : ℕ) → 1 ≤ j → j ≤ 64 → (t : Bool) → leb j a ≡ t → (u : Bool) → leb j (a + z) ≡ u → cut_to a p places s j ≡ cut_to (a + z) p places s j
    go j l n true f true g = rw (f, g)
    go j l n false f false g = rw (f, g)
    go j l n true f false g = absurd (omega (arith, leb-true j a f, leb-false j (a + z) g))
    go j l n false f true g =
        let k : a + (j - 1 - a) ≡ j - 1 = omega (arith, leb-false j a f) in
        let d : s / 2 ^ (j - 1) ≡ left / 2 ^ (j - 1 - a) =
        ap (λ (x : ℕ). s / 2 ^ x) (sym k) ∙ sym (shr-shr s a (j - 1 - a)) ∙ ap (λ (x : ℕ). x / 2 ^ (j - 1 - a)) (sym e) in
        let o = h (j - 1 - a) (omega (arith, leb-false j a f, leb-true j (a + z) g)) in
        rw (in_marks j l n, d, o)

-- one more is looked at
module _ (s left a n p t t' : ℕ) (places : List ℕ) (e : left ≡ s / 2 ^ a) (f : n ≡ a + 1) (high : n ≤ 64) (g : t ≡ binary 64 1 (cut_to a p places s)) where
  apart : (j : ℕ) → j ≢ n → leb j a ≡ leb j n
  apart j h = elim (same? (j - n) 0) [
    | same u v ↦ le-leb j a (omega arith) ∙ sym (le-leb j n (omega arith))
    | differ u v ↦ lt-leb j a (omega arith) ∙ sym (lt-leb j n (omega arith))
  ]

  unlike : (j : ℕ) → j ≢ n → cut_to a p places s j ≡ cut_to n p places s j
  unlike j h = rw (apart j h)

  first : in_set s n ≡ (left % 2 == 1)
  first =
      let z : n - 1 ≡ a = omega arith in
      rw (in_marks n (omega arith) high, z, e)

  old : cut_to a p places s n ≡ (left % 2 == 1)
  old = rw (first, lt-leb n a (omega arith)) (and_yes _)

  new : cut_to n p places s n ≡ (left % 2 == 1 && leb (place_in places n) p)
  new = rw (first, le-leb n n (omega arith))

  stays : cut_to n p places s n ≡ cut_to a p places s n → t ≡ binary 64 1 (cut_to n p places s)
  stays h = g ∙ digits_agree 64 1 (cut_to n p places s) (cut_to a p places s) (λ j l u. go j (same? j n))
    where
      go : (j : ℕ) → Same j n → cut_to a p places s j ≡ cut_to n p places s j
      go j (same x y) = ap (cut_to a p places s) x ∙ sym h ∙ ap (cut_to n p places s) y
      go j (differ x y) = unlike j x

  pub cut_stands : left % 2 ≡ 1 → in_set t n ≡ true
  cut_stands h =
      let z : n - 1 ≡ a = omega arith in
      let y : 1 + a ≡ n = omega arith in
      let o : cut_to a p places s (1 + a) ≡ true = ap (cut_to a p places s) y ∙ old ∙ eq-eqb _ _ h in
      let d : t / 2 ^ a % 2 ≡ 1 = ap (λ (x : ℕ). x / 2 ^ a % 2) g ∙ digits_at 64 1 a (cut_to a p places s) (omega arith) ∙ ap to_bit o in
      rw (in_marks n (omega arith) high, z, d)

  goes : left % 2 ≡ 1 → p < place_in places n → without_mark n t ≡ binary 64 1 (cut_to n p places s)
  goes h l =
      let z : n - 1 ≡ a = omega arith in
      let y : 1 + a ≡ n = omega arith in
      let o : cut_to a p places s (1 + a) ≡ true = ap (cut_to a p places s) y ∙ old ∙ eq-eqb _ _ h in
      let w : cut_to n p places s (1 + a) ≡ false = ap (cut_to n p places s) y ∙ (rw (new, eq-eqb _ _ h, lt-leb _ p l)) in
      let i : in_set t n ≡ true = cut_stands h in
      let m = digits_more 64 1 a (cut_to n p places s) (cut_to a p places s) (omega arith) (λ j q. unlike j (λ r. q (r ∙ sym y))) w o in
      rw (i, z) (omega (arith, g, m))

  pub cut_turn : left % 2 ≡ 1 → t' ≡ (ltb p (place_in places n) ⇒ without_mark n t else t) → t' ≡ binary 64 1 (cut_to n p places s)
  cut_turn x h = h ∙ go (ltb p (place_in places n)) refl
    where
      go : (u : Bool) → ltb p (place_in places n) ≡ u → (ltb p (place_in places n) ⇒ without_mark n t else t) ≡ binary 64 1 (cut_to n p places s)
      go true v = rw v (goes x (ltb-true _ _ v))
      go false v = rw v (stays (rw (new, old, eq-eqb _ _ x, le-leb _ p (ltb-false _ _ v))))

-- none is left
pub cut_end : (s left a p t : ℕ) (places : List ℕ) → left ≡ s / 2 ^ a → left ≡ 0 → t ≡ binary 64 1 (cut_to a p places s) → t ≡ cut_set p places s
cut_end s left a p t places e z g = g ∙ digits_agree 64 1 (λ j. in_set s j && leb (place_in places j) p) (cut_to a p places s) (λ j l u. go j l (omega arith) (leb j a) refl)
  where
    go : (j : ℕ) → 1 ≤ j → j ≤ 64 → (t : Bool) → leb j a ≡ t → cut_to a p places s j ≡ (in_set s j && leb (place_in places j) p)
    go j l u true f = rw f
    go j l u false f =
        let d : s / 2 ^ (j - 1) ≡ 0 = digit_past s a (j - 1) (sym e ∙ z) (omega (arith, leb-false j a f)) in
        rw (in_marks j l u, d)

-- ---- none, and how many

pub none_marked : (places : List ℕ) → length places ≡ mark_words → Marked no_marks 0 places
unfolding binary
none_marked places e = record { room = e; bits = none 64 1; known = λ k q f. absurd (gone_not gone q refl f) }
  where
    none : (n k : ℕ) → 0 ≡ binary n k (λ j. false)
    none zero k = refl
    none (suc n) k = omega (arith, none n (suc k))

pub count_is : (ms : ℕ → MarkPlace) (s : ℕ) (places : List ℕ) → Marked ms s places → ones s ≡ count_standing ms
unfolding count_standing
count_is ms s places h = ap ones h.bits ∙ ones_count 64 (λ k. stands (ms k))

-- The codes 11, 12, 13 and 18 read off the set and the words of the marks.
use Rattle.std.specs.Prelude.{◌==◌}
use Prim.Native.Nat.{ℕ, ◌≤◌}
use mathlib.Core.Path.{◌≡◌, refl, sym, ap, ◌∙◌}
use mathlib.Core.Logic.{◌≢◌}
use mathlib.Core.Bool.{Bool, true, false, not, ◌||◌}
use mathlib.Core.List.{List}
use native.Mathlib.Omega.{arith}
use borrow.Author.Tests.{le-leb}
use Rattle.lists.specs.Choice.{◌⇒◌else◌, within}
use Rattle.lists.proofs.Bools.{tf, within_range}
use Rattle.history.specs.Machine.{Machine, stands, Name, is_name, holder_but}
use Rattle.marks.specs.Marked.{in_set, Marked}
use Rattle.marks.specs.Named.{holder_in, Named}
use Rattle.marks.specs.Codes.{no_mark, standing_code, new_code, both_code, name_code}
use Rattle.marks.proofs.MarkLaws.{in_set_lem, in_range as in_marks_of}
use Rattle.marks.proofs.NameLaws.{holder_same, holder_bears}

-- ---- 1 to 64

pub in_range : (a : ℕ) → 1 ≤ a → a ≤ 64 → no_mark a ≡ false
in_range a l h = rw (le-leb 1 a l, le-leb a 64 h)

range_of : (a : ℕ) → no_mark a ≡ false → (1 ≤ a) × (a ≤ 64)
range_of a e = go (within 1 64 a) refl
  where
    go : (t : Bool) → within 1 64 a ≡ t → (1 ≤ a) × (a ≤ 64)
    go true f = within_range 1 64 a f
    go false f = tf (sym (ap not f) ∙ e)

-- ---- what a code 0 says

pub record Mark (set a : ℕ) (t : Bool) : Type 0 where
  pub low : 1 ≤ a
  pub high : a ≤ 64
  pub stands : in_set set a ≡ t

pub standing_none : (set a c : ℕ) → c ≡ standing_code set a → c ≡ 0 → Mark set a true
standing_none set a c e z = go (no_mark a) (in_set set a) refl refl (sym e ∙ z)
  where
    go : (s t : Bool) → no_mark a ≡ s → in_set set a ≡ t → ◌≡◌ {A = ℕ} (s ⇒ 11 else not t ⇒ 13 else 0) 0 → Mark set a true
    go true t f g h = absurd (omega (arith, h))
    go false false f g h = absurd (omega (arith, h))
    go false true f g h = let r = range_of a f in record { low = r.0; high = r.1; stands = g }

pub new_none : (set a c : ℕ) → c ≡ new_code set a → c ≡ 0 → Mark set a false
new_none set a c e z = go (no_mark a) (in_set set a) refl refl (sym e ∙ z)
  where
    go : (s t : Bool) → no_mark a ≡ s → in_set set a ≡ t → ◌≡◌ {A = ℕ} (s ⇒ 11 else t ⇒ 12 else 0) 0 → Mark set a false
    go true t f g h = absurd (omega (arith, h))
    go false true f g h = absurd (omega (arith, h))
    go false false f g h = let r = range_of a f in record { low = r.0; high = r.1; stands = g }

-- ---- the codes are the machine's

module _ (m : Machine) (set : ℕ) (places : List ℕ) (h : Marked m.marks set places) where
  -- where the mark is 1 to 64, the set says whether it stands
  set_says : (a : ℕ) (f : Bool → ℕ) → (no_mark a ⇒ 11 else f (in_set set a)) ≡ (no_mark a ⇒ 11 else f (stands (m.marks a)))
  set_says a f = go (no_mark a) refl
    where
      go : (s : Bool) → no_mark a ≡ s → (s ⇒ 11 else f (in_set set a)) ≡ (s ⇒ 11 else f (stands (m.marks a)))
      go true e = refl
      go false e = let r = range_of a e in ap f (in_set_lem m.marks set places h a r.0 r.1)

  pub standing_is : (a : ℕ) → standing_code set a ≡ (no_mark a ⇒ 11 else not (stands (m.marks a)) ⇒ 13 else 0)
  standing_is a = set_says a (λ t. not t ⇒ 13 else 0)

  pub new_is : (a : ℕ) → new_code set a ≡ (no_mark a ⇒ 11 else stands (m.marks a) ⇒ 12 else 0)
  new_is a = set_says a (λ t. t ⇒ 12 else 0)

  pub both_is : (a b : ℕ) → both_code (standing_code set a) (standing_code set b) ≡ ((no_mark a || no_mark b) ⇒ 11 else (not (stands (m.marks a)) || not (stands (m.marks b))) ⇒ 13 else 0)
  both_is a b = rw (standing_is a, standing_is b) (go (no_mark a) (no_mark b) (not (stands (m.marks a))) (not (stands (m.marks b))))
    where
      code : Bool → Bool → ℕ
      code s t = s ⇒ 11 else t ⇒ 13 else 0

      go : (s t u v : Bool) → both_code (code s u) (code t v) ≡ ((s || t) ⇒ 11 else (u || v) ⇒ 13 else 0)
      go true t u v = refl
      go false true true v = refl
      go false true false v = refl
      go false false true true = refl
      go false false true false = refl
      go false false false true = refl
      go false false false false = refl

pub both_none : (set a b : ℕ) → both_code (standing_code set a) (standing_code set b) ≡ 0 → (standing_code set a ≡ 0) × (standing_code set b ≡ 0)
both_none set a b e = go (no_mark a) (no_mark b) (not (in_set set a)) (not (in_set set b)) e
  where
    code : Bool → Bool → ℕ
    code s t = s ⇒ 11 else t ⇒ 13 else 0

    go : (s t u v : Bool) → both_code (code s u) (code t v) ≡ 0 → (code s u ≡ 0) × (code t v ≡ 0)
    go true t u v f = absurd (omega (arith, f))
    go false true true v f = absurd (omega (arith, f))
    go false true false v f = absurd (omega (arith, f))
    go false false true true f = absurd (omega (arith, f))
    go false false true false f = absurd (omega (arith, f))
    go false false false true f = absurd (omega (arith, f))
    go false false false false f = (refl, refl)

-- ---- 18

pub name_codes : (m : Machine) (set : ℕ) (words : List ℕ) → Marked m.marks set words → Named m.marks m.names words → (a : ℕ) (n : Name)
    → name_code set words a n ≡ (no_mark a ⇒ 11 else not (stands (m.marks a)) ⇒ 13 else (not (is_name n) || not (holder_but a n m == 0)) ⇒ 18 else 0)
name_codes m set words h f a n =
    set_says m set words h a (λ t. not t ⇒ 13 else (not (is_name n) || not (holder_in set words a n == 0)) ⇒ 18 else 0)
    ∙ ap (λ (k : ℕ). no_mark a ⇒ 11 else not (stands (m.marks a)) ⇒ 13 else (not (is_name n) || not (k == 0)) ⇒ 18 else 0) (holder_same m set words a n h f)

pub name_none : (set : ℕ) (words : List ℕ) (a : ℕ) (n : Name) → name_code set words a n ≡ 0 → Mark set a true
name_none set words a n z = go (no_mark a) (in_set set a) (not (is_name n) || not (holder_in set words a n == 0)) refl refl z
  where
    go : (s t u : Bool) → no_mark a ≡ s → in_set set a ≡ t → ◌≡◌ {A = ℕ} (s ⇒ 11 else not t ⇒ 13 else u ⇒ 18 else 0) 0 → Mark set a true
    go true t u f g h = absurd (omega (arith, h))
    go false false u f g h = absurd (omega (arith, h))
    go false true u f g h = let r = range_of a f in record { low = r.0; high = r.1; stands = g }

-- ---- the holder of a name stands

pub holder_stands : (set : ℕ) (words : List ℕ) (n : Name) → holder_in set words 0 n ≢ 0 → standing_code set (holder_in set words 0 n) ≡ 0
holder_stands set words n d = in_code (holder_in set words 0 n) (holder_bears set words n d)
  where
    in_code : (a : ℕ) → in_set set a ≡ true → standing_code set a ≡ 0
    in_code a e = let r = in_marks_of set a e in rw (in_range a r.0 r.1, e)

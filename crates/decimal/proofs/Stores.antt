-- Stores one after another, and what stands from a place on.
use Prim.Native.Nat.{ℕ, ◌+◌, ◌-◌, ◌≤◌, ◌<◌}
use mathlib.Core.Path.{◌≡◌, refl, sym, ap, ◌∙◌, subst}
use mathlib.Core.List.{List, [], ◌∷◌, ◌++◌, append_assoc}
use native.Mathlib.Omega.{arith}
use lib.ListN.{length, set, take, drop, length-append, length-drop}
use lib.Seq.{sets, sets-eq, take_all, drop-drop}
use store.Seg.{take-pre}
use borrow.Rule.Slice.PartMut.{put_mid}
use borrow.Author.Tests.{le-leb, lt-leb}
use Rattle.lists.specs.Lists.{overwritten}
use Rattle.decimal.specs.Stored.{Stored, WrittenAt, fitting}
use Rattle.lists.proofs.Stores.{sets_append, sets_over}

-- all that stands from a place on
pub rest_all : (xs : List ℕ) (from : ℕ) → take (length xs - from) (drop from xs) ≡ drop from xs
rest_all xs from = take_all (length xs - from) (drop from xs) (omega (arith, length-drop from xs))

-- what is left to write after xs, as one list of stores
pub then : (l l' xs ys zs : List ℕ) (at at' : ℕ) → l' ≡ sets l at xs → at' ≡ at + length xs → xs ++ ys ≡ zs →
    sets l' at' ys ≡ sets l at zs
then l l' xs ys zs at at' p q r =
    ap (λ (k : List ℕ). sets k at' ys) p
    ∙ ap (λ (k : ℕ). sets (sets l at xs) k ys) q
    ∙ sets_append l xs ys at
    ∙ ap (sets l at) r

-- ---- texts

pub stored_byte : (l l' : List ℕ) (at x k : ℕ) → l' ≡ set l at x → k ≡ at + 1 → Stored (x ∷ []) at l l' k
stored_byte l l' at x k p q = record { place = q; stores = p }

-- a text of n bytes copied over a part of as many
pub stored_part : (l text : List ℕ) (at n k : ℕ) → at + n ≤ length l → n ≡ length text → k ≡ length text → Stored text at l (put_mid at k l text) (at + n)
stored_part l text at n k h e f = record {
  place = omega (arith, e);
  stores = rw f (
      ap (λ (t : List ℕ). take at l ++ (text ++ t)) (drop-drop (length text) at l)
      ∙ sym (append_assoc (take at l) text (drop (at + length text) l))
      ∙ sym (sets-eq text l at (omega (arith, h, e)))
      );
}

pub stored_then : {xs ys : List ℕ} {at m k : ℕ} {l l' l'' : List ℕ} →
    Stored xs at l l' m → Stored ys m l' l'' k → Stored (xs ++ ys) at l l'' k
stored_then {xs} {ys} {at} {m} {k} {l} {l'} {l''} s t = record {
  place = omega (arith, s.place, t.place, length-append xs ys);
  stores = t.stores ∙ then l l' xs ys (xs ++ ys) at m s.stores s.place refl;
}

pub stored_as : {xs ys : List ℕ} {at k : ℕ} {l l' : List ℕ} →
    xs ≡ ys → Stored xs at l l' k → Stored ys at l l' k
stored_as {at = at} {k = k} {l = l} {l' = l'} e s = subst (λ (zs : List ℕ). Stored zs at l l' k) e s

pub stored_over : {ws l l' : List ℕ} {k : ℕ} →
    length ws ≤ length l → Stored ws 0 l l' k → (k ≡ length ws) × (l' ≡ overwritten ws l)
stored_over {ws} {l} h s = (omega (arith, s.place), s.stores ∙ sets_over ws l h)

-- ---- room for a text, or none

pub fits : (room : ℕ) (text : List ℕ) → length text ≤ room → fitting room text ≡ text
unfolding fitting
fits room text h = rw (le-leb (length text) room h)

fits_not : (room : ℕ) (text : List ℕ) → room < length text → fitting room text ≡ []
unfolding fitting
fits_not room text h = rw (lt-leb (length text) room h)

-- nothing fits behind the end
fits_none : (text : List ℕ) → fitting 0 text ≡ []
unfolding fitting
fits_none [] = refl
fits_none (x ∷ xs) = fits_not 0 (x ∷ xs) (omega arith)

stored_none : (at : ℕ) (l : List ℕ) → Stored [] at l l at
stored_none at l = record { place = omega arith; stores = refl }

pub stored_outside : (at : ℕ) (l text : List ℕ) → length l < at → Stored (fitting (length l - at) text) at l l at
stored_outside at l text h =
    let z : length l - at ≡ 0 = omega arith in
    rw (z, fits_none text) (stored_none at l)

pub stored_short : (at : ℕ) (l text : List ℕ) → length l - at < length text → Stored (fitting (length l - at) text) at l l at
stored_short at l text h = rw (fits_not (length l - at) text h) (stored_none at l)

-- a text that has room is stored whole
pub stored_whole : {at k : ℕ} {l l' : List ℕ} (text : List ℕ) → at + length text ≤ length l → Stored (fitting (length l - at) text) at l l' k → Stored text at l l' k
stored_whole {at} {k} {l} {l'} text h s = stored_as (fits (length l - at) text (omega arith)) s

pub stored_fitting : {at k : ℕ} {l l' : List ℕ} (text : List ℕ) → length text ≤ length l - at → Stored text at l l' k → Stored (fitting (length l - at) text) at l l' k
stored_fitting {at} {k} {l} {l'} text h s = stored_as (sym (fits (length l - at) text h)) s

-- what is left to write from the place behind a text writes the same as the whole from its place
pub stored_left : {xs : List ℕ} (ys zs : List ℕ) {at m : ℕ} {l l' : List ℕ} →
    Stored xs at l l' m → xs ++ ys ≡ zs → sets l' m ys ≡ sets l at zs
stored_left {xs} ys zs {at} {m} {l} {l'} s e = then l l' xs ys zs at m s.stores s.place e

-- ---- texts at the front

-- words written over a slice are its front
pub over_front : (ws slice last : List ℕ) (n : ℕ) → n ≡ length ws → last ≡ overwritten ws slice → take n last ≡ ws
over_front ws slice last n e f = rw (e, f) (take-pre ws (drop (length ws) slice))

pub over_fits : (ws slice last : List ℕ) (n k : ℕ) → n ≡ length ws → last ≡ overwritten ws slice → length last ≡ k → n ≤ k
over_fits ws slice last n k e f h = omega (arith, e, h, ap length f, length-append ws (drop (length ws) slice))

pub written_as : (text text' : List ℕ) (n : ℕ) (out last : List ℕ) →
    text ≡ text' → WrittenAt text n out last → WrittenAt text' n out last
written_as text text' n out last e h = subst (λ (t : List ℕ). WrittenAt t n out last) e h

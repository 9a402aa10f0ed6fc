-- The header's tests one by one, and what its words are where it is sound.
use Rattle.std.specs.Prelude.{◌==◌}
use Prim.Native.Nat.{ℕ, zero, suc, ◌*◌, ◌<◌}
use mathlib.Core.Path.{◌≡◌, refl, sym, ap, ◌∙◌}
use mathlib.Core.Logic.{◌↔◌, ◌⊎◌, inl, inr}
use mathlib.Core.Bool.{Bool, true, false, ◌&&◌}
use mathlib.Core.List.{List, [], ◌∷◌}
use native.Mathlib.Omega.{arith}
use native.Mathlib.Nat.{mul-zero}
use lib.Dec.{eqb}
use lib.ListN.{length, get_or, take, length-take}
use borrow.Author.Tests.{eq-eqb, ne_eqb, eqb-true}
use Rattle.lists.specs.Lists.{equal_lists}
use Rattle.lists.proofs.Bools.{and_true, and_false}
use Rattle.image.specs.Image.{vertex_size, old_vertex_size, vertex_offset, edge_offset, incidence_offset, length_as, header_of, header_as, sound_header, vertex_count, edge_count, record_size}
use Rattle.image.proofs.Sizes.{Size, old, new, record_size_lem, size_shown}
use Rattle.lists.proofs.Equality.{words_eq}

tests : ℕ → List ℕ → Bool
tests size ws =
    (get_or ws 2 0 == vertex_offset)
    && ((get_or ws 3 0 == edge_offset size (vertex_count ws))
    && ((get_or ws 4 0 == incidence_offset size (vertex_count ws) (edge_count ws))
    && ((get_or ws 5 0 == length_as size (vertex_count ws) (edge_count ws)) && (length ws == length_as size (vertex_count ws) (edge_count ws)))))

regroup : (p q r s l : Bool) → ((p && (q && (r && (s && true)))) && l) ≡ (p && (q && (r && (s && l))))
regroup true true true true l = refl
regroup false q r s l = refl
regroup true false r s l = refl
regroup true true false s l = refl
regroup true true true false l = refl

module _ (size : ℕ) where
  short : (ws : List ℕ) → length ws < 6 → header_as size ws ≡ tests size ws
  unfolding tests header_as
  short ws h =
      go (equal_lists (take 6 ws) (header_of size (vertex_count ws) (edge_count ws))) refl
      ∙ sym (simp (ne_eqb (length ws) (length_as size (vertex_count ws) (edge_count ws)) (λ e. omega arith), and_false))
    where
      go : (t : Bool) → equal_lists (take 6 ws) (header_of size (vertex_count ws) (edge_count ws)) ≡ t → (t && (length ws == length_as size (vertex_count ws) (edge_count ws))) ≡ false
      go false e = refl
      go true e = absurd (omega (arith, ap length (words_eq (take 6 ws) (header_of size (vertex_count ws) (edge_count ws)) e), length-take 6 ws))

  law : (ws : List ℕ) → header_as size ws ≡ tests size ws
  unfolding tests header_as
  law (a ∷ b ∷ c ∷ d ∷ e ∷ f ∷ ws) =
      rw (eq-eqb a a refl, eq-eqb b b refl)
      (regroup (c == 6) (d == edge_offset size a) (e == incidence_offset size a b) (f == length_as size a b) (length (a ∷ b ∷ c ∷ d ∷ e ∷ f ∷ ws) == length_as size a b))
  law [] = short [] (omega arith)
  law (a ∷ []) = short (a ∷ []) (omega arith)
  law (a ∷ b ∷ []) = short (a ∷ b ∷ []) (omega arith)
  law (a ∷ b ∷ c ∷ []) = short (a ∷ b ∷ c ∷ []) (omega arith)
  law (a ∷ b ∷ c ∷ d ∷ []) = short (a ∷ b ∷ c ∷ d ∷ []) (omega arith)
  law (a ∷ b ∷ c ∷ d ∷ e ∷ []) = short (a ∷ b ∷ c ∷ d ∷ e ∷ []) (omega arith)

-- the tests by the size that the words show
shown : (ws : List ℕ) → sound_header ws ≡ tests (record_size ws) ws
unfolding sound_header
shown ws = law (record_size ws) ws

module _ (ws : List ℕ) (size v e : ℕ) (hs : size ≡ record_size ws) (hv : v ≡ vertex_count ws) (he : e ≡ edge_count ws) where
  pub bad_2 : (get_or ws 2 0 ≡ vertex_offset → ⊥) → false ≡ sound_header ws
  unfolding tests
  bad_2 n = rw (shown ws, ne_eqb (get_or ws 2 0) 6 n)

  module _ (p : get_or ws 2 0 ≡ vertex_offset) where
    pub bad_3 : (get_or ws 3 0 ≡ edge_offset size v → ⊥) → false ≡ sound_header ws
    unfolding tests
    bad_3 n = rw (shown ws, ← hs, eq-eqb (get_or ws 2 0) 6 p, ← hv, ne_eqb (get_or ws 3 0) (edge_offset size v) n)

    module _ (q : get_or ws 3 0 ≡ edge_offset size v) where
      pub bad_4 : (get_or ws 4 0 ≡ incidence_offset size v e → ⊥) → false ≡ sound_header ws
      unfolding tests
      bad_4 n =
          rw (
            shown ws,
            ← hs,
            eq-eqb (get_or ws 2 0) 6 p,
            ← hv,
            ← he,
            eq-eqb (get_or ws 3 0) (edge_offset size v) q,
            ne_eqb (get_or ws 4 0) (incidence_offset size v e) n,
          )

      module _ (r : get_or ws 4 0 ≡ incidence_offset size v e) where
        pub bad_5 : (get_or ws 5 0 ≡ length_as size v e → ⊥) → false ≡ sound_header ws
        unfolding tests
        bad_5 n =
            rw (
              shown ws,
              ← hs,
              eq-eqb (get_or ws 2 0) 6 p,
              ← hv,
              ← he,
              eq-eqb (get_or ws 3 0) (edge_offset size v) q,
              eq-eqb (get_or ws 4 0) (incidence_offset size v e) r,
              ne_eqb (get_or ws 5 0) (length_as size v e) n,
            )

        pub last : get_or ws 5 0 ≡ length_as size v e → eqb (length ws) (length_as size v e) ≡ sound_header ws
        unfolding tests
        last s =
            rw (
              shown ws,
              ← hs,
              eq-eqb (get_or ws 2 0) 6 p,
              ← hv,
              ← he,
              eq-eqb (get_or ws 3 0) (edge_offset size v) q,
              eq-eqb (get_or ws 4 0) (incidence_offset size v e) r,
              eq-eqb (get_or ws 5 0) (length_as size v e) s,
            )

-- what the words of a header for records of a size are
pub record HeaderWords (size : ℕ) (ws : List ℕ) : Type 0 where
  pub first : get_or ws 2 0 ≡ vertex_offset
  pub second : get_or ws 3 0 ≡ edge_offset size (vertex_count ws)
  pub third : get_or ws 4 0 ≡ incidence_offset size (vertex_count ws) (edge_count ws)
  pub total : get_or ws 5 0 ≡ length_as size (vertex_count ws) (edge_count ws)
  pub long : length ws ≡ length_as size (vertex_count ws) (edge_count ws)

pub words_as : (size : ℕ) (ws : List ℕ) → header_as size ws ≡ true → HeaderWords size ws
unfolding tests
words_as size ws h =
    let a = and_true (get_or ws 2 0 == 6) _ (sym (law size ws) ∙ h) in
    let b = and_true (get_or ws 3 0 == edge_offset size (vertex_count ws)) _ a.1 in
    let c = and_true (get_or ws 4 0 == incidence_offset size (vertex_count ws) (edge_count ws)) _ b.1 in
    let d = and_true (get_or ws 5 0 == length_as size (vertex_count ws) (edge_count ws)) _ c.1 in
    record { first = eqb-true _ _ a.0; second = eqb-true _ _ b.0; third = eqb-true _ _ c.0; total = eqb-true _ _ d.0; long = eqb-true _ _ d.1 }

pub header_words : (ws : List ℕ) → sound_header ws ≡ true → HeaderWords (record_size ws) ws
unfolding sound_header
header_words ws h = words_as (record_size ws) ws h

-- what a sound header says of the length, and its words
pub sound_length : (ws : List ℕ) → sound_header ws ≡ true → length ws ≡ length_as (record_size ws) (vertex_count ws) (edge_count ws)
sound_length ws h = (header_words ws h).long

pub sound_front : (ws : List ℕ) → sound_header ws ≡ true → take 6 ws ≡ header_of (record_size ws) (vertex_count ws) (edge_count ws)
unfolding sound_header header_as
sound_front ws h = words_eq _ _ (and_true (equal_lists (take 6 ws) (header_of (record_size ws) (vertex_count ws) (edge_count ws))) _ h).0

-- a header is sound where it fits records of either size
pub sound_as : (size : ℕ) → Size size → (ws : List ℕ) → header_as size ws ≡ true → sound_header ws ≡ true
unfolding sound_header tests
sound_as size z ws h = go (vertex_count ws) refl
  where
    w : HeaderWords size ws
    w = words_as size ws h

    go : (v : ℕ) → vertex_count ws ≡ v → header_as (record_size ws) ws ≡ true
    go (suc v) e = rw (size_shown size z ws w.second (omega (arith, e))) h
    go zero e = law (record_size ws) ws ∙ tests_same
      where
        tests_same : tests (record_size ws) ws ≡ true
        tests_same =
            let n = record_size ws in
            let p : n * vertex_count ws ≡ size * vertex_count ws = rw (e, mul-zero, mul-zero) in
            rw (
              eq-eqb (get_or ws 2 0) 6 w.first,
              eq-eqb (get_or ws 3 0) (edge_offset n (vertex_count ws)) (omega (arith, w.second, p)),
              eq-eqb (get_or ws 4 0) (incidence_offset n (vertex_count ws) (edge_count ws)) (omega (arith, w.third, p)),
              eq-eqb (get_or ws 5 0) (length_as n (vertex_count ws) (edge_count ws)) (omega (arith, w.total, p)),
              eq-eqb (length ws) (length_as n (vertex_count ws) (edge_count ws)) (omega (arith, w.long, p)),
            )

pub sound_either : (ws : List ℕ) → (sound_header ws ≡ true) ↔ ((header_as vertex_size ws ≡ true) ⊎ (header_as old_vertex_size ws ≡ true))
unfolding sound_header
sound_either ws = (
  λ h. to (record_size ws) (record_size_lem ws) h,
  λ h. elim h [
    | inl x ↦ sound_as vertex_size new ws x
    | inr x ↦ sound_as old_vertex_size old ws x
  ],
)
  where
    to : (size : ℕ) → Size size → header_as size ws ≡ true → (header_as vertex_size ws ≡ true) ⊎ (header_as old_vertex_size ws ≡ true)
    to size new h = inl h
    to size old h = inr h

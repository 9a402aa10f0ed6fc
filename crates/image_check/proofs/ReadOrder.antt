-- The order in which words are read: where degrees stand, and which pass reads a word.
use Rattle.std.specs.Prelude.{◌==◌}
use Prim.Native.Nat.{ℕ, ◌+◌, ◌*◌, ◌-◌, ◌/◌, ◌%◌, ◌≤◌, ◌<◌}
use mathlib.Core.Path.{◌≡◌, refl, sym, ◌∙◌, subst}
use mathlib.Core.Logic.{◌↔◌, ◌⊎◌, inl, inr}
use mathlib.Core.Bool.{Bool, true, false, ◌&&◌}
use mathlib.Core.List.{List}
use native.Mathlib.Omega.{arith}
use lib.Dec.{leb, ltb}
use borrow.Author.Tests.{eq-eqb, eqb-true, le-leb, leb-true, lt-ltb, le-ltb, ltb-true, ltb-false}
use Rattle.lists.specs.Choice.{◌⇒◌else◌}
use Rattle.lists.proofs.Bools.{tf, and_true, and_both}
use Rattle.image.specs.Image.{vertex_size, vertex_offset, edge_offset, incidence_offset, vertex_count, edge_count, record_size}
use Rattle.image_check.specs.FirstBad.{is_degree, pass_of, ReadBefore}
use Rattle.image.proofs.Sizes.{Size, old, new, size_range, record_size_lem, row_in}
use Rattle.image_check.proofs.Offsets.{Place}

module _ (ws : List ℕ) where
  abbrev size : ℕ
  size = record_size ws

  abbrev v : ℕ
  v = vertex_count ws

  -- ---- where degrees stand

  pub degree_row : (i : ℕ) → is_degree ws i ≡ true → (record_size ws ≡ 4) × Place vertex_size (vertex_count ws) 3 vertex_offset i
  unfolding is_degree
  degree_row i h =
      let a = and_true ((size == vertex_size) && (leb vertex_offset i && ltb i (edge_offset vertex_size v))) ((i - vertex_offset) % vertex_size == 3) h in
      let c = and_true (size == vertex_size) (leb vertex_offset i && ltb i (edge_offset vertex_size v)) a.0 in
      let d = and_true (leb vertex_offset i) (ltb i (edge_offset vertex_size v)) c.1 in
      let lo = leb-true vertex_offset i d.0 in
      let hi = ltb-true i (edge_offset vertex_size v) d.1 in
      let r = eqb-true ((i - vertex_offset) % vertex_size) 3 a.1 in
      (eqb-true size vertex_size c.0, record { row = (i - 6) / 4; inside = omega (arith, lo, hi); place = omega (arith, lo, r) })

  pub is_degree_lem : (i : ℕ) → record_size ws ≡ 4 → Place vertex_size (vertex_count ws) 3 vertex_offset i → is_degree ws i ≡ true
  unfolding is_degree
  is_degree_lem i e p =
      let l = row_in 4 p.row 3 v p.inside (omega arith) in
      and_both _ ((i - vertex_offset) % vertex_size == 3)
      (and_both (size == vertex_size) (leb vertex_offset i && ltb i (edge_offset vertex_size v)) (eq-eqb size vertex_size e)
      (and_both (leb vertex_offset i) (ltb i (edge_offset vertex_size v)) (le-leb vertex_offset i (omega (arith, p.place))) (lt-ltb i (edge_offset vertex_size v) (omega (arith, p.place, l)))))
      (eq-eqb ((i - vertex_offset) % vertex_size) 3 (omega (arith, p.place)))

  no_degree : (i : ℕ) → (record_size ws ≡ 4 → Place vertex_size (vertex_count ws) 3 vertex_offset i → ⊥) → is_degree ws i ≡ false
  no_degree i n = go (is_degree ws i) refl
    where
      go : (t : Bool) → is_degree ws i ≡ t → t ≡ false
      go true e = let d = degree_row i e in absurd (n d.0 d.1)
      go false e = refl

  pub header_plain : (i : ℕ) → i < 6 → is_degree ws i ≡ false
  header_plain i h = no_degree i (λ e p. omega (arith, p.place))

  pub row_plain : (i r : ℕ) → r < 3 → Place (record_size ws) (vertex_count ws) r vertex_offset i → is_degree ws i ≡ false
  row_plain i r l p = no_degree i λ e q.
      let f : i ≡ 6 + (4 * p.row + r) = subst (λ (n : ℕ). i ≡ 6 + (n * p.row + r)) e p.place in
      omega (arith, f, q.place)

  pub behind_plain : (i : ℕ) → edge_offset (record_size ws) (vertex_count ws) ≤ i → is_degree ws i ≡ false
  behind_plain i h = no_degree i λ e q.
      let f : edge_offset 4 v ≤ i = subst (λ (n : ℕ). edge_offset n v ≤ i) e h in
      omega (arith, f, q.place, row_in 4 q.row 3 v q.inside (omega arith))

  -- any other word of a vertex record is one of the first three
  pub plain_row : (i : ℕ) → is_degree ws (6 + i) ≡ false → i < record_size ws * vertex_count ws → (r : ℕ) × (r < 3) × Place (record_size ws) (vertex_count ws) r 0 i
  plain_row i f h = go size (record_size_lem ws) refl h
    where
      go : (n : ℕ) → Size n → size ≡ n → i < n * v → (r : ℕ) × (r < 3) × Place n v r 0 i
      go n old e h = (i % 3, omega arith, record { row = i / 3; inside = omega arith; place = omega arith })
      go n new e h = (i % 4, near (ltb (i % 4) 3) refl, record { row = i / 4; inside = omega arith; place = omega arith })
        where
          near : (t : Bool) → ltb (i % 4) 3 ≡ t → i % 4 < 3
          near true q = ltb-true (i % 4) 3 q
          near false q = absurd (tf (sym (is_degree_lem (6 + i) e (record { row = i / 4; inside = omega arith; place = omega (arith, ltb-false (i % 4) 3 q) })) ∙ f))

  -- ---- which pass reads a word

  pub read_plain : (i : ℕ) → is_degree ws i ≡ false → i < incidence_offset (record_size ws) (vertex_count ws) (edge_count ws) → pass_of ws i ≡ 0
  unfolding pass_of
  read_plain i e h = rw (e, lt-ltb i (incidence_offset size v (edge_count ws)) h)

  pub read_degree : (i : ℕ) → is_degree ws i ≡ true → pass_of ws i ≡ 1
  unfolding pass_of
  read_degree i e = rw e

  pub read_list : (i : ℕ) → incidence_offset (record_size ws) (vertex_count ws) (edge_count ws) ≤ i → pass_of ws i ≡ 2
  unfolding pass_of
  read_list i h = rw (behind_plain i (omega arith), le-ltb i (incidence_offset size v (edge_count ws)) h)

  pub read_row : (i r : ℕ) → r < 3 → Place (record_size ws) (vertex_count ws) r vertex_offset i → pass_of ws i ≡ 0
  read_row i r l p =
      read_plain i (row_plain i r l p) (omega (arith, p.place, row_in size p.row r v p.inside (omega (arith, l, (size_range size (record_size_lem ws)).0))))

  pub read_edge : (i : ℕ) → edge_offset (record_size ws) (vertex_count ws) ≤ i → i < incidence_offset (record_size ws) (vertex_count ws) (edge_count ws) → pass_of ws i ≡ 0
  read_edge i l h = read_plain i (behind_plain i l) h

  -- pass 1 reads degrees, and pass 0 none
  pub second_degree : (i : ℕ) → pass_of ws i ≡ 1 → is_degree ws i ≡ true
  unfolding pass_of
  second_degree i h = go (is_degree ws i) (ltb i (incidence_offset size v (edge_count ws))) refl h
    where
      go : (t u : Bool) → is_degree ws i ≡ t → ◌≡◌ {A = ℕ} (t ⇒ 1 else u ⇒ 0 else 2) 1 → t ≡ true
      go true u e q = refl
      go false true e q = absurd (omega arith)
      go false false e q = absurd (omega arith)

  pub first_plain : (i : ℕ) → pass_of ws i ≡ 0 → is_degree ws i ≡ false
  unfolding pass_of
  first_plain i h = go (is_degree ws i) refl
    where
      go : (t : Bool) → is_degree ws i ≡ t → t ≡ false
      go true e = absurd (omega (arith, read_degree i e, h))
      go false e = refl

  -- ---- what is read before a word

  low : (i : ℕ) → i < incidence_offset (record_size ws) (vertex_count ws) (edge_count ws) → pass_of ws i ≤ 1
  low i h = go (is_degree ws i) refl
    where
      go : (t : Bool) → is_degree ws i ≡ t → pass_of ws i ≤ 1
      go true e = omega (arith, read_degree i e)
      go false e = omega (arith, read_plain i e h)

  above : (i : ℕ) → pass_of ws i ≤ 1 → i < incidence_offset (record_size ws) (vertex_count ws) (edge_count ws)
  above i h = go (ltb i (incidence_offset size v (edge_count ws))) refl
    where
      go : (t : Bool) → ltb i (incidence_offset size v (edge_count ws)) ≡ t → i < incidence_offset size v (edge_count ws)
      go true e = ltb-true i (incidence_offset size v (edge_count ws)) e
      go false e = absurd (omega (arith, read_list i (ltb-false i (incidence_offset size v (edge_count ws)) e), h))

  -- before a word of the records but a degree: the words that stand before it, degrees left free
  pub before_plain : (i k : ℕ) → pass_of ws k ≡ 0 → ReadBefore ws i k ↔ ((is_degree ws i ≡ false) × (i < k))
  before_plain i k z = (
    λ r. elim r [
      | inl x ↦ absurd (omega (arith, x, z))
      | inr x ↦ (first_plain i (x.0 ∙ z), x.1)
    ],
    λ p. inr (read_plain i p.0 (omega (arith, p.1, above k (omega (arith, z)))) ∙ sym z, p.1),
  )

  -- before a degree: all other words of the records, and the degrees that stand before it
  pub before_degree : (i k : ℕ) → pass_of ws k ≡ 1 → ReadBefore ws i k ↔ ((pass_of ws i ≡ 0) ⊎ ((is_degree ws i ≡ true) × (i < k)))
  before_degree i k z = (
    λ r. elim r [
      | inl x ↦ inl (omega (arith, x, z))
      | inr x ↦ inr (second_degree i (x.0 ∙ z), x.1)
    ],
    λ p. elim p [
      | inl x ↦ inl (omega (arith, x, z))
      | inr x ↦ inr (read_degree i x.0 ∙ sym z, x.1)
    ],
  )

  -- before a word of a list: all that stand before it
  pub before_list : (i k : ℕ) → incidence_offset (record_size ws) (vertex_count ws) (edge_count ws) ≤ k → ReadBefore ws i k ↔ (i < k)
  before_list i k h = (
    λ r. elim r [
      | inl x ↦ omega (arith, above i (omega (arith, x, read_list k h)))
      | inr x ↦ x.1
    ],
    λ l. from (ltb i (incidence_offset size v (edge_count ws))) refl l,
  )
    where
      from : (t : Bool) → ltb i (incidence_offset size v (edge_count ws)) ≡ t → i < k → ReadBefore ws i k
      from true e l = inl (omega (arith, low i (ltb-true i (incidence_offset size v (edge_count ws)) e), read_list k h))
      from false e l = inr (read_list i (ltb-false i (incidence_offset size v (edge_count ws)) e) ∙ sym (read_list k h), l)

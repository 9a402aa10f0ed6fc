-- Keyed lists in which each key stands once: what is put in, taken out or moved, and who stands before it.
use mathlib.Core.Path.{◌≡◌, refl, sym, ap, ◌∙◌}
use mathlib.Core.List.{List, [], ◌∷◌}
use Prim.Native.Nat.{ℕ, ◌+◌, ◌≤◌}
use native.Mathlib.Omega.{arith}
use Rattle.lists.specs.Choice.{indicator}
use Rattle.lists.specs.Keyed.{count_by_key, insert_after_by, remove_by, find_by, update_by}
use Rattle.lists.proofs.Picks.{pick_yes, pick_no, same, differ, same?, is_yes, is_no, is_zero}
use Rattle.lists.proofs.KeyedLaws.{count_ins, count_rem, rem_ins, ins_rem, prev_ins, prev_in, find_ins, find_ins_other, find_rem_other, count_upd, key_upd}
use Rattle.graph.specs.WellFormed.{Ordered}
use Rattle.graph.specs.Edits.{Placed, Insertable}

module _ {A : Type 0} (key : A → ℕ) where
  pub placed_back : (d : A) (l : List A) (n p : ℕ) → Ordered key l → Placed key l n p → insert_after_by key 0 p (find_by key d n l) (remove_by key n l) ≡ l
  placed_back d l n p u h = rw (← h.before) (ins_rem key d 0 n l (omega (arith, h.there)) u)

  pub placed_fits : (l : List A) (n p : ℕ) → Ordered key l → Placed key l n p → Insertable key (remove_by key n l) n p
  placed_fits l n p d h = record {
    real = omega (arith, is_zero 0 n (omega (arith, d n, h.there)));
    fresh = omega (arith, count_rem key n n l, is_yes n n refl, h.there);
    after = rw (← h.before) (prev_in key 0 n l (omega (arith, h.there)));
  }

  pub fits_placed : (l : List A) (x : A) (p : ℕ) → Insertable key l (key x) p → Placed key (insert_after_by key 0 p x l) (key x) p
  fits_placed l x p h = record { there = omega (arith, count_ins key (key x) 0 p x l, is_yes (key x) (key x) refl, h.fresh); before = prev_ins key 0 p x l h.fresh h.after }

  pub ordered_ins : (l : List A) (x : A) (p : ℕ) → Ordered key l → Insertable key l (key x) p → Ordered key (insert_after_by key 0 p x l)
  ordered_ins l x p d h k = elim (same? (key x) k) [
    | same e f ↦ omega (arith, count_ins key k 0 p x l, is_yes (key x) k e, ap (λ (z : ℕ). count_by_key key z l) e, h.fresh, is_no 0 k (omega (arith, h.real)))
    | differ e f ↦ omega (arith, count_ins key k 0 p x l, is_no (key x) k e, d k)
  ]

  pub ordered_rem : (l : List A) (n : ℕ) → Ordered key l → Ordered key (remove_by key n l)
  ordered_rem l n d k = omega (arith, d k, count_rem key k n l)

  -- the key of what is found
  pub key_find : (d : A) (n : ℕ) (l : List A) → 1 ≤ count_by_key key n l → key (find_by key d n l) ≡ n
  key_find d n [] h = absurd (omega arith)
  key_find d n (y ∷ l) h = elim (same? (key y) n) [
    | same e f ↦ rw pick_yes e
    | differ e f ↦ rw pick_no (key_find d n l (omega (arith, is_no (key y) n e)))
  ]

  -- the laws of an element put in, where its key is known by an equation
  pub rem_at : (k q p : ℕ) (x : A) (l : List A) → key x ≡ k → count_by_key key k l ≡ 0 → remove_by key k (insert_after_by key q p x l) ≡ l
  rem_at k q p x l e h = rw (← e) (rem_ins key q p x l (rw e h))

  pub find_at : (d : A) (k q p : ℕ) (x : A) (l : List A) → key x ≡ k → count_by_key key k l ≡ 0 → find_by key d k (insert_after_by key q p x l) ≡ x
  find_at d k q p x l e h = rw (← e) (find_ins key d q p x l (rw e h))

  pub move_back : (d : A) (l : List A) (n p q : ℕ) → Ordered key l → Placed key l n p → let m =
      insert_after_by key 0 q (find_by key d n l) (remove_by key n l) in insert_after_by key 0 p (find_by key d n m) (remove_by key n m) ≡ l
  move_back d l n p q u h =
      let e = key_find d n l (omega (arith, h.there)) in
      let z = (placed_fits l n p u h).fresh in
      rw (find_at d n 0 q (find_by key d n l) (remove_by key n l) e z, rem_at n 0 q (find_by key d n l) (remove_by key n l) e z) (placed_back d l n p u h)

pub ordered_upd : {A : Type 0} (key : A → ℕ) (f : A → A) (l : List A) (k : ℕ) → ((y : A) → key (f y) ≡ key y) → Ordered key l → Ordered key (update_by key k f l)
ordered_upd key f l k e d n = omega (arith, d n, count_upd key f e n k l)

module _ {A : Type 0} (key : A → ℕ) where
  pub fits_at : (l : List A) (x : A) (n p : ℕ) → key x ≡ n → Insertable key l n p → Placed key (insert_after_by key 0 p x l) n p
  fits_at l x n p e h = rw (← e) (fits_placed key l x p (rw e h))

  pub move_placed : (d : A) (l : List A) (n p q : ℕ) → Ordered key l → Placed key l n p → 1 ≤ indicator 0 q + count_by_key key q (remove_by key n l)
      → let m = insert_after_by key 0 q (find_by key d n l) (remove_by key n l) in Placed key m n q × (1 ≤ indicator 0 p + count_by_key key p (remove_by key n m))
  move_placed d l n p q u h i =
      let f = placed_fits key l n p u h in
      let e = key_find key d n l (omega (arith, h.there)) in
      let t : Insertable key (remove_by key n l) n q = record { real = f.real; fresh = f.fresh; after = i } in
      (fits_at (remove_by key n l) (find_by key d n l) n q e t, rw (rem_at key n 0 q (find_by key d n l) (remove_by key n l) e f.fresh) f.after)

module _ {A : Type 0} (key : A → ℕ) (d : A) where
  -- a projection that the update keeps
  pub find_kept : {B : Type 0} (b : A → B) (f : A → A) (k n : ℕ) (l : List A) → ((y : A) → key (f y) ≡ key y) → ((y : A) → b (f y) ≡ b y) → b (find_by key d k (update_by key n f l))
      ≡ b (find_by key d k l)
  find_kept b f k n [] e c = refl
  find_kept b f k n (y ∷ l) e c = rw (key_upd key f e n y) (elim (same? (key y) k) [
    | same i j ↦ simp pick_yes (elim (same? (key y) n) [ same s t ↦ rw (pick_yes (key y) n) (c y) | differ s t ↦ rw (pick_no (key y) n) ])
    | differ i j ↦ simp pick_no (find_kept b f k n l e c)
  ])

  pub find_move : (k n q : ℕ) (l : List A) → Ordered key l → count_by_key key n l ≡ 1 → find_by key d k (insert_after_by key 0 q (find_by key d n l) (remove_by key n l)) ≡ find_by key d k l
  find_move k n q l u h = elim (same? n k) [
    | same e f ↦ rw f (find_at key d n 0 q (find_by key d n l) (remove_by key n l) (key_find key d n l (omega arith)) (omega (arith, count_rem key n n l, is_yes n n refl)))
    | differ e f ↦ find_ins_other key d 0 q k (find_by key d n l) (remove_by key n l) (λ z. e (sym (key_find key d n l (omega arith)) ∙ z)) ∙ find_rem_other key d k n l e
  ]

  pub count_move : (k n q : ℕ) (l : List A) → count_by_key key n l ≡ 1 → count_by_key key k (insert_after_by key 0 q (find_by key d n l) (remove_by key n l)) ≡ count_by_key key k l
  count_move k n q l h = elim (same? n k) [
    | same e f ↦
        omega (
          arith,
          count_ins key k 0 q (find_by key d n l) (remove_by key n l),
          count_rem key k n l,
          is_yes n k e,
          ap (λ (z : ℕ). count_by_key key z l) e,
          ap (λ (z : ℕ). indicator z k) (key_find key d n l (omega arith)),
        )
    | differ e f ↦ omega (arith, count_ins key k 0 q (find_by key d n l) (remove_by key n l), count_rem key k n l, is_no n k e, ap (λ (z : ℕ). indicator z k) (key_find key d n l (omega arith)))
  ]

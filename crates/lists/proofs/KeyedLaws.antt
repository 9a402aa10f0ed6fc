-- Laws of keyed lists: what is put in, taken out, found, updated and counted.
use mathlib.Core.Path.{◌≡◌, refl, ap, ◌∙◌}
use mathlib.Core.Logic.{◌≢◌}
use mathlib.Core.List.{List, [], ◌∷◌}
use Prim.Native.Nat.{ℕ, ◌+◌, ◌-◌, ◌≤◌}
use native.Mathlib.Omega.{arith}
use Rattle.lists.specs.Choice.{if_equal, indicator}
use Rattle.lists.specs.Keyed.{count_by_key, insert_after_by, remove_by, prev_by, find_by, update_by}
use Rattle.lists.proofs.Picks.{pick_yes, pick_no, pick_self, same, differ, same?, is_yes, is_no, is_pos, is_zero, is_apart}

module _ {A : Type 0} (key : A → ℕ) where
  ins_same : (q : ℕ) (x : A) (l : List A) → insert_after_by key q q x l ≡ x ∷ l
  ins_same q x [] = refl
  ins_same q x (y ∷ l) = rw pick_self

  pub count_ins : (k q p : ℕ) (x : A) (l : List A) → count_by_key key k (insert_after_by key q p x l) ≡ indicator (key x) k + count_by_key key k l
  count_ins k q p x [] = refl
  count_ins k q p x (y ∷ l) = elim (same? q p) [
    | same e f ↦ rw (pick_yes q p)
    | differ e f ↦ rw (pick_no q p) (omega (arith, count_ins k (key y) p x l))
  ]

  pub count_rem : (k x : ℕ) (l : List A) → count_by_key key k (remove_by key x l) ≡ count_by_key key k l - indicator x k
  count_rem k x [] = omega arith
  count_rem k x (y ∷ l) = elim (same? (key y) x) [
    | same e f ↦ rw (pick_yes (key y) x) (omega (arith, ap (λ (z : ℕ). indicator z k) e))
    | differ e f ↦ rw (pick_no (key y) x) (omega (arith, count_rem k x l, is_apart (key y) x k e))
  ]

  pub rem_ins : (q p : ℕ) (x : A) (l : List A) → count_by_key key (key x) l ≡ 0 → remove_by key (key x) (insert_after_by key q p x l) ≡ l
  rem_ins q p x [] h = rw pick_self
  rem_ins q p x (y ∷ l) h = elim (same? q p) [
    | same e f ↦ rw (pick_yes q p, pick_self)
    | differ e f ↦ rw (pick_no q p, pick_no (key y) (key x), rem_ins (key y) p x l (omega arith), is_zero (key y) (key x) (omega arith))
  ]

  pub prev_ins : (q p : ℕ) (x : A) (l : List A) → count_by_key key (key x) l ≡ 0 → 1 ≤ indicator q p + count_by_key key p l → prev_by key q (key x) (insert_after_by key q p x l) ≡ p
  prev_ins q p x [] h i = rw pick_self (is_pos q p (omega arith))
  prev_ins q p x (y ∷ l) h i = elim (same? q p) [
    | same e f ↦ rw (pick_yes q p, pick_self) e
    | differ e f ↦ rw (pick_no q p, pick_no (key y) (key x), is_zero (key y) (key x) (omega arith)) (prev_ins (key y) p x l (omega arith) (omega (arith, is_no q p e)))
  ]

  pub prev_in : (q k : ℕ) (l : List A) → 1 ≤ count_by_key key k l → 1 ≤ indicator q (prev_by key q k l) + count_by_key key (prev_by key q k l) (remove_by key k l)
  prev_in q k [] h = absurd (omega arith)
  prev_in q k (y ∷ l) h = elim (same? (key y) k) [
    | same e f ↦ simp pick_yes (omega (arith, is_yes q q refl))
    | differ e f ↦ simp pick_no (omega (arith, prev_in (key y) k l (omega (arith, is_no (key y) k e))))
  ]

  pub ins_rem : (d : A) (q k : ℕ) (l : List A) → 1 ≤ count_by_key key k l → ((n : ℕ) → indicator q n + count_by_key key n l ≤ 1)
      → insert_after_by key q (prev_by key q k l) (find_by key d k l) (remove_by key k l) ≡ l
  ins_rem d q k [] h u = absurd (omega arith)
  ins_rem d q k (y ∷ l) h u = elim (same? (key y) k) [
    | same e f ↦ simp pick_yes (ins_same q y l)
    | differ e f ↦
        let P = prev_by key (key y) k l in
        let i : 1 ≤ count_by_key key k l = omega (arith, is_no (key y) k e) in
        let a : q ≢ P = is_zero q P (omega (arith, prev_in (key y) k l i, count_rem P k l, u P)) in
        simp pick_no (ap (λ (t : List A). y ∷ t) (ins_rem d (key y) k l i (λ n. omega (arith, u n))))
  ]

  pub find_ins : (d : A) (q p : ℕ) (x : A) (l : List A) → count_by_key key (key x) l ≡ 0 → find_by key d (key x) (insert_after_by key q p x l) ≡ x
  find_ins d q p x [] h = rw pick_self
  find_ins d q p x (y ∷ l) h = elim (same? q p) [
    | same e f ↦ rw (pick_yes q p, pick_self)
    | differ e f ↦ rw (pick_no q p, pick_no (key y) (key x), is_zero (key y) (key x) (omega arith)) (find_ins d (key y) p x l (omega arith))
  ]

  pub find_ins_other : (d : A) (q p k : ℕ) (x : A) (l : List A) → key x ≢ k → find_by key d k (insert_after_by key q p x l) ≡ find_by key d k l
  find_ins_other d q p k x [] h = rw pick_no
  find_ins_other d q p k x (y ∷ l) h = elim (same? q p) [
    | same e f ↦ rw (pick_yes q p, pick_no (key x) k)
    | differ e f ↦ rw (pick_no q p) (ap (λ (t : A). if_equal (key y) k y t) (find_ins_other d (key y) p k x l h))
  ]

  pub find_rem_other : (d : A) (k x : ℕ) (l : List A) → x ≢ k → find_by key d k (remove_by key x l) ≡ find_by key d k l
  find_rem_other d k x [] h = refl
  find_rem_other d k x (y ∷ l) h = elim (same? (key y) x) [
    | same e f ↦
        let o : key y ≢ k = λ z. h (f ∙ z) in
        rw (pick_yes (key y) x, pick_no (key y) k)
    | differ e f ↦ rw (pick_no (key y) x) (ap (λ (t : A). if_equal (key y) k y t) (find_rem_other d k x l h))
  ]

  pub find_none : (d : A) (k : ℕ) (l : List A) → count_by_key key k l ≡ 0 → find_by key d k l ≡ d
  find_none d k [] h = refl
  find_none d k (y ∷ l) h = rw (pick_no (key y) k, is_zero (key y) k (omega arith)) (find_none d k l (omega arith))

  pub upd_none : (k : ℕ) (f : A → A) (l : List A) → count_by_key key k l ≡ 0 → update_by key k f l ≡ l
  upd_none k f [] h = refl
  upd_none k f (y ∷ l) h = rw (pick_no (key y) k, upd_none k f l (omega arith), is_zero (key y) k (omega arith))

  -- an update that keeps the keys
  module _ (f : A → A) (kept : (y : A) → key (f y) ≡ key y) where
    pub key_upd : (k : ℕ) (y : A) → key (if_equal (key y) k (f y) y) ≡ key y
    key_upd k y = elim (same? (key y) k) [ same e i ↦ rw pick_yes (kept y) | differ e i ↦ rw pick_no ]

    pub count_upd : (n k : ℕ) (l : List A) → count_by_key key n (update_by key k f l) ≡ count_by_key key n l
    count_upd n k [] = refl
    count_upd n k (y ∷ l) = rw (key_upd k y, count_upd n k l)

    pub find_upd : (d : A) (k : ℕ) (l : List A) → 1 ≤ count_by_key key k l → find_by key d k (update_by key k f l) ≡ f (find_by key d k l)
    find_upd d k [] h = absurd (omega arith)
    find_upd d k (y ∷ l) h = rw (key_upd k y) (elim (same? (key y) k) [
      | same e i ↦ simp pick_yes
      | differ e i ↦ simp pick_no (find_upd d k l (omega (arith, is_no (key y) k e)))
    ])

    pub find_upd_other : (d : A) (k n : ℕ) (l : List A) → k ≢ n → find_by key d n (update_by key k f l) ≡ find_by key d n l
    find_upd_other d k n [] h = refl
    find_upd_other d k n (y ∷ l) h = rw (key_upd k y, find_upd_other d k n l h) (elim (same? (key y) k) [
      | same e i ↦
          let o : key y ≢ n = λ z. h (i ∙ z) in
          simp pick_no
      | differ e i ↦ simp pick_no
    ])

    -- what was updated is put back
    pub upd_back : (d : A) (k : ℕ) (g : A → A) (l : List A) → ((n : ℕ) → count_by_key key n l ≤ 1) → g (f (find_by key d k l)) ≡ find_by key d k l → update_by key k g (update_by key k f l) ≡ l
    upd_back d k g [] u h = refl
    upd_back d k g (y ∷ l) u h = rw (key_upd k y) (elim (same? (key y) k) [
      | same e i ↦
          let z : count_by_key key k l ≡ 0 = omega (arith, u k, is_yes (key y) k e) in
          let b : g (f y) ≡ y = simp pick_yes at h in
          simp (pick_yes, upd_none k f l z, upd_none k g l z, b)
      | differ e i ↦ simp pick_no (ap (λ (t : List A). y ∷ t) (upd_back d k g l (λ n. omega (arith, u n)) (simp pick_no at h)))
    ])

-- The keys of a list, as a list of numbers: what
-- `remove_by`, `insert_after_by`, `update_by`, `prev_by` and `last_by` are on it.
use Rattle.std.proofs.Common.{◌≡◌, ℕ, ◌+◌, ◌≤◌, List, [], ◌∷◌, map, length, refl, ap, arith}
use Rattle.lists.proofs.Picks.{pick_yes, pick_no, same, differ, same?, is_no}
use Rattle.lists.specs.Choice.{if_equal}
use Rattle.lists.specs.Keyed.{count_by_key, insert_after_by, remove_by, prev_by, last_by, update_by}
use Rattle.lists.proofs.KeyedLaws.{key_upd}
use Rattle.graph.specs.Graph.{itself}

module _ {A : Type 0} (key : A → ℕ) where
  pub keys_count : (k : ℕ) (l : List A) → count_by_key itself k (map key l) ≡ count_by_key key k l
  keys_count k [] = refl
  keys_count k (y ∷ l) = rw (keys_count k l)

  pub keys_rem : (k : ℕ) (l : List A) → map key (remove_by key k l) ≡ remove_by itself k (map key l)
  keys_rem k [] = refl
  keys_rem k (y ∷ l) = elim (same? (key y) k) [
    | same e f ↦ simp pick_yes
    | differ e f ↦ simp (pick_no, keys_rem k l)
  ]

  pub keys_ins : (q p : ℕ) (x : A) (l : List A) → map key (insert_after_by key q p x l) ≡ insert_after_by itself q p (key x) (map key l)
  keys_ins q p x [] = refl
  keys_ins q p x (y ∷ l) = elim (same? q p) [
    | same e f ↦ simp pick_yes
    | differ e f ↦ simp (pick_no, keys_ins (key y) p x l)
  ]

  pub keys_upd : (f : A → A) (kept : (y : A) → key (f y) ≡ key y) (k : ℕ) (l : List A) → map key (update_by key k f l) ≡ map key l
  keys_upd f kept k [] = refl
  keys_upd f kept k (y ∷ l) = rw (key_upd key f kept k y, keys_upd f kept k l)

  pub length_upd : (f : A → A) (k : ℕ) (l : List A) → length (update_by key k f l) ≡ length l
  length_upd f k [] = refl
  length_upd f k (y ∷ l) = rw (length_upd f k l)

  pub length_ins : (q p : ℕ) (x : A) (l : List A) → length (insert_after_by key q p x l) ≡ length l + 1
  length_ins q p x [] = omega arith
  length_ins q p x (y ∷ l) = elim (same? q p) [
    | same e f ↦ simp pick_yes (omega arith)
    | differ e f ↦ simp pick_no (omega (arith, length_ins (key y) p x l))
  ]

  pub length_rem : (k : ℕ) (l : List A) → 1 ≤ count_by_key key k l → length (remove_by key k l) + 1 ≡ length l
  length_rem k [] h = absurd (omega arith)
  length_rem k (y ∷ l) h = elim (same? (key y) k) [
    | same e f ↦ simp pick_yes (omega arith)
    | differ e f ↦ simp pick_no (omega (arith, length_rem k l (omega (arith, is_no (key y) k e))))
  ]

  pub keys_prev : (q k : ℕ) (l : List A) → prev_by itself q k (map key l) ≡ prev_by key q k l
  keys_prev q k [] = refl
  keys_prev q k (y ∷ l) = ap (λ (t : ℕ). if_equal (key y) k q t) (keys_prev (key y) k l)

  pub keys_last : (q : ℕ) (l : List A) → last_by itself q (map key l) ≡ last_by key q l
  keys_last q [] = refl
  keys_last q (y ∷ l) = keys_last (key y) l

-- The place before an element, the last place, and updates of keyed lists in which each key stands once.
use mathlib.Core.Path.{◌≡◌, refl, ap, ap₂}
use mathlib.Core.Logic.{◌≢◌}
use mathlib.Core.List.{List, [], ◌∷◌, ◌++◌}
use Prim.Native.Nat.{ℕ, ◌+◌, ◌≤◌}
use native.Mathlib.Omega.{arith}
use Rattle.lists.specs.Choice.{indicator}
use Rattle.lists.specs.Keyed.{count_by_key, insert_after_by, insert_before_by, remove_by, prev_by, last_by, find_by, update_by}
use Rattle.lists.proofs.Picks.{pick_yes, pick_no, pick_both, same, differ, same?, is_yes, is_no, is_zero}
use Rattle.lists.proofs.KeyedLaws.{count_rem, prev_in, key_upd, upd_none}

module _ {A : Type 0} (key : A → ℕ) where
  -- the last key is there
  pub last_in : (q : ℕ) (l : List A) → 1 ≤ indicator q (last_by key q l) + count_by_key key (last_by key q l) l
  last_in q [] = omega (arith, is_yes q q refl)
  last_in q (y ∷ l) = omega (arith, last_in (key y) l)

  -- after the last: at the end
  pub ins_last : (q : ℕ) (x : A) (l : List A) → ((n : ℕ) → indicator q n + count_by_key key n l ≤ 1) → insert_after_by key q (last_by key q l) x l ≡ l ++ (x ∷ [])
  ins_last q x [] u = refl
  ins_last q x (y ∷ l) u =
      let o : q ≢ last_by key (key y) l = is_zero q (last_by key (key y) l) (omega (arith, last_in (key y) l, u (last_by key (key y) l))) in
      rw (pick_no q (last_by key (key y) l)) (ap (λ (t : List A). y ∷ t) (ins_last (key y) x l (λ n. omega (arith, u n))))

  -- the key before one that is there is there
  pub prev_there : (q k : ℕ) (l : List A) → 1 ≤ count_by_key key k l → 1 ≤ indicator q (prev_by key q k l) + count_by_key key (prev_by key q k l) l
  prev_there q k l h = omega (arith, prev_in key q k l h, count_rem key (prev_by key q k l) k l)

  -- after the one before b: before b
  pub ins_before : (q b : ℕ) (x : A) (l : List A) → 1 ≤ count_by_key key b l → ((n : ℕ) → indicator q n + count_by_key key n l ≤ 1) → insert_after_by key q (prev_by key q b l) x l
      ≡ insert_before_by key b x l
  ins_before q b x [] h u = absurd (omega arith)
  ins_before q b x (y ∷ l) h u = elim (same? (key y) b) [
    | same e f ↦ simp pick_yes
    | differ e f ↦
        let i : 1 ≤ count_by_key key b l = omega (arith, is_no (key y) b e) in
        let P = prev_by key (key y) b l in
        let o : q ≢ P = is_zero q P (omega (arith, prev_there (key y) b l i, u P)) in
        simp pick_no (ap (λ (t : List A). y ∷ t) (ins_before (key y) b x l i (λ n. omega (arith, u n))))
  ]

  pub rem_none : (k : ℕ) (l : List A) → count_by_key key k l ≡ 0 → remove_by key k l ≡ l
  rem_none k [] h = refl
  rem_none k (y ∷ l) h =
      let o : key y ≢ k = is_zero (key y) k (omega arith) in
      rw (pick_no (key y) k) (ap (λ (t : List A). y ∷ t) (rem_none k l (omega arith)))

  -- ---- updates

  -- two updates that agree at the element found
  pub upd_agree : (d : A) (k : ℕ) (f g : A → A) (l : List A) → ((n : ℕ) → count_by_key key n l ≤ 1) → f (find_by key d k l) ≡ g (find_by key d k l) → update_by key k f l ≡ update_by key k g l
  upd_agree d k f g [] u h = refl
  upd_agree d k f g (y ∷ l) u h = elim (same? (key y) k) [
    | same e i ↦
        let z : count_by_key key k l ≡ 0 = omega (arith, u k, is_yes (key y) k e) in
        let b : f y ≡ g y = simp pick_yes at h in
        simp (pick_yes, upd_none key k f l z, upd_none key k g l z, b)
    | differ e i ↦ simp pick_no (ap (λ (t : List A). y ∷ t) (upd_agree d k f g l (λ n. omega (arith, u n)) (simp pick_no at h)))
  ]

  pub upd_same : (k : ℕ) (l : List A) → update_by key k (λ (y : A). y) l ≡ l
  upd_same k [] = refl
  upd_same k (y ∷ l) = ap₂ ◌∷◌ (pick_both (key y) k y) (upd_same k l)

  -- two updates of one element are one
  pub upd_upd : (k : ℕ) (f g : A → A) (l : List A) → ((y : A) → key (f y) ≡ key y) → update_by key k g (update_by key k f l) ≡ update_by key k (λ (y : A). g (f y)) l
  upd_upd k f g [] e = refl
  upd_upd k f g (y ∷ l) e = ap₂ ◌∷◌ (rw (key_upd key f e k y) (elim (same? (key y) k) [ same i j ↦ simp pick_yes | differ i j ↦ simp pick_no ])) (upd_upd k f g l e)

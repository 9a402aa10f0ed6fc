-- Who stands before b, and who stands last, once a is out of a list.
use Prim.Native.Nat.{ℕ, ◌+◌, ◌≤◌}
use mathlib.Core.Path.{◌≡◌, refl, sym, ap, ◌∙◌}
use mathlib.Core.Logic.{◌≢◌}
use mathlib.Core.List.{List, [], ◌∷◌, ◌++◌}
use native.Mathlib.Omega.{arith}
use Rattle.lists.specs.Choice.{if_equal, indicator}
use Rattle.lists.specs.Keyed.{count_by_key, remove_by, prev_by, last_by}
use Rattle.lists.proofs.Picks.{pick_yes, pick_no, same, differ, same?, is_yes, is_no, is_zero}
use Rattle.lists.proofs.Places.{prev_there, last_in}

module _ {A : Type 0} (key : A → ℕ) where
  prev_head : (q y b : ℕ) (l : List A) → 1 ≤ count_by_key key b l → ((n : ℕ) → indicator y n + count_by_key key n l ≤ 1) →
      prev_by key q b l ≡ if_equal (prev_by key y b l) y q (prev_by key y b l)
  prev_head q y b [] h d = absurd (omega arith)
  prev_head q y b (c ∷ l) h d = elim (same? (key c) b) [
    | same e f ↦ simp pick_yes
    | differ e f ↦
        let i : 1 ≤ count_by_key key b l = omega (arith, is_no (key c) b e) in
        let P = prev_by key (key c) b l in
        let a : y ≢ P = is_zero y P (omega (arith, prev_there key (key c) b l i, d P)) in
        let a' : P ≢ y = λ z. a (sym z) in
        simp pick_no
  ]

  -- before b stands the one before a, if a stood there
  pub prev_rem : (q a b : ℕ) (l : List A) → a ≢ b → 1 ≤ count_by_key key a l → 1 ≤ count_by_key key b l → ((n : ℕ) → indicator q n + count_by_key key n l ≤ 1) →
      prev_by key q b (remove_by key a l) ≡ if_equal (prev_by key q b l) a (prev_by key q a l) (prev_by key q b l)
  prev_rem q a b [] n h i d = absurd (omega arith)
  prev_rem q a b (y ∷ l) n h i d = elim (same? (key y) a) [
    | same e f ↦
        let o : key y ≢ b = λ z. n (f ∙ z) in
        simp (pick_yes, pick_no) (rw f (prev_head q (key y) b l (omega (arith, is_no (key y) b o)) (λ m. omega (arith, d m))))
    | differ e f ↦ elim (same? (key y) b) [
      | same j k ↦
          let o : q ≢ a = is_zero q a (omega (arith, d a)) in
          simp (pick_yes, pick_no)
      | differ j k ↦
          simp pick_no (prev_rem (key y) a b l n (omega (arith, is_no (key y) a e)) (omega (arith, is_no (key y) b j)) (λ m. omega (arith, d m)))
    ]
  ]

  -- the last key is none that is not there
  pub last_other : (q a : ℕ) (l : List A) → indicator q a + count_by_key key a l ≡ 0 → last_by key q l ≢ a
  last_other q a l h e = omega (arith, last_in key q l, ap (λ (k : ℕ). indicator q k + count_by_key key k l) e)

  last_head : (q y a : ℕ) (l : List A) → y ≡ a → count_by_key key a l ≡ 0 → last_by key q l ≡ if_equal (last_by key y l) a q (last_by key y l)
  last_head q y a [] e z = simp pick_yes
  last_head q y a (c ∷ l) e z =
      let o : last_by key (key c) l ≢ a = last_other (key c) a l z in
      simp pick_no

  -- the last is the one before a, if a stood there
  pub last_rem : (q a : ℕ) (l : List A) → 1 ≤ count_by_key key a l → ((n : ℕ) → indicator q n + count_by_key key n l ≤ 1) →
      last_by key q (remove_by key a l) ≡ if_equal (last_by key q l) a (prev_by key q a l) (last_by key q l)
  last_rem q a [] h d = absurd (omega arith)
  last_rem q a (y ∷ l) h d = elim (same? (key y) a) [
    | same e f ↦ simp pick_yes (last_head q (key y) a l e (omega (arith, d a, is_yes (key y) a e)))
    | differ e f ↦ simp pick_no (last_rem (key y) a l (omega (arith, is_no (key y) a e)) (λ n. omega (arith, d n)))
  ]

  pub last_append : (q : ℕ) (l : List A) (x : A) → last_by key q (l ++ (x ∷ [])) ≡ key x
  last_append q [] x = refl
  last_append q (y ∷ l) x = last_append (key y) l x

-- Facts about every element of a keyed list.
use Prim.Native.Nat.{ℕ, ◌≤◌}
use mathlib.Core.Path.{◌≡◌, refl}
use mathlib.Core.Logic.{◌≢◌}
use mathlib.Core.List.{List, [], ◌∷◌}
use native.Mathlib.Omega.{arith}
use Rattle.lists.specs.Choice.{if_equal}
use Rattle.lists.specs.Lists.{All, done, more}
use Rattle.lists.specs.Keyed.{count_by_key, insert_after_by, remove_by, find_by, update_by}
use Rattle.lists.proofs.Picks.{pick_yes, pick_no, pick_self, same, differ, same?, is_yes, is_no, is_zero}

module _ {A : Type 0} (key : A → ℕ) (P : A → Type 0) where
  pub all_ins : (q p : ℕ) (x : A) {l : List A} → P x → All P l → All P (insert_after_by key q p x l)
  all_ins q p x h done = more h done
  all_ins q p x h (more {x = y} {xs = l} i a) = elim (same? q p) [
    | same e f ↦ rw (pick_yes q p) (more h (more i a))
    | differ e f ↦ rw (pick_no q p) (more i (all_ins (key y) p x h a))
  ]

  pub all_rem : (k : ℕ) {l : List A} → All P l → All P (remove_by key k l)
  all_rem k done = done
  all_rem k (more {x = y} i a) = elim (same? (key y) k) [
    | same e f ↦ rw (pick_yes (key y) k) a
    | differ e f ↦ rw (pick_no (key y) k) (more i (all_rem k a))
  ]

  pub all_upd : (k : ℕ) (f : A → A) → ((y : A) → key y ≡ k → P y → P (f y)) → {l : List A} → All P l → All P (update_by key k f l)
  all_upd k f h done = done
  all_upd k f h (more {x = y} i a) =
      let b : P (if_equal (key y) k (f y) y) = elim (same? (key y) k) [
        | same e j ↦ rw (pick_yes (key y) k) (h y e i)
        | differ e j ↦ rw (pick_no (key y) k) i
      ] in
      more b (all_upd k f h a)

  -- what holds of every element holds of the one found, and the other way round where each key stands once
  pub all_find : (d : A) (k : ℕ) {l : List A} → 1 ≤ count_by_key key k l → All P l → P (find_by key d k l)
  all_find d k h done = absurd (omega arith)
  all_find d k h (more {x = y} {xs = l} i a) = elim (same? (key y) k) [
    | same e f ↦ rw (pick_yes (key y) k) i
    | differ e f ↦ rw (pick_no (key y) k) (all_find d k (omega (arith, is_no (key y) k e)) a)
  ]

  pub find_all : (d : A) (l : List A) → ((n : ℕ) → count_by_key key n l ≤ 1) → ((n : ℕ) → 1 ≤ count_by_key key n l → P (find_by key d n l)) → All P l
  find_all d [] u h = done
  find_all d (y ∷ l) u h =
      let here : P (if_equal (key y) (key y) y (find_by key d (key y) l)) = h (key y) (omega (arith, is_yes (key y) (key y) refl)) in
      more (rw pick_self at here) (find_all d l (λ n. omega (arith, u n)) λ n i.
      let o : key y ≢ n = is_zero (key y) n (omega (arith, u n)) in
      let there : P (if_equal (key y) n y (find_by key d n l)) = h n (omega arith) in
      rw (pick_no (key y) n) at there)

  -- with no premise, where it holds of the one taken if there is none
  pub all_found : (d : A) (k : ℕ) {l : List A} → P d → All P l → P (find_by key d k l)
  all_found d k z done = z
  all_found d k z (more {x = y} i a) = elim (same? (key y) k) [
    | same e f ↦ rw (pick_yes (key y) k) i
    | differ e f ↦ rw (pick_no (key y) k) (all_found d k z a)
  ]

-- Laws of the lists of node numbers: where a node stands, and removal and insertion there.
use Rattle.std.specs.Prelude.{◌==◌}
use Prim.Native.Nat.{ℕ}
use mathlib.Core.Path.{◌≡◌, refl, sym, ap, ◌∙◌}
use mathlib.Core.List.{List, [], ◌∷◌, ◌++◌}
use mathlib.Core.Bool.{Bool, true, false, ◌||◌}
use mathlib.Core.Logic.{◌≢◌, ◌⊎◌, inl, inr}
use borrow.Author.Tests.{eqb-true, eqb-false}
use Rattle.lists.specs.Lists.{member}
use Rattle.lists.specs.Keyed.{insert_after_by, prev_by, last_by}
use Rattle.lists.proofs.Bools.{tf, ft}
use Rattle.lists.proofs.Picks.{pick_yes, pick_no, pick_self}
use Rattle.linked_lists.specs.Lists.{Fresh, Distinct, Every, remove}

-- the last of a ∷ u, and the first of v ++ b ∷ []
abbrev pub last_or : ℕ → List ℕ → ℕ
last_or a u = last_by (λ k. k) a u

abbrev pub head_or : ℕ → List ℕ → ℕ
head_or b [] = b
head_or b (x ∷ v) = x

-- ---- All, Fresh, Distinct of ++

module _ (P : ℕ → Type 0) where
  pub all_left : (u v : List ℕ) → Every P (u ++ v) → Every P u
  all_left [] v h = tt
  all_left (x ∷ u) v h = (h.0, all_left u v h.1)

  pub all_right : (u v : List ℕ) → Every P (u ++ v) → Every P v
  all_right [] v h = h
  all_right (x ∷ u) v h = all_right u v h.1

  pub all_last : (a : ℕ) (u : List ℕ) → P a → Every P u → P (last_or a u)
  all_last a [] h k = h
  all_last a (x ∷ u) h k = all_last x u k.0 k.1

  pub all_head : (b : ℕ) (v : List ℕ) → P b → Every P v → P (head_or b v)
  all_head b [] h k = h
  all_head b (x ∷ v) h k = k.0

  pub all_drop : (u : List ℕ) (x : ℕ) (v : List ℕ) → Every P (u ++ x ∷ v) → Every P (u ++ v)
  all_drop [] x v h = h.1
  all_drop (y ∷ u) x v h = (h.0, all_drop u x v h.1)

  pub all_put : (u : List ℕ) (x : ℕ) (v : List ℕ) → P x → Every P (u ++ v) → Every P (u ++ x ∷ v)
  all_put [] x v a h = (a, h)
  all_put (y ∷ u) x v a h = (h.0, all_put u x v a h.1)

  pub all_mid : (u : List ℕ) (x : ℕ) (v : List ℕ) → Every P (u ++ x ∷ v) → P x
  all_mid [] x v h = h.0
  all_mid (y ∷ u) x v h = all_mid u x v h.1

pub fresh_left : (x : ℕ) (u v : List ℕ) → Fresh x (u ++ v) → Fresh x u
fresh_left x [] v h = tt
fresh_left x (y ∷ u) v h = (h.0, fresh_left x u v h.1)

pub fresh_right : (x : ℕ) (u v : List ℕ) → Fresh x (u ++ v) → Fresh x v
fresh_right x [] v h = h
fresh_right x (y ∷ u) v h = fresh_right x u v h.1

pub fresh_append : (x : ℕ) (u v : List ℕ) → Fresh x u → Fresh x v → Fresh x (u ++ v)
fresh_append x [] v a b = b
fresh_append x (y ∷ u) v a b = (a.0, fresh_append x u v a.1 b)

pub distinct_left : (u v : List ℕ) → Distinct (u ++ v) → Distinct u
distinct_left [] v h = tt
distinct_left (x ∷ u) v h = (fresh_left x u v h.0, distinct_left u v h.1)

pub distinct_right : (u v : List ℕ) → Distinct (u ++ v) → Distinct v
distinct_right [] v h = h
distinct_right (x ∷ u) v h = distinct_right u v h.1

-- no node of u is in v
pub distinct_apart : (u v : List ℕ) → Distinct (u ++ v) → Every (λ k. Fresh k v) u
distinct_apart [] v h = tt
distinct_apart (x ∷ u) v h = (fresh_right x u v h.0, distinct_apart u v h.1)

-- the last of a ∷ u is another than k, which is not in it
pub fresh_last : (k a : ℕ) (u : List ℕ) → Fresh k (a ∷ u) → k ≡ last_or a u → ⊥
fresh_last k a [] h e = h.0 e
fresh_last k a (x ∷ u) h e = fresh_last k x u h.1 e

-- each node of u is another than z: z is not in u
pub fresh_all : (z : ℕ) (u w : List ℕ) → Every (λ k. Fresh k (z ∷ w)) u → Fresh z u
fresh_all z [] w h = tt
fresh_all z (x ∷ u) w h = ((λ e. h.0.0 (sym e)), fresh_all z u w h.1)

pub fresh_head : (b : ℕ) (u v : List ℕ) → Fresh b u → Every (λ k. Fresh k v) u → Fresh (head_or b v) u
fresh_head b u [] h k = h
fresh_head b u (z ∷ v) h k = fresh_all z u v k

pub fresh_drop : (k : ℕ) (u : List ℕ) (x : ℕ) (v : List ℕ) → Fresh k (u ++ x ∷ v) → Fresh k (u ++ v)
fresh_drop k [] x v h = h.1
fresh_drop k (y ∷ u) x v h = (h.0, fresh_drop k u x v h.1)

pub distinct_drop : (u : List ℕ) (x : ℕ) (v : List ℕ) → Distinct (u ++ x ∷ v) → Distinct (u ++ v)
distinct_drop [] x v h = h.1
distinct_drop (y ∷ u) x v h = (fresh_drop y u x v h.0, distinct_drop u x v h.1)

-- x is in no other place of u ++ x ∷ v
pub fresh_mid : (u : List ℕ) (x : ℕ) (v : List ℕ) → Distinct (u ++ x ∷ v) → Fresh x (u ++ v)
fresh_mid u x v h =
    fresh_append x u v (fresh_all x u v (distinct_apart u (x ∷ v) h)) (distinct_right u (x ∷ v) h).0

fresh_put : (k : ℕ) (u : List ℕ) (x : ℕ) (v : List ℕ) → (k ≡ x → ⊥) → Fresh k (u ++ v) → Fresh k (u ++ x ∷ v)
fresh_put k [] x v n h = (n, h)
fresh_put k (y ∷ u) x v n h = (h.0, fresh_put k u x v n h.1)

pub distinct_put : (u : List ℕ) (x : ℕ) (v : List ℕ) → Fresh x (u ++ v) → Distinct (u ++ v) → Distinct (u ++ x ∷ v)
distinct_put [] x v f h = (f, h)
distinct_put (y ∷ u) x v f h = (fresh_put y u x v (λ e. f.0 (sym e)) h.0, distinct_put u x v f.1 h.1)

-- ---- where a node stands

-- where l has its first x
pub record Split (x : ℕ) (l : List ℕ) : Type 0 where
  pub before : List ℕ
  pub after : List ℕ
  pub whole : l ≡ before ++ x ∷ after
  pub fresh : Fresh x before

pub split : (x : ℕ) (l : List ℕ) → member x l ≡ true → Split x l
split x [] h = ft h
split x (y ∷ l) h = go (y == x) refl (split x l) h
  where
    go : (b : Bool) → (y == x) ≡ b → (member x l ≡ true → Split x l) → (b || member x l) ≡ true → Split x (y ∷ l)
    go true e r m = record { before = []; after = l; whole = ap (λ k. k ∷ l) (eqb-true y x e); fresh = tt }
    go false e r m =
        let s = r m in
        record { before = y ∷ s.before; after = s.after; whole = ap (λ k. y ∷ k) s.whole; fresh = ((λ q. eqb-false y x e (sym q)), s.fresh) }

-- where a ∷ l is cut directly after p
pub record SplitAfter (p a : ℕ) (l : List ℕ) : Type 0 where
  pub before : List ℕ
  pub after : List ℕ
  pub whole : l ≡ before ++ after
  pub last : p ≡ last_or a before

pub split_after : (p a : ℕ) (l : List ℕ) → (p ≡ a) ⊎ (member p l ≡ true) → SplitAfter p a l
split_after p a [] (inl e) = record { before = []; after = []; whole = refl; last = e }
split_after p a [] (inr h) = ft h
split_after p a (y ∷ l) (inl e) = record { before = []; after = y ∷ l; whole = refl; last = e }
split_after p a (y ∷ l) (inr h) = go (y == p) refl (split_after p y l) h
  where
    go : (b : Bool) → (y == p) ≡ b → ((p ≡ y) ⊎ (member p l ≡ true) → SplitAfter p y l) → (b || member p l) ≡ true → SplitAfter p a (y ∷ l)
    go true e r m = record { before = y ∷ []; after = l; whole = refl; last = sym (eqb-true y p e) }
    go false e r m =
        let s = r (inr m) in
        record { before = y ∷ s.before; after = s.after; whole = ap (λ k. y ∷ k) s.whole; last = s.last }

-- ---- removal and insertion at a place

pub remove_at : (x : ℕ) (u v : List ℕ) → Fresh x u → remove x (u ++ x ∷ v) ≡ u ++ v
remove_at x [] v f = rw pick_self
remove_at x (y ∷ u) v f =
    let o : y ≢ x = λ q. f.0 (sym q) in
    rw (pick_no y x) (ap (λ k. y ∷ k) (remove_at x u v f.1))

pub pred_at : (x a : ℕ) (u v : List ℕ) → Fresh x u → prev_by (λ k. k) a x (u ++ x ∷ v) ≡ last_or a u
pred_at x a [] v f = rw pick_self
pred_at x a (y ∷ u) v f =
    let o : y ≢ x = λ q. f.0 (sym q) in
    rw (pick_no y x) (pred_at x y u v f.1)

pub insert_at : (p x a : ℕ) (u v : List ℕ) → Distinct (a ∷ u) → p ≡ last_or a u → insert_after_by (λ k. k) a p x (u ++ v) ≡ u ++ x ∷ v
insert_at p x a [] [] d e = refl
insert_at p x a [] (z ∷ v) d e = let o : a ≡ p = sym e in rw (pick_yes a p)
insert_at p x a (y ∷ u) v d e =
    let o : a ≢ p = λ q. fresh_last a y u d.0 (q ∙ e) in
    rw (pick_no a p) (ap (λ k. y ∷ k) (insert_at p x y u v d.1 e))

pub fresh_first : (x b : ℕ) (v : List ℕ) → Fresh x (b ∷ v) → x ≡ head_or b v → ⊥
fresh_first x b [] h e = h.0 e
fresh_first x b (y ∷ v) h e = h.1.0 e

-- a test that fails says that the node is not there
pub has_fresh : (x : ℕ) (l : List ℕ) → member x l ≡ false → Fresh x l
has_fresh x [] h = tt
has_fresh x (y ∷ l) h = go (y == x) refl (has_fresh x l) h
  where
    go : (b : Bool) → (y == x) ≡ b → (member x l ≡ false → Fresh x l) → (b || member x l) ≡ false → (x ≡ y → ⊥) × Fresh x l
    go true e r m = tf m
    go false e r m = ((λ q. eqb-false y x e (sym q)), r m)

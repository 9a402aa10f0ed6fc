-- `below` decides the least relation of REFERENCE 1.10: `below_least`. The laws after it say what that comes to.
use Rattle.std.specs.Prelude.{◌==◌}
use Prim.Native.Nat.{ℕ, zero, suc, ◌<◌}
use mathlib.Core.Path.{◌≡◌, refl, sym, subst}
use mathlib.Core.Logic.{◌↔◌, ◌⊎◌, inl, inr}
use mathlib.Core.Bool.{Bool, true, false, ◌&&◌, ◌||◌}
use mathlib.Core.List.{List}
use native.Mathlib.Omega.{arith}
use lib.Dec.{ltb}
use lib.ListN.{length}
use borrow.Author.Tests.{lt-ltb, ltb-true, ltb-false, eqb-true, eq-eqb}
use Rattle.lists.proofs.Bools.{or_true, or_left, or_right, and_true, and_both}
use Rattle.type_rows.specs.Types.{is_type, declared, direct, below_by, below, Below, by_row, itself, top, chain}

module _ (rows : List ℕ) where
  -- both are types
  Types : ℕ → ℕ → Type 0
  Types s t = (s < length rows) × (t < length rows)

  Declared : ℕ → ℕ → Type 0
  Declared s t = ((s == t) || (t == 0) || declared rows s t) ≡ true

  direct_in : (s t : ℕ) → s < length rows → t < length rows → Declared s t → direct rows s t ≡ true
  unfolding Declared
  direct_in s t h i e = and_both _ _ (and_both _ _ (lt-ltb s (length rows) h) (lt-ltb t (length rows) i)) e

  direct_out : (s t : ℕ) → direct rows s t ≡ true → Types s t × Declared s t
  unfolding Declared Types
  direct_out s t e =
      let a = and_true (is_type rows s && is_type rows t) _ e in
      let b = and_true (is_type rows s) (is_type rows t) a.0 in
      ((ltb-true s _ b.0, ltb-true t _ b.1), a.1)

  -- a step of the recursion, opened
  Or : ℕ → ℕ → ℕ → Type 0
  Or k s t = (below_by rows k s t ≡ true) ⊎ ((below_by rows k s k ≡ true) × (below_by rows k k t ≡ true))

  open_step : (k s t : ℕ) → below_by rows (suc k) s t ≡ true → Or k s t
  unfolding below_by Or
  open_step k s t e = split (or_true (below_by rows k s t) (below_by rows k s k && below_by rows k k t) e)
    where
      split : (below_by rows k s t ≡ true) ⊎ ((below_by rows k s k && below_by rows k k t) ≡ true) → Or k s t
      split (inl i) = inl i
      split (inr i) = inr (and_true (below_by rows k s k) (below_by rows k k t) i)

  -- what is no type is below nothing, and nothing is below it
  pub only_types : (k s t : ℕ) → below_by rows k s t ≡ true → (s < length rows) × (t < length rows)
  unfolding below_by Or Types
  only_types zero s t e = (direct_out s t e).0
  only_types (suc k) s t e = join (λ u v. only_types k u v) (open_step k s t e)
    where
      join : ((u v : ℕ) → below_by rows k u v ≡ true → (u < length rows) × (v < length rows)) → Or k s t → (s < length rows) × (t < length rows)
      join ih (inl i) = ih s t i
      join ih (inr i) = ((ih s k i.0).0, (ih k t i.1).1)

  sound : (k s t : ℕ) → below_by rows k s t ≡ true → Below rows s t
  unfolding below_by Or Types Declared
  sound zero s t e = start (or_true _ _ d.1)
    where
      d : Types s t × Declared s t
      d = direct_out s t e

      first : ((s == t) ≡ true) ⊎ ((t == 0) ≡ true) → Below rows s t
      first (inl i) = subst (λ u. Below rows s u) (eqb-true s t i) (itself d.0.0)
      first (inr i) = subst (λ u. Below rows s u) (sym (eqb-true t 0 i)) (top d.0.0)

      start : (((s == t) || (t == 0)) ≡ true) ⊎ (declared rows s t ≡ true) → Below rows s t
      start (inl i) = first (or_true _ _ i)
      start (inr i) = by_row d.0.0 d.0.1 i
  sound (suc k) s t e = join (λ u v. sound k u v) (open_step k s t e)
    where
      join : ((u v : ℕ) → below_by rows k u v ≡ true → Below rows u v) → Or k s t → Below rows s t
      join ih (inl i) = ih s t i
      join ih (inr i) = chain (ih s k i.0) (ih k t i.1)

  -- what is direct stays
  grows : (k s t : ℕ) → direct rows s t ≡ true → below_by rows k s t ≡ true
  unfolding below_by
  grows zero s t e = e
  grows (suc k) s t e = or_left _ _ (grows k s t e)

  direct_step : (k s t : ℕ) → below_by rows k s t ≡ true → below_by rows (suc k) s t ≡ true
  unfolding below_by
  direct_step k s t e = or_left _ _ e

  via_step : (k s t : ℕ) → below_by rows k s k ≡ true → below_by rows k k t ≡ true → below_by rows (suc k) s t ≡ true
  unfolding below_by
  via_step k s t e f = or_right (below_by rows k s t) _ (and_both _ _ e f)

  to_last : (k s : ℕ) → below_by rows (suc k) s k ≡ true → below_by rows k s k ≡ true
  unfolding Or
  to_last k s e = pick (open_step k s k e)
    where
      pick : Or k s k → below_by rows k s k ≡ true
      pick (inl i) = i
      pick (inr i) = i.0

  from_last : (k t : ℕ) → below_by rows (suc k) k t ≡ true → below_by rows k k t ≡ true
  unfolding Or
  from_last k t e = pick (open_step k k t e)
    where
      pick : Or k k t → below_by rows k k t ≡ true
      pick (inl i) = i
      pick (inr i) = i.1

  -- two chains whose inner types are under k, joined at a type under k
  chains : (k s u t : ℕ) → u < k → below_by rows k s u ≡ true → below_by rows k u t ≡ true → below_by rows k s t ≡ true
  unfolding Or
  chains zero s u t h e f = absurd (omega arith)
  chains (suc k) s u t h e f = go (λ a b c. chains k a b c) (ltb u k) refl
    where
      IH : Type 0
      IH = (a b c : ℕ) → b < k → below_by rows k a b ≡ true → below_by rows k b c ≡ true → below_by rows k a c ≡ true

      cases : IH → u < k → Or k s u → Or k u t → below_by rows (suc k) s t ≡ true
      cases ih l (inl i) (inl j) = direct_step k s t (ih s u t l i j)
      cases ih l (inl i) (inr j) = via_step k s t (ih s u k l i j.0) j.1
      cases ih l (inr i) (inl j) = via_step k s t i.0 (ih k u t l i.1 j)
      cases ih l (inr i) (inr j) = via_step k s t i.0 j.1

      go : IH → (v : Bool) → ltb u k ≡ v → below_by rows (suc k) s t ≡ true
      go ih true l = cases ih (ltb-true u k l) (open_step k s u e) (open_step k u t f)
      go ih false l =
          let same : u ≡ k = let b = ltb-false u k l in omega arith in
          via_step k s t
          (to_last k s (subst (λ a. below_by rows (suc k) s a ≡ true) same e))
          (from_last k t (subst (λ a. below_by rows (suc k) a t ≡ true) same f))

  -- the laws of "below"

  pub below_itself : (s : ℕ) → s < length rows → below rows s s ≡ true
  unfolding below Declared
  below_itself s h =
      grows (length rows) s s (direct_in s s h h (or_left ((s == s) || (s == 0)) _ (or_left (s == s) _ (eq-eqb s s refl))))

  pub below_zero : (s : ℕ) → s < length rows → below rows s 0 ≡ true
  unfolding below Declared
  below_zero s h =
      grows (length rows) s 0 (direct_in s 0 h (omega arith) (or_left ((s == 0) || (0 == 0)) _ (or_right (s == 0) (0 == 0) refl)))

  pub below_row : (s t : ℕ) → s < length rows → t < length rows → declared rows s t ≡ true → below rows s t ≡ true
  unfolding below Declared
  below_row s t h i e = grows (length rows) s t (direct_in s t h i (or_right ((s == t) || (t == 0)) _ e))

  pub below_chain : (s t u : ℕ) → below rows s t ≡ true → below rows t u ≡ true → below rows s u ≡ true
  unfolding below
  below_chain s t u e f = chains (length rows) s t u (only_types (length rows) s t e).1 e f

  pub below_types : (s t : ℕ) → below rows s t ≡ true → (s < length rows) × (t < length rows)
  unfolding below
  below_types s t e = only_types (length rows) s t e

  complete : (s t : ℕ) → Below rows s t → below rows s t ≡ true
  complete s t (by_row {s = a} {t = b} h i e) = below_row a b h i e
  complete s t (itself {s = a} h) = below_itself a h
  complete s t (top {s = a} h) = below_zero a h
  complete s t (chain {t = u} a b) = below_chain s u t (complete s u a) (complete u t b)

  -- "Below" is the least relation with these four
  pub below_least : (s t : ℕ) → (below rows s t ≡ true) ↔ Below rows s t
  unfolding below
  below_least s t = (sound (length rows) s t, complete s t)

-- A list that is held has no more nodes than there are node numbers for the table's words.
use Prim.Native.Nat.{ℕ, zero, suc, ◌+◌, ◌≤◌, ◌<◌}
use mathlib.Core.Path.{◌≡◌, refl, sym, ap}
use mathlib.Core.List.{List, [], ◌∷◌, ◌++◌}
use mathlib.Core.Bool.{Bool, true, false}
use native.Mathlib.Omega.{arith}
use lib.ListN.{length}
use Rattle.lists.specs.Lists.{member}
use Rattle.linked_lists.specs.declared.LinkLayout.{LinkLayout}
use Rattle.linked_lists.specs.declared.Ends.{Ends}
use Rattle.linked_lists.specs.Lists.{Fresh, Distinct, Every}
use Rattle.linked_lists.specs.Links.{node_address, HasAddress, Inside, Held}
use Rattle.linked_lists.proofs.ListLaws.{Split, split, has_fresh, all_drop, distinct_drop, fresh_mid}

pub length_mid : (u : List ℕ) (x : ℕ) (v : List ℕ) → length (u ++ x ∷ v) ≡ suc (length (u ++ v))
length_mid [] x v = refl
length_mid (y ∷ u) x v = ap suc (length_mid u x v)

lower : (n : ℕ) (l : List ℕ) → Fresh n l → Every (λ k. k < suc n) l → Every (λ k. k < n) l
lower n [] f h = tt
lower n (x ∷ l) f h =
    let a : x < suc n = h.0 in
    let b : n ≡ x → ⊥ = f.0 in
    (omega arith, lower n l f.1 h.1)

-- the pigeonhole principle: there are at most n distinct numbers below n
pub pigeonhole : (n : ℕ) (l : List ℕ) → Distinct l → Every (λ k. k < n) l → length l ≤ n
pigeonhole zero [] d h = omega arith
pigeonhole zero (x ∷ l) d h = let a : x < 0 = h.0 in absurd (omega arith)
pigeonhole (suc n) l d h = go (member n l) refl (pigeonhole n)
  where
    go : (b : Bool) → member n l ≡ b → ((l : List ℕ) → Distinct l → Every (λ k. k < n) l → length l ≤ n) → length l ≤ suc n
    go false e r = let a : length l ≤ n = r l d (lower n l (has_fresh n l e) h) in omega arith
    go true e r = out (split n l e)
      where
        out : Split n l → length l ≤ suc n
        out s =
            let u = s.before in
            let v = s.after in
            let d' : Distinct (u ++ n ∷ v) = rw s.whole at d in
            let h' : Every (λ k. k < suc n) (u ++ n ∷ v) = rw s.whole at h in
            let a : length (u ++ v) ≤ n =
            r (u ++ v) (distinct_drop u n v d') (lower n (u ++ v) (fresh_mid u n v d') (all_drop (λ k. k < suc n) u n v h')) in
            omega (arith, ap length s.whole, length_mid u n v)

-- a held list has at most m nodes, where every node in the table is below m
pub held_length : (layout : LinkLayout) (t : List ℕ) (e : Ends) (m : ℕ) (l : List ℕ) → ((x : ℕ) → HasAddress layout x → node_address layout x + 1 < length t → x < m) → Held layout t e l → length l ≤ m
held_length layout t e m l f h = pigeonhole m l h.distinct.1 (go l h.distinct.0 h.inside)
  where
    go : (l : List ℕ) → Fresh 0 l → Every (Inside layout (length t)) l → Every (λ k. k < m) l
    go [] z i = tt
    go (x ∷ l) z i = let o = i.0 (λ q. z.0 (sym q)) in (f x o.0 o.1, go l z.1 i.1)

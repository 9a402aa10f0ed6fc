-- Laws of chains, over any two functions for what follows and what precedes a node.
use Prim.Native.Nat.{ℕ}
use mathlib.Core.Path.{◌≡◌, refl, sym, ◌∙◌}
use mathlib.Core.List.{List, [], ◌∷◌, ◌++◌}
use Rattle.linked_lists.specs.Lists.{Fresh, Distinct}
use Rattle.linked_lists.specs.Links.{Link, Chain}
use Rattle.linked_lists.proofs.ListLaws.{last_or, head_or, fresh_left, fresh_right, fresh_last, fresh_head, distinct_left, distinct_right, distinct_apart, all_last}

-- the links along a ∷ u
abbrev pub Path : (ℕ → ℕ) → (ℕ → ℕ) → ℕ → List ℕ → Type 0
Path n p a [] = Unit {0}
Path n p a (x ∷ u) = Link n p a x × Path n p x u

-- the links along v ++ b ∷ []
abbrev pub Rest : (ℕ → ℕ) → (ℕ → ℕ) → List ℕ → ℕ → Type 0
Rest n p [] b = Unit {0}
Rest n p (x ∷ v) b = Chain n p x v b

module _ (n p : ℕ → ℕ) where
  -- the three parts of a chain through u ++ v
  pub cut_path : (a : ℕ) (u v : List ℕ) (b : ℕ) → Chain n p a (u ++ v) b → Path n p a u
  cut_path a [] v b c = tt
  cut_path a (x ∷ u) v b c = (c.0, cut_path x u v b c.1)

  pub cut_chain : (a : ℕ) (u v : List ℕ) (b : ℕ) → Chain n p a (u ++ v) b → Chain n p (last_or a u) v b
  cut_chain a [] v b c = c
  cut_chain a (x ∷ u) v b c = cut_chain x u v b c.1

  pub head_link : (a : ℕ) (v : List ℕ) (b : ℕ) → Chain n p a v b → Link n p a (head_or b v)
  head_link a [] b c = c
  head_link a (x ∷ v) b c = c.0

  pub last_link : (a : ℕ) (v : List ℕ) (b : ℕ) → Chain n p a v b → p b ≡ last_or a v
  last_link a [] b c = c.1
  last_link a (x ∷ v) b c = last_link x v b c.1

  pub next_last : (a : ℕ) (v : List ℕ) (b : ℕ) → Chain n p a v b → n (last_or a v) ≡ b
  next_last a [] b c = c.0
  next_last a (x ∷ v) b c = next_last x v b c.1

  pub head_rest : (a : ℕ) (v : List ℕ) (b : ℕ) → Chain n p a v b → Rest n p v b
  head_rest a [] b c = tt
  head_rest a (x ∷ v) b c = c.1

  pub from_head : (a : ℕ) (v : List ℕ) (b : ℕ) → Link n p a (head_or b v) → Rest n p v b → Chain n p a v b
  from_head a [] b l r = l
  from_head a (x ∷ v) b l r = (l, r)

  pub join : (a : ℕ) (u v : List ℕ) (b : ℕ) → Path n p a u → Chain n p (last_or a u) v b → Chain n p a (u ++ v) b
  join a [] v b h c = c
  join a (x ∷ u) v b h c = (h.0, join x u v b h.1 c)

-- n' and p' differ from n and p at most at c and x, and at d and x
module _ (n p n' p' : ℕ → ℕ) (c d x : ℕ)
    (hn : (k : ℕ) → (k ≡ c → ⊥) → (k ≡ x → ⊥) → n' k ≡ n k)
    (hp : (k : ℕ) → (k ≡ d → ⊥) → (k ≡ x → ⊥) → p' k ≡ p k) where
  keep_chain : (a : ℕ) (v : List ℕ) (b : ℕ) → Fresh c (a ∷ v) → Fresh x (a ∷ v) → Fresh d v → (b ≡ d → ⊥) → (b ≡ x → ⊥) → Chain n p a v b → Chain n' p' a v b
  keep_chain a [] b fc fx fd bd bx h =
      (hn a (λ e. fc.0 (sym e)) (λ e. fx.0 (sym e)) ∙ h.0, hp b bd bx ∙ h.1)
  keep_chain a (y ∷ v) b fc fx fd bd bx h = (
    (hn a (λ e. fc.0 (sym e)) (λ e. fx.0 (sym e)) ∙ h.0.0, hp y (λ e. fd.0 (sym e)) (λ e. fx.1.0 (sym e)) ∙ h.0.1),
    keep_chain y v b fc.1 fx.1 fd.1 bd bx h.1,
  )

  pub keep_path : (a : ℕ) (u : List ℕ) → c ≡ last_or a u → Distinct (a ∷ u) → Fresh x (a ∷ u) → Fresh d u → Path n p a u → Path n' p' a u
  keep_path a [] e di fx fd h = tt
  keep_path a (y ∷ u) e di fx fd h = (
    (
      hn a (λ q. fresh_last a y u di.0 (q ∙ e)) (λ q. fx.0 (sym q)) ∙ h.0.0,
      hp y (λ q. fd.0 (sym q)) (λ q. fx.1.0 (sym q)) ∙ h.0.1,
    ),
    keep_path y u e di.1 fx.1 fd.1 h.1,
  )

  pub keep_rest : (v : List ℕ) (b : ℕ) → d ≡ head_or b v → Fresh c v → Fresh x (b ∷ v) → Fresh b v → Distinct v → Rest n p v b → Rest n' p' v b
  keep_rest [] b e fc fx fb di h = tt
  keep_rest (y ∷ v) b e fc fx fb di h =
      keep_chain y v b fc fx.1 (rw e di.0) (λ q. fb.0 (q ∙ e)) (λ q. fx.0 (sym q)) h

-- a circle, from 0 through u ++ v to 0, where x leaves or enters between u and v: only the links of x and of its two neighbours change
module _ (n p n' p' : ℕ → ℕ) (u v : List ℕ) (x : ℕ)
    (hn : (k : ℕ) → (k ≡ last_or 0 u → ⊥) → (k ≡ x → ⊥) → n' k ≡ n k)
    (hp : (k : ℕ) → (k ≡ head_or 0 v → ⊥) → (k ≡ x → ⊥) → p' k ≡ p k)
    (di : Distinct (0 ∷ (u ++ v))) (fx : Fresh x (0 ∷ (u ++ v))) where
  kept_path : Path n p 0 u → Path n' p' 0 u
  kept_path h =
      keep_path n p n' p' (last_or 0 u) (head_or 0 v) x hn hp 0 u refl (distinct_left (0 ∷ u) v di) (fresh_left x (0 ∷ u) v fx)
      (fresh_head 0 u v (fresh_left 0 u v di.0) (distinct_apart u v di.1)) h

  kept_rest : Rest n p v 0 → Rest n' p' v 0
  kept_rest h =
      keep_rest n p n' p' (last_or 0 u) (head_or 0 v) x hn hp v 0 refl
      (all_last (λ k. Fresh k v) 0 u (fresh_right 0 u v di.0) (distinct_apart u v di.1))
      (fx.0, fresh_right x u v fx.1)
      (fresh_right 0 u v di.0)
      (distinct_right u v di.1) h

  -- x goes out
  pub chain_out : Link n' p' (last_or 0 u) (head_or 0 v) → Chain n p 0 (u ++ x ∷ v) 0 → Chain n' p' 0 (u ++ v) 0
  chain_out l h =
      join n' p' 0 u v 0 (kept_path (cut_path n p 0 u (x ∷ v) 0 h))
      (from_head n' p' (last_or 0 u) v 0 l (kept_rest (head_rest n p x v 0 (cut_chain n p 0 u (x ∷ v) 0 h).1)))

  -- x goes in
  pub chain_in : Link n' p' (last_or 0 u) x → Link n' p' x (head_or 0 v) → Chain n p 0 (u ++ v) 0 → Chain n' p' 0 (u ++ x ∷ v) 0
  chain_in l r h =
      join n' p' 0 u (x ∷ v) 0 (kept_path (cut_path n p 0 u v 0 h))
      (l, from_head n' p' x v 0 r (kept_rest (head_rest n p (last_or 0 u) v 0 (cut_chain n p 0 u v 0 h))))

-- What a table holds after a node was taken out or put in.
use Prim.Native.Nat.{ℕ}
use mathlib.Core.Path.{◌≡◌, refl, sym, ◌∙◌}
use mathlib.Core.List.{List, [], ◌∷◌, ◌++◌}
use mathlib.Core.Bool.{true}
use mathlib.Core.Logic.{◌⊎◌}
use lib.ListN.{length}
use Rattle.lists.specs.Lists.{member}
use Rattle.linked_lists.specs.declared.LinkLayout.{LinkLayout}
use Rattle.linked_lists.specs.declared.Ends.{Ends}
use Rattle.linked_lists.specs.Lists.{Fresh, Every, remove, insert_after, pred_of}
use Rattle.linked_lists.specs.Links.{ValidLayout, backward, forward, Inside, link_of, table_join, ends_join, Held, table_unlink, ends_unlink, table_insert, ends_insert, CanUnlink, CanInsert}
use Rattle.linked_lists.proofs.ListLaws.{last_or, head_or, Split, split, SplitAfter, split_after, remove_at, insert_at, pred_at, all_left, all_right, all_last, all_head, all_drop}
use Rattle.linked_lists.proofs.ListLaws.{all_put, all_mid, fresh_mid, fresh_last, fresh_first, fresh_left, fresh_right, distinct_left, distinct_drop, distinct_put}
use Rattle.linked_lists.proofs.Chains.{cut_chain, head_link, chain_out, chain_in}
use Rattle.linked_lists.proofs.Puts.{length_join, join_next, join_prev, join_next_other, join_prev_other}

-- 0 has no words, so it is inside any table
inside_0 : (layout : LinkLayout) (n : ℕ) → Inside layout n 0
inside_0 layout n h = absurd (h refl)

inside_last : (layout : LinkLayout) (n : ℕ) (u : List ℕ) → Every (Inside layout n) u → Inside layout n (last_or 0 u)
inside_last layout n u h = all_last (Inside layout n) 0 u (inside_0 layout n) h

inside_head : (layout : LinkLayout) (n : ℕ) (v : List ℕ) → Every (Inside layout n) v → Inside layout n (head_or 0 v)
inside_head layout n v h = all_head (Inside layout n) 0 v (inside_0 layout n) h

-- ---- out

module _ (layout : LinkLayout) (t : List ℕ) (e : Ends) (u v : List ℕ) (x : ℕ) (h : Held layout t e (u ++ x ∷ v)) where
  pub before_x : link_of backward layout t e x ≡ last_or 0 u
  before_x = (cut_chain (link_of forward layout t e) (link_of backward layout t e) 0 u (x ∷ v) 0 h.chain).0.1

  pub after_x : link_of forward layout t e x ≡ head_or 0 v
  after_x =
      (head_link (link_of forward layout t e) (link_of backward layout t e) x v 0
      (cut_chain (link_of forward layout t e) (link_of backward layout t e) 0 u (x ∷ v) 0 h.chain).1).0

  pub inside_u : Inside layout (length t) (last_or 0 u)
  inside_u = inside_last layout (length t) u (all_left (Inside layout (length t)) u (x ∷ v) h.inside)

  inside_v : Inside layout (length t) (head_or 0 v)
  inside_v = inside_head layout (length t) v (all_right (Inside layout (length t)) u (x ∷ v) h.inside).1

  can_out : ValidLayout layout → CanUnlink layout t e x
  can_out valid =
      record {
        valid = valid;
        node = (fresh_mid (0 ∷ u) x v h.distinct).0;
        here = all_mid (Inside layout (length t)) u x v h.inside;
        prev = rw before_x inside_u;
        next = rw after_x inside_v;
      }

  joined_out : ValidLayout layout → Held layout (table_join layout (last_or 0 u) (head_or 0 v) t) (ends_join (last_or 0 u) (head_or 0 v) e) (u ++ v)
  joined_out valid =
      record {
        chain =
            chain_out (link_of forward layout t e) (link_of backward layout t e)
            (link_of forward layout (table_join layout (last_or 0 u) (head_or 0 v) t) (ends_join (last_or 0 u) (head_or 0 v) e))
            (link_of backward layout (table_join layout (last_or 0 u) (head_or 0 v) t) (ends_join (last_or 0 u) (head_or 0 v) e))
            u v x
            (λ k a b. join_next_other layout (last_or 0 u) (head_or 0 v) t e valid k a)
            (λ k a b. join_prev_other layout (last_or 0 u) (head_or 0 v) t e valid k a)
            (distinct_drop (0 ∷ u) x v h.distinct)
            (fresh_mid (0 ∷ u) x v h.distinct)
            (join_next layout (last_or 0 u) (head_or 0 v) t e valid inside_u, join_prev layout (last_or 0 u) (head_or 0 v) t e valid inside_v)
            h.chain;
        distinct = distinct_drop (0 ∷ u) x v h.distinct;
        inside = rw length_join (all_drop (Inside layout (length t)) u x v h.inside);
      }

  out : ValidLayout layout → Held layout (table_unlink layout t e x) (ends_unlink layout t e x) (u ++ v)
  out valid = rw (before_x, after_x) (joined_out valid)

module _ (layout : LinkLayout) (t : List ℕ) (e : Ends) (l : List ℕ) (x : ℕ) (valid : ValidLayout layout) (h : Held layout t e l) (m : member x l ≡ true) where
  -- a node of a list that is held can be unlinked
  pub can_unlink : CanUnlink layout t e x
  can_unlink = go (split x l m)
    where
      go : Split x l → CanUnlink layout t e x
      go s = can_out layout t e s.before s.after x (rw s.whole at h) valid

  -- and the list without it is then held
  pub held_unlink : Held layout (table_unlink layout t e x) (ends_unlink layout t e x) (remove x l)
  held_unlink = go (split x l m)
    where
      go : Split x l → Held layout (table_unlink layout t e x) (ends_unlink layout t e x) (remove x l)
      go s =
          let r : remove x l ≡ s.before ++ s.after = rw (s.whole, remove_at x s.before s.after s.fresh) in
          rw r (out layout t e s.before s.after x (rw s.whole at h) valid)

-- ---- in

pub after_last : (layout : LinkLayout) (t : List ℕ) (e : Ends) (u v : List ℕ) → Held layout t e (u ++ v) → link_of forward layout t e (last_or 0 u) ≡ head_or 0 v
after_last layout t e u v h =
    (head_link (link_of forward layout t e) (link_of backward layout t e) (last_or 0 u) v 0
    (cut_chain (link_of forward layout t e) (link_of backward layout t e) 0 u v 0 h.chain)).0

module _ (layout : LinkLayout) (t : List ℕ) (e : Ends) (u v : List ℕ) (x : ℕ) (valid : ValidLayout layout)
    (h : Held layout t e (u ++ v)) (fx : Fresh x (0 ∷ (u ++ v))) (ix : Inside layout (length t) x) where
  after_p : link_of forward layout t e (last_or 0 u) ≡ head_or 0 v
  after_p = after_last layout t e u v h

  inside_p : Inside layout (length t) (last_or 0 u)
  inside_p = inside_last layout (length t) u (all_left (Inside layout (length t)) u v h.inside)

  inside_n : Inside layout (length t) (head_or 0 v)
  inside_n = inside_head layout (length t) v (all_right (Inside layout (length t)) u v h.inside)

  can_in : CanInsert layout t e (last_or 0 u) x
  can_in = record { valid = valid; node = fx.0; here = ix; prev = inside_p; next = rw after_p inside_n }

  not_p : x ≡ last_or 0 u → ⊥
  not_p = fresh_last x 0 u (fresh_left x (0 ∷ u) v fx)

  not_n : x ≡ head_or 0 v → ⊥
  not_n = fresh_first x 0 v (fx.0, fresh_right x u v fx.1)

  joined_in : Held layout (table_join layout x (head_or 0 v) (table_join layout (last_or 0 u) x t)) (ends_join x (head_or 0 v) (ends_join (last_or 0 u) x e)) (u ++ x ∷ v)
  joined_in =
      let c = last_or 0 u in
      let d = head_or 0 v in
      let t₁ = table_join layout c x t in
      let e₁ = ends_join c x e in
      let e₂ = ends_join x d e₁ in
      record {
        chain =
            chain_in (link_of forward layout t e) (link_of backward layout t e) (link_of forward layout (table_join layout x d t₁) e₂) (link_of backward layout (table_join layout x d t₁) e₂)
            u v x
            (λ k a b. join_next_other layout x d t₁ e₁ valid k b ∙ join_next_other layout c x t e valid k a)
            (λ k a b. join_prev_other layout x d t₁ e₁ valid k a ∙ join_prev_other layout c x t e valid k b)
            h.distinct
            fx (
              join_next_other layout x d t₁ e₁ valid c (λ q. not_p (sym q)) ∙ join_next layout c x t e valid inside_p,
              join_prev_other layout x d t₁ e₁ valid x not_n ∙ join_prev layout c x t e valid ix,
            )
            (join_next layout x d t₁ e₁ valid (rw length_join ix), join_prev layout x d t₁ e₁ valid (rw length_join inside_n))
            h.chain;
        distinct = distinct_put (0 ∷ u) x v fx h.distinct;
        inside = simp length_join (all_put (Inside layout (length t)) u x v ix h.inside);
      }

  put_in : Held layout (table_insert layout t e (last_or 0 u) x) (ends_insert layout t e (last_or 0 u) x) (u ++ x ∷ v)
  put_in = rw after_p joined_in

module _ (layout : LinkLayout) (t : List ℕ) (e : Ends) (l : List ℕ) (p x : ℕ) (valid : ValidLayout layout) (h : Held layout t e l)
    (fx : Fresh x (0 ∷ l)) (ix : Inside layout (length t) x) (m : (p ≡ 0) ⊎ (member p l ≡ true)) where
  -- a node that is not in a list that is held can be put in
  pub can_insert : CanInsert layout t e p x
  can_insert = go (split_after p 0 l m)
    where
      go : SplitAfter p 0 l → CanInsert layout t e p x
      go s = rw s.last (can_in layout t e s.before s.after x valid (rw s.whole at h) (rw s.whole at fx) ix)

  -- and the list with it is then held
  pub held_insert : Held layout (table_insert layout t e p x) (ends_insert layout t e p x) (insert_after p x l)
  held_insert = go (split_after p 0 l m)
    where
      go : SplitAfter p 0 l → Held layout (table_insert layout t e p x) (ends_insert layout t e p x) (insert_after p x l)
      go s =
          let h' : Held layout t e (s.before ++ s.after) = rw s.whole at h in
          let r : insert_after p x l ≡ s.before ++ x ∷ s.after =
          rw s.whole (insert_at p x 0 s.before s.after (distinct_left (0 ∷ s.before) s.after h'.distinct) s.last) in
          rw r (rw s.last (put_in layout t e s.before s.after x valid h' (rw s.whole at fx) ix))

-- ---- for callers: what is held where `unlink` and `insert_after` return

-- the empty list
pub held_none : (layout : LinkLayout) (t : List ℕ) → Held layout t (record { first = 0; last = 0 }) []
unfolding link_of
held_none layout t = record { chain = (refl, refl); distinct = (tt, tt); inside = tt }

-- a node's prev link is the node before it in the list
pub held_pred : (layout : LinkLayout) (t : List ℕ) (e : Ends) (l : List ℕ) (x : ℕ) → Held layout t e l → member x l ≡ true → link_of backward layout t e x ≡ pred_of x l
held_pred layout t e l x h m = go (split x l m)
  where
    go : Split x l → link_of backward layout t e x ≡ pred_of x l
    go s =
        let g : Held layout t e (s.before ++ x ∷ s.after) = rw s.whole at h in
        let p : pred_of x l ≡ last_or 0 s.before = rw s.whole (pred_at x 0 s.before s.after s.fresh) in
        before_x layout t e s.before s.after x g ∙ sym p

pub held_inside : (layout : LinkLayout) (t : List ℕ) (e : Ends) (l : List ℕ) (x : ℕ) → Held layout t e l → member x l ≡ true → Inside layout (length t) x
held_inside layout t e l x h m = go (split x l m)
  where
    go : Split x l → Inside layout (length t) x
    go s = all_mid (Inside layout (length t)) s.before x s.after (rw s.whole at h.inside)

-- What a join leaves alone: the words of other layouts and of other nodes, and the lists that they hold.
use Rattle.std.specs.Prelude.{◌==◌}
use Prim.Native.Nat.{ℕ, ◌*◌}
use mathlib.Core.Path.{◌≡◌, refl, sym, ◌∙◌}
use mathlib.Core.List.{List, [], ◌∷◌, ◌++◌}
use mathlib.Core.Bool.{Bool, true, false}
use mathlib.Core.Logic.{◌⊎◌}
use lib.ListN.{length, get_or, set}
use lib.Seq.{get_or-set_other}
use borrow.Author.Tests.{ltb-false}
use Rattle.lists.specs.Choice.{◌⇒◌else◌}
use Rattle.lists.specs.Lists.{member}
use Rattle.linked_lists.specs.declared.LinkLayout.{LinkLayout}
use Rattle.linked_lists.specs.declared.Ends.{Ends}
use Rattle.linked_lists.specs.Lists.{Fresh, Every}
use Rattle.linked_lists.specs.Links.{ValidLayout, Direction, backward, forward, link_address, HasAddress, lacks_address, Inside, link_of, table_put, table_join, Chain, Held, table_unlink}
use Rattle.linked_lists.specs.Links.{table_insert}
use Rattle.linked_lists.proofs.Words.{nodes_apart}
use Rattle.linked_lists.proofs.HeldLaws.{before_x, after_x, after_last}
use Rattle.linked_lists.proofs.ListLaws.{Split, split, SplitAfter, split_after, all_left, all_right, all_last, all_head}
use Rattle.linked_lists.proofs.Puts.{length_join}

-- no word of node k of one layout is a word of node a of another
abbrev pub Off : LinkLayout → LinkLayout → ℕ → ℕ → Type 0
Off layout' layout a k = HasAddress layout a → (r s : Direction) → link_address r layout' k ≡ link_address s layout a → ⊥

-- a word that is not the one put is kept; one that is neither of the two that a join puts is kept
pub put_other : (s : Direction) (layout : LinkLayout) (k v : ℕ) (t : List ℕ) (i : ℕ) → (HasAddress layout k → i ≡ link_address s layout k → ⊥) →
    get_or (table_put s layout k v t) i 0 ≡ get_or t i 0
unfolding table_put
put_other s layout k v t i h = go (k == 0) (lacks_address layout k) refl
  where
    go : (b c : Bool) → lacks_address layout k ≡ c → get_or (b ⇒ t else c ⇒ t else set t (link_address s layout k) v) i 0 ≡ get_or t i 0
    go true c g = refl
    go false true g = refl
    go false false g = get_or-set_other t (link_address s layout k) i v 0 (h (ltb-false (layout.stride * k) layout.offset g))

pub join_other : (layout : LinkLayout) (a b : ℕ) (t : List ℕ) (i : ℕ) →
    (HasAddress layout a → i ≡ link_address forward layout a → ⊥) → (HasAddress layout b → i ≡ link_address backward layout b → ⊥) →
    get_or (table_join layout a b t) i 0 ≡ get_or t i 0
unfolding table_join
join_other layout a b t i ha hb = put_other backward layout b a (table_put forward layout a b t) i hb ∙ put_other forward layout a b t i ha

-- a chain depends only on the links of its nodes, and on those of its two ends
chain_agree : (n p n' p' : ℕ → ℕ) (a : ℕ) (l : List ℕ) (b : ℕ) → n' a ≡ n a → Every (λ k. (n' k ≡ n k) × (p' k ≡ p k)) l → p' b ≡ p b →
    Chain n p a l b → Chain n' p' a l b
chain_agree n p n' p' a [] b ha hl hb h = (ha ∙ h.0, hb ∙ h.1)
chain_agree n p n' p' a (x ∷ l) b ha hl hb h =
    ((ha ∙ h.0.0, hl.0.1 ∙ h.0.1), chain_agree n p n' p' x l b hl.0.0 hl.1 hb h.1)

-- where a table agrees at a node's words, the node's links agree
link_agree : (s : Direction) (layout : LinkLayout) (t t' : List ℕ) (e : Ends) (k : ℕ) → get_or t' (link_address s layout k) 0 ≡ get_or t (link_address s layout k) 0
    → link_of s layout t' e k ≡ link_of s layout t e k
unfolding link_of
link_agree s layout t t' e k h = simp h

link_zero : (s : Direction) (layout : LinkLayout) (t t' : List ℕ) (e : Ends) → link_of s layout t' e 0 ≡ link_of s layout t e 0
unfolding link_of
link_zero s layout t t' e = refl

module _ (layout' layout : LinkLayout) (a b : ℕ) (t : List ℕ) (e : Ends) where
  agree : (l : List ℕ) → Every (Off layout' layout a) l → Every (Off layout' layout b) l →
      Every (λ k. (link_of forward layout' (table_join layout a b t) e k ≡ link_of forward layout' t e k) × (link_of backward layout' (table_join layout a b t) e k ≡ link_of backward layout' t e k)) l
  agree [] ha hb = tt
  agree (k ∷ l) ha hb = (
    (
      link_agree forward layout' t (table_join layout a b t) e k (join_other layout a b t (link_address forward layout' k) (λ z. ha.0 z forward forward) (λ z. hb.0 z forward backward)),
      link_agree backward layout' t (table_join layout a b t) e k (join_other layout a b t (link_address backward layout' k) (λ z. ha.0 z backward forward) (λ z. hb.0 z backward backward)),
    ),
    agree l ha.1 hb.1,
  )

  -- a list off the two nodes that are joined is still held
  pub frame_join : (l : List ℕ) → Every (Off layout' layout a) l → Every (Off layout' layout b) l → Held layout' t e l → Held layout' (table_join layout a b t) e l
  frame_join l ha hb h =
      record {
        chain =
            chain_agree (link_of forward layout' t e) (link_of backward layout' t e) (link_of forward layout' (table_join layout a b t) e) (link_of backward layout' (table_join layout a b t) e)
            0 l 0 (link_zero forward layout' t (table_join layout a b t) e) (agree l ha hb) (link_zero backward layout' t (table_join layout a b t) e) h.chain;
        distinct = h.distinct;
        inside = rw length_join h.inside;
      }

-- ---- the same layout, other nodes

module _ (layout : LinkLayout) (valid : ValidLayout layout) where
  off_nodes : (a n : ℕ) (l : List ℕ) → Fresh 0 l → Every (Inside layout n) l → Fresh a l → Every (Off layout layout a) l
  off_nodes a n [] z i f = tt
  off_nodes a n (k ∷ l) z i f =
      ((λ o r s. nodes_apart layout r s k a valid (i.0 (λ q. z.0 (sym q))).0 o (λ q. f.0 (sym q))), off_nodes a n l z.1 i.1 f.1)

  pub frame_nodes : (a b : ℕ) (t : List ℕ) (e : Ends) (l : List ℕ) → Fresh a l → Fresh b l → Held layout t e l → Held layout (table_join layout a b t) e l
  frame_nodes a b t e l fa fb h =
      frame_join layout layout a b t e l (off_nodes a (length t) l h.distinct.0 h.inside fa) (off_nodes b (length t) l h.distinct.0 h.inside fb) h

-- ---- a list of other nodes in the same layout, after a whole step

module _ (layout : LinkLayout) (valid : ValidLayout layout) (t : List ℕ) (e : Ends) (l : List ℕ) (e' : Ends) (l' : List ℕ)
    (h : Held layout t e l) (h' : Held layout t e' l') (apart : Every (λ k. Fresh k l') l) where
  pub frame_unlink : (x : ℕ) → member x l ≡ true → Held layout (table_unlink layout t e x) e' l'
  frame_unlink x m = go (split x l m)
    where
      go : Split x l → Held layout (table_unlink layout t e x) e' l'
      go s =
          let u = s.before in
          let v = s.after in
          let g : Held layout t e (u ++ x ∷ v) = rw s.whole at h in
          let d : Every (λ k. Fresh k l') (u ++ x ∷ v) = rw s.whole at apart in
          frame_nodes layout valid (link_of backward layout t e x) (link_of forward layout t e x) t e' l'
          (rw (before_x layout t e u v x g) (all_last (λ k. Fresh k l') 0 u h'.distinct.0 (all_left (λ k. Fresh k l') u (x ∷ v) d)))
          (rw (after_x layout t e u v x g) (all_head (λ k. Fresh k l') 0 v h'.distinct.0 (all_right (λ k. Fresh k l') u (x ∷ v) d).1))
          h'

  pub frame_insert : (p x : ℕ) → (p ≡ 0) ⊎ (member p l ≡ true) → Fresh x l' → Held layout (table_insert layout t e p x) e' l'
  frame_insert p x m fx = go (split_after p 0 l m)
    where
      go : SplitAfter p 0 l → Held layout (table_insert layout t e p x) e' l'
      go s =
          let u = s.before in
          let v = s.after in
          let g : Held layout t e (u ++ v) = rw s.whole at h in
          let d : Every (λ k. Fresh k l') (u ++ v) = rw s.whole at apart in
          let fp : Fresh p l' = rw s.last (all_last (λ k. Fresh k l') 0 u h'.distinct.0 (all_left (λ k. Fresh k l') u v d)) in
          let fn : Fresh (link_of forward layout t e p) l' =
          rw (s.last, after_last layout t e u v g) (all_head (λ k. Fresh k l') 0 v h'.distinct.0 (all_right (λ k. Fresh k l') u v d)) in
          frame_nodes layout valid x (link_of forward layout t e p) (table_join layout p x t) e' l' fx fn (frame_nodes layout valid p x t e' l' fp fx h')

-- ---- for callers: a list of another layout, where `unlink` and `insert_after` return

-- ---- a word that is no link word of the layout

pub unlink_word : (layout : LinkLayout) (t : List ℕ) (e : Ends) (x i : ℕ) → ((s : Direction) (k : ℕ) → HasAddress layout k → i ≡ link_address s layout k → ⊥)
    → get_or (table_unlink layout t e x) i 0 ≡ get_or t i 0
unlink_word layout t e x i h =
    join_other layout (link_of backward layout t e x) (link_of forward layout t e x) t i (h forward (link_of backward layout t e x)) (h backward (link_of forward layout t e x))

pub insert_word : (layout : LinkLayout) (t : List ℕ) (e : Ends) (p x i : ℕ) → ((s : Direction) (k : ℕ) → HasAddress layout k → i ≡ link_address s layout k → ⊥)
    → get_or (table_insert layout t e p x) i 0 ≡ get_or t i 0
insert_word layout t e p x i h =
    join_other layout x (link_of forward layout t e p) (table_join layout p x t) i (h forward x) (h backward (link_of forward layout t e p)) ∙
    join_other layout p x t i (h forward p) (h backward x)

-- ---- a table that agrees at the words of the layout

module _ (layout : LinkLayout) (t t' : List ℕ) (e : Ends) (same : (s : Direction) (k : ℕ) → HasAddress layout k → get_or t' (link_address s layout k) 0 ≡ get_or t (link_address s layout k) 0) where
  all_agree : (n : ℕ) (l : List ℕ) → Fresh 0 l → Every (Inside layout n) l →
      Every (λ k. (link_of forward layout t' e k ≡ link_of forward layout t e k) × (link_of backward layout t' e k ≡ link_of backward layout t e k)) l
  all_agree n [] z o = tt
  all_agree n (k ∷ l) z o =
      let st : HasAddress layout k = (o.0 (λ q. z.0 (sym q))).0 in
      ((link_agree forward layout t t' e k (same forward k st), link_agree backward layout t t' e k (same backward k st)), all_agree n l z.1 o.1)

  pub held_agree : length t' ≡ length t → (l : List ℕ) → Held layout t e l → Held layout t' e l
  held_agree len l h =
      record {
        chain =
            chain_agree (link_of forward layout t e) (link_of backward layout t e) (link_of forward layout t' e) (link_of backward layout t' e)
            0 l 0 (link_zero forward layout t t' e) (all_agree (length t) l h.distinct.0 h.inside) (link_zero backward layout t t' e) h.chain;
        distinct = h.distinct;
        inside = rw len h.inside;
      }

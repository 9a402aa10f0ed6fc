-- Reading a link after a link was put.
use Rattle.std.specs.Prelude.{◌==◌}
use Prim.Native.Nat.{ℕ, ◌+◌, ◌*◌, ◌<◌}
use mathlib.Core.Path.{◌≡◌, refl, sym, ◌∙◌}
use mathlib.Core.List.{List}
use mathlib.Core.Bool.{Bool, true, false}
use native.Mathlib.Omega.{arith}
use lib.ListN.{length, get_or, set, length-set}
use lib.Seq.{get_or-set_same, get_or-set_other}
use borrow.Author.Tests.{eqb-true, eqb-false, ltb-true, ltb-false}
use Rattle.linked_lists.specs.declared.LinkLayout.{LinkLayout}
use Rattle.linked_lists.specs.declared.Ends.{Ends}
use Rattle.lists.specs.Choice.{◌⇒◌else◌}
use Rattle.linked_lists.specs.Links.{ValidLayout, Direction, backward, forward, link_address, node_address, HasAddress, lacks_address, Inside, end_of, with_end, link_of, table_put, ends_put}
use Rattle.linked_lists.specs.Links.{table_join, ends_join}
use Rattle.linked_lists.proofs.Words.{nodes_apart, sides_apart}

pub length_put : (s : Direction) (layout : LinkLayout) (k v : ℕ) (t : List ℕ) → length (table_put s layout k v t) ≡ length t
unfolding table_put
length_put s layout k v t = go (k == 0) (lacks_address layout k)
  where
    go : (b c : Bool) → length (b ⇒ t else c ⇒ t else set t (link_address s layout k) v) ≡ length t
    go true c = refl
    go false true = refl
    go false false = simp length-set

word_below : (s : Direction) (layout : LinkLayout) (n k : ℕ) → node_address layout k + 1 < n → link_address s layout k < n
word_below backward layout n k h = omega arith
word_below forward layout n k h = omega arith

end_same : (s : Direction) (v : ℕ) (e : Ends) → end_of s (with_end s v e) ≡ v
end_same backward v e = refl
end_same forward v e = refl

-- the link that was put
pub link_same : (s : Direction) (layout : LinkLayout) (k v : ℕ) (t : List ℕ) (e : Ends) → Inside layout (length t) k →
    link_of s layout (table_put s layout k v t) (ends_put s k v e) k ≡ v
unfolding link_of table_put ends_put
link_same s layout k v t e i = go (k == 0) (lacks_address layout k) refl refl
  where
    go : (b c : Bool) → (k == 0) ≡ b → lacks_address layout k ≡ c →
        (b ⇒ end_of s (b ⇒ with_end s v e else e) else c ⇒ 0 else get_or (b ⇒ t else c ⇒ t else set t (link_address s layout k) v) (link_address s layout k) 0) ≡ v
    go true c h g = end_same s v e
    go false true h g = absurd (omega (arith, (i (eqb-false k 0 h)).0, ltb-true (layout.stride * k) layout.offset g))
    go false false h g = get_or-set_same t (link_address s layout k) v 0 (word_below s layout (length t) k (i (eqb-false k 0 h)).1)

-- a link whose word, or end, is another than the one put
link_apart : (r s : Direction) (layout : LinkLayout) (j k v : ℕ) (t : List ℕ) (e : Ends) →
    (j ≡ 0 → k ≡ 0 → end_of r (with_end s v e) ≡ end_of r e) →
    (HasAddress layout j → HasAddress layout k → link_address r layout j ≡ link_address s layout k → ⊥) →
    link_of r layout (table_put s layout k v t) (ends_put s k v e) j ≡ link_of r layout t e j
unfolding link_of table_put ends_put
link_apart r s layout j k v t e he hw = go (j == 0) (k == 0) (lacks_address layout j) (lacks_address layout k) refl refl refl refl
  where
    go : (b c b' c' : Bool) → (j == 0) ≡ b → (k == 0) ≡ c → lacks_address layout j ≡ b' → lacks_address layout k ≡ c' →
        (b ⇒ end_of r (c ⇒ with_end s v e else e) else b' ⇒ 0 else get_or (c ⇒ t else c' ⇒ t else set t (link_address s layout k) v) (link_address r layout j) 0)
        ≡ (b ⇒ end_of r e else b' ⇒ 0 else get_or t (link_address r layout j) 0)
    go true true b' c' h g i o = he (eqb-true j 0 h) (eqb-true k 0 g)
    go true false b' c' h g i o = refl
    go false true b' c' h g i o = refl
    go false false true c' h g i o = refl
    go false false false true h g i o = refl
    go false false false false h g i o =
        get_or-set_other t (link_address s layout k) (link_address r layout j) v 0 (hw (ltb-false (layout.stride * j) layout.offset i) (ltb-false (layout.stride * k) layout.offset o))

module _ (layout : LinkLayout) (j k v : ℕ) (t : List ℕ) (e : Ends) (valid : ValidLayout layout) where
  -- another node's link
  pub link_node : (r s : Direction) → (j ≡ k → ⊥) → link_of r layout (table_put s layout k v t) (ends_put s k v e) j ≡ link_of r layout t e j
  link_node r s ne =
      link_apart r s layout j k v t e (λ a b. absurd (ne (a ∙ sym b))) (λ a b. nodes_apart layout r s j k valid a b ne)

  -- a link on the other side
  pub prev_kept : link_of backward layout (table_put forward layout k v t) (ends_put forward k v e) j ≡ link_of backward layout t e j
  prev_kept = link_apart backward forward layout j k v t e (λ a b. refl) (λ a b. sides_apart layout j k valid a b)

  pub next_kept : link_of forward layout (table_put backward layout k v t) (ends_put backward k v e) j ≡ link_of forward layout t e j
  next_kept = link_apart forward backward layout j k v t e (λ a b. refl) (λ a b q. sides_apart layout k j valid b a (sym q))

-- ---- two nodes linked to each other

pub length_join : (layout : LinkLayout) (a b : ℕ) (t : List ℕ) → length (table_join layout a b t) ≡ length t
unfolding table_join
length_join layout a b t = length_put backward layout b a (table_put forward layout a b t) ∙ length_put forward layout a b t

module _ (layout : LinkLayout) (a b : ℕ) (t : List ℕ) (e : Ends) (valid : ValidLayout layout) where
  pub join_next : Inside layout (length t) a → link_of forward layout (table_join layout a b t) (ends_join a b e) a ≡ b
  unfolding table_join ends_join
  join_next i = next_kept layout a b a (table_put forward layout a b t) (ends_put forward a b e) valid ∙ link_same forward layout a b t e i

  pub join_prev : Inside layout (length t) b → link_of backward layout (table_join layout a b t) (ends_join a b e) b ≡ a
  unfolding table_join ends_join
  join_prev i =
      link_same backward layout b a (table_put forward layout a b t) (ends_put forward a b e) (rw (length_put forward layout a b t) i)

  pub join_next_other : (k : ℕ) → (k ≡ a → ⊥) → link_of forward layout (table_join layout a b t) (ends_join a b e) k ≡ link_of forward layout t e k
  unfolding table_join ends_join
  join_next_other k n = next_kept layout k b a (table_put forward layout a b t) (ends_put forward a b e) valid ∙ link_node layout k a b t e valid forward forward n

  pub join_prev_other : (k : ℕ) → (k ≡ b → ⊥) → link_of backward layout (table_join layout a b t) (ends_join a b e) k ≡ link_of backward layout t e k
  unfolding table_join ends_join
  join_prev_other k n = link_node layout k b a (table_put forward layout a b t) (ends_put forward a b e) valid backward backward n ∙ prev_kept layout k a b t e valid

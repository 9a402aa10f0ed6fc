-- What the code's steps come to, from what each call ensures.
use Rattle.std.specs.Prelude.{◌==◌}
use Prim.Native.Nat.{ℕ, ◌+◌, ◌*◌}
use mathlib.Core.Path.{◌≡◌, refl, sym, ap, ◌∙◌}
use mathlib.Core.Bool.{Bool, true, false}
use mathlib.Core.List.{List}
use native.Mathlib.Omega.{arith}
use lib.Dec.{eqb, ltb}
use lib.ListN.{length, get_or, set}
use lib.Seq.{set-set, set_comm}
use borrow.Author.Tests.{eqb-false, ne_eqb, le-ltb}
use Rattle.lists.specs.Choice.{◌⇒◌else◌}
use Rattle.linked_lists.specs.declared.LinkLayout.{LinkLayout}
use Rattle.linked_lists.specs.declared.Ends.{Ends}
use Rattle.linked_lists.specs.Links.{Direction, backward, forward, node_address, link_address, HasAddress, Inside, link_of, CanUnlink, CanInsert, CanAppend, table_put, ends_put, table_join}
use Rattle.linked_lists.specs.Links.{ends_join, table_unlink}
use Rattle.linked_lists.specs.Links.{ends_unlink, table_insert, ends_insert, table_move, ends_move}

pub inside_by : (layout : LinkLayout) {m m' n n' : ℕ} → m ≡ m' → n ≡ n' → Inside layout n' m' → Inside layout n m
inside_by layout p q h = rw (p, q) h

-- what a call asks, of the table and ends that another left
pub unlink_by : (layout : LinkLayout) (t : List ℕ) {e e' : Ends} (x : ℕ) → e ≡ e' → CanUnlink layout t e' x → CanUnlink layout t e x
unlink_by layout t x q h = rw q h

pub insert_by : (layout : LinkLayout) {t t' : List ℕ} {e e' : Ends} (p x : ℕ) → t ≡ t' → e ≡ e' → CanInsert layout t' e' p x → CanInsert layout t e p x
insert_by layout p x q r h = rw (q, r) h

module _ (layout : LinkLayout) (t : List ℕ) (e : Ends) where
  -- the join of `unlink`
  pub unlink_steps : (x : ℕ) {p n : ℕ} {t₁ : List ℕ} {e₁ : Ends} → p ≡ link_of backward layout t e x → n ≡ link_of forward layout t e x →
      (t₁ ≡ table_join layout p n t) × (e₁ ≡ ends_join p n e) → (t₁ ≡ table_unlink layout t e x) × (e₁ ≡ ends_unlink layout t e x)
  unlink_steps x i j q = rw (← i, ← j) q

  -- the two links of `join`
  pub join_table : (a b : ℕ) {t₁ t₂ : List ℕ} → t₁ ≡ table_put forward layout a b t → t₂ ≡ table_put backward layout b a t₁ → t₂ ≡ table_join layout a b t
  unfolding table_join
  join_table a b p q = q ∙ ap (table_put backward layout b a) p

pub join_ends : (e : Ends) (a b : ℕ) {e₁ e₂ : Ends} → e₁ ≡ ends_put forward a b e → e₂ ≡ ends_put backward b a e₁ → e₂ ≡ ends_join a b e
unfolding ends_join
join_ends e a b p q = q ∙ ap (ends_put backward b a) p

-- a link of a node is a word of the table
pub link_word : (layout : LinkLayout) (t : List ℕ) (e : Ends) (s : Direction) (x : ℕ) → (x ≡ 0 → ⊥) → HasAddress layout x → link_of s layout t e x ≡ get_or t (link_address s layout x) 0
unfolding link_of
link_word layout t e s x z h = rw (ne_eqb x 0 z, le-ltb (layout.stride * x) layout.offset h)

-- a node's own words, which need no test that it is one
module _ (layout : LinkLayout) (t : List ℕ) (e : Ends) (x : ℕ) (node : x ≡ 0 → ⊥) (has : HasAddress layout x) where
  pub word_prev : {a : ℕ} → a ≡ node_address layout x → get_or t a 0 ≡ link_of backward layout t e x
  unfolding link_of
  word_prev k = simp (k, le-ltb _ _ has, ne_eqb _ _ node)

  pub word_next : {a : ℕ} → a ≡ node_address layout x → get_or t (a + 1) 0 ≡ link_of forward layout t e x
  unfolding link_of
  word_next k = simp (k, le-ltb _ _ has, ne_eqb _ _ node)

  put_at : (s : Direction) (v : ℕ) (u : List ℕ) → table_put s layout x v u ≡ set u (link_address s layout x) v
  unfolding table_put
  put_at s v u = rw (ne_eqb x 0 node, le-ltb (layout.stride * x) layout.offset has) refl

  no_end : (s : Direction) (v : ℕ) (f : Ends) → ends_put s x v f ≡ f
  unfolding ends_put
  no_end s v f = rw (ne_eqb x 0 node) refl

  module _ (p : ℕ) where
    abbrev n : ℕ
    n = link_of forward layout t e p

    table_in : table_insert layout t e p x ≡ table_put backward layout n x (set (set (table_put forward layout p x t) (node_address layout x) p) (node_address layout x + 1) n)
    unfolding table_join
    table_in =
        let u = table_put forward layout p x t in
        ap (table_put backward layout n x) (put_at forward n (table_put backward layout x p u) ∙ ap (λ (w : List ℕ). set w (node_address layout x + 1) n) (put_at backward p u))

    ends_in : ends_insert layout t e p x ≡ ends_put backward n x (ends_put forward p x e)
    unfolding ends_join
    ends_in =
        let f = ends_put forward p x e in
        ap (ends_put backward n x) (no_end forward n (ends_put backward x p f) ∙ no_end backward p f)

  -- the stores of `insert_after`
  pub put_steps : (p : ℕ) {a m : ℕ} {t₁ t₂ : List ℕ} {e₁ e₂ : Ends} → a ≡ node_address layout x → m ≡ link_of forward layout t e p →
      (t₁ ≡ table_put forward layout p x t) × (e₁ ≡ ends_put forward p x e) →
      (t₂ ≡ table_put backward layout m x (set (set t₁ a p) (a + 1) m)) × (e₂ ≡ ends_put backward m x e₁) →
      (t₂ ≡ table_insert layout t e p x) × (e₂ ≡ ends_insert layout t e p x)
  put_steps p k i q r = rw (r.0, r.1, q.0, q.1, k, i) (sym (table_in p), sym (ends_in p))

-- the stores of `append`
module _ (layout : LinkLayout) (t : List ℕ) (e : Ends) (x : ℕ) (can : CanAppend layout t e x) where
  abbrev p : ℕ
  p = e.last

  none : eqb x 0 ≡ false
  none = ne_eqb x 0 can.back.node

  starts : ltb (layout.stride * x) layout.offset ≡ false
  starts = le-ltb _ _ (can.back.here can.back.node).0

  abbrev after : List ℕ → List ℕ
  after u = set (set u (node_address layout x) p) (node_address layout x + 1) 0

  table_is : table_insert layout t e p x ≡ after (table_put forward layout p x t)
  unfolding table_join table_put
  table_is = rw (can.end, none, starts)

  -- the node whose next word is written is there
  pub behind_in : {q : ℕ} → q ≡ ((p == 0) ⇒ x else p) → (q ≡ 0 → ⊥) × Inside layout (length t) q
  behind_in {q} i = go (p == 0) refl i
    where
      go : (b : Bool) → (p == 0) ≡ b → q ≡ (b ⇒ x else p) → (q ≡ 0 → ⊥) × Inside layout (length t) q
      go true r k = (λ z. can.back.node (sym k ∙ z), inside_by layout k refl can.back.here)
      go false r k = (λ z. eqb-false p 0 r (sym k ∙ z), inside_by layout k refl can.back.prev)

  pub append_steps : {q b a f : ℕ} → q ≡ ((p == 0) ⇒ x else p) → b ≡ node_address layout q → a ≡ node_address layout x → f ≡ ((p == 0) ⇒ x else e.first) →
      (set (set (set t (b + 1) x) a p) (a + 1) 0 ≡ table_insert layout t e p x) × (record { first = f; last = x } ≡ ends_insert layout t e p x)
  unfolding table_put ends_join ends_put
  append_steps {q} {b} {a} {f} i j k l = go (p == 0) refl i l
    where
      go : (c : Bool) → (p == 0) ≡ c → q ≡ (c ⇒ x else p) → f ≡ (c ⇒ x else e.first) →
          (set (set (set t (b + 1) x) a p) (a + 1) 0 ≡ table_insert layout t e p x) × (record { first = f; last = x } ≡ ends_insert layout t e p x)
      go true r m n =
          let y : b ≡ a = j ∙ ap (node_address layout) m ∙ sym k in
          let z : set (set t (a + 1) x) a p ≡ set (set t a p) (a + 1) x = set_comm t (a + 1) a x p (λ w. omega (arith, w)) in
          let o : set (set (set t (b + 1) x) a p) (a + 1) 0 ≡ set (set t a p) (a + 1) 0 = rw y (ap (λ (u : List ℕ). set u (a + 1) 0) z ∙ set-set (set t a p) (a + 1) x 0) in
          let v : table_put forward layout p x t ≡ t = rw r in
          let w : set (set t a p) (a + 1) 0 ≡ table_insert layout t e p x = rw k (sym (table_is ∙ ap after v)) in
          (o ∙ w, rw (n, can.end, none, r))
      go false r m n =
          let y : b ≡ node_address layout p = j ∙ ap (node_address layout) m in
          let h = le-ltb (layout.stride * p) layout.offset (can.back.prev (eqb-false p 0 r)).0 in
          let v : table_put forward layout p x t ≡ set t (node_address layout p + 1) x = rw (r, h) in
          (rw (y, k) (sym (table_is ∙ ap after v)), rw (n, can.end, none, r))

-- the two calls of `relink`
module _ (layout : LinkLayout) (x p : ℕ) (t : List ℕ) (e : Ends) where
  pub moved : {t' t'' : List ℕ} {o r : Ends} →
      (t' ≡ table_unlink layout t e x) × (o ≡ ends_unlink layout t e x) → (t'' ≡ table_insert layout t' o p x) × (r ≡ ends_insert layout t' o p x) →
      (t'' ≡ table_move layout x p t e) × (r ≡ ends_move layout x p t e)
  unfolding table_move ends_move
  moved a b = (b.0 ∙ (λ i. table_insert layout (a.0 i) (a.1 i) p x), b.1 ∙ (λ i. ends_insert layout (a.0 i) (a.1 i) p x))

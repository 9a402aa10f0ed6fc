-- The links of a held list in the words of lists: the first node, the node after x, the node before it; and a walk along the list.
use Rattle.std.specs.Prelude.{◌==◌}
use Prim.Native.Nat.{ℕ, ◌<◌}
use mathlib.Core.Path.{◌≡◌, refl, sym, ap, ◌∙◌}
use mathlib.Core.List.{List, [], ◌∷◌, ◌++◌}
use mathlib.Core.Bool.{true, false}
use mathlib.Core.Logic.{◌≢◌, ◌⊎◌, inl, inr}
use native.Mathlib.Omega.{arith}
use lib.ListN.{length}
use borrow.Author.Tests.{eq-eqb, ne_eqb}
use Rattle.lists.specs.Choice.{◌⇒◌else◌}
use Rattle.lists.specs.Lists.{member, first, drop_through, successor, before}
use Rattle.lists.proofs.Bools.{ft, or_right}
use Rattle.lists.proofs.Picks.{same, differ, same?}
use Rattle.linked_lists.specs.declared.LinkLayout.{LinkLayout}
use Rattle.linked_lists.specs.declared.Ends.{Ends}
use Rattle.linked_lists.specs.Lists.{Fresh, Distinct}
use Rattle.linked_lists.specs.Links.{ValidLayout, backward, forward, Inside, link_of, Held, HeldAt, nodes}
use Rattle.linked_lists.proofs.ListLaws.{head_or, Split, split}
use Rattle.linked_lists.proofs.Chains.{head_link}
use Rattle.linked_lists.proofs.HeldLaws.{after_x, held_inside}
use Rattle.linked_lists.proofs.Model.{held_nodes}

-- ---- what stands behind a node

behind_here : (x y : ℕ) (l : List ℕ) → y ≡ x → drop_through x (y ∷ l) ≡ l
behind_here x y l e = rw (eq-eqb y x e)

behind_later : (x y : ℕ) (l : List ℕ) → y ≢ x → drop_through x (y ∷ l) ≡ drop_through x l
behind_later x y l e = rw (ne_eqb y x e)

behind_at : (x : ℕ) (u v : List ℕ) → Fresh x u → drop_through x (u ++ x ∷ v) ≡ v
behind_at x [] v f = behind_here x x v refl
behind_at x (y ∷ u) v f = behind_later x y (u ++ x ∷ v) (λ q. f.0 (sym q)) ∙ behind_at x u v f.1

fresh_behind : (k x : ℕ) (l : List ℕ) → Fresh k l → Fresh k (drop_through x l)
fresh_behind k x [] f = tt
fresh_behind k x (y ∷ l) f = elim (same? y x) [
  | same e i ↦ rw (behind_here x y l e) f.1
  | differ e i ↦ rw (behind_later x y l e) (fresh_behind k x l f.1)
]

has_behind : (k x : ℕ) (l : List ℕ) → member k (drop_through x l) ≡ true → member k l ≡ true
has_behind k x [] h = h
has_behind k x (y ∷ l) h = or_right (y == k) (member k l) (elim (same? y x) [
  | same e i ↦ rw (behind_here x y l e) at h
  | differ e i ↦ has_behind k x l (rw (behind_later x y l e) at h)
])

head_first : (l : List ℕ) → head_or 0 l ≡ first l
head_first [] = refl
head_first (x ∷ l) = refl

not_first : (k : ℕ) (l : List ℕ) → Fresh k (0 ∷ l) → k ≡ first l → ⊥
not_first k [] f e = f.0 e
not_first k (y ∷ l) f e = f.1.0 e

-- the node after x is none, or is in the list
pub after_in : (x : ℕ) (l : List ℕ) → (successor x l ≡ 0) ⊎ (member (successor x l) l ≡ true)
after_in x l = go (drop_through x l) (λ k. has_behind k x l)
  where
    go : (v : List ℕ) → ((k : ℕ) → member k v ≡ true → member k l ≡ true) → (first v ≡ 0) ⊎ (member (first v) l ≡ true)
    go [] f = inl refl
    go (z ∷ v) f = inr (f z (rw (eq-eqb z z refl)))

-- ---- the part of a list that starts with x

abbrev pub suffix : ℕ → List ℕ → List ℕ
suffix x [] = []
suffix x (y ∷ l) = (y == x) ⇒ (y ∷ l) else suffix x l

suffix_here : (x y : ℕ) (l : List ℕ) → y ≡ x → suffix x (y ∷ l) ≡ y ∷ l
suffix_here x y l e = rw (eq-eqb y x e)

suffix_later : (x y : ℕ) (l : List ℕ) → y ≢ x → suffix x (y ∷ l) ≡ suffix x l
suffix_later x y l e = rw (ne_eqb y x e)

suffix_none : (x : ℕ) (l : List ℕ) → Fresh x l → suffix x l ≡ []
suffix_none x [] f = refl
suffix_none x (y ∷ l) f = suffix_later x y l (λ q. f.0 (sym q)) ∙ suffix_none x l f.1

suffix_has : (x : ℕ) (l : List ℕ) → member x l ≡ true → suffix x l ≡ x ∷ drop_through x l
suffix_has x [] h = ft h
suffix_has x (y ∷ l) h = elim (same? y x) [
  | same e i ↦ suffix_here x y l e ∙ ap (λ k. k ∷ l) e ∙ ap (λ k. x ∷ k) (sym (behind_here x y l e))
  | differ e i ↦
      let h' : member x l ≡ true = rw (ne_eqb y x e) at h in
      suffix_later x y l e ∙ suffix_has x l h' ∙ ap (λ k. x ∷ k) (sym (behind_later x y l e))
]

suffix_first : (l : List ℕ) → suffix (first l) l ≡ l
suffix_first [] = refl
suffix_first (y ∷ l) = suffix_here y y l refl

suffix_after : (x : ℕ) (l : List ℕ) → Distinct (0 ∷ l) → suffix (successor x l) l ≡ drop_through x l
suffix_after x [] d = refl
suffix_after x (y ∷ l) d =
    let f : Fresh y (0 ∷ l) = ((λ q. d.0.0 (sym q)), d.1.0) in
    elim (same? y x) [
      | same e i ↦
          let q = behind_here x y l e in
          ap (λ (k : List ℕ). suffix (first k) (y ∷ l)) q ∙ suffix_later (first l) y l (not_first y l f) ∙ suffix_first l ∙ sym q
      | differ e i ↦
          let q = behind_later x y l e in
          ap (λ (k : List ℕ). suffix (first k) (y ∷ l)) q
          ∙ suffix_later (successor x l) y l (not_first y (drop_through x l) (f.0, fresh_behind y x l f.1))
          ∙ suffix_after x l (d.0.1, d.1.1)
          ∙ sym q
    ]

-- ---- a held list

module _ (layout : LinkLayout) (t : List ℕ) (e : Ends) (l : List ℕ) (h : Held layout t e l) where
  -- the first node follows 0
  pub next_first : link_of forward layout t e 0 ≡ first l
  next_first = (head_link (link_of forward layout t e) (link_of backward layout t e) 0 l 0 h.chain).0 ∙ head_first l

  -- a node's next link is the node after it in the list
  pub next_after : (x : ℕ) → member x l ≡ true → link_of forward layout t e x ≡ successor x l
  next_after x m = go (split x l m)
    where
      go : Split x l → link_of forward layout t e x ≡ successor x l
      go s =
          let g : Held layout t e (s.before ++ x ∷ s.after) = rw s.whole at h in
          let q : successor x l ≡ first s.after = ap (λ k. successor x k) s.whole ∙ ap first (behind_at x s.before s.after s.fresh) in
          after_x layout t e s.before s.after x g ∙ head_first s.after ∙ sym q

-- ---- the walk of `before`, from a in search of b, along the list that the table holds

-- where the walk is at x: b is behind a exactly where it is in the rest of the list, which starts with x
pub record Walk (l : List ℕ) (a b x : ℕ) : Type 0 where
  pub place : (x ≡ 0) ⊎ (member x l ≡ true)
  pub rest : member b (suffix x l) ≡ before a b l

module _ (layout : LinkLayout) (t : List ℕ) (e : Ends) (valid : ValidLayout layout) (a : ℕ) (some : HeldAt layout t e a) where
  -- the list is the one read off the table
  the_list : nodes layout t e ≡ some.0
  the_list = held_nodes layout t e valid some.0 some.1

  held : Held layout t e (nodes layout t e)
  held = rw the_list some.1

  walk_in : member a (nodes layout t e) ≡ true
  walk_in = rw the_list some.2

  pub walk_inside : Inside layout (length t) a
  walk_inside = held_inside layout t e some.0 a some.1 some.2

  pub walk_start : (b x : ℕ) → x ≡ link_of forward layout t e a → Walk (nodes layout t e) a b x
  walk_start b x q =
      let l = nodes layout t e in
      let n : x ≡ successor a l = q ∙ next_after layout t e l held a walk_in in
      record { place = rw n (after_in a l); rest = rw (n, suffix_after a l held.distinct) }

  module _ (b x : ℕ) (w : Walk (nodes layout t e) a b x) where
    -- the walk ends at 0
    pub walk_end : x ≡ 0 → false ≡ before a b (nodes layout t e)
    walk_end z = go (rw z at w.rest)
      where
        go : member b (suffix 0 (nodes layout t e)) ≡ before a b (nodes layout t e) → false ≡ before a b (nodes layout t e)
        go r = sym (ap (member b) (suffix_none 0 (nodes layout t e) held.distinct.0)) ∙ r

    module _ (z : x ≡ 0 → ⊥) where
      walk_has : member x (nodes layout t e) ≡ true
      walk_has = go w.place
        where
          go : (x ≡ 0) ⊎ (member x (nodes layout t e) ≡ true) → member x (nodes layout t e) ≡ true
          go (inl q) = absurd (z q)
          go (inr m) = m

      walk_rest : member b (x ∷ drop_through x (nodes layout t e)) ≡ before a b (nodes layout t e)
      walk_rest = ap (member b) (sym (suffix_has x (nodes layout t e) walk_has)) ∙ w.rest

      pub walk_here : Inside layout (length t) x
      walk_here = held_inside layout t e (nodes layout t e) x held walk_has

      -- b is found
      pub walk_found : x ≡ b → true ≡ before a b (nodes layout t e)
      walk_found q = rw (eq-eqb x b q) at walk_rest

      -- or the walk goes on, with less of the list before it
      module _ (y : ℕ) (q : y ≡ link_of forward layout t e x) where
        walk_next : suffix y (nodes layout t e) ≡ drop_through x (nodes layout t e)
        walk_next = rw (q ∙ next_after layout t e (nodes layout t e) held x walk_has) (suffix_after x (nodes layout t e) held.distinct)

        pub walk_more : (x ≡ b → ⊥) → Walk (nodes layout t e) a b y
        walk_more ne =
            record {
              place = rw (q ∙ next_after layout t e (nodes layout t e) held x walk_has) (after_in x (nodes layout t e));
              rest = rw walk_next (rw (ne_eqb x b ne) at walk_rest);
            }

        pub walk_less : length (suffix y (nodes layout t e)) < length (suffix x (nodes layout t e))
        walk_less = omega (arith, ap length walk_next, ap length (suffix_has x (nodes layout t e) walk_has))

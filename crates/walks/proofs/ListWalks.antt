-- A walk along a held list, node by node, that adds f of each node.
use Prim.Native.Nat.{ℕ, ◌+◌, ◌/◌, ◌^◌, ◌≤◌, ◌<◌}
use mathlib.Core.Path.{◌≡◌, refl, sym, ap, ◌∙◌}
use mathlib.Core.List.{List, [], ◌∷◌}
use native.Mathlib.Omega.{arith}
use lib.ListN.{length, get_or}
use Rattle.lists.specs.Lists.{sum_of}
use Rattle.linked_lists.specs.declared.LinkLayout.{LinkLayout}
use Rattle.linked_lists.specs.declared.Ends.{Ends}
use Rattle.linked_lists.specs.Lists.{Fresh, Every}
use Rattle.linked_lists.specs.Links.{ValidLayout, backward, forward, link_address, Inside, link_of, Chain, Held, nodes_from, nodes}
use Rattle.linked_lists.proofs.Steps.{link_word}
use Rattle.linked_lists.proofs.Pigeonhole.{held_length}
use Rattle.linked_lists.proofs.Model.{nodes_chain, node_below, held_nodes}
use Rattle.graph_tables.specs.Tables.{incidence_links, vertex_ends, EdgeRowIn, HalfRowIn, half_place, vfirst, wnext}
use Rattle.graph_tables.proofs.Frames.{valid_i}
use Rattle.walks.specs.Walks.{CanWalk}

module _ (f : ℕ → ℕ) (P : ℕ → Type 0) (layout : LinkLayout) (t : List ℕ) (e : Ends) where
  -- the walk is at w, behind the node `from`, has added n, and will have added `total`
  pub record Walk (w n total : ℕ) : Type 0 where
    pub from : ℕ
    pub rest : List ℕ
    pub here : w ≡ link_of forward layout t e from
    pub chain : Chain (link_of forward layout t e) (link_of backward layout t e) from rest 0
    pub real : Fresh 0 rest
    pub inside : Every (Inside layout (length t)) rest
    pub all : Every P rest
    pub few : length rest ≤ length t + layout.offset
    pub sum : n + sum_of f rest ≡ total

-- how many nodes are left
abbrev pub left : LinkLayout → List ℕ → Ends → ℕ → ℕ
left layout t e w = length (nodes_from (link_of forward layout t e) (length t + layout.offset) w)

module _ (f : ℕ → ℕ) (P : ℕ → Type 0) (layout : LinkLayout) (t : List ℕ) (e : Ends) where
  pub walk_start : ValidLayout layout → (l : List ℕ) → Held layout t e l → Every P l → (w : ℕ) → w ≡ link_of forward layout t e 0 → Walk f P layout t e w 0 (sum_of f (nodes layout t e))
  walk_start valid l h a w q = record {
    from = 0;
    rest = l;
    here = q;
    chain = h.chain;
    real = h.distinct.0;
    inside = h.inside;
    all = a;
    few = held_length layout t e (length t + layout.offset) l (λ x s i. node_below layout (length t) x valid s i) h;
    sum = rw (held_nodes layout t e valid l h) (omega arith);
  }

  -- what is known at a node: w is one, n + f w is no more than the total, and the walk goes on with less left
  pub record Step (w n total : ℕ) : Type 0 where
    pub inside : Inside layout (length t) w
    pub holds : P w
    pub most : n + f w ≤ total
    pub next : (y : ℕ) → y ≡ link_of forward layout t e w → Walk f P layout t e y (n + f w) total
    pub less : (y : ℕ) → y ≡ link_of forward layout t e w → left layout t e y < left layout t e w

  module _ (w n total : ℕ) where
    pub walk_end : Walk f P layout t e w n total → w ≡ 0 → n ≡ total
    walk_end k z = go k.rest k.chain k.real k.sum
      where
        go : (l : List ℕ) → Chain (link_of forward layout t e) (link_of backward layout t e) k.from l 0 → Fresh 0 l → n + sum_of f l ≡ total → n ≡ total
        go [] c r q = omega arith
        go (x ∷ l) c r q = absurd (r.0 (sym z ∙ k.here ∙ c.0.0))

    pub walk_step : Walk f P layout t e w n total → (w ≡ 0 → ⊥) → Step w n total
    walk_step k z = go k.rest k.chain k.real k.inside k.all k.few k.sum
      where
        go : (l : List ℕ) → Chain (link_of forward layout t e) (link_of backward layout t e) k.from l 0 → Fresh 0 l → Every (Inside layout (length t)) l → Every P l →
            length l ≤ length t + layout.offset → n + sum_of f l ≡ total → Step w n total
        go [] c r i a m q = absurd (z (k.here ∙ c.0))
        go (x ∷ l) c r i a m q =
            let here : w ≡ x = k.here ∙ c.0.0 in
            let now : nodes_from (link_of forward layout t e) (length t + layout.offset) w ≡ x ∷ l =
            ap (nodes_from (link_of forward layout t e) (length t + layout.offset)) k.here ∙ nodes_chain (link_of forward layout t e) (link_of backward layout t e)
            (length t + layout.offset) k.from (x ∷ l) c r m in
            record {
              inside = rw here i.0;
              holds = rw here a.0;
              most = rw here (omega arith);
              next = λ y p. record {
                from = x;
                rest = l;
                here = p ∙ ap (link_of forward layout t e) here;
                chain = c.1;
                real = r.1;
                inside = i.1;
                all = a.1;
                few = omega arith;
                sum = rw here (omega arith);
              };
              less = λ y p.
                  let then : nodes_from (link_of forward layout t e) (length t + layout.offset) y ≡ l =
                  ap (nodes_from (link_of forward layout t e) (length t + layout.offset)) (p ∙ ap (link_of forward layout t e) here)
                  ∙ nodes_chain (link_of forward layout t e) (link_of backward layout t e) (length t + layout.offset) x l c.1 r.1 (omega arith) in
                  omega (arith, ap length now, ap length then);
            }

-- a sum of ones and zeros is no more than the table has words
sum_le : (f : ℕ → ℕ) → ((w : ℕ) → f w ≤ 1) → (l : List ℕ) → sum_of f l ≤ length l
sum_le f h [] = omega arith
sum_le f h (w ∷ l) = omega (arith, sum_le f h l, h w)

pub sum_few : (f : ℕ → ℕ) → ((w : ℕ) → f w ≤ 1) → (layout : LinkLayout) (t : List ℕ) (e : Ends) → ValidLayout layout → (l : List ℕ) → Held layout t e l
    → sum_of f (nodes layout t e) ≤ length t + layout.offset
sum_few f b layout t e valid l h =
    rw (held_nodes layout t e valid l h) (omega (arith, sum_le f b l, held_length layout t e (length t + layout.offset) l (λ x s i. node_below layout (length t) x valid s i) h))

-- ---- links as words of the tables

pub first_link : (vertices edges : List ℕ) (v : ℕ) → vfirst vertices v ≡ link_of forward incidence_links edges (vertex_ends vertices v) 0
unfolding link_of
first_link vertices edges v = refl

-- what the cursor asks of a word, and that it goes along the list
module _ (edges : List ℕ) (w : ℕ) (h : EdgeRowIn edges (w / 2)) where
  pub word_in : HalfRowIn edges w
  word_in = (omega (arith, h), omega (arith, h))

  pub next_link : (e : Ends) (y : ℕ) → y ≡ wnext edges w → y ≡ link_of forward incidence_links edges e w
  next_link e y p =
      let q : half_place 1 w ≡ link_address forward incidence_links w = omega (arith, word_in.0) in
      p ∙ ap (λ (i : ℕ). get_or edges i 0) q ∙ sym (link_word incidence_links edges e forward w (λ z. omega (arith, z, word_in.0)) (omega (arith, word_in.0)))

-- ---- a loop along the incidence list of v that adds f of each word

-- it stands at word w and has added n
pub record Along (f : ℕ → ℕ) (vertices edges : List ℕ) (v w n : ℕ) : Type 0 where
  pub walk : Walk f (λ x. EdgeRowIn edges (x / 2)) incidence_links edges (vertex_ends vertices v) w n (sum_of f (nodes incidence_links edges (vertex_ends vertices v)))

-- what is left of the list
abbrev pub along_left : List ℕ → List ℕ → ℕ → ℕ → ℕ
along_left vertices edges v w = left incidence_links edges (vertex_ends vertices v) w

module _ (f : ℕ → ℕ) (vertices edges : List ℕ) (v : ℕ) where
  pub along_start : CanWalk vertices edges v → (w : ℕ) → w ≡ vfirst vertices v → Along f vertices edges v w 0
  along_start p w q = record {
    walk = walk_start f (λ x. EdgeRowIn edges (x / 2)) incidence_links edges (vertex_ends vertices v) valid_i p.list p.held p.rows w (q ∙ first_link vertices edges v);
  }

  -- the whole sum fits a word
  along_few : CanWalk vertices edges v → ((w : ℕ) → f w ≤ 1) → sum_of f (nodes incidence_links edges (vertex_ends vertices v)) < 2 ^ 32
  along_few p h = omega (arith, sum_few f h incidence_links edges (vertex_ends vertices v) valid_i p.list p.held, p.small)

  module _ (w n : ℕ) (k : Along f vertices edges v w n) where
    pub along_end : w ≡ 0 → n ≡ sum_of f (nodes incidence_links edges (vertex_ends vertices v))
    along_end = walk_end f (λ x. EdgeRowIn edges (x / 2)) incidence_links edges (vertex_ends vertices v) w n (sum_of f (nodes incidence_links edges (vertex_ends vertices v))) k.walk

    module _ (z : w ≡ 0 → ⊥) where
      step : Step f (λ x. EdgeRowIn edges (x / 2)) incidence_links edges (vertex_ends vertices v) w n (sum_of f (nodes incidence_links edges (vertex_ends vertices v)))
      step = walk_step f (λ x. EdgeRowIn edges (x / 2)) incidence_links edges (vertex_ends vertices v) w n (sum_of f (nodes incidence_links edges (vertex_ends vertices v))) k.walk z

      pub along_row : EdgeRowIn edges (w / 2)
      along_row = step.holds

      pub along_in : HalfRowIn edges w
      along_in = word_in edges w along_row

      pub along_fits : CanWalk vertices edges v → ((x : ℕ) → f x ≤ 1) → (r : ℕ) → r ≡ f w → n + r < 2 ^ 32
      along_fits p h r e = omega (arith, step.most, along_few p h)

      -- y is the word that the cursor finds next
      module _ (y : ℕ) (q : y ≡ wnext edges w) where
        pub along_link : y ≡ link_of forward incidence_links edges (vertex_ends vertices v) w
        along_link = next_link edges w along_row (vertex_ends vertices v) y q

        pub along_less : along_left vertices edges v y < along_left vertices edges v w
        along_less = step.less y along_link

        pub along_on : (r : ℕ) → r ≡ f w → Along f vertices edges v y (n + r)
        along_on r e = record { walk = rw e (step.next y along_link) }

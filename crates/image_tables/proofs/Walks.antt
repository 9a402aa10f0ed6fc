-- Walks along a held list, and words written on the way.
use Prim.Native.Nat.{ℕ, ◌+◌, ◌≤◌, ◌<◌}
use mathlib.Core.Path.{◌≡◌, refl, sym, ap, ◌∙◌}
use mathlib.Core.List.{List, [], ◌∷◌, ◌++◌}
use native.Mathlib.Omega.{arith}
use lib.ListN.{length, length-append}
use lib.Seq.{sets}
use Rattle.lists.specs.Lists.{concat_map}
use Rattle.linked_lists.specs.declared.LinkLayout.{LinkLayout}
use Rattle.linked_lists.specs.declared.Ends.{Ends}
use Rattle.linked_lists.specs.Lists.{Fresh, Every}
use Rattle.linked_lists.specs.Links.{ValidLayout, backward, forward, Inside, link_of, Chain, Held, nodes_from, nodes}
use Rattle.linked_lists.proofs.Pigeonhole.{held_length}
use Rattle.linked_lists.proofs.Model.{nodes_chain, node_below, held_nodes}
use Rattle.graph_tables.specs.declared.Head.{Head}
use Rattle.graph_tables.specs.Tables.{vertex_links, edge_links, vertex_list_ends, edge_list_ends}
use Rattle.image_tables.specs.Words.{HoldsSome, vertex_words, edge_words, list_words, vertex_part_of, edge_part_of, incidence_part_of}
use Rattle.lists.proofs.Stores.{sets_append, sets_apart}

pub each_one : (l : List ℕ) → concat_map (λ x. x ∷ []) l ≡ l
each_one [] = refl
each_one (x ∷ l) = ap (λ (k : List ℕ). x ∷ k) (each_one l)

-- how many nodes there are from x on
abbrev pub left : LinkLayout → List ℕ → Ends → ℕ → ℕ
left layout t e x = length (nodes_from (link_of forward layout t e) (length t + layout.offset) x)

-- the walk is at x, behind the node `from`, and the nodes from x on are `rest`
pub record On (layout : LinkLayout) (t : List ℕ) (e : Ends) (x : ℕ) (rest : List ℕ) : Type 0 where
  pub from : ℕ
  pub here : x ≡ link_of forward layout t e from
  pub chain : Chain (link_of forward layout t e) (link_of backward layout t e) from rest 0
  pub real : Fresh 0 rest
  pub inside : Every (Inside layout (length t)) rest
  pub few : length rest ≤ length t + layout.offset

module _ (layout : LinkLayout) (t : List ℕ) (e : Ends) where
  on_start : ValidLayout layout → HoldsSome layout t e → (x : ℕ) → x ≡ link_of forward layout t e 0 → On layout t e x (nodes layout t e)
  on_start valid s x q =
      let h : Held layout t e (nodes layout t e) = rw (held_nodes layout t e valid s.0 s.1) s.1 in
      record {
        from = 0;
        here = q;
        chain = h.chain;
        real = h.distinct.0;
        inside = h.inside;
        few = held_length layout t e (length t + layout.offset) (nodes layout t e) (λ y s i. node_below layout (length t) y valid s i) h;
      }

  -- at a node: it is in the table, and behind it the walk goes on with less left
  record Ahead (x : ℕ) (rest : List ℕ) : Type 0 where
    behind : List ℕ
    split : x ∷ behind ≡ rest
    within : Inside layout (length t) x
    onward : (y : ℕ) → y ≡ link_of forward layout t e x → On layout t e y behind
    less : (y : ℕ) → y ≡ link_of forward layout t e x → left layout t e y < left layout t e x

  on_turn : (x : ℕ) (rest : List ℕ) → On layout t e x rest → (x ≡ 0 → ⊥) → Ahead x rest
  on_turn x [] o z = absurd (z (o.here ∙ o.chain.0))
  on_turn x (k ∷ l) o z =
      let here : x ≡ k = o.here ∙ o.chain.0.0 in
      let now : nodes_from (link_of forward layout t e) (length t + layout.offset) x ≡ k ∷ l =
      ap (nodes_from (link_of forward layout t e) (length t + layout.offset)) o.here
      ∙ nodes_chain (link_of forward layout t e) (link_of backward layout t e) (length t + layout.offset) o.from (k ∷ l) o.chain o.real o.few in
      record {
        behind = l;
        split = ap (λ (n : ℕ). n ∷ l) here;
        within = rw here o.inside.0;
        onward = λ y r. record {
          from = k;
          here = r ∙ ap (link_of forward layout t e) here;
          chain = o.chain.1;
          real = o.real.1;
          inside = o.inside.1;
          few = omega (arith, o.few);
        };
        less = λ y r.
            let then : nodes_from (link_of forward layout t e) (length t + layout.offset) y ≡ l =
            ap (nodes_from (link_of forward layout t e) (length t + layout.offset)) (r ∙ ap (link_of forward layout t e) here)
            ∙ nodes_chain (link_of forward layout t e) (link_of backward layout t e) (length t + layout.offset) k l o.chain.1 o.real.1 (omega (arith, o.few)) in
            omega (arith, ap length now, ap length then);
      }

  on_end : (x : ℕ) (rest : List ℕ) → On layout t e x rest → x ≡ 0 → rest ≡ []
  on_end x [] o z = refl
  on_end x (k ∷ l) o z = absurd (o.real.0 (sym z ∙ o.here ∙ o.chain.0.0))

-- ---- f of each node is written: what is left to write from here writes the same as the whole from the start

pub record Writing (f : ℕ → List ℕ) (layout : LinkLayout) (t : List ℕ) (e : Ends) (out₀ : List ℕ) (at₀ : ℕ) (out : List ℕ) (at x : ℕ) : Type 0 where
  pub rest : List ℕ
  pub on : On layout t e x rest
  pub same : sets out at (concat_map f rest) ≡ sets out₀ at₀ (concat_map f (nodes layout t e))
  pub size : at + length (concat_map f rest) ≡ at₀ + length (concat_map f (nodes layout t e))

module _ (f : ℕ → List ℕ) (layout : LinkLayout) (t : List ℕ) (e : Ends) (out₀ : List ℕ) (at₀ : ℕ) where
  pub writing_start : ValidLayout layout → HoldsSome layout t e → (x : ℕ) → x ≡ link_of forward layout t e 0 → Writing f layout t e out₀ at₀ out₀ at₀ x
  writing_start valid s x q = record { rest = nodes layout t e; on = on_start layout t e valid s x q; same = refl; size = refl }

  -- at a node: it is in the table, there is room for its words, and behind them the walk goes on with less left
  pub record Turn (out : List ℕ) (at x : ℕ) : Type 0 where
    pub inside : Inside layout (length t) x
    pub room : at + length (f x) ≤ at₀ + length (concat_map f (nodes layout t e))
    pub next : (out' : List ℕ) (at' y : ℕ) → out' ≡ sets out at (f x) → at' ≡ at + length (f x) → y ≡ link_of forward layout t e x → Writing f layout t e out₀ at₀ out' at' y
    pub less : (y : ℕ) → y ≡ link_of forward layout t e x → left layout t e y < left layout t e x

  module _ (out : List ℕ) (at x : ℕ) where
    pub writing_turn : Writing f layout t e out₀ at₀ out at x → (x ≡ 0 → ⊥) → Turn out at x
    writing_turn w z =
        let a = on_turn layout t e x w.rest w.on z in
        let l = a.behind in
        let s : sets out at (f x ++ concat_map f l) ≡ sets out₀ at₀ (concat_map f (nodes layout t e)) = ap (λ (k : List ℕ). sets out at (concat_map f k)) a.split ∙ w.same in
        let n : at + length (f x ++ concat_map f l) ≡ at₀ + length (concat_map f (nodes layout t e)) = ap (λ (k : List ℕ). at + length (concat_map f k)) a.split ∙ w.size in
        record {
          inside = a.within;
          room = omega (arith, n, length-append (f x) (concat_map f l));
          next = λ out' at' y p q r. record {
            rest = l;
            on = a.onward y r;
            same = rw (p, q) (sets_append out (f x) (concat_map f l) at ∙ s);
            size = omega (arith, q, n, length-append (f x) (concat_map f l));
          };
          less = a.less;
        }

    pub writing_end : Writing f layout t e out₀ at₀ out at x → x ≡ 0 → (out ≡ sets out₀ at₀ (concat_map f (nodes layout t e))) × (at ≡ at₀ + length (concat_map f (nodes layout t e)))
    writing_end w z =
        let q = on_end layout t e x w.rest w.on z in
        let n : at + length (concat_map f []) ≡ at₀ + length (concat_map f (nodes layout t e)) = rw q at w.size in
        (rw q at w.same, omega (arith, n))

-- ---- h of each node is written before f of it, at another place, behind all that f has: both on one walk

pub record Pairs (f h : ℕ → List ℕ) (layout : LinkLayout) (t : List ℕ) (e : Ends) (out₀ : List ℕ) (at₀ to₀ : ℕ) (out : List ℕ) (at to x : ℕ) : Type 0 where
  pub rest : List ℕ
  pub on : On layout t e x rest
  pub same : sets (sets out at (concat_map f rest)) to (concat_map h rest) ≡ sets (sets out₀ at₀ (concat_map f (nodes layout t e))) to₀ (concat_map h (nodes layout t e))
  pub size : at + length (concat_map f rest) ≡ at₀ + length (concat_map f (nodes layout t e))
  pub long : to + length (concat_map h rest) ≡ to₀ + length (concat_map h (nodes layout t e))
  pub apart : to₀ ≤ to

module _ (f h : ℕ → List ℕ) (layout : LinkLayout) (t : List ℕ) (e : Ends) (out₀ : List ℕ) (at₀ to₀ : ℕ) where
  pub pairs_start : ValidLayout layout → HoldsSome layout t e → (x : ℕ) → x ≡ link_of forward layout t e 0 → Pairs f h layout t e out₀ at₀ to₀ out₀ at₀ to₀ x
  pairs_start valid s x q =
      record { rest = nodes layout t e; on = on_start layout t e valid s x q; same = refl; size = refl; long = refl; apart = omega arith }

  -- at a node: it is in the table, there is room for its words, and behind them the walk goes on with less left
  pub record PairTurn (out : List ℕ) (at to x : ℕ) : Type 0 where
    pub inside : Inside layout (length t) x
    pub before : at + length (f x) ≤ to
    pub room : to + length (h x) ≤ to₀ + length (concat_map h (nodes layout t e))
    pub few : length (h x) ≤ length (concat_map h (nodes layout t e))
    pub next : (out' : List ℕ) (at' to' y : ℕ) → out' ≡ sets (sets out to (h x)) at (f x) → at' ≡ at + length (f x) → to' ≡ to + length (h x) →
        y ≡ link_of forward layout t e x → Pairs f h layout t e out₀ at₀ to₀ out' at' to' y
    pub less : (y : ℕ) → y ≡ link_of forward layout t e x → left layout t e y < left layout t e x

  module _ (out : List ℕ) (at to x : ℕ) where
    pub pairs_turn : at₀ + length (concat_map f (nodes layout t e)) ≤ to₀ → Pairs f h layout t e out₀ at₀ to₀ out at to x → (x ≡ 0 → ⊥) → PairTurn out at to x
    pairs_turn far w z =
        let a = on_turn layout t e x w.rest w.on z in
        let l = a.behind in
        let all = sets (sets out₀ at₀ (concat_map f (nodes layout t e))) to₀ (concat_map h (nodes layout t e)) in
        let s : sets (sets out at (f x ++ concat_map f l)) to (h x ++ concat_map h l) ≡ all = ap (λ (k : List ℕ). sets (sets out at (concat_map f k)) to (concat_map h k)) a.split ∙ w.same in
        let n : at + length (f x ++ concat_map f l) ≡ at₀ + length (concat_map f (nodes layout t e)) = ap (λ (k : List ℕ). at + length (concat_map f k)) a.split ∙ w.size in
        let m : to + length (h x ++ concat_map h l) ≡ to₀ + length (concat_map h (nodes layout t e)) = ap (λ (k : List ℕ). to + length (concat_map h k)) a.split ∙ w.long in
        let df = length-append (f x) (concat_map f l) in
        let dh = length-append (h x) (concat_map h l) in
        record {
          inside = a.within;
          before = omega (arith, n, df, far, w.apart);
          room = omega (arith, m, dh);
          few = omega (arith, m, dh, w.apart);
          next = λ out' at' to' y p q u r. record {
            rest = l;
            on = a.onward y r;
            same =
                rw (p, q, u)
                (ap (λ (k : List ℕ). sets k (to + length (h x)) (concat_map h l))
                (sets_append (sets out to (h x)) (f x) (concat_map f l) at ∙ sym (sets_apart out at to (f x ++ concat_map f l) (h x) (omega (arith, n, far, w.apart))))
                ∙ sets_append (sets out at (f x ++ concat_map f l)) (h x) (concat_map h l) to
                ∙ s);
            size = omega (arith, q, n, df);
            long = omega (arith, u, m, dh);
            apart = omega (arith, u, w.apart);
          };
          less = a.less;
        }

    pub pairs_end : Pairs f h layout t e out₀ at₀ to₀ out at to x → x ≡ 0 →
        (out ≡ sets (sets out₀ at₀ (concat_map f (nodes layout t e))) to₀ (concat_map h (nodes layout t e))) × (to ≡ to₀ + length (concat_map h (nodes layout t e)))
    pairs_end w z =
        let q = on_end layout t e x w.rest w.on z in
        let m : to + length (concat_map h []) ≡ to₀ + length (concat_map h (nodes layout t e)) = rw q at w.long in
        (rw q at w.same, omega (arith, m))

-- ---- the parts, by the ends that a walk began with

module _ (h : Head) (vertices edges : List ℕ) (e : Ends) where
  pub edges_by : e ≡ edge_list_ends h → edge_part_of h edges ≡ concat_map (edge_words edges) (nodes edge_links edges e)
  unfolding edge_part_of
  edges_by q = ap (λ (x : Ends). concat_map (edge_words edges) (nodes edge_links edges x)) (sym q)

  module _ (q : e ≡ vertex_list_ends h) where
    pub vertices_by : vertex_part_of h vertices edges ≡ concat_map (vertex_words vertices edges) (nodes vertex_links vertices e)
    unfolding vertex_part_of
    vertices_by = ap (λ (x : Ends). concat_map (vertex_words vertices edges) (nodes vertex_links vertices x)) (sym q)

    pub lists_by : incidence_part_of h vertices edges ≡ concat_map (list_words vertices edges) (nodes vertex_links vertices e)
    unfolding incidence_part_of
    lists_by = ap (λ (x : Ends). concat_map (list_words vertices edges) (nodes vertex_links vertices x)) (sym q)

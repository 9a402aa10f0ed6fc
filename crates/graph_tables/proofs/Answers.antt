-- The words that are read are what the graph answers.
use Rattle.std.proofs.Common.{◌≡◌, ℕ, ◌≤◌, ◌≢◌, List, get_or, sym, refl, ap, ◌∙◌, arith}
use Rattle.lists.specs.Lists.{first, successor, before}
use Rattle.lists.specs.Keyed.{count_by_key, prev_by, last_by}
use Rattle.lists.proofs.Picks.{is_zero}
use Rattle.linked_lists.specs.declared.LinkLayout.{LinkLayout}
use Rattle.linked_lists.specs.declared.Ends.{Ends}
use Rattle.linked_lists.specs.Links.{ValidLayout, Direction, backward, forward, link_address, link_of, Held, HeldAt, nodes}
use Rattle.linked_lists.proofs.Steps.{link_word}
use Rattle.linked_lists.proofs.Model.{held_last, held_nodes}
use Rattle.linked_lists.proofs.Walks.{next_first}
use Rattle.linked_lists.proofs.Counted.{ordered, inside_is, prev_is, next_is, has_is}
use Rattle.graph.specs.Graph.{Graph, vertex_number, edge_number, itself, vertex, edge, vertex_numbers, edge_numbers, edge_of, out_word, in_word, this, reading_kind, decimetres, list_of}
use Rattle.graph.specs.Changes.{VertexThere, EdgeThere}
use Rattle.graph.proofs.Readings.{reading_back}
use Rattle.graph.proofs.Incidence.{this_out, this_into}
use Rattle.graph.proofs.Lists.{held}
use Rattle.graph_tables.specs.Tables.{State, vertex_links, edge_links, incidence_links, vertex_list_ends, edge_list_ends, vertex_ends, VertexRowIn, EdgeRowIn, HalfRowIn, vertex_place, edge_place}
use Rattle.graph_tables.specs.Tables.{half_place, vtype, vvalue, vfirst, vlast, vprev, vnext, etype, ekind, edecimetres, eprev, enext, wprev, wnext, wthis, reading_at}
use Rattle.graph_tables.specs.Holds.{Holds}
use Rattle.graph_tables.proofs.Keys.{keys_count, keys_prev, keys_last}
use Rattle.graph_tables.proofs.Frames.{valid_v, valid_e, valid_i, row_v, row_e}
use Rattle.graph_tables.proofs.Refines.{word_in}

-- ---- a held list

module _ (layout : LinkLayout) (t : List ℕ) (e : Ends) (l : List ℕ) (valid : ValidLayout layout) (h : Held layout t e l) where
  pub first_is : e.first ≡ first l
  unfolding link_of
  first_is = next_first layout t e l h

  module _ (x : ℕ) (c : 1 ≤ count_by_key itself x l) where
    real : 0 ≢ x
    real = is_zero 0 x (omega (arith, ordered layout t e l valid h x))

    real' : x ≡ 0 → ⊥
    real' q = real (sym q)

    read : (s : Direction) → link_of s layout t e x ≡ get_or t (link_address s layout x) 0
    read s = link_word layout t e s x real' (inside_is layout t e l valid h x c real').0

    pub before_is : get_or t (link_address backward layout x) 0 ≡ prev_by itself 0 x l
    before_is = sym (read backward) ∙ prev_is layout t e l valid h x c

    pub after_is : get_or t (link_address forward layout x) 0 ≡ successor x l
    after_is = sym (read forward) ∙ next_is layout t e l valid h x c

    pub at_is : HeldAt layout t e x
    at_is = (l, h, has_is x l c)

-- ---- the graph that is held

module _ (s : State) (g : Graph) (h : Holds s g) where
  -- questions 30, 32
  pub first_vertex : s.head.vfirst ≡ first (vertex_numbers g)
  first_vertex = first_is vertex_links s.vertices (vertex_list_ends s.head) (vertex_numbers g) valid_v h.core.vseq

  pub first_edge : s.head.efirst ≡ first (edge_numbers g)
  first_edge = first_is edge_links s.edges (edge_list_ends s.head) (edge_numbers g) valid_e h.core.eseq

  pub last_vertex : s.head.vlast ≡ last_by vertex_number 0 g.vseq
  last_vertex = held_last vertex_links s.vertices (vertex_list_ends s.head) (vertex_numbers g) h.core.vseq ∙ keys_last vertex_number 0 g.vseq

  pub last_edge : s.head.elast ≡ last_by edge_number 0 g.eseq
  last_edge = held_last edge_links s.edges (edge_list_ends s.head) (edge_numbers g) h.core.eseq ∙ keys_last edge_number 0 g.eseq

  module _ (v : ℕ) (c : VertexThere g v) where
    pub vertex_row : VertexRowIn s.vertices v
    vertex_row = row_v s.vertices (vertex_list_ends s.head) g.vseq h.core.vseq v (omega arith)

    -- questions 40, 42, 34
    pub vertex_type : vtype s.vertices v ≡ (vertex g v).type
    vertex_type = (h.core.vrows v vertex_row.0).type

    pub vertex_value : vvalue s.vertices v ≡ (vertex g v).value
    vertex_value = (h.core.vrows v vertex_row.0).value

    pub first_word : vfirst s.vertices v ≡ first (list_of g v)
    first_word = first_is incidence_links s.edges (vertex_ends s.vertices v) (list_of g v) valid_i (h.core.lists v vertex_row.0)

    pub last_word : vlast s.vertices v ≡ last_by itself 0 (list_of g v)
    last_word = held_last incidence_links s.edges (vertex_ends s.vertices v) (list_of g v) (h.core.lists v vertex_row.0)

    listed_v : 1 ≤ count_by_key itself v (vertex_numbers g)
    listed_v = omega (arith, keys_count vertex_number v g.vseq)

    pub vertex_prev : vprev s.vertices v ≡ prev_by vertex_number 0 v g.vseq
    vertex_prev =
        let q : vertex_place 6 v ≡ link_address backward vertex_links v = omega (arith, vertex_row.0) in
        ap (λ (i : ℕ). get_or s.vertices i 0) q ∙ before_is vertex_links s.vertices (vertex_list_ends s.head) (vertex_numbers g) valid_v h.core.vseq v listed_v
        ∙ keys_prev vertex_number 0 v g.vseq

    -- question 31
    pub vertex_next : vnext s.vertices v ≡ successor v (vertex_numbers g)
    vertex_next =
        let q : vertex_place 7 v ≡ link_address forward vertex_links v = omega (arith, vertex_row.0) in
        ap (λ (i : ℕ). get_or s.vertices i 0) q ∙ after_is vertex_links s.vertices (vertex_list_ends s.head) (vertex_numbers g) valid_v h.core.vseq v listed_v

    pub vertex_at : HeldAt vertex_links s.vertices (vertex_list_ends s.head) v
    vertex_at = at_is vertex_links s.vertices (vertex_list_ends s.head) (vertex_numbers g) valid_v h.core.vseq v listed_v

  module _ (e : ℕ) (c : EdgeThere g e) where
    pub edge_row : EdgeRowIn s.edges e
    edge_row = row_e s.edges (edge_list_ends s.head) g.eseq h.core.eseq e (omega arith)

    -- questions 41, 43, 44
    pub edge_type : etype s.edges e ≡ (edge g e).type
    edge_type = (h.core.erows e edge_row.0).type

    pub reading_kind_lem : ekind s.edges e ≡ reading_kind (edge g e).reading
    reading_kind_lem = (h.core.erows e edge_row.0).kind

    pub reading_decimetres : edecimetres s.edges e ≡ decimetres (edge g e).reading
    reading_decimetres = (h.core.erows e edge_row.0).decimetres

    pub reading_at_lem : reading_at s.edges e ≡ (edge g e).reading
    reading_at_lem = rw (reading_kind_lem, reading_decimetres) (reading_back (edge g e).reading)

    -- its two words are those of the reading that they are read as
    pub reading_words : (reading_kind (reading_at s.edges e) ≡ ekind s.edges e) × (decimetres (reading_at s.edges e) ≡ edecimetres s.edges e)
    reading_words = (ap reading_kind reading_at_lem ∙ sym reading_kind_lem, ap decimetres reading_at_lem ∙ sym reading_decimetres)

    -- questions 36, 37
    pub alpha_is : wthis s.edges (out_word e) ≡ (edge g e).alpha
    alpha_is = h.core.this (out_word e) (omega (arith, edge_row.0)) ∙ this_out g.eseq e

    pub omega_is : wthis s.edges (in_word e) ≡ (edge g e).omega
    omega_is = h.core.this (in_word e) (omega (arith, edge_row.0)) ∙ this_into g.eseq e

    listed_e : 1 ≤ count_by_key itself e (edge_numbers g)
    listed_e = omega (arith, keys_count edge_number e g.eseq)

    pub edge_prev : eprev s.edges e ≡ prev_by edge_number 0 e g.eseq
    edge_prev =
        let q : edge_place 10 e ≡ link_address backward edge_links e = omega (arith, edge_row.0) in
        ap (λ (i : ℕ). get_or s.edges i 0) q ∙ before_is edge_links s.edges (edge_list_ends s.head) (edge_numbers g) valid_e h.core.eseq e listed_e ∙ keys_prev edge_number 0 e g.eseq

    -- question 33
    pub edge_next : enext s.edges e ≡ successor e (edge_numbers g)
    edge_next =
        let q : edge_place 11 e ≡ link_address forward edge_links e = omega (arith, edge_row.0) in
        ap (λ (i : ℕ). get_or s.edges i 0) q ∙ after_is edge_links s.edges (edge_list_ends s.head) (edge_numbers g) valid_e h.core.eseq e listed_e

    pub edge_at : HeldAt edge_links s.edges (edge_list_ends s.head) e
    edge_at = at_is edge_links s.edges (edge_list_ends s.head) (edge_numbers g) valid_e h.core.eseq e listed_e

  -- a word whose edge is there
  module _ (w : ℕ) (c : EdgeThere g (edge_of w)) where
    pub word_row : HalfRowIn s.edges w
    word_row = word_in s g.vseq g.eseq h.core w (omega arith)

    -- question 38
    pub word_this : wthis s.edges w ≡ this g w
    word_this = h.core.this w word_row.0

    -- its vertex is there, and it stands in that vertex's list
    pub word_vertex : VertexThere g (this g w)
    word_vertex = h.sound.ends w c

    pub word_listed : count_by_key itself w (list_of g (this g w)) ≡ 1
    word_listed = held g h.sound w (this g w) c refl

    pub word_prev : wprev s.edges w ≡ prev_by itself 0 w (list_of g (this g w))
    word_prev =
        let q : half_place 0 w ≡ link_address backward incidence_links w = omega (arith, word_row.0) in
        ap (λ (i : ℕ). get_or s.edges i 0) q
        ∙ before_is incidence_links s.edges (vertex_ends s.vertices (this g w)) (list_of g (this g w)) valid_i (h.core.lists (this g w) (vertex_row (this g w) word_vertex).0) w
        (omega (arith, word_listed))

    -- question 35
    pub word_next : wnext s.edges w ≡ successor w (list_of g (this g w))
    word_next =
        let q : half_place 1 w ≡ link_address forward incidence_links w = omega (arith, word_row.0) in
        ap (λ (i : ℕ). get_or s.edges i 0) q
        ∙ after_is incidence_links s.edges (vertex_ends s.vertices (this g w)) (list_of g (this g w)) valid_i (h.core.lists (this g w) (vertex_row (this g w) word_vertex).0) w
        (omega (arith, word_listed))

    pub word_at : HeldAt incidence_links s.edges (vertex_ends s.vertices (this g w)) w
    word_at = at_is incidence_links s.edges (vertex_ends s.vertices (this g w)) (list_of g (this g w)) valid_i (h.core.lists (this g w) (vertex_row (this g w) word_vertex).0) w
        (omega (arith, word_listed))

    -- what `word_before` asks
    pub word_asks : HalfRowIn s.edges w × VertexRowIn s.vertices (wthis s.edges w) × HeldAt incidence_links s.edges (vertex_ends s.vertices (wthis s.edges w)) w
    word_asks = (word_row, rw word_this (vertex_row (this g w) word_vertex), rw word_this word_at)

-- ---- is a before b

module _ (s : State) (g : Graph) (h : Holds s g) (a b : ℕ) where
  -- question 46
  pub vertex_before : before a b (nodes vertex_links s.vertices (vertex_list_ends s.head)) ≡ before a b (vertex_numbers g)
  vertex_before = ap (before a b) (held_nodes vertex_links s.vertices (vertex_list_ends s.head) valid_v (vertex_numbers g) h.core.vseq)

  -- question 47
  pub edge_before : before a b (nodes edge_links s.edges (edge_list_ends s.head)) ≡ before a b (edge_numbers g)
  edge_before = ap (before a b) (held_nodes edge_links s.edges (edge_list_ends s.head) valid_e (edge_numbers g) h.core.eseq)

  -- question 48
  pub word_before : EdgeThere g (edge_of a) → before a b (nodes incidence_links s.edges (vertex_ends s.vertices (wthis s.edges a))) ≡ before a b (list_of g (this g a))
  word_before c =
      ap (λ (v : ℕ). before a b (nodes incidence_links s.edges (vertex_ends s.vertices v))) (word_this s g h a c)
      ∙ ap (before a b)
      (held_nodes incidence_links s.edges (vertex_ends s.vertices (this g a)) valid_i (list_of g (this g a)) (h.core.lists (this g a) (vertex_row s g h (this g a) (word_vertex s g h a c)).0))

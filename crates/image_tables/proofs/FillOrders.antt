-- A vertex put last in Vseq, and an edge put last in Eseq, from its record: what the tables then hold.
use Prim.Native.Nat.{ℕ, ◌+◌, ◌≤◌, ◌<◌}
use mathlib.Core.Path.{◌≡◌, refl, sym, ap, ◌∙◌, subst}
use mathlib.Core.List.{List, [], ◌∷◌, ◌++◌, map, map-append}
use native.Mathlib.Omega.{arith}
use lib.ListN.{length, get_or, get_or-append, length-append, length-map}
use Rattle.lists.specs.Choice.{indicator}
use Rattle.lists.specs.Lists.{All}
use Rattle.lists.specs.Keyed.{count_by_key, insert_after_by, last_by}
use Rattle.lists.proofs.Picks.{is_yes, is_zero}
use Rattle.lists.proofs.Places.{last_in, ins_last}
use Rattle.linked_lists.specs.declared.LinkLayout.{LinkLayout}
use Rattle.linked_lists.specs.declared.Ends.{Ends}
use Rattle.linked_lists.specs.Links.{ValidLayout, Held, CanAppend}
use Rattle.linked_lists.proofs.Counted.{ordered}
use Rattle.graph.specs.Graph.{Vertex, Edge, Graph, vertex_number, edge_number, reading_kind, decimetres, reading_of, IsWords}
use Rattle.graph.specs.WellFormed.{Bounds, Ordered, WellFormed, VertexIn, EdgeIn, Within}
use Rattle.graph.specs.Edits.{Insertable}
use Rattle.graph.proofs.Readings.{reading_back}
use Rattle.image.specs.Image.{vertex_record, edge_record, record_size, load}
use Rattle.image.proofs.Sizes.{size_range, record_size_lem}
use Rattle.image.proofs.RecordWords.{record_length}
use Rattle.graph_tables.specs.declared.Head.{Head}
use Rattle.graph_tables.specs.Tables.{State, state, vertex_links, edge_links, vertex_list_ends, edge_list_ends, VertexRowIn, EdgeRowIn, state_insert_vertex, CanInsertVertex}
use Rattle.graph_tables.specs.Tables.{state_place_edge, CanPlaceEdge}
use Rattle.graph_tables.specs.Holds.{Core}
use Rattle.graph_tables.specs.Capacities.{Sized}
use Rattle.graph_tables.proofs.Keys.{keys_count, keys_last}
use Rattle.graph_tables.proofs.Frames.{valid_v, valid_e}
use Rattle.graph_tables.proofs.Callers.{vertex_in, edge_in}
use Rattle.graph_tables.proofs.VertexLaws.{can_put_vertex, core_insert_vertex}
use Rattle.graph_tables.proofs.EdgeLaws.{can_put_edge, core_place_edge}
use Rattle.image_tables.specs.Filling.{without_list, state_add_vertex, state_add_edge, CanEdge, CanLoad}
use Rattle.image_tables.proofs.Cuts.{count_append, count_map, all_at, read, read_first}
use Rattle.linked_lists.proofs.Model.{held_last, held_end}
use Rattle.image_tables.proofs.Parts.{given, most_vertices, most_edges, sized_by}
use Rattle.image_tables.proofs.Fills.{Fill, Turn, fill_room, fill_next}

-- ---- the end of an order

-- the next of a list with distinct keys, none of them 0
module _ {A : Type 0} (key : A → ℕ) (u : List A) (x : A) (v whole : List A) (q : u ++ x ∷ v ≡ whole) (o : Ordered key whole) where
  next_sum : indicator 0 (key x) + (count_by_key key (key x) u + (1 + count_by_key key (key x) v)) ≤ 1
  next_sum = omega (arith, ap (count_by_key key (key x)) q, count_append key (key x) u (x ∷ v), is_yes (key x) (key x) refl, o (key x))

  next_fresh : count_by_key key (key x) u ≡ 0
  next_fresh = omega (arith, next_sum)

  next_real : 1 ≤ key x
  next_real = omega (arith, is_zero 0 (key x) (omega (arith, next_sum)))

  next_few : length u + 1 ≤ length whole
  next_few = omega (arith, ap length q, length-append u (x ∷ v))

-- the last of a list that is held
module _ {A : Type 0} (key : A → ℕ) (layout : LinkLayout) (t : List ℕ) (e : Ends) (l : List A) (valid : ValidLayout layout) (h : Held layout t e (map key l)) where
  order_once : Ordered key l
  order_once n = omega (arith, ordered layout t e (map key l) valid h n, keys_count key n l)

  order_last : e.last ≡ last_by key 0 l
  order_last = held_last layout t e (map key l) h ∙ keys_last key 0 l

  order_there : 1 ≤ indicator 0 e.last + count_by_key key e.last l
  order_there = rw order_last (last_in key 0 l)

  order_end : (x : A) → insert_after_by key 0 e.last x l ≡ l ++ x ∷ []
  order_end x = rw order_last (ins_last key 0 x l order_once)

-- ---- vertices

abbrev pub VCore : State → List Vertex → Type 0
VCore s u = Core s (map without_list u) []

module _ (size : ℕ) (b : Bounds) (g : Graph) (wf : WellFormed g) (wi : Within b g) (few : length g.vseq ≤ 1000)
    (part : List ℕ) (s : State) (at : ℕ) (z : Sized b s) (t : Turn (vertex_record size) VCore g.vseq part s at) where
  abbrev x : Vertex
  x = t.here

  abbrev u : List Vertex
  u = t.past

  abbrev p : ℕ
  p = s.head.vlast

  fits_v : Insertable vertex_number (map without_list u) x.number p
  fits_v = record {
    real = next_real vertex_number u x t.left g.vseq t.all wf.vorder;
    fresh = count_map vertex_number without_list (λ y. refl) x.number u ∙ next_fresh vertex_number u x t.left g.vseq t.all wf.vorder;
    after = order_there vertex_number vertex_links s.vertices (vertex_list_ends s.head) (map without_list u) valid_v t.core.vseq;
  }

  row_v : VertexRowIn s.vertices x.number
  row_v = vertex_in b s z x.number fits_v.real (all_at u x t.left (subst (All (VertexIn b)) (sym t.all) wi.vertices)).number

  can_v : CanInsertVertex x.number p s
  can_v = record {
    row = row_v;
    room = omega (arith, t.core.vertices, length-map u without_list, next_few vertex_number u x t.left g.vseq t.all wf.vorder);
    back = can_put_vertex x.number x.type x.value p s (map without_list u) [] t.core fits_v row_v;
  }

  core_v : Core (state_insert_vertex x.number x.type x.value p s) (map without_list (u ++ x ∷ [])) []
  core_v =
      subst (λ (l : List Vertex). Core (state_insert_vertex x.number x.type x.value p s) l [])
      (order_end vertex_number vertex_links s.vertices (vertex_list_ends s.head) (map without_list u) valid_v t.core.vseq (without_list x) ∙ sym (map-append without_list u (x ∷ [])))
      (core_insert_vertex x.number x.type x.value p s (map without_list u) [] t.core fits_v row_v)

  -- the words that are read are those of the vertex
  number_v : get_or part at 0 ≡ x.number
  number_v = read_first part at _ t.words

  can_vertex : CanInsertVertex (get_or part at 0) p s
  can_vertex = subst (λ (n : ℕ). CanInsertVertex n p s) (sym number_v) can_v

  next_vertex : VCore (state_add_vertex part at s) (u ++ x ∷ [])
  unfolding state_add_vertex
  next_vertex =
      subst (λ (r : State). Core r (map without_list (u ++ x ∷ [])) [])
      (sym (λ i. state_insert_vertex (number_v i) (read part at 1 _ t.words i) (read part at 2 _ t.words i) p s)) core_v

-- ---- edges

abbrev pub ECore : List Vertex → State → List Edge → Type 0
ECore vs s u = Core s vs u

module _ (b : Bounds) (g : Graph) (wf : WellFormed g) (wi : Within b g) (few : length g.eseq ≤ 4000) (vs : List Vertex)
    (part : List ℕ) (s : State) (at : ℕ) (z : Sized b s) (t : Turn edge_record (ECore vs) g.eseq part s at) where
  abbrev y : Edge
  y = t.here

  abbrev w : List Edge
  w = t.past

  abbrev e : ℕ
  e = s.head.elast

  fits_e : Insertable edge_number w y.number e
  fits_e = record {
    real = next_real edge_number w y t.left g.eseq t.all wf.eorder;
    fresh = next_fresh edge_number w y t.left g.eseq t.all wf.eorder;
    after = order_there edge_number edge_links s.edges (edge_list_ends s.head) w valid_e t.core.eseq;
  }

  row_e : EdgeRowIn s.edges y.number
  row_e = edge_in b s z y.number fits_e.real (all_at w y t.left (subst (All (EdgeIn b)) (sym t.all) wi.edges)).number

  can_e : CanPlaceEdge y.number e s
  can_e = record {
    row = row_e;
    room = omega (arith, t.core.edges, next_few edge_number w y t.left g.eseq t.all wf.eorder);
    back = can_put_edge y.number y.alpha y.omega y.type y.reading e s vs w t.core fits_e row_e;
  }

  core_e : Core (state_place_edge y.number y.alpha y.omega y.type y.reading e s) vs (w ++ y ∷ [])
  core_e =
      subst (λ (l : List Edge). Core (state_place_edge y.number y.alpha y.omega y.type y.reading e s) vs l)
      (order_end edge_number edge_links s.edges (edge_list_ends s.head) w valid_e t.core.eseq y)
      (core_place_edge y.number y.alpha y.omega y.type y.reading e s vs w t.core fits_e row_e)

  number_e : get_or part at 0 ≡ y.number
  number_e = read_first part at _ t.words

  reading_e : reading_of (get_or part (at + 4) 0) (get_or part (at + 5) 0) ≡ y.reading
  reading_e = (λ i. reading_of (read part at 4 _ t.words i) (read part at 5 _ t.words i)) ∙ reading_back y.reading

  written_e : IsWords (get_or part (at + 4) 0) (get_or part (at + 5) 0)
  written_e = (ap reading_kind reading_e ∙ sym (read part at 4 _ t.words), ap decimetres reading_e ∙ sym (read part at 5 _ t.words))

  can_last : CanAppend edge_links s.edges (edge_list_ends s.head) y.number
  can_last = record {
    back = can_e.back;
    end = held_end edge_links s.edges (edge_list_ends s.head) (map edge_number w) t.core.eseq;
  }

  can_edge : CanEdge part at s
  can_edge = record {
    row = subst (λ (n : ℕ). EdgeRowIn s.edges n) (sym number_e) row_e;
    room = can_e.room;
    back = subst (λ (n : ℕ). CanAppend edge_links s.edges (edge_list_ends s.head) n) (sym number_e) can_last;
    written = written_e;
  }

  next_edge : ECore vs (state_add_edge part at s) (w ++ y ∷ [])
  unfolding state_add_edge
  next_edge =
      subst (λ (r : State). Core r vs (w ++ y ∷ []))
      (sym (λ i. state_place_edge (number_e i) (read part at 1 _ t.words i) (read part at 2 _ t.words i) (read part at 3 _ t.words i) (reading_e i) e s)) core_e

-- ---- for callers: a turn of each pass

module _ (words vertices₀ edges₀ : List ℕ) (k : CanLoad words vertices₀ edges₀) (part : List ℕ) (at : ℕ) (h : Head) (vertices edges : List ℕ) (p : length vertices ≡ length vertices₀)
    (q : length edges ≡ length edges₀) where
  module _ (t : Turn (vertex_record (record_size words)) VCore (load words).vseq part (state h vertices edges) at) where
    size : length (vertex_record (record_size words) t.here) ≡ record_size words
    size = record_length (record_size words) (record_size_lem words) t.here

    -- the record stands in the part, and its vertex can be put in
    pub vertex_can : (at + record_size words ≤ length part) × (at + 3 ≤ length part) × CanInsertVertex (get_or part at 0) h.vlast (state h vertices edges)
    vertex_can =
        let f = given words vertices₀ edges₀ k in
        let r = fill_room (vertex_record (record_size words)) VCore (load words).vseq part (state h vertices edges) at t (omega arith) in (
          omega (arith, r, size),
          omega (arith, r, size, (size_range (record_size words) (record_size_lem words)).0),
          can_vertex (record_size words) k.bounds (load words) f.formed f.within (most_vertices words vertices₀ edges₀ k) part (state h vertices edges) at
              (sized_by words vertices₀ edges₀ k h vertices edges p q) t,
        )

    pub vertex_next : (s' : State) → s' ≡ state_add_vertex part at (state h vertices edges) → Fill (vertex_record (record_size words)) VCore (load words).vseq part s' (at + record_size words)
    vertex_next s' e =
        let f = given words vertices₀ edges₀ k in
        fill_next (vertex_record (record_size words)) VCore (load words).vseq part (state h vertices edges) at t (record_size words) size s' (
        subst (λ (r : State). VCore r (t.past ++ t.here ∷ [])) (sym e)
        (next_vertex (record_size words) k.bounds (load words) f.formed f.within (most_vertices words vertices₀ edges₀ k) part (state h vertices edges) at
        (sized_by words vertices₀ edges₀ k h vertices edges p q) t)
        )

  module _ (vs : List Vertex) (t : Turn edge_record (ECore vs) (load words).eseq part (state h vertices edges) at) where
    pub edge_can : (at + 6 ≤ length part) × CanEdge part at (state h vertices edges)
    edge_can =
        let f = given words vertices₀ edges₀ k in (
          fill_room edge_record (ECore vs) (load words).eseq part (state h vertices edges) at t (omega arith),
          can_edge k.bounds (load words) f.formed f.within (most_edges words vertices₀ edges₀ k) vs part (state h vertices edges) at
              (sized_by words vertices₀ edges₀ k h vertices edges p q) t,
        )

    pub edge_next : (s' : State) → s' ≡ state_add_edge part at (state h vertices edges) → Fill edge_record (ECore vs) (load words).eseq part s' (at + 6)
    edge_next s' e =
        let f = given words vertices₀ edges₀ k in
        fill_next edge_record (ECore vs) (load words).eseq part (state h vertices edges) at t 6 refl s' (
        subst (λ (r : State). ECore vs r (t.past ++ t.here ∷ [])) (sym e)
        (next_edge k.bounds (load words) f.formed f.within (most_edges words vertices₀ edges₀ k) vs part (state h vertices edges) at
        (sized_by words vertices₀ edges₀ k h vertices edges p q) t)
        )

-- ---- for callers: a record that is read as a chunk of the part

module _ (part x rest : List ℕ) (cut : part ≡ x ++ rest) (s : State) where
  word : (j : ℕ) → j < length x → get_or part j 0 ≡ get_or x j 0
  word j h = rw cut (get_or-append x rest 0 j h)

  pub vertex_can_chunk : 3 ≤ length x → (p : ℕ) → CanInsertVertex (get_or part 0 0) p s → CanInsertVertex (get_or x 0 0) p s
  vertex_can_chunk h p k = subst (λ (n : ℕ). CanInsertVertex n p s) (word 0 (omega (arith, h))) k

  pub vertex_chunk : 3 ≤ length x → state_add_vertex x 0 s ≡ state_add_vertex part 0 s
  unfolding state_add_vertex
  vertex_chunk h = rw (word 0 (omega (arith, h)), word 1 (omega (arith, h)), word 2 (omega (arith, h)))

  module _ (six : length x ≡ 6) where
    pub edge_can_chunk : CanEdge part 0 s → CanEdge x 0 s
    edge_can_chunk k = record {
      row = subst (λ (n : ℕ). EdgeRowIn s.edges n) (word 0 (omega (arith, six))) k.row;
      room = k.room;
      back = subst (λ (n : ℕ). CanAppend edge_links s.edges (edge_list_ends s.head) n) (word 0 (omega (arith, six))) k.back;
      written = rw (← word 4 (omega (arith, six)), ← word 5 (omega (arith, six))) k.written;
    }

    pub edge_chunk : state_add_edge x 0 s ≡ state_add_edge part 0 s
    unfolding state_add_edge
    edge_chunk =
        rw (
          word 0 (omega (arith, six)),
          word 1 (omega (arith, six)),
          word 2 (omega (arith, six)),
          word 3 (omega (arith, six)),
          word 4 (omega (arith, six)),
          word 5 (omega (arith, six)),
        )

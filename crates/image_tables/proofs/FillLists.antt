-- The words of the lists, each put last in the list of the vertex that it is seen from: what the tables then hold.
use Rattle.std.specs.Prelude.{◌==◌}
use Prim.Native.Nat.{ℕ, ◌+◌, ◌/◌, ◌≤◌}
use mathlib.Core.Path.{◌≡◌, refl, sym, ap, ap₂, ◌∙◌, subst}
use mathlib.Core.Bool.{Bool}
use mathlib.Core.List.{List, [], ◌∷◌, ◌++◌, map, append-nil}
use native.Mathlib.Omega.{arith}
use borrow.Author.Tests.{eq-eqb, ne_eqb}
use lib.ListN.{get_or}
use Rattle.lists.specs.Choice.{if_equal, indicator}
use Rattle.lists.specs.Lists.{All, done, more, filter, concat_map}
use Rattle.lists.specs.Keyed.{count_by_key, last_by}
use Rattle.lists.proofs.Picks.{pick_yes, pick_no, pick_both, same, differ, same?, is_yes}
use Rattle.lists.proofs.KeyedAll.{find_all}
use Rattle.lists.proofs.KeyedLaws.{find_none}
use Rattle.lists.proofs.Places.{last_in}
use Rattle.linked_lists.proofs.Counted.{ordered}
use Rattle.graph.specs.Graph.{Vertex, Edge, Graph, vertex_number, edge_number, itself, no_vertex, vertex_in, list_in, this_in}
use Rattle.graph.specs.WellFormed.{WellFormed}
use Rattle.graph.specs.Changes.{on_list, append}
use Rattle.graph.specs.Edits.{attach}
use Rattle.graph.proofs.Orders.{key_find}
use Rattle.graph.proofs.Moves.{attach_last}
use Rattle.image.specs.Image.{incidences_of, load}
use Rattle.linked_lists.specs.Links.{CanAppend}
use Rattle.graph_tables.specs.Tables.{State, incidence_links, vertex_list_ends, vertex_ends, vlast, wthis, VertexRowIn, HalfRowIn, state_attach, CanAttach}
use Rattle.graph_tables.specs.Holds.{Core}
use Rattle.graph_tables.proofs.Frames.{valid_i, row_v}
use Rattle.graph_tables.proofs.Refines.{word_in}
use Rattle.graph_tables.proofs.WordLaws.{can_attach, core_attach}
use Rattle.image_tables.specs.Filling.{filled, state_add_word, CanWord, CanLoad}
use Rattle.image_tables.proofs.Cuts.{count_append, count_here, count_map, map_same, keep_append, keep_all, keep_none, count_keep, read_first}
use Rattle.linked_lists.proofs.Model.{held_last, held_end}
use Rattle.image_tables.proofs.Parts.{given}
use Rattle.image_tables.proofs.Fills.{Fill, Turn, fill_next}

-- ---- lists filled by more and more words

module _ (es : List Edge) where
  abbrev with : Vertex → List ℕ → Vertex
  with v l = record { number = v.number; type = v.type; value = v.value; incidences = l }

  filled_more : (ws : List ℕ) (w : ℕ) (v : Vertex) → this_in es w ≡ v.number → on_list (λ l. l ++ (w ∷ [])) (filled es ws v) ≡ filled es (ws ++ w ∷ []) v
  filled_more ws w v e =
      let p : filter (λ k. this_in es k == v.number) (w ∷ []) ≡ w ∷ [] = rw (eq-eqb (this_in es w) v.number e) in
      let q : filter (λ k. this_in es k == v.number) (ws ++ w ∷ []) ≡ filter (λ k. this_in es k == v.number) ws ++ w ∷ [] =
      keep_append (λ k. this_in es k == v.number) ws (w ∷ []) ∙ ap (λ (l : List ℕ). filter (λ k. this_in es k == v.number) ws ++ l) p in
      ap (with v) (sym q)

  filled_same : (ws : List ℕ) (w : ℕ) (v : Vertex) → (this_in es w ≡ v.number → ⊥) → filled es ws v ≡ filled es (ws ++ w ∷ []) v
  filled_same ws w v e =
      let p : filter (λ k. this_in es k == v.number) (w ∷ []) ≡ [] = rw (ne_eqb (this_in es w) v.number e) in
      let q : filter (λ k. this_in es k == v.number) (ws ++ w ∷ []) ≡ filter (λ k. this_in es k == v.number) ws =
      keep_append (λ k. this_in es k == v.number) ws (w ∷ []) ∙ ap (λ (l : List ℕ). filter (λ k. this_in es k == v.number) ws ++ l) p
      ∙ append-nil (filter (λ k. this_in es k == v.number) ws) in
      ap (with v) (sym q)

  append_filled : (ws : List ℕ) (w : ℕ) (vs : List Vertex) → append (map (filled es ws) vs) (this_in es w) w ≡ map (filled es (ws ++ w ∷ [])) vs
  append_filled ws w [] = refl
  append_filled ws w (v ∷ vs) = ap₂ ◌∷◌ (elim (same? v.number (this_in es w)) [
    | same e f ↦ pick_yes v.number (this_in es w) _ _ e ∙ filled_more ws w v f
    | differ e f ↦ pick_no v.number (this_in es w) _ _ e ∙ filled_same ws w v f
  ]) (append_filled ws w vs)

  -- no list has more of a word than there are
  count_filled : (ws : List ℕ) (k n : ℕ) (vs : List Vertex) → count_by_key itself k (list_in (map (filled es ws) vs) n) ≤ count_by_key itself k ws
  count_filled ws k n [] = omega arith
  count_filled ws k n (v ∷ vs) = elim (same? v.number n) [
    | same e f ↦ subst (λ (x : Vertex). count_by_key itself k x.incidences ≤ count_by_key itself k ws) (sym (pick_yes v.number n (filled es ws v) (vertex_in (map (filled es ws) vs) n) e))
        (count_keep (λ w. this_in es w == v.number) k ws)
    | differ e f ↦ subst (λ (x : Vertex). count_by_key itself k x.incidences ≤ count_by_key itself k ws) (sym (pick_no v.number n (filled es ws v) (vertex_in (map (filled es ws) vs) n) e))
        (count_filled ws k n vs)
  ]

-- the tables hold the graph, with lists filled so far
abbrev pub WCore : Graph → State → List ℕ → Type 0
WCore g s ws = Core s (map (filled g.eseq ws) g.vseq) g.eseq

-- ---- the words of a well-formed graph

pick_is : (m n c : ℕ) → c ≤ 1 → if_equal m n c 0 ≤ indicator n m
pick_is m n c h = elim (same? m n) [
  | same e f ↦ omega (arith, pick_yes m n c 0 e, is_yes n m f)
  | differ e f ↦ omega (arith, pick_no m n c 0 e)
]

module _ (g : Graph) (wf : WellFormed g) where
  -- the list of v has each word as often as it is seen from v
  Own : Vertex → Type 0
  Own v = (k : ℕ) → count_by_key itself k v.incidences ≡ if_equal (this_in g.eseq k) v.number (count_by_key edge_number (k / 2) g.eseq) 0

  own : All Own g.vseq
  unfolding Own
  own =
      find_all vertex_number Own no_vertex g.vseq (λ n. omega (arith, wf.vorder n))
      (λ n c k. wf.lists n k ∙ ap (λ (m : ℕ). if_equal (this_in g.eseq k) m (count_by_key edge_number (k / 2) g.eseq) 0) (sym (key_find vertex_number no_vertex n g.vseq c)))

  abbrev pub words : List ℕ
  words = concat_map incidences_of g.vseq

  few_words : (k : ℕ) {vs : List Vertex} → All Own vs → count_by_key itself k (concat_map incidences_of vs) ≤ count_by_key vertex_number (this_in g.eseq k) vs
  unfolding Own
  few_words k done = omega arith
  few_words k (more {x = v} {xs = vs} o a) =
      omega (
        arith,
        count_append itself k v.incidences (concat_map incidences_of vs),
        o k,
        pick_is (this_in g.eseq k) v.number (count_by_key edge_number (k / 2) g.eseq)
            (omega (arith, wf.eorder (k / 2))),
        few_words k a,
      )

  no_words : (k : ℕ) → count_by_key edge_number (k / 2) g.eseq ≡ 0 → {vs : List Vertex} → All Own vs → count_by_key itself k (concat_map incidences_of vs) ≡ 0
  unfolding Own
  no_words k z done = refl
  no_words k z (more {x = v} {xs = vs} o a) =
      let n : if_equal (this_in g.eseq k) v.number (count_by_key edge_number (k / 2) g.eseq) 0 ≡ 0 = rw z (pick_both (this_in g.eseq k) v.number 0) in
      omega (arith, count_append itself k v.incidences (concat_map incidences_of vs), o k, n, no_words k z a)

  word_once : (k : ℕ) → count_by_key itself k words ≤ 1
  word_once k = omega (arith, few_words k own, wf.vorder (this_in g.eseq k))

  word_edge : (k : ℕ) → 1 ≤ count_by_key itself k words → count_by_key edge_number (k / 2) g.eseq ≡ 1
  word_edge k h = elim (same? (count_by_key edge_number (k / 2) g.eseq) 0) [
    | same e f ↦ absurd (omega (arith, no_words k e own))
    | differ e f ↦ omega (arith, wf.eorder (k / 2))
  ]

  own_this : (v : Vertex) → Own v → (k : ℕ) → 1 ≤ count_by_key itself k v.incidences → this_in g.eseq k ≡ v.number
  unfolding Own
  own_this v o k h = elim (same? (this_in g.eseq k) v.number) [
    | same e f ↦ e
    | differ e f ↦ absurd (omega (arith, o k, pick_no (this_in g.eseq k) v.number (count_by_key edge_number (k / 2) g.eseq) 0 e))
  ]

  -- the words that are seen from n are its list
  keep_list : (n : ℕ) {vs : List Vertex} → All Own vs → ((m : ℕ) → count_by_key vertex_number m vs ≤ 1) → filter (λ w. this_in g.eseq w == n) (concat_map incidences_of vs) ≡ list_in vs n
  keep_list n done u = refl
  keep_list n (more {x = v} {xs = vs} o a) u =
      let p : ℕ → Bool = λ w. this_in g.eseq w == n in
      let r : filter p (concat_map incidences_of vs) ≡ list_in vs n = keep_list n a (λ m. omega (arith, u m)) in
      keep_append p v.incidences (concat_map incidences_of vs) ∙ elim (same? v.number n) [
        | same e f ↦
            let z : count_by_key vertex_number n vs ≡ 0 = omega (arith, u n, is_yes v.number n e) in
            let q : list_in vs n ≡ [] = ap (λ (x : Vertex). x.incidences) (find_none vertex_number no_vertex n vs z) in
            let m : filter p v.incidences ≡ v.incidences = keep_all p v.incidences (λ k c. eq-eqb (this_in g.eseq k) n (own_this v o k c ∙ e)) in
            ap₂ ◌++◌ m (r ∙ q) ∙ append-nil v.incidences ∙ sym (ap (λ (x : Vertex). x.incidences) (pick_yes v.number n v (vertex_in vs n) e))
        | differ e f ↦
            let m : filter p v.incidences ≡ [] = keep_none p v.incidences (λ k c. ne_eqb (this_in g.eseq k) n (λ q. e (sym (own_this v o k c) ∙ q))) in
            ap₂ ◌++◌ m r ∙ sym (ap (λ (x : Vertex). x.incidences) (pick_no v.number n v (vertex_in vs n) e))
      ]

  filled_one : (n : ℕ) → 1 ≤ count_by_key vertex_number n g.vseq → filled g.eseq words (vertex_in g.vseq n) ≡ vertex_in g.vseq n
  filled_one n c =
      let v = vertex_in g.vseq n in
      let e : filter (λ w. this_in g.eseq w == v.number) words ≡ v.incidences =
      keep_list v.number own (λ m. omega (arith, wf.vorder m)) ∙ ap (list_in g.vseq) (key_find vertex_number no_vertex n g.vseq c) in
      λ i. record { number = v.number; type = v.type; value = v.value; incidences = e i }

  -- so all words fill the lists
  pub filled_all : map (filled g.eseq words) g.vseq ≡ g.vseq
  filled_all =
      map_same (filled g.eseq words)
      (find_all vertex_number (λ (v : Vertex). filled g.eseq words v ≡ v) no_vertex g.vseq (λ n. omega (arith, wf.vorder n)) filled_one)

  -- ---- one word

  module _ (s : State) (ws : List ℕ) (w : ℕ) (rest : List ℕ) (q : ws ++ w ∷ rest ≡ words) (c : WCore g s ws) where
    abbrev vs : List Vertex
    vs = map (filled g.eseq ws) g.vseq

    abbrev v : ℕ
    v = this_in g.eseq w

    edge : count_by_key edge_number (w / 2) g.eseq ≡ 1
    edge = word_edge w (subst (λ (l : List ℕ). 1 ≤ count_by_key itself w l) q (count_here itself ws w rest))

    here : HalfRowIn s.edges w
    here = word_in s vs g.eseq c w (omega (arith, edge))

    seen : wthis s.edges w ≡ v
    seen = c.this w here.0

    there : count_by_key vertex_number v vs ≡ 1
    there = count_map vertex_number (filled g.eseq ws) (λ y. refl) v g.vseq ∙ wf.ends w edge

    real : 1 ≤ v
    real = (row_v s.vertices (vertex_list_ends s.head) vs c.vseq v (omega (arith, there))).0

    free : (u : ℕ) → count_by_key itself w (list_in vs u) ≡ 0
    free u = omega (arith, count_filled g.eseq ws w u g.vseq, count_append itself w ws (w ∷ rest), is_yes w w refl, ap (count_by_key itself w) q, word_once w)

    last : vlast s.vertices v ≡ last_by itself 0 (list_in vs v)
    last = held_last incidence_links s.edges (vertex_ends s.vertices v) (list_in vs v) (c.lists v real)

    place : 1 ≤ indicator 0 (vlast s.vertices v) + count_by_key itself (vlast s.vertices v) (list_in vs v)
    place = rw last (last_in itself 0 (list_in vs v))

    can : CanAttach v (vlast s.vertices v) w s
    can = can_attach v (vlast s.vertices v) w s vs g.eseq c there free place here

    can_last : CanAppend incidence_links s.edges (vertex_ends s.vertices v) w
    can_last = record {
      back = can.back;
      end = held_end incidence_links s.edges (vertex_ends s.vertices v) (list_in vs v) (c.lists v real);
    }

    can_word : CanWord w s
    can_word = record {
      word = here;
      row = subst (λ (x : ℕ). VertexRowIn s.vertices x) (sym seen) can.row;
      back = subst (λ (x : ℕ). CanAppend incidence_links s.edges (vertex_ends s.vertices x) w) (sym seen) can_last;
    }

    next_list : attach vs v (vlast s.vertices v) w ≡ map (filled g.eseq (ws ++ w ∷ [])) g.vseq
    next_list =
        ap (λ (p : ℕ). attach vs v p w) last
        ∙ attach_last vs v w (λ n. omega (arith, count_map vertex_number (filled g.eseq ws) (λ y. refl) n g.vseq, wf.vorder n))
        (ordered incidence_links s.edges (vertex_ends s.vertices v) (list_in vs v) valid_i (c.lists v real))
        ∙ append_filled g.eseq ws w g.vseq

    next_word : WCore g (state_add_word w s) (ws ++ w ∷ [])
    unfolding state_add_word
    next_word =
        subst (λ (x : ℕ). Core (state_attach x (vlast s.vertices x) w s) (map (filled g.eseq (ws ++ w ∷ [])) g.vseq) g.eseq) (sym seen)
        (subst (λ (l : List Vertex). Core (state_attach v (vlast s.vertices v) w s) l g.eseq) next_list (core_attach v (vlast s.vertices v) w s vs g.eseq c there free place here))

  -- the next word of the part
  module _ (part : List ℕ) (s : State) (at : ℕ) (t : Turn (λ x. x ∷ []) (WCore g) words part s at) where
    word_is : get_or part at 0 ≡ t.here
    word_is = read_first part at _ t.words

    can_here : CanWord (get_or part at 0) s
    can_here = subst (λ (x : ℕ). CanWord x s) (sym word_is) (can_word s t.past t.here t.left t.all t.core)

    next_here : WCore g (state_add_word (get_or part at 0) s) (t.past ++ t.here ∷ [])
    next_here = subst (λ (x : ℕ). WCore g (state_add_word x s) (t.past ++ t.here ∷ [])) (sym word_is) (next_word s t.past t.here t.left t.all t.core)

-- ---- for callers: a turn of the pass

module _ (words vertices₀ edges₀ : List ℕ) (k : CanLoad words vertices₀ edges₀) (part : List ℕ) (s : State) (at : ℕ)
    (t : Turn (λ x. x ∷ []) (WCore (load words)) (concat_map incidences_of (load words).vseq) part s at) where
  pub turn_can : CanWord (get_or part at 0) s
  turn_can = can_here (load words) (given words vertices₀ edges₀ k).formed part s at t

  pub turn_next : (s' : State) → s' ≡ state_add_word (get_or part at 0) s → Fill (λ x. x ∷ []) (WCore (load words)) (concat_map incidences_of (load words).vseq) part s' (at + 1)
  turn_next s' e =
      fill_next (λ x. x ∷ []) (WCore (load words)) (concat_map incidences_of (load words).vseq) part s at t 1 refl s'
      (subst (λ (r : State). WCore (load words) r (t.past ++ t.here ∷ [])) (sym e) (next_here (load words) (given words vertices₀ edges₀ k).formed part s at t))

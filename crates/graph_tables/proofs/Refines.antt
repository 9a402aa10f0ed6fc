-- Each edit: where it applies to the graph that the tables hold, the tables can take it, and hold the changed graph after it.
use Rattle.std.proofs.Common.{◌≡◌, ℕ, ◌/◌, ◌^◌, ◌<◌, ◌≤◌, List, [], ◌∷◌, map, length, refl, ap, ◌∙◌, arith}
use Rattle.linked_lists.proofs.Pigeonhole.{held_length}
use Rattle.graph.specs.declared.Reading.{Reading}
use Rattle.lists.proofs.Picks.{is_yes}
use Rattle.lists.specs.Keyed.{count_by_key, insert_after_by, remove_by, update_by}
use Rattle.lists.proofs.KeyedLaws.{count_ins}
use Rattle.graph.specs.declared.Edit.{Edit}
use Rattle.graph.specs.declared.Edit.TheVariants.{InsertVertex, RemoveVertex, InsertEdge, RemoveEdge, SetVertex, SetEdge, MoveVertex, MoveEdge, MoveWord}
use Rattle.graph.specs.Graph.{Vertex, Edge, Graph, vertex_number, edge_number, itself, out_word, in_word, list_in}
use Rattle.graph.specs.Changes.{with_seen, detach}
use Rattle.graph.specs.Edits.{attach, apply, Applies}
use Rattle.graph.proofs.Keeps.{keeps_formed}
use Rattle.graph.proofs.Lists.{held, unheld, gone, ends_at, free_out, out_at, into_at, a_there, z_there}
use Rattle.graph.proofs.Incidence.{count_list, count_attach_other, count_detach_other, out_half, into_half, apart, apart'}
use Rattle.graph_tables.specs.Tables.{State, vertex_links, edge_links, vertex_list_ends, edge_list_ends, EdgeRowIn, HalfRowIn, state_detach, state_attach, state_place_edge, state_move_word}
use Rattle.graph_tables.specs.Tables.{CanMoveWord}
use Rattle.graph_tables.specs.Tables.{state_insert_edge, CanInsertEdge, state_remove_edge, CanRemoveEdge}
use Rattle.graph_tables.specs.Holds.{Core, Holds}
use Rattle.graph_tables.specs.Edits.{state_apply, Can, Small, Room}
use Rattle.graph_tables.proofs.Frames.{row_v, row_e}
use Rattle.graph_tables.proofs.WordLaws.{can_detach, core_detach, can_attach, core_attach, core_this}
use Rattle.graph_tables.proofs.VertexLaws.{core_set_vertex, can_move_vertex, core_move_vertex, can_put_vertex, core_insert_vertex, can_remove_vertex, core_remove_vertex}
use Rattle.graph_tables.proofs.EdgeLaws.{core_set_edge, can_move_edge, core_move_edge, can_put_edge, core_place_edge, can_drop_edge, core_drop_edge}

length_map : {A : Type 0} (f : A → ℕ) (l : List A) → length (map f l) ≡ length l
length_map f [] = refl
length_map f (x ∷ l) = rw (length_map f l)

module _ (s : State) (vs : List Vertex) (es : List Edge) (c : Core s vs es) where
  pub word_in : (w : ℕ) → 1 ≤ count_by_key edge_number (w / 2) es → HalfRowIn s.edges w
  word_in w h = let r = row_e s.edges (edge_list_ends s.head) es c.eseq (w / 2) h in (omega arith, omega arith)

  few_vertices : length vs ≤ length s.vertices
  few_vertices =
      omega (
        arith,
        length_map vertex_number vs,
        held_length vertex_links s.vertices (vertex_list_ends s.head) (length s.vertices) (map vertex_number vs) (λ x a b. omega arith)
            c.vseq,
      )

  few_edges : length es ≤ length s.edges
  few_edges = omega (arith, length_map edge_number es, held_length edge_links s.edges (edge_list_ends s.head) (length s.edges) (map edge_number es) (λ x a b. omega arith) c.eseq)

-- ---- a word moved

module _ (w v old u new : ℕ) (s : State) (g : Graph) (h : Holds s g) (a : Applies (MoveWord w v old u new) g) where
  there : count_by_key vertex_number v g.vseq ≡ 1
  there = ends_at g h.sound w v a.0 a.1

  inlist : 1 ≤ count_by_key itself w (list_in g.vseq v)
  inlist = omega (arith, held g h.sound w v a.0 a.1)

  out : Core (state_detach v w s) (detach g.vseq v w) g.eseq
  out = core_detach v w s g.vseq g.eseq h.core there inlist

  target : count_by_key vertex_number u (detach g.vseq v w) ≡ 1
  target = count_list g.vseq v u (remove_by itself w) ∙ a.2

  back : Core (state_attach u new w (state_detach v w s)) (attach (detach g.vseq v w) u new w) g.eseq
  back = core_attach u new w (state_detach v w s) (detach g.vseq v w) g.eseq out target (λ x. gone g h.sound w v x a.0 a.1) a.4
      (word_in (state_detach v w s) (detach g.vseq v w) g.eseq out w (omega (arith, a.0)))

  pub can_move_word : CanMoveWord w v u new s
  can_move_word = record {
    here = word_in s g.vseq g.eseq h.core w (omega (arith, a.0));
    this = h.core.this w (word_in s g.vseq g.eseq h.core w (omega (arith, a.0))).0 ∙ a.1;
    out = can_detach v w s g.vseq g.eseq h.core there inlist;
    back = can_attach u new w (state_detach v w s) (detach g.vseq v w) g.eseq out target (λ x. gone g h.sound w v x a.0 a.1) a.4
        (word_in (state_detach v w s) (detach g.vseq v w) g.eseq out w (omega (arith, a.0)));
  }

  pub core_move_word : Core (state_move_word w v u new s) (attach (detach g.vseq v w) u new w) (update_by edge_number (w / 2) (with_seen w u) g.eseq)
  unfolding state_move_word
  core_move_word =
      core_this w u (state_attach u new w (state_detach v w s)) (attach (detach g.vseq v w) u new w) g.eseq back a.0
      (word_in (state_attach u new w (state_detach v w s)) (attach (detach g.vseq v w) u new w) g.eseq back w (omega (arith, a.0)))

-- ---- an edge put in

module _ (n x z t : ℕ) (r : Reading) (p o i : ℕ) (s : State) (g : Graph) (h : Holds s g) (a : Applies (InsertEdge n x z t r p o i) g) (m : Small s) (row : EdgeRowIn s.edges n) where
  abbrev new : Edge
  new = record { number = n; alpha = x; omega = z; type = t; reading = r }

  abbrev es' : List Edge
  es' = insert_after_by edge_number 0 p new g.eseq

  one : count_by_key edge_number n es' ≡ 1
  one = omega (arith, count_ins edge_number n 0 p new g.eseq, is_yes n n refl, a.0.fresh)

  placed : Core (state_place_edge n x z t r p s) g.vseq es'
  placed = core_place_edge n x z t r p s g.vseq g.eseq h.core a.0 row

  abbrev s₁ : State
  s₁ = state_place_edge n x z t r p s

  w_out : HalfRowIn s₁.edges (out_word n)
  w_out = word_in s₁ g.vseq es' placed (out_word n) (rw (out_half n) (omega (arith, one)))

  free_o : (u : ℕ) → count_by_key itself (out_word n) (list_in g.vseq u) ≡ 0
  free_o u = free_out g h.sound n u a.0.fresh

  first : Core (state_attach x o (out_word n) s₁) (attach g.vseq x o (out_word n)) es'
  first = core_attach x o (out_word n) s₁ g.vseq es' placed a.1 free_o a.3 w_out

  abbrev s₂ : State
  s₂ = state_attach x o (out_word n) s₁

  abbrev vs₂ : List Vertex
  vs₂ = attach g.vseq x o (out_word n)

  w_into : HalfRowIn s₂.edges (in_word n)
  w_into = word_in s₂ vs₂ es' first (in_word n) (rw (into_half n) (omega (arith, one)))

  free_i : (u : ℕ) → count_by_key itself (in_word n) (list_in vs₂ u) ≡ 0
  free_i u = count_attach_other g.vseq x o (out_word n) u (in_word n) a.1 (apart n) ∙ unheld g h.sound (in_word n) u (rw (into_half n) a.0.fresh)

  target_z : count_by_key vertex_number z vs₂ ≡ 1
  target_z = count_list g.vseq x z (insert_after_by itself 0 o (out_word n)) ∙ a.2

  pub can_insert_edge : (n < 2 ^ 31) × CanInsertEdge n x z t r p o i s
  can_insert_edge = (
    omega (arith, m.edges),
    record {
      place = record {
        row = row;
        room = omega (arith, m.edges, h.core.edges, few_edges s g.vseq g.eseq h.core);
        back =
            can_put_edge n x z t r p s g.vseq g.eseq h.core a.0 row;
      };
      out = can_attach x o (out_word n) s₁ g.vseq es' placed a.1 free_o a.3 w_out;
      into = can_attach z i (in_word n) s₂ vs₂ es' first target_z free_i a.4 w_into;
    },
  )

  pub core_insert_edge : Core (state_insert_edge n x z t r p o i s) (attach vs₂ z i (in_word n)) es'
  unfolding state_insert_edge
  core_insert_edge = core_attach z i (in_word n) s₂ vs₂ es' first target_z free_i a.4 w_into

-- ---- an edge taken out

module _ (n x z t : ℕ) (r : Reading) (p o i : ℕ) (s : State) (g : Graph) (h : Holds s g) (a : Applies (RemoveEdge n x z t r p o i) g) (m : Small s) where
  at_x : count_by_key vertex_number x g.vseq ≡ 1
  at_x = a_there g h.sound n x z t r a.0.there a.1

  at_z : count_by_key vertex_number z g.vseq ≡ 1
  at_z = z_there g h.sound n x z t r a.0.there a.1

  has_i : count_by_key itself (in_word n) (list_in g.vseq z) ≡ 1
  has_i = held g h.sound (in_word n) z (rw (into_half n) a.0.there) (into_at g h.sound n x z t r a.0.there a.1)

  has_o : count_by_key itself (out_word n) (list_in g.vseq x) ≡ 1
  has_o = held g h.sound (out_word n) x (rw (out_half n) a.0.there) (out_at g h.sound n x z t r a.0.there a.1)

  abbrev r₁ : State
  r₁ = state_detach z (in_word n) s

  abbrev us₁ : List Vertex
  us₁ = detach g.vseq z (in_word n)

  core₁ : Core r₁ us₁ g.eseq
  core₁ = core_detach z (in_word n) s g.vseq g.eseq h.core at_z (omega (arith, has_i))

  at_x₁ : count_by_key vertex_number x us₁ ≡ 1
  at_x₁ = count_list g.vseq z x (remove_by itself (in_word n)) ∙ at_x

  has_o₁ : count_by_key itself (out_word n) (list_in us₁ x) ≡ 1
  has_o₁ = count_detach_other g.vseq z (in_word n) x (out_word n) at_z (apart' n) ∙ has_o

  core₂ : Core (state_detach x (out_word n) r₁) (detach us₁ x (out_word n)) g.eseq
  core₂ = core_detach x (out_word n) r₁ us₁ g.eseq core₁ at_x₁ (omega (arith, has_o₁))

  pub can_remove_edge : (n < 2 ^ 31) × CanRemoveEdge n x z s
  can_remove_edge = (
    omega (arith, m.edges, (row_e s.edges (edge_list_ends s.head) g.eseq h.core.eseq n (omega (arith, a.0.there))).1),
    record {
      into = can_detach z (in_word n) s g.vseq g.eseq h.core at_z (omega (arith, has_i));
      out = can_detach x (out_word n) r₁ us₁ g.eseq core₁ at_x₁ (omega (arith, has_o₁));
      row = can_drop_edge n (state_detach x (out_word n) r₁) (detach us₁ x (out_word n)) g.eseq core₂ a.0.there;
    },
  )

  pub core_remove_edge : Core (state_remove_edge n x z s) (detach us₁ x (out_word n)) (remove_by edge_number n g.eseq)
  unfolding state_remove_edge
  core_remove_edge = core_drop_edge n (state_detach x (out_word n) r₁) (detach us₁ x (out_word n)) g.eseq core₂ a.0.there

-- ---- every edit

module _ (s : State) (g : Graph) (h : Holds s g) (m : Small s) where
  pub can_edit : (e : Edit) → Applies e g → Room e s → Can e s
  can_edit (InsertVertex n t v p) a i = record {
    row = i;
    room = omega (arith, m.vertices, h.core.vertices, few_vertices s g.vseq g.eseq h.core);
    back = can_put_vertex n t v p s g.vseq g.eseq h.core a i;
  }
  can_edit (RemoveVertex n t v p) a i = can_remove_vertex n s g.vseq g.eseq h.core a.0.there (ap (λ (x : Vertex). x.incidences) a.1)
  can_edit (InsertEdge n x z t r p o j) a i = can_insert_edge n x z t r p o j s g h a m i
  can_edit (RemoveEdge n x z t r p o j) a i = can_remove_edge n x z t r p o j s g h a m
  can_edit (SetVertex n t v t' v') a i = row_v s.vertices (vertex_list_ends s.head) g.vseq h.core.vseq n (omega (arith, a.0))
  can_edit (SetEdge n t r t' r') a i = row_e s.edges (edge_list_ends s.head) g.eseq h.core.eseq n (omega (arith, a.0))
  can_edit (MoveVertex n old new) a i = can_move_vertex n new s g.vseq g.eseq h.core h.sound.vorder a.0.there a.1
  can_edit (MoveEdge n old new) a i = can_move_edge n new s g.vseq g.eseq h.core h.sound.eorder a.0.there a.1
  can_edit (MoveWord w v old u new) a i = can_move_word w v old u new s g h a

  core_edit : (e : Edit) → Applies e g → Room e s → Core (state_apply e s) (apply e g).vseq (apply e g).eseq
  core_edit (InsertVertex n t v p) a i = core_insert_vertex n t v p s g.vseq g.eseq h.core a i
  core_edit (RemoveVertex n t v p) a i = core_remove_vertex n s g.vseq g.eseq h.core a.0.there (ap (λ (x : Vertex). x.incidences) a.1)
  core_edit (InsertEdge n x z t r p o j) a i = core_insert_edge n x z t r p o j s g h a m i
  core_edit (RemoveEdge n x z t r p o j) a i = core_remove_edge n x z t r p o j s g h a m
  core_edit (SetVertex n t v t' v') a i = core_set_vertex n t' v' s g.vseq g.eseq h.core a.0
  core_edit (SetEdge n t r t' r') a i = core_set_edge n t' r' s g.vseq g.eseq h.core a.0
  core_edit (MoveVertex n old new) a i = core_move_vertex n new s g.vseq g.eseq h.core h.sound.vorder a.0.there a.1
  core_edit (MoveEdge n old new) a i = core_move_edge n new s g.vseq g.eseq h.core h.sound.eorder a.0.there a.1
  core_edit (MoveWord w v old u new) a i = core_move_word w v old u new s g h a

  pub holds_edit : (e : Edit) → Applies e g → Room e s → Holds (state_apply e s) (apply e g)
  holds_edit e a i = record { core = core_edit e a i; sound = keeps_formed e g a h.sound }

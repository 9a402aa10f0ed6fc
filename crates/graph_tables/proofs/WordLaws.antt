-- A word taken out of a list, put into one, and seen from another vertex: what the tables then hold.
use Rattle.std.proofs.Common.{◌≡◌, ℕ, ◌+◌, ◌/◌, ◌%◌, ◌≤◌, ◌≢◌, List, map, length, set, sym, refl, ◌∙◌, arith, length-set, get_or-set_other, get_or-set_same}
use Rattle.linked_lists.specs.declared.LinkLayout.{LinkLayout}
use Rattle.linked_lists.specs.declared.Ends.{Ends}
use Rattle.linked_lists.specs.Links.{Inside, Held, table_unlink, ends_unlink, table_insert, ends_insert}
use Rattle.lists.specs.Choice.{indicator}
use Rattle.lists.proofs.Picks.{pick_yes, pick_no, same, differ, same?, is_no, is_le}
use Rattle.lists.specs.Keyed.{count_by_key, insert_after_by, remove_by, update_by}
use Rattle.lists.proofs.KeyedLaws.{count_ins, count_rem, count_upd}
use Rattle.graph.specs.Graph.{Vertex, Edge, vertex_number, edge_number, itself, no_vertex, no_edge, list_in, reading_kind, decimetres}
use Rattle.graph.specs.Changes.{on_list, with_seen, detach}
use Rattle.graph.specs.Edits.{attach}
use Rattle.graph.proofs.Incidence.{list_upd, count_list, this_set, this_other}
use Rattle.graph.proofs.Orders.{find_kept}
use Rattle.graph_tables.specs.Tables.{State, state, incidence_links, half_place, VertexRowIn, HalfRowIn, vertex_list_ends, edge_list_ends, vertex_ends, put_ends, state_detach, CanDetach, state_attach}
use Rattle.graph_tables.specs.Tables.{CanAttach, state_set_this}
use Rattle.graph_tables.specs.Holds.{VRows, ERows, ThisEntries, DisjointLists, Core}
use Rattle.linked_lists.proofs.Counted.{can_rem, held_rem, can_ins, held_ins, frame_rem, frame_ins}
use Rattle.graph_tables.proofs.Keys.{keys_upd, length_upd}
use Rattle.graph_tables.proofs.Frames.{valid_i, Keeps, VOrder, VData, EOrder, EData, ELinks, keep_vseq, keep_eseq, keep_vrows, keep_erows, keep_this, keep_lists, unlink_i, unlink_len}
use Rattle.graph_tables.proofs.Frames.{insert_i, insert_len, set_keeps, ends_len, ends_keep, ends_same, ends_other, row_v}

held_by : (layout : LinkLayout) (t : List ℕ) {e e' : Ends} {l l' : List ℕ} → e' ≡ e → l' ≡ l → Held layout t e l → Held layout t e' l'
held_by layout t p q h = rw (p, q) h

-- ---- the list of v changed by f, whatever changed it

module _ (v : ℕ) (f : List ℕ → List ℕ) (s : State) (vs : List Vertex) (es : List Edge) (c : Core s vs es) (hv : count_by_key vertex_number v vs ≡ 1)
    (edges' : List ℕ) (e' : Ends) (keep : Keeps (λ i. 2 ≤ i % 6) s.edges edges') (len : length edges' ≡ length s.edges)
    (here : Held incidence_links edges' e' (f (list_in vs v)))
    (there : (u : ℕ) → 1 ≤ u → v ≢ u → Held incidence_links edges' (vertex_ends s.vertices u) (list_in vs u))
    (disjoint : (u k : ℕ) → v ≢ u → count_by_key itself k (f (list_in vs v)) + count_by_key itself k (list_in vs u) ≤ 1) where
  row : VertexRowIn s.vertices v
  row = row_v s.vertices (vertex_list_ends s.head) vs c.vseq v (omega arith)

  list_here : list_in (update_by vertex_number v (on_list f) vs) v ≡ f (list_in vs v)
  list_here = list_upd vs v v f hv ∙ simp pick_yes

  list_there : (u : ℕ) → v ≢ u → list_in (update_by vertex_number v (on_list f) vs) u ≡ list_in vs u
  list_there u n = list_upd vs v u f hv ∙ simp pick_no

  new_lists : (u : ℕ) → 1 ≤ u → Held incidence_links edges' (vertex_ends (put_ends v e' s.vertices) u) (list_in (update_by vertex_number v (on_list f) vs) u)
  new_lists u r = elim (same? v u) [
    | same p q ↦ rw q (held_by incidence_links edges' (ends_same v e' s.vertices row) list_here here)
    | differ p q ↦ held_by incidence_links edges' (ends_other v e' s.vertices u row.0 r p) (list_there u p) (there u r p)
  ]

  new_disjoint : DisjointLists (update_by vertex_number v (on_list f) vs)
  new_disjoint a b k n = elim (same? v a) [
    | same p q ↦
        let m : v ≢ b = λ z. n (q ∙ z) in
        rw (q, list_here, list_there b m) (disjoint b k m)
    | differ p q ↦ elim (same? v b) [
      | same i j ↦ rw (j, list_here, list_there a p) (omega (arith, disjoint a k p))
      | differ i j ↦ rw (list_there a p, list_there b i) (c.disjoint a b k n)
    ]
  ]

  new_vrows : VRows (put_ends v e' s.vertices) (update_by vertex_number v (on_list f) vs)
  new_vrows u r =
      let o = keep_vrows s.vertices (put_ends v e' s.vertices) (ends_keep v e' s.vertices VData (λ z. omega (arith, row)) (λ z. omega (arith, row))) vs c.vrows u r in
      record {
        live = o.live ∙ sym (count_list vs v u f);
        type = o.type ∙ sym (find_kept vertex_number no_vertex (λ (x : Vertex). x.type) (on_list f) u v vs (λ y. refl) (λ y. refl));
        value = o.value ∙ sym (find_kept vertex_number no_vertex (λ (x : Vertex). x.value) (on_list f) u v vs (λ y. refl) (λ y. refl));
      }

  pub core_list : Core (state s.head (put_ends v e' s.vertices) edges') (update_by vertex_number v (on_list f) vs) es
  core_list = record {
    vseq = rw (keys_upd vertex_number (on_list f) (λ y. refl) v vs)
        (keep_vseq s.vertices (put_ends v e' s.vertices) (ends_keep v e' s.vertices VOrder (λ z. omega (arith, row)) (λ z. omega (arith, row)))
        (ends_len v e' s.vertices) (vertex_list_ends s.head) (map vertex_number vs) c.vseq);
    eseq = keep_eseq s.edges edges' (λ i h. keep i (omega arith)) len (edge_list_ends s.head) (map edge_number es) c.eseq;
    vrows = new_vrows;
    erows = keep_erows s.edges edges' (λ i h. keep i (omega arith)) es c.erows;
    this = keep_this s.edges edges' (λ i h. keep i (omega arith)) es c.this;
    lists = new_lists;
    disjoint = new_disjoint;
    vertices = c.vertices ∙ sym (length_upd vertex_number (on_list f) v vs);
    edges = c.edges;
  }

-- ---- out

module _ (v w : ℕ) (s : State) (vs : List Vertex) (es : List Edge) (c : Core s vs es) (hv : count_by_key vertex_number v vs ≡ 1) (hw : 1 ≤ count_by_key itself w (list_in vs v)) where
  here : VertexRowIn s.vertices v
  here = row_v s.vertices (vertex_list_ends s.head) vs c.vseq v (omega arith)

  pub can_detach : CanDetach v w s
  can_detach = record { row = here; out = can_rem incidence_links s.edges (vertex_ends s.vertices v) (list_in vs v) valid_i (c.lists v here.0) w hw }

  pub core_detach : Core (state_detach v w s) (detach vs v w) es
  unfolding state_detach
  core_detach =
      let h = c.lists v here.0 in
      let e = vertex_ends s.vertices v in
      let l = list_in vs v in
      core_list v (remove_by itself w) s vs es c hv (table_unlink incidence_links s.edges e w) (ends_unlink incidence_links s.edges e w) (unlink_i s.edges e w) (unlink_len s.edges e w incidence_links)
      (held_rem incidence_links s.edges e l valid_i h w hw)
      (λ u r n. frame_rem incidence_links s.edges e l valid_i h (vertex_ends s.vertices u) (list_in vs u) (c.lists u r) (λ k. c.disjoint v u k n) w hw)
      (λ u k n. omega (arith, c.disjoint v u k n, count_rem itself k w l))

-- ---- in

module _ (v p w : ℕ) (s : State) (vs : List Vertex) (es : List Edge) (c : Core s vs es) (hv : count_by_key vertex_number v vs ≡ 1) (hw : (u : ℕ) → count_by_key itself w (list_in vs u) ≡ 0)
    (hp : 1 ≤ indicator 0 p + count_by_key itself p (list_in vs v)) (iw : HalfRowIn s.edges w) where
  place : VertexRowIn s.vertices v
  place = row_v s.vertices (vertex_list_ends s.head) vs c.vseq v (omega arith)

  inside : Inside incidence_links (length s.edges) w
  inside z = (omega arith, omega arith)

  pub can_attach : CanAttach v p w s
  can_attach = record { row = place; back = can_ins incidence_links s.edges (vertex_ends s.vertices v) (list_in vs v) valid_i (c.lists v place.0) p w (omega arith) (hw v) inside hp }

  pub core_attach : Core (state_attach v p w s) (attach vs v p w) es
  unfolding state_attach
  core_attach =
      let h = c.lists v place.0 in
      let e = vertex_ends s.vertices v in
      let l = list_in vs v in
      core_list v (insert_after_by itself 0 p w) s vs es c hv (table_insert incidence_links s.edges e p w) (ends_insert incidence_links s.edges e p w) (insert_i s.edges e w p)
      (insert_len s.edges e w incidence_links p)
      (held_ins incidence_links s.edges e l valid_i h p w (omega arith) (hw v) inside hp)
      (λ u r n. frame_ins incidence_links s.edges e l valid_i h (vertex_ends s.vertices u) (list_in vs u) (c.lists u r) (λ k. c.disjoint v u k n) p w (hw u) hp)
      (λ u k n. elim (same? w k) [
        | same i j ↦ rw j (omega (arith, hw u, hw v, count_ins itself w 0 p w l, is_le w w))
        | differ i j ↦ omega (arith, c.disjoint v u k n, count_ins itself k 0 p w l, is_no w k i)
      ])

-- ---- seen from another vertex

module _ (w u : ℕ) (s : State) (vs : List Vertex) (es : List Edge) (c : Core s vs es) (hw : count_by_key edge_number (w / 2) es ≡ 1) (iw : HalfRowIn s.edges w) where
  seen : ThisEntries (set s.edges (half_place 2 w) u) (update_by edge_number (w / 2) (with_seen w u) es)
  seen x r = elim (same? w x) [
    | same p q ↦ rw q (get_or-set_same s.edges (half_place 2 w) u 0 (omega arith) ∙ sym (this_set es w u hw))
    | differ p q ↦ get_or-set_other s.edges (half_place 2 w) (half_place 2 x) u 0 (λ z. omega arith) ∙ c.this x r ∙ sym (this_other es w u x hw p)
  ]

  kept_rows : ERows (set s.edges (half_place 2 w) u) (update_by edge_number (w / 2) (with_seen w u) es)
  kept_rows e r =
      let o = keep_erows s.edges (set s.edges (half_place 2 w) u) (set_keeps EData s.edges (half_place 2 w) u (λ z. omega arith)) es c.erows e r in
      record {
        live = o.live ∙ sym (count_upd edge_number (with_seen w u) (λ y. refl) e (w / 2) es);
        type = o.type ∙ sym (find_kept edge_number no_edge (λ (x : Edge). x.type) (with_seen w u) e (w / 2) es (λ y. refl) (λ y. refl));
        kind = o.kind ∙ sym (find_kept edge_number no_edge (λ (x : Edge). reading_kind x.reading) (with_seen w u) e (w / 2) es (λ y. refl) (λ y. refl));
        decimetres = o.decimetres ∙ sym (find_kept edge_number no_edge (λ (x : Edge). decimetres x.reading) (with_seen w u) e (w / 2) es (λ y. refl) (λ y. refl));
      }

  pub core_this : Core (state_set_this w u s) vs (update_by edge_number (w / 2) (with_seen w u) es)
  unfolding state_set_this
  core_this = record {
    vseq = c.vseq;
    eseq = rw (keys_upd edge_number (with_seen w u) (λ y. refl) (w / 2) es)
        (keep_eseq s.edges (set s.edges (half_place 2 w) u) (set_keeps EOrder s.edges (half_place 2 w) u (λ z. omega arith)) (simp length-set) (edge_list_ends s.head)
        (map edge_number es) c.eseq);
    vrows = c.vrows;
    erows = kept_rows;
    this = seen;
    lists = keep_lists s.vertices s.vertices s.edges (set s.edges (half_place 2 w) u) (λ i h. refl) (set_keeps ELinks s.edges (half_place 2 w) u (λ z. omega arith))
        (simp length-set) vs c.lists;
    disjoint = c.disjoint;
    vertices = c.vertices;
    edges = c.edges ∙ sym (length_upd edge_number (with_seen w u) (w / 2) es);
  }

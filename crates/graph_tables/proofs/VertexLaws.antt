-- A vertex's words set, its place in vseq changed, a vertex put in and taken out: what the tables then hold.
use Rattle.std.proofs.Common.{◌≡◌, ℕ, ◌+◌, ◌-◌, ◌*◌, ◌<◌, ◌≤◌, ◌≢◌, List, [], map, length, get_or, set, sym, refl, ap, ◌∙◌, arith, length-set, get_or-set_other, get_or-set_same}
use Rattle.linked_lists.specs.Links.{Inside, table_unlink, ends_unlink, table_insert, ends_insert, CanInsert, table_move, CanMove}
use Rattle.lists.specs.Choice.{indicator}
use Rattle.lists.proofs.Picks.{same, differ, same?}
use Rattle.lists.specs.Keyed.{count_by_key, insert_after_by, remove_by, update_by}
use Rattle.graph.specs.Edits.{Insertable}
use Rattle.graph.specs.Graph.{Vertex, Edge, vertex_number, no_vertex, vertex_in, list_in}
use Rattle.graph.specs.Changes.{with_vertex}
use Rattle.graph.specs.WellFormed.{Ordered}
use Rattle.graph.proofs.Orders.{find_kept, find_move, count_move}
use Rattle.graph.proofs.Incidence.{list_ins, list_rem}
use Rattle.graph_tables.specs.Tables.{State, vertex_links, vertex_place, VertexRowIn, vertex_list_ends, table_vertex_row, state_set_vertex, state_move_vertex, state_insert_vertex}
use Rattle.graph_tables.specs.Tables.{state_remove_vertex, CanRemoveVertex}
use Rattle.graph_tables.specs.Holds.{VRows, Lists, DisjointLists, Core}
use Rattle.graph_tables.proofs.Keys.{keys_upd, length_upd, length_ins, length_rem}
use Rattle.graph_tables.proofs.Sequences.{can_take, held_taken, can_put, held_put, can_move, held_move, move_v, Anew, anew_put, anew_taken, anew_set}
use Rattle.graph_tables.proofs.Frames.{valid_v, Keeps, VOrder, VEnds, keep_vseq, keep_vrows, keep_lists, unlink_v, unlink_len, insert_v, insert_len, set_keeps, row_v}

-- ---- the three words of a row

module _ (v live t x : ℕ) (vertices : List ℕ) where
  pub row_len : length (table_vertex_row v live t x vertices) ≡ length vertices
  unfolding table_vertex_row
  row_len = simp length-set

  pub row_keep : (P : ℕ → Type 0) → (P (vertex_place 0 v) → ⊥) → (P (vertex_place 1 v) → ⊥) → (P (vertex_place 2 v) → ⊥) → Keeps P vertices (table_vertex_row v live t x vertices)
  unfolding table_vertex_row
  row_keep P a b c i h =
      set_keeps P (set (set vertices (vertex_place 0 v) live) (vertex_place 1 v) t) (vertex_place 2 v) x c i h ∙ set_keeps P (set vertices (vertex_place 0 v) live) (vertex_place 1 v) t b i h
      ∙ set_keeps P vertices (vertex_place 0 v) live a i h

  pub row_live : VertexRowIn vertices v → get_or (table_vertex_row v live t x vertices) (vertex_place 0 v) 0 ≡ live
  unfolding table_vertex_row
  row_live h = get_or-set_other (set (set vertices (vertex_place 0 v) live) (vertex_place 1 v) t) (vertex_place 2 v) (vertex_place 0 v) x 0 (λ q. omega arith)
      ∙ get_or-set_other (set vertices (vertex_place 0 v) live) (vertex_place 1 v) (vertex_place 0 v) t 0 (λ q. omega arith) ∙ get_or-set_same vertices (vertex_place 0 v) live 0 (omega arith)

  pub row_type : VertexRowIn vertices v → get_or (table_vertex_row v live t x vertices) (vertex_place 1 v) 0 ≡ t
  unfolding table_vertex_row
  row_type h = get_or-set_other (set (set vertices (vertex_place 0 v) live) (vertex_place 1 v) t) (vertex_place 2 v) (vertex_place 1 v) x 0 (λ q. omega arith)
      ∙ get_or-set_same (set vertices (vertex_place 0 v) live) (vertex_place 1 v) t 0 (simp length-set (omega arith))

  pub row_value : VertexRowIn vertices v → get_or (table_vertex_row v live t x vertices) (vertex_place 2 v) 0 ≡ x
  unfolding table_vertex_row
  row_value h = get_or-set_same (set (set vertices (vertex_place 0 v) live) (vertex_place 1 v) t) (vertex_place 2 v) x 0 (simp length-set (omega arith))

  -- the words of other-word rows stand
  pub row_other : (u f : ℕ) → 1 ≤ v → 1 ≤ u → v ≢ u → f < 8 → get_or (table_vertex_row v live t x vertices) (vertex_place f u) 0 ≡ get_or vertices (vertex_place f u) 0
  row_other u f a b n l = row_keep (λ i. (8 * u - 8 ≤ i) × (i < 8 * u)) (λ q. omega arith) (λ q. omega arith) (λ q. omega arith) (vertex_place f u) (omega arith, omega arith)

-- ---- the rows, where one is written anew

module _ (n live : ℕ) (y : Vertex) (vertices : List ℕ) (vs vs' : List Vertex) (h : VRows vertices vs) (i : VertexRowIn vertices n) (a : Anew vertex_number no_vertex n live y vs vs') where
  pub rows_new : VRows (table_vertex_row n live y.type y.value vertices) vs'
  rows_new u r = elim (same? n u) [
    | same p q ↦
        rw (q, a.times, a.found) (record {
          live = row_live n live y.type y.value vertices i;
          type = row_type n live y.type y.value vertices i;
          value = row_value n live y.type y.value vertices i;
        })
    | differ p q ↦
        let o = h u r in
        let k = row_other n live y.type y.value vertices u in
        record {
          live = k 0 i.0 r p (omega arith) ∙ o.live ∙ sym (a.others u p);
          type = k 1 i.0 r p (omega arith) ∙ o.type ∙ ap (λ (z : Vertex). z.type) (sym (a.stay u p));
          value = k 2 i.0 r p (omega arith) ∙ o.value ∙ ap (λ (z : Vertex). z.value) (sym (a.stay u p));
        }
  ]

-- ---- lists that stay

pub same_lists : (vertices edges : List ℕ) (vs vs' : List Vertex) → ((u : ℕ) → list_in vs' u ≡ list_in vs u) → Lists vertices edges vs → Lists vertices edges vs'
same_lists vertices edges vs vs' q h u r = rw (q u) (h u r)

pub same_disjoint : (vs vs' : List Vertex) → ((u : ℕ) → list_in vs' u ≡ list_in vs u) → DisjointLists vs → DisjointLists vs'
same_disjoint vs vs' q h u v k n = rw (q u, q v) (h u v k n)

-- ---- type and value

module _ (n t x : ℕ) (s : State) (vs : List Vertex) (es : List Edge) (c : Core s vs es) (hn : count_by_key vertex_number n vs ≡ 1) where
  set_row : VertexRowIn s.vertices n
  set_row = row_v s.vertices (vertex_list_ends s.head) vs c.vseq n (omega arith)

  set_list : (u : ℕ) → list_in (update_by vertex_number n (with_vertex t x) vs) u ≡ list_in vs u
  set_list u = find_kept vertex_number no_vertex (λ (y : Vertex). y.incidences) (with_vertex t x) u n vs (λ y. refl) (λ y. refl)

  pub core_set_vertex : Core (state_set_vertex n t x s) (update_by vertex_number n (with_vertex t x) vs) es
  unfolding state_set_vertex
  core_set_vertex =
      let vertices' = table_vertex_row n 1 t x s.vertices in
      record {
        vseq = rw (keys_upd vertex_number (with_vertex t x) (λ y. refl) n vs)
            (keep_vseq s.vertices vertices' (row_keep n 1 t x s.vertices VOrder (λ z. omega (arith, set_row)) (λ z. omega (arith, set_row)) (λ z. omega (arith, set_row)))
            (row_len n 1 t x s.vertices) (vertex_list_ends s.head) (map vertex_number vs) c.vseq);
        eseq = c.eseq;
        vrows = rows_new n 1 (with_vertex t x (vertex_in vs n)) s.vertices vs (update_by vertex_number n (with_vertex t x) vs) c.vrows set_row
            (anew_set vertex_number no_vertex n vs (with_vertex t x) (λ y. refl) hn);
        erows = c.erows;
        this = c.this;
        lists = same_lists vertices' s.edges vs (update_by vertex_number n (with_vertex t x) vs) set_list
            (keep_lists s.vertices vertices' s.edges s.edges
            (row_keep n 1 t x s.vertices VEnds (λ z. omega (arith, set_row)) (λ z. omega (arith, set_row)) (λ z. omega (arith, set_row))) (λ i h. refl) refl vs c.lists);
        disjoint = same_disjoint vs (update_by vertex_number n (with_vertex t x) vs) set_list c.disjoint;
        vertices = c.vertices ∙ sym (length_upd vertex_number (with_vertex t x) n vs);
        edges = c.edges;
      }

-- ---- a vertex moved in vseq

module _ (n p : ℕ) (s : State) (vs : List Vertex) (es : List Edge) (c : Core s vs es) (o : Ordered vertex_number vs) (hn : count_by_key vertex_number n vs ≡ 1)
    (hp : 1 ≤ indicator 0 p + count_by_key vertex_number p (remove_by vertex_number n vs)) where
  pub can_move_vertex : CanMove vertex_links n p s.vertices (vertex_list_ends s.head)
  can_move_vertex = can_move vertex_number vertex_links valid_v s.vertices (vertex_list_ends s.head) vs c.vseq no_vertex n p hn hp

  abbrev moved : List Vertex
  moved = insert_after_by vertex_number 0 p (vertex_in vs n) (remove_by vertex_number n vs)

  moved_found : (u : ℕ) → vertex_in moved u ≡ vertex_in vs u
  moved_found u = find_move vertex_number no_vertex u n p vs o hn

  moved_list : (u : ℕ) → list_in moved u ≡ list_in vs u
  moved_list u = ap (λ (x : Vertex). x.incidences) (moved_found u)

  moved_rows : (vertices : List ℕ) → VRows vertices vs → VRows vertices moved
  moved_rows vertices h u r =
      let w = h u r in
      record {
        live = w.live ∙ sym (count_move vertex_number no_vertex u n p vs hn);
        type = w.type ∙ ap (λ (x : Vertex). x.type) (sym (moved_found u));
        value = w.value ∙ ap (λ (x : Vertex). x.value) (sym (moved_found u));
      }

  pub core_move_vertex : Core (state_move_vertex n p s) moved es
  unfolding state_move_vertex
  core_move_vertex =
      let e = vertex_list_ends s.head in
      let vertices' = table_move vertex_links n p s.vertices e in
      record {
        vseq = held_move vertex_number vertex_links valid_v s.vertices e vs c.vseq no_vertex n p hn hp;
        eseq = c.eseq;
        vrows = moved_rows vertices' (keep_vrows s.vertices vertices' (λ i h. move_v n p s.vertices e i (omega arith)) vs c.vrows);
        erows = c.erows;
        this = c.this;
        lists = same_lists vertices' s.edges vs moved moved_list
            (keep_lists s.vertices vertices' s.edges s.edges (λ i h. move_v n p s.vertices e i (omega arith)) (λ i h. refl) refl vs c.lists);
        disjoint = same_disjoint vs moved moved_list c.disjoint;
        vertices = omega (arith, c.vertices, length_ins vertex_number 0 p (vertex_in vs n) (remove_by vertex_number n vs), length_rem vertex_number n vs (omega arith));
        edges = c.edges;
      }

-- ---- a vertex put in

module _ (n t x p : ℕ) (s : State) (vs : List Vertex) (es : List Edge) (c : Core s vs es) (f : Insertable vertex_number vs n p) (i : VertexRowIn s.vertices n) where
  abbrev new : Vertex
  new = record { number = n; type = t; value = x; incidences = [] }

  in_row : Inside vertex_links (length s.vertices) n
  in_row z = (omega arith, omega arith)

  pub can_put_vertex : CanInsert vertex_links s.vertices (vertex_list_ends s.head) p n
  can_put_vertex = can_put vertex_number vertex_links valid_v s.vertices (vertex_list_ends s.head) vs c.vseq n p new refl f in_row

  new_list : (u : ℕ) → list_in (insert_after_by vertex_number 0 p new vs) u ≡ list_in vs u
  new_list u = list_ins vs n t x p u f.fresh

  pub core_insert_vertex : Core (state_insert_vertex n t x p s) (insert_after_by vertex_number 0 p new vs) es
  unfolding state_insert_vertex
  core_insert_vertex =
      let e = vertex_list_ends s.head in
      let t₁ = table_insert vertex_links s.vertices e p n in
      let i₁ : VertexRowIn t₁ n = (i.0, rw (insert_len s.vertices e n vertex_links p) i.1) in
      record {
        vseq = keep_vseq t₁ (table_vertex_row n 1 t x t₁) (row_keep n 1 t x t₁ VOrder (λ z. omega arith) (λ z. omega arith) (λ z. omega arith)) (row_len n 1 t x t₁)
            (ends_insert vertex_links s.vertices e p n) (map vertex_number (insert_after_by vertex_number 0 p new vs))
            (held_put vertex_number vertex_links valid_v s.vertices e vs c.vseq n p new refl f in_row);
        eseq = c.eseq;
        vrows = rows_new n 1 new t₁ vs (insert_after_by vertex_number 0 p new vs) (keep_vrows s.vertices t₁ (λ j h. insert_v s.vertices e n p j (omega arith)) vs c.vrows) i₁
            (anew_put vertex_number no_vertex n vs p new refl f.fresh);
        erows = c.erows;
        this = c.this;
        lists = same_lists (table_vertex_row n 1 t x t₁) s.edges vs (insert_after_by vertex_number 0 p new vs) new_list (keep_lists s.vertices (table_vertex_row n 1 t x t₁) s.edges s.edges
            (λ j h. row_keep n 1 t x t₁ VEnds (λ z. omega arith) (λ z. omega arith) (λ z. omega arith) j h ∙ insert_v s.vertices e n p j (omega arith)) (λ j h. refl) refl vs c.lists);
        disjoint = same_disjoint vs (insert_after_by vertex_number 0 p new vs) new_list c.disjoint;
        vertices = omega (arith, c.vertices, length_ins vertex_number 0 p new vs);
        edges = c.edges;
      }

-- ---- a vertex taken out

module _ (n : ℕ) (s : State) (vs : List Vertex) (es : List Edge) (c : Core s vs es) (hn : count_by_key vertex_number n vs ≡ 1) (none : list_in vs n ≡ []) where
  old_row : VertexRowIn s.vertices n
  old_row = row_v s.vertices (vertex_list_ends s.head) vs c.vseq n (omega arith)

  pub can_remove_vertex : CanRemoveVertex n s
  can_remove_vertex = record {
    row = old_row;
    some = omega (arith, c.vertices, length_rem vertex_number n vs (omega arith));
    out = can_take vertex_number vertex_links valid_v s.vertices (vertex_list_ends s.head) vs c.vseq n hn;
  }

  old_list : (u : ℕ) → list_in (remove_by vertex_number n vs) u ≡ list_in vs u
  old_list u = list_rem vs n u hn none

  pub core_remove_vertex : Core (state_remove_vertex n s) (remove_by vertex_number n vs) es
  unfolding state_remove_vertex
  core_remove_vertex =
      let e = vertex_list_ends s.head in
      let t₁ = table_unlink vertex_links s.vertices e n in
      let i₁ : VertexRowIn t₁ n = (old_row.0, rw (unlink_len s.vertices e n vertex_links) old_row.1) in
      record {
        vseq = keep_vseq t₁ (table_vertex_row n 0 0 0 t₁) (row_keep n 0 0 0 t₁ VOrder (λ z. omega arith) (λ z. omega arith) (λ z. omega arith)) (row_len n 0 0 0 t₁)
            (ends_unlink vertex_links s.vertices e n) (map vertex_number (remove_by vertex_number n vs)) (held_taken vertex_number vertex_links valid_v s.vertices e vs c.vseq n hn);
        eseq = c.eseq;
        vrows = rows_new n 0 no_vertex t₁ vs (remove_by vertex_number n vs) (keep_vrows s.vertices t₁ (λ j h. unlink_v s.vertices e n j (omega arith)) vs c.vrows) i₁
            (anew_taken vertex_number no_vertex n vs hn);
        erows = c.erows;
        this = c.this;
        lists = same_lists (table_vertex_row n 0 0 0 t₁) s.edges vs (remove_by vertex_number n vs) old_list (keep_lists s.vertices (table_vertex_row n 0 0 0 t₁) s.edges s.edges
            (λ j h. row_keep n 0 0 0 t₁ VEnds (λ z. omega arith) (λ z. omega arith) (λ z. omega arith) j h ∙ unlink_v s.vertices e n j (omega arith)) (λ j h. refl) refl vs c.lists);
        disjoint = same_disjoint vs (remove_by vertex_number n vs) old_list c.disjoint;
        vertices = omega (arith, c.vertices, length_rem vertex_number n vs (omega arith));
        edges = c.edges;
      }

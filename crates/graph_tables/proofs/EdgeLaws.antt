-- An edge's words set, its place in eseq changed, an edge put into eseq and taken out: what the tables then hold.
use Rattle.std.proofs.Common.{◌≡◌, ℕ, ◌+◌, ◌-◌, ◌*◌, ◌/◌, ◌%◌, ◌<◌, ◌≤◌, ◌≢◌, List, map, length, get_or, set, sym, refl, ap, ◌∙◌, arith, length-set, get_or-set_other, get_or-set_same}
use Rattle.linked_lists.specs.declared.Ends.{Ends}
use Rattle.linked_lists.specs.Links.{Inside, Held, table_unlink, ends_unlink, table_insert, ends_insert, CanInsert, table_move, CanMove}
use Rattle.graph.specs.declared.Reading.{Reading}
use Rattle.lists.specs.Choice.{if_equal, indicator}
use Rattle.lists.proofs.Picks.{same, differ, same?}
use Rattle.lists.specs.Keyed.{count_by_key, insert_after_by, remove_by, update_by}
use Rattle.graph.specs.Graph.{Vertex, Edge, edge_number, no_edge, out_word, in_word, edge_in, this_in, reading_kind, decimetres}
use Rattle.graph.specs.Changes.{with_edge}
use Rattle.graph.specs.Edits.{Insertable}
use Rattle.graph.specs.WellFormed.{Ordered}
use Rattle.graph.proofs.Orders.{find_kept, find_move, count_move}
use Rattle.graph.proofs.Incidence.{this_out, this_into, Word, out_word_lem, in_word_lem, other_word, word?}
use Rattle.graph_tables.specs.Tables.{State, edge_links, edge_place, half_place, EdgeRowIn, edge_list_ends, table_edge_row, table_edge_this, state_set_edge, state_move_edge}
use Rattle.graph_tables.specs.Tables.{state_place_edge, state_drop_edge, CanDropEdge}
use Rattle.graph_tables.specs.Holds.{ERow, ERows, ThisEntries, Lists, Core}
use Rattle.graph_tables.proofs.Keys.{keys_upd, length_upd, length_ins, length_rem}
use Rattle.graph_tables.proofs.Sequences.{can_take, held_taken, can_put, held_put, can_move, held_move, move_len, move_e, Anew, anew_put, anew_taken, anew_set}
use Rattle.graph_tables.proofs.Frames.{valid_e, Keeps, EOrder, EData, EThis, ELinks, keep_eseq, keep_erows, keep_this, keep_lists, unlink_e, unlink_len, insert_e, insert_len, set_keeps, row_e}

-- ---- the four words of an edge

module _ (n live t : ℕ) (r : Reading) (edges : List ℕ) where
  pub row_len : length (table_edge_row n live t r edges) ≡ length edges
  unfolding table_edge_row
  row_len = simp length-set

  pub row_keep : (P : ℕ → Type 0) → (P (edge_place 3 n) → ⊥) → (P (edge_place 4 n) → ⊥) → (P (edge_place 5 n) → ⊥) → (P (edge_place 9 n) → ⊥) → Keeps P edges (table_edge_row n live t r edges)
  unfolding table_edge_row
  row_keep P a b c d i h =
      set_keeps P (set (set (set edges (edge_place 3 n) live) (edge_place 4 n) t) (edge_place 5 n) (reading_kind r)) (edge_place 9 n) (decimetres r) d i h
      ∙ set_keeps P (set (set edges (edge_place 3 n) live) (edge_place 4 n) t) (edge_place 5 n) (reading_kind r) c i h
      ∙ set_keeps P (set edges (edge_place 3 n) live) (edge_place 4 n) t b i h ∙ set_keeps P edges (edge_place 3 n) live a i h

  pub row_other : (u f : ℕ) → 1 ≤ n → 1 ≤ u → n ≢ u → f < 12 → get_or (table_edge_row n live t r edges) (edge_place f u) 0 ≡ get_or edges (edge_place f u) 0
  row_other u f a b m l =
      row_keep (λ i. (12 * u - 12 ≤ i) × (i < 12 * u)) (λ q. omega arith) (λ q. omega arith) (λ q. omega arith) (λ q. omega arith) (edge_place f u) (omega arith, omega arith)

  pub row_new : EdgeRowIn edges n → (x : Edge) → x.type ≡ t → x.reading ≡ r → ERow (table_edge_row n live t r edges) n live x
  unfolding table_edge_row
  row_new i x p q =
      let t₁ = set edges (edge_place 3 n) live in
      let t₂ = set t₁ (edge_place 4 n) t in
      let t₃ = set t₂ (edge_place 5 n) (reading_kind r) in
      record {
        live = get_or-set_other t₃ (edge_place 9 n) (edge_place 3 n) (decimetres r) 0 (λ z. omega arith) ∙ get_or-set_other t₂ (edge_place 5 n) (edge_place 3 n) (reading_kind r) 0 (λ z. omega arith)
            ∙ get_or-set_other t₁ (edge_place 4 n) (edge_place 3 n) t 0 (λ z. omega arith) ∙ get_or-set_same edges (edge_place 3 n) live 0 (omega arith);
        type = get_or-set_other t₃ (edge_place 9 n) (edge_place 4 n) (decimetres r) 0 (λ z. omega arith) ∙ get_or-set_other t₂ (edge_place 5 n) (edge_place 4 n) (reading_kind r) 0 (λ z. omega arith)
            ∙ get_or-set_same t₁ (edge_place 4 n) t 0 (simp length-set (omega arith)) ∙ sym p;
        kind = get_or-set_other t₃ (edge_place 9 n) (edge_place 5 n) (decimetres r) 0 (λ z. omega arith) ∙ get_or-set_same t₂ (edge_place 5 n) (reading_kind r) 0 (simp length-set (omega arith))
            ∙ ap reading_kind (sym q);
        decimetres = get_or-set_same t₃ (edge_place 9 n) (decimetres r) 0 (simp length-set (omega arith)) ∙ ap decimetres (sym q);
      }

module _ (n live : ℕ) (y : Edge) (edges : List ℕ) (es es' : List Edge) (h : ERows edges es) (i : EdgeRowIn edges n) (a : Anew edge_number no_edge n live y es es') where
  pub rows_new : ERows (table_edge_row n live y.type y.reading edges) es'
  rows_new u r = elim (same? n u) [
    | same p q ↦ rw (q, a.times, a.found) (row_new n live y.type y.reading edges i y refl refl)
    | differ p q ↦
        let o = h u r in
        let k = row_other n live y.type y.reading edges u in
        record {
          live = k 3 i.0 r p (omega arith) ∙ o.live ∙ sym (a.others u p);
          type = k 4 i.0 r p (omega arith) ∙ o.type ∙ ap (λ (z : Edge). z.type) (sym (a.stay u p));
          kind = k 5 i.0 r p (omega arith) ∙ o.kind ∙ ap (λ (z : Edge). reading_kind z.reading) (sym (a.stay u p));
          decimetres = k 9 i.0 r p (omega arith) ∙ o.decimetres ∙ ap (λ (z : Edge). decimetres z.reading) (sym (a.stay u p));
        }
  ]

-- ---- the two ends of an edge

module _ (n a z : ℕ) (edges : List ℕ) where
  pub ends_len : length (table_edge_this n a z edges) ≡ length edges
  unfolding table_edge_this
  ends_len = simp length-set

  pub ends_keep : (P : ℕ → Type 0) → (P (half_place 2 (2 * n)) → ⊥) → (P (half_place 2 (2 * n + 1)) → ⊥) → Keeps P edges (table_edge_this n a z edges)
  unfolding table_edge_this
  ends_keep P b c i h = set_keeps P (set edges (half_place 2 (2 * n)) a) (half_place 2 (2 * n + 1)) z c i h ∙ set_keeps P edges (half_place 2 (2 * n)) a b i h

  module _ (i : EdgeRowIn edges n) where
    seen_out : get_or (table_edge_this n a z edges) (half_place 2 (2 * n)) 0 ≡ a
    unfolding table_edge_this
    seen_out = get_or-set_other (set edges (half_place 2 (2 * n)) a) (half_place 2 (2 * n + 1)) (half_place 2 (2 * n)) z 0 (λ q. omega arith)
        ∙ get_or-set_same edges (half_place 2 (2 * n)) a 0 (omega arith)

    seen_into : get_or (table_edge_this n a z edges) (half_place 2 (2 * n + 1)) 0 ≡ z
    unfolding table_edge_this
    seen_into = get_or-set_same (set edges (half_place 2 (2 * n)) a) (half_place 2 (2 * n + 1)) z 0 (simp length-set (omega arith))

    seen_other : (w : ℕ) → 2 ≤ w → out_word n ≢ w → in_word n ≢ w → get_or (table_edge_this n a z edges) (half_place 2 w) 0 ≡ get_or edges (half_place 2 w) 0
    unfolding table_edge_this
    seen_other w r p q = get_or-set_other (set edges (half_place 2 (2 * n)) a) (half_place 2 (2 * n + 1)) (half_place 2 w) z 0 (λ e. omega arith) ∙ get_or-set_other edges (half_place 2 (2 * n))
        (half_place 2 w) a 0 (λ e. omega arith)

    pub this_new : (live : ℕ) (y : Edge) (es es' : List Edge) → ThisEntries edges es → Anew edge_number no_edge n live y es es' → y.alpha ≡ a → y.omega ≡ z
        → ThisEntries (table_edge_this n a z edges) es'
    this_new live y es es' h m ca cz w r = go (word? n w)
      where
        go : Word n w → get_or (table_edge_this n a z edges) (half_place 2 w) 0 ≡ this_in es' w
        go (out_word_lem e) = rw e (seen_out ∙ sym ca ∙ sym (this_out es' n ∙ ap (λ (x : Edge). x.alpha) m.found))
        go (in_word_lem e) = rw e (seen_into ∙ sym cz ∙ sym (this_into es' n ∙ ap (λ (x : Edge). x.omega) m.found))
        go (other_word d e f) = seen_other w r e f ∙ h w r ∙ ap (λ (x : Edge). if_equal (w % 2) 0 x.alpha x.omega) (sym (m.stay (w / 2) d))

-- ---- type and reading

module _ (n t : ℕ) (r : Reading) (s : State) (vs : List Vertex) (es : List Edge) (c : Core s vs es) (hn : count_by_key edge_number n es ≡ 1) where
  pub set_row : EdgeRowIn s.edges n
  set_row = row_e s.edges (edge_list_ends s.head) es c.eseq n (omega arith)

  set_this : (edges : List ℕ) → ThisEntries edges es → ThisEntries edges (update_by edge_number n (with_edge t r) es)
  set_this edges h w k = h w k ∙ sym (find_kept edge_number no_edge (λ (x : Edge). if_equal (w % 2) 0 x.alpha x.omega) (with_edge t r) (w / 2) n es (λ y. refl) (λ y. refl))

  pub core_set_edge : Core (state_set_edge n t r s) vs (update_by edge_number n (with_edge t r) es)
  unfolding state_set_edge
  core_set_edge =
      let edges' = table_edge_row n 1 t r s.edges in
      let k = row_keep n 1 t r s.edges in
      record {
        vseq = c.vseq;
        eseq = rw (keys_upd edge_number (with_edge t r) (λ y. refl) n es)
            (keep_eseq s.edges edges' (k EOrder (λ z. omega (arith, set_row)) (λ z. omega (arith, set_row)) (λ z. omega (arith, set_row)) (λ z. omega (arith, set_row)))
            (row_len n 1 t r s.edges) (edge_list_ends s.head) (map edge_number es) c.eseq);
        vrows = c.vrows;
        erows = rows_new n 1 (with_edge t r (edge_in es n)) s.edges es (update_by edge_number n (with_edge t r) es) c.erows set_row (anew_set edge_number no_edge n es (with_edge t r) (λ y. refl) hn);
        this = set_this edges'
            (keep_this s.edges edges' (k EThis (λ z. omega (arith, set_row)) (λ z. omega (arith, set_row)) (λ z. omega (arith, set_row)) (λ z. omega (arith, set_row))) es c.this);
        lists = keep_lists s.vertices s.vertices s.edges edges' (λ i h. refl)
            (k ELinks (λ z. omega (arith, set_row)) (λ z. omega (arith, set_row)) (λ z. omega (arith, set_row)) (λ z. omega (arith, set_row)))
            (row_len n 1 t r s.edges) vs c.lists;
        disjoint = c.disjoint;
        vertices = c.vertices;
        edges = c.edges ∙ sym (length_upd edge_number (with_edge t r) n es);
      }

-- ---- an edge moved in eseq

module _ (n p : ℕ) (s : State) (vs : List Vertex) (es : List Edge) (c : Core s vs es) (o : Ordered edge_number es) (hn : count_by_key edge_number n es ≡ 1)
    (hp : 1 ≤ indicator 0 p + count_by_key edge_number p (remove_by edge_number n es)) where
  pub can_move_edge : CanMove edge_links n p s.edges (edge_list_ends s.head)
  can_move_edge = can_move edge_number edge_links valid_e s.edges (edge_list_ends s.head) es c.eseq no_edge n p hn hp

  abbrev moved : List Edge
  moved = insert_after_by edge_number 0 p (edge_in es n) (remove_by edge_number n es)

  moved_found : (u : ℕ) → edge_in moved u ≡ edge_in es u
  moved_found u = find_move edge_number no_edge u n p es o hn

  moved_rows : (edges : List ℕ) → ERows edges es → ERows edges moved
  moved_rows edges h u r =
      let w = h u r in
      record {
        live = w.live ∙ sym (count_move edge_number no_edge u n p es hn);
        type = w.type ∙ ap (λ (x : Edge). x.type) (sym (moved_found u));
        kind = w.kind ∙ ap (λ (x : Edge). reading_kind x.reading) (sym (moved_found u));
        decimetres = w.decimetres ∙ ap (λ (x : Edge). decimetres x.reading) (sym (moved_found u));
      }

  moved_this : (edges : List ℕ) → ThisEntries edges es → ThisEntries edges moved
  moved_this edges h w r = h w r ∙ ap (λ (x : Edge). if_equal (w % 2) 0 x.alpha x.omega) (sym (moved_found (w / 2)))

  pub core_move_edge : Core (state_move_edge n p s) vs moved
  unfolding state_move_edge
  core_move_edge =
      let e = edge_list_ends s.head in
      let edges' = table_move edge_links n p s.edges e in
      record {
        vseq = c.vseq;
        eseq = held_move edge_number edge_links valid_e s.edges e es c.eseq no_edge n p hn hp;
        vrows = c.vrows;
        erows = moved_rows edges' (keep_erows s.edges edges' (λ i h. move_e n p s.edges e i (omega arith)) es c.erows);
        this = moved_this edges' (keep_this s.edges edges' (λ i h. move_e n p s.edges e i (omega arith)) es c.this);
        lists = keep_lists s.vertices s.vertices s.edges edges' (λ i h. refl) (λ i h. move_e n p s.edges e i (omega arith)) (move_len n p s.edges e edge_links) vs c.lists;
        disjoint = c.disjoint;
        vertices = c.vertices;
        edges = omega (arith, c.edges, length_ins edge_number 0 p (edge_in es n) (remove_by edge_number n es), length_rem edge_number n es (omega arith));
      }

-- ---- a new row, and a new place: what both ways share

module _ (n live : ℕ) (y : Edge) (edges t₁ : List ℕ) (i : EdgeRowIn t₁ n) (keep : Keeps (λ j. j % 12 < 10) edges t₁) (len : length t₁ ≡ length edges) where
  abbrev row : List ℕ
  row = table_edge_row n live y.type y.reading t₁

  abbrev full : List ℕ
  full = table_edge_this n y.alpha y.omega row

  row_in : EdgeRowIn row n
  row_in = (i.0, rw (row_len n live y.type y.reading t₁) i.1)

  full_len : length full ≡ length t₁
  full_len = ends_len n y.alpha y.omega row ∙ row_len n live y.type y.reading t₁

  pub full_order : (e : Ends) (l : List ℕ) → Held edge_links t₁ e l → Held edge_links full e l
  full_order e l h = keep_eseq t₁ full
      (λ j q. ends_keep n y.alpha y.omega row EOrder (λ x. omega arith) (λ x. omega arith) j q ∙ row_keep n live y.type y.reading t₁ EOrder (λ x. omega arith) (λ x. omega arith)
      (λ x. omega arith) (λ x. omega arith) j q)
      full_len e l h

  pub full_lists : (vertices : List ℕ) (vs : List Vertex) → Lists vertices edges vs → Lists vertices full vs
  full_lists vertices vs h = keep_lists vertices vertices edges full (λ j q. refl)
      (λ j q. ends_keep n y.alpha y.omega row ELinks (λ x. omega arith) (λ x. omega arith) j q
      ∙ row_keep n live y.type y.reading t₁ ELinks (λ x. omega arith) (λ x. omega arith) (λ x. omega arith) (λ x. omega arith) j q ∙ keep j (omega arith))
      (full_len ∙ len) vs h

  module _ (es es' : List Edge) (m : Anew edge_number no_edge n live y es es') where
    pub full_rows : ERows edges es → ERows full es'
    full_rows h = keep_erows row full (ends_keep n y.alpha y.omega row EData (λ x. omega arith) (λ x. omega arith)) es'
        (rows_new n live y t₁ es es' (keep_erows edges t₁ (λ j q. keep j (omega arith)) es h) i m)

    pub full_this : ThisEntries edges es → ThisEntries full es'
    full_this h = this_new n y.alpha y.omega row row_in live y es es'
        (keep_this t₁ row (row_keep n live y.type y.reading t₁ EThis (λ x. omega arith) (λ x. omega arith) (λ x. omega arith) (λ x. omega arith)) es
        (keep_this edges t₁ (λ j q. keep j (omega arith)) es h)) m refl refl

-- ---- an edge put into eseq

module _ (n a z t : ℕ) (r : Reading) (p : ℕ) (s : State) (vs : List Vertex) (es : List Edge) (c : Core s vs es) (f : Insertable edge_number es n p) (i : EdgeRowIn s.edges n) where
  abbrev new : Edge
  new = record { number = n; alpha = a; omega = z; type = t; reading = r }

  in_row : Inside edge_links (length s.edges) n
  in_row q = (omega arith, omega arith)

  pub can_put_edge : CanInsert edge_links s.edges (edge_list_ends s.head) p n
  can_put_edge = can_put edge_number edge_links valid_e s.edges (edge_list_ends s.head) es c.eseq n p new refl f in_row

  pub core_place_edge : Core (state_place_edge n a z t r p s) vs (insert_after_by edge_number 0 p new es)
  unfolding state_place_edge
  core_place_edge =
      let e = edge_list_ends s.head in
      let es' = insert_after_by edge_number 0 p new es in
      let t₁ = table_insert edge_links s.edges e p n in
      let i₁ : EdgeRowIn t₁ n = (i.0, rw (insert_len s.edges e n edge_links p) i.1) in
      let k = insert_e s.edges e n p in
      let l = insert_len s.edges e n edge_links p in
      let m = anew_put edge_number no_edge n es p new refl f.fresh in
      record {
        vseq = c.vseq;
        eseq = full_order n 1 new s.edges t₁ i₁ k l (ends_insert edge_links s.edges e p n) (map edge_number es')
            (held_put edge_number edge_links valid_e s.edges e es c.eseq n p new refl f in_row);
        vrows = c.vrows;
        erows = full_rows n 1 new s.edges t₁ i₁ k l es es' m c.erows;
        this = full_this n 1 new s.edges t₁ i₁ k l es es' m c.this;
        lists = full_lists n 1 new s.edges t₁ i₁ k l s.vertices vs c.lists;
        disjoint = c.disjoint;
        vertices = c.vertices;
        edges = omega (arith, c.edges, length_ins edge_number 0 p new es);
      }

-- ---- an edge taken out of eseq

module _ (n : ℕ) (s : State) (vs : List Vertex) (es : List Edge) (c : Core s vs es) (hn : count_by_key edge_number n es ≡ 1) where
  old_row : EdgeRowIn s.edges n
  old_row = row_e s.edges (edge_list_ends s.head) es c.eseq n (omega arith)

  pub can_drop_edge : CanDropEdge n s
  can_drop_edge = record {
    row = old_row;
    some = omega (arith, c.edges, length_rem edge_number n es (omega arith));
    out = can_take edge_number edge_links valid_e s.edges (edge_list_ends s.head) es c.eseq n hn;
  }

  pub core_drop_edge : Core (state_drop_edge n s) vs (remove_by edge_number n es)
  unfolding state_drop_edge
  core_drop_edge =
      let e = edge_list_ends s.head in
      let es' = remove_by edge_number n es in
      let t₁ = table_unlink edge_links s.edges e n in
      let i₁ : EdgeRowIn t₁ n = (old_row.0, rw (unlink_len s.edges e n edge_links) old_row.1) in
      let k = unlink_e s.edges e n in
      let l = unlink_len s.edges e n edge_links in
      let m = anew_taken edge_number no_edge n es hn in
      record {
        vseq = c.vseq;
        eseq = full_order n 0 no_edge s.edges t₁ i₁ k l (ends_unlink edge_links s.edges e n) (map edge_number es') (held_taken edge_number edge_links valid_e s.edges e es c.eseq n hn);
        vrows = c.vrows;
        erows = full_rows n 0 no_edge s.edges t₁ i₁ k l es es' m c.erows;
        this = full_this n 0 no_edge s.edges t₁ i₁ k l es es' m c.this;
        lists = full_lists n 0 no_edge s.edges t₁ i₁ k l s.vertices vs c.lists;
        disjoint = c.disjoint;
        vertices = c.vertices;
        edges = omega (arith, c.edges, length_rem edge_number n es (omega arith));
      }

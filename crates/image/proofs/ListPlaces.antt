-- In new words a list is found by the degrees of the records before its own.
use Prim.Native.Nat.{ℕ, zero, suc, ◌+◌, ◌*◌, ◌<◌}
use mathlib.Core.Path.{◌≡◌, refl, sym, ap, ◌∙◌, subst}
use mathlib.Core.Bool.{true}
use mathlib.Core.List.{List, [], ◌∷◌, ◌++◌}
use native.Mathlib.Omega.{arith}
use lib.ListN.{length, get_or, take, drop}
use lib.Seq.{get_or-drop, get_or-take, drop-drop, take_at, drop-append-add}
use Rattle.lists.specs.Lists.{concat_map}
use Rattle.graph.specs.Graph.{Vertex, Graph, no_vertex}
use Rattle.graph.specs.WellFormed.{Bounds}
use Rattle.image.specs.Image.{vertex_size, vertex_record, incidences_of, vertex_offset, incidence_offset, save_as, vertex_count, edge_count, record_size, degree_of, list_offset, ListAt}
use Rattle.image.specs.Image.{load, loadable}
use Rattle.image.proofs.Sizes.{new, row_in}
use Rattle.image.proofs.Loads.{vertex_words, incidence_words, loaded}

-- a word of record i
row_word : (vs : List Vertex) (i r : ℕ) → i < length vs → get_or (concat_map (vertex_record vertex_size) vs) (vertex_size * i + r) 0
    ≡ get_or (vertex_record vertex_size (get_or vs i no_vertex) ++ concat_map (vertex_record vertex_size) (drop (suc i) vs)) r 0
row_word [] i r h = absurd (omega arith)
row_word (v ∷ vs) zero r h = let e : vertex_size * 0 + r ≡ r = omega arith in ap (λ (k : ℕ). get_or (concat_map (vertex_record vertex_size) (v ∷ vs)) k 0) e
row_word (v ∷ vs) (suc i) r h =
    let e : vertex_size * suc i + r ≡ 4 + (vertex_size * i + r) = omega arith in
    ap (λ (k : ℕ). get_or (concat_map (vertex_record vertex_size) (v ∷ vs)) k 0) e ∙ sym (get_or-drop 4 (concat_map (vertex_record vertex_size) (v ∷ vs)) (vertex_size * i + r) 0)
    ∙ row_word vs i r (omega arith)

-- the words of the first i lists
total : ℕ → List Vertex → ℕ
total zero vs = 0
total (suc i) vs = total i vs + length (get_or vs i no_vertex).incidences

total_cons : (i : ℕ) (v : Vertex) (vs : List Vertex) → total (suc i) (v ∷ vs) ≡ length v.incidences + total i vs
unfolding total
total_cons zero v vs = omega arith
total_cons (suc i) v vs = omega (arith, total_cons i v vs)

list_word : (vs : List Vertex) (i : ℕ) → i < length vs → drop (total i vs) (concat_map incidences_of vs) ≡ (get_or vs i no_vertex).incidences ++ concat_map incidences_of (drop (suc i) vs)
unfolding total
list_word [] i h = absurd (omega arith)
list_word (v ∷ vs) zero h = refl
list_word (v ∷ vs) (suc i) h =
    ap (λ (k : ℕ). drop k (v.incidences ++ concat_map incidences_of vs)) (total_cons i v vs) ∙ drop-append-add v.incidences (concat_map incidences_of vs) (total i vs) ∙ list_word vs i (omega arith)

module _ (g : Graph) where
  abbrev saved : List ℕ
  saved = save_as vertex_size g

  at_row : (i r : ℕ) → i < length g.vseq → r < 4 → get_or saved (vertex_offset + (vertex_size * i + r)) 0 ≡ get_or (concat_map (vertex_record vertex_size) g.vseq) (vertex_size * i + r) 0
  unfolding save_as
  at_row i r h l =
      sym (get_or-drop vertex_offset saved (vertex_size * i + r) 0)
      ∙ sym (get_or-take (vertex_size * length g.vseq) (drop vertex_offset saved) (vertex_size * i + r) 0 (row_in 4 i r (length g.vseq) h l))
      ∙ ap (λ (l : List ℕ). get_or l (vertex_size * i + r) 0) (vertex_words vertex_size new g)

  degree_at : (i : ℕ) → i < length g.vseq → degree_of saved i ≡ length (get_or g.vseq i no_vertex).incidences
  degree_at i h =
      let e : vertex_offset + vertex_size * i + 3 ≡ vertex_offset + (vertex_size * i + 3) = omega arith in
      ap (λ (k : ℕ). get_or saved k 0) e ∙ at_row i 3 h (omega arith) ∙ row_word g.vseq i 3 h

  number_at : (i : ℕ) → i < length g.vseq → get_or saved (vertex_offset + vertex_size * i) 0 ≡ (get_or g.vseq i no_vertex).number
  number_at i h =
      let e : vertex_offset + vertex_size * i ≡ vertex_offset + (vertex_size * i + 0) = omega arith in
      ap (λ (k : ℕ). get_or saved k 0) e ∙ at_row i 0 h (omega arith) ∙ row_word g.vseq i 0 h

  offset_at : (i : ℕ) → i < suc (length g.vseq) → list_offset saved i ≡ incidence_offset vertex_size (vertex_count saved) (edge_count saved) + total i g.vseq
  unfolding list_offset total
  offset_at zero h = omega arith
  offset_at (suc i) h = omega (arith, offset_at i (omega arith), degree_at i (omega arith))

  saved_at : (i : ℕ) → i < length g.vseq → ListAt saved i (get_or g.vseq i no_vertex)
  saved_at i h =
      let v = get_or g.vseq i no_vertex in
      let at : drop (list_offset saved i) saved ≡ v.incidences ++ concat_map incidences_of (drop (suc i) g.vseq) =
      ap (λ (k : ℕ). drop k saved) (offset_at i (omega arith))
      ∙ sym (drop-drop (total i g.vseq) (incidence_offset vertex_size (vertex_count saved) (edge_count saved)) saved)
      ∙ ap (drop (total i g.vseq)) (incidence_words vertex_size new g)
      ∙ list_word g.vseq i h
      in
      record {
        number = number_at i h;
        degree = degree_at i h;
        list = ap (take (degree_of saved i)) at ∙ take_at v.incidences (concat_map incidences_of (drop (suc i) g.vseq)) (degree_of saved i) (sym (degree_at i h));
      }

-- the list of the vertex of record i begins at the incidence offset plus the degrees of the records before it
pub list_at : (b : Bounds) (ws : List ℕ) → loadable b ws ≡ true → record_size ws ≡ vertex_size → (i : ℕ) → i < vertex_count ws → ListAt ws i (get_or (load ws).vseq i no_vertex)
unfolding save_as
list_at b ws h s i l =
    let e : save_as vertex_size (load ws) ≡ ws = ap (λ (m : ℕ). save_as m (load ws)) (sym s) ∙ (loaded b ws h).again in
    subst (λ (us : List ℕ). ListAt us i (get_or (load ws).vseq i no_vertex)) e (saved_at (load ws) i (count (load ws) e))
  where
    count : (g : Graph) → save_as vertex_size g ≡ ws → i < length g.vseq
    count g e = omega (arith, ap (λ (us : List ℕ). get_or us 0 0) e)

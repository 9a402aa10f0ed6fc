-- Loading takes exactly the words that some well-formed graph saves as, new or old, and gives that graph.
use Rattle.std.specs.Prelude.{◌==◌}
use Prim.Native.Nat.{ℕ, zero, suc, ◌*◌}
use mathlib.Core.Path.{◌≡◌, refl, sym, ap, ap₂, ◌∙◌, subst}
use mathlib.Core.Logic.{◌↔◌, inl, inr}
use mathlib.Core.Bool.{Bool, true, false, ◌&&◌, ◌||◌}
use mathlib.Core.List.{List, [], ◌∷◌, ◌++◌}
use native.Mathlib.Omega.{arith}
use native.Mathlib.Nat.{mul-zero}
use lib.ListN.{length, get_or, take, drop, length-append}
use lib.Seq.{take_at, drop_at, drop-drop}
use borrow.Author.Tests.{eq-eqb}
use Rattle.lists.specs.Lists.{concat_map, equal_lists}
use Rattle.lists.proofs.Bools.{ft, and_true, and_both, or_right}
use Rattle.graph.specs.Graph.{Vertex, Edge, Graph}
use Rattle.graph.specs.WellFormed.{Bounds, well_formed}
use Rattle.image.specs.Image.{vertex_size, vertex_record, edge_size, edge_record, incidences_of, edge_offset, length_as, image_length, header_of, save_as, save, save_old, SavesAs, record_size}
use Rattle.image.specs.Image.{header_as, sound_header, vertex_part, edge_part, incidence_part, edges_from, vertices_from, load_as, load, loadable}
use Rattle.image.proofs.Sizes.{Size, old, new, record_size_lem, size_shown}
use Rattle.image.proofs.Headers.{sound_as}
use Rattle.image.proofs.Formed.{formed}
use Rattle.image.proofs.RecordWords.{vertices_length, edges_length, edges_back, Fits, vertices_back}
use Rattle.lists.proofs.Equality.{words_eq, words_refl}
use Rattle.image.proofs.Ends.{sound_fits, incidences_length}

-- ---- saved words, in records of either size

module _ (size : ℕ) (z : Size size) (g : Graph) where
  after_vertices : drop (edge_offset size (length g.vseq)) (save_as size g) ≡ concat_map edge_record g.eseq ++ concat_map incidences_of g.vseq
  unfolding save_as
  after_vertices =
      sym (drop-drop (size * length g.vseq) 6 (save_as size g))
      ∙ drop_at (concat_map (vertex_record size) g.vseq) _ (size * length g.vseq) (vertices_length size z g.vseq)

  pub vertex_words : vertex_part size (save_as size g) ≡ concat_map (vertex_record size) g.vseq
  unfolding save_as
  vertex_words = take_at (concat_map (vertex_record size) g.vseq) _ (size * length g.vseq) (vertices_length size z g.vseq)

  pub edge_words : edge_part size (save_as size g) ≡ concat_map edge_record g.eseq
  unfolding save_as
  edge_words =
      ap (take (edge_size * length g.eseq)) after_vertices ∙ take_at (concat_map edge_record g.eseq) _ (edge_size * length g.eseq) (edges_length g.eseq)

  pub incidence_words : incidence_part size (save_as size g) ≡ concat_map incidences_of g.vseq
  unfolding save_as
  incidence_words =
      sym (drop-drop (edge_size * length g.eseq) (edge_offset size (length g.vseq)) (save_as size g))
      ∙ ap (drop (edge_size * length g.eseq)) after_vertices
      ∙ drop_at (concat_map edge_record g.eseq) _ (edge_size * length g.eseq) (edges_length g.eseq)

  load_save : Fits g.eseq g.vseq → load_as size (save_as size g) ≡ g
  unfolding load_as save_as
  load_save f =
      let ws = save_as size g in
      let es : edges_from (length g.eseq) (edge_part size ws) ≡ g.eseq = ap (edges_from (length g.eseq)) edge_words ∙ edges_back g.eseq in
      let vs : vertices_from size (edges_from (length g.eseq) (edge_part size ws)) (length g.vseq) (vertex_part size ws) (incidence_part size ws) ≡ g.vseq =
      ap₂ (λ (y x : List ℕ). vertices_from size (edges_from (length g.eseq) (edge_part size ws)) (length g.vseq) y x) vertex_words incidence_words
      ∙ ap (λ (x : List Edge). vertices_from size x (length g.vseq) (concat_map (vertex_record size) g.vseq) (concat_map incidences_of g.vseq)) es
      ∙ vertices_back size z g.eseq g.vseq f
      in
      λ i. record { vseq = vs i; eseq = es i }

  module _ (b : Bounds) (h : well_formed b g ≡ true) where
    -- the total
    pub length_saved : length (save_as size g) ≡ length_as size (length g.vseq) (length g.eseq)
    unfolding save_as
    length_saved =
        omega (
          arith,
          length-append (concat_map (vertex_record size) g.vseq) (concat_map edge_record g.eseq ++ concat_map incidences_of g.vseq),
          length-append (concat_map edge_record g.eseq) (concat_map incidences_of g.vseq),
          vertices_length size z g.vseq,
          edges_length g.eseq,
          incidences_length b g (formed b g h),
        )

    header_fits : header_as size (save_as size g) ≡ true
    unfolding save_as header_as
    header_fits =
        let head = header_of size (length g.vseq) (length g.eseq) in
        let total = length_as size (length g.vseq) (length g.eseq) in
        and_both (equal_lists head head) (length (save_as size g) == total) (words_refl head) (eq-eqb (length (save_as size g)) total length_saved)

    pub header_sound : sound_header (save_as size g) ≡ true
    header_sound = sound_as size z (save_as size g) header_fits

-- ---- the size that saved words show

no_vertices : (m n : ℕ) (g : Graph) → length g.vseq ≡ 0 → save_as m g ≡ save_as n g
unfolding save_as
no_vertices m n g e = go g.vseq e
  where
    go : (vs : List Vertex) → length vs ≡ 0 → save_as m (record { vseq = vs; eseq = g.eseq }) ≡ save_as n (record { vseq = vs; eseq = g.eseq })
    go [] e = rw (mul-zero m, mul-zero n)
    go (v ∷ vs) e = absurd (omega arith)

shown : (size : ℕ) → Size size → (g : Graph) (n : ℕ) → length g.vseq ≡ suc n → record_size (save_as size g) ≡ size
unfolding save_as
shown size z g n e = size_shown size z (save_as size g) refl (omega (arith, e))

-- a graph saves as the same words in records of the size that they show
shows : (size : ℕ) → Size size → (g : Graph) → save_as (record_size (save_as size g)) g ≡ save_as size g
shows size z g = go (length g.vseq) refl
  where
    go : (n : ℕ) → length g.vseq ≡ n → save_as (record_size (save_as size g)) g ≡ save_as size g
    go zero e = no_vertices (record_size (save_as size g)) size g e
    go (suc n) e = ap (λ (m : ℕ). save_as m g) (shown size z g n e)

-- new words show records of four
pub new_size : (g : Graph) → record_size (save g) ≡ vertex_size
unfolding save record_size
new_size g = rw (eq-eqb (edge_offset vertex_size (length g.vseq)) (edge_offset vertex_size (length g.vseq)) refl)

-- new and old words are the same exactly where there is no vertex
pub same_words : (g : Graph) → (save g ≡ save_old g) ↔ (length g.vseq ≡ 0)
unfolding save save_old
same_words g = (λ e. omega (arith, ap (λ (ws : List ℕ). get_or ws 3 0) e), no_vertices _ _ g)

pub saves_by : (size : ℕ) → Size size → (g : Graph) (ws : List ℕ) → save_as size g ≡ ws → SavesAs g ws
unfolding save save_old
saves_by size new g ws e = inl e
saves_by size old g ws e = inr e

-- words that a graph saves as are those in records of the size that they show
pub saved_shown : (g : Graph) (ws : List ℕ) → SavesAs g ws → save_as (record_size ws) g ≡ ws
unfolding save save_old
saved_shown g ws h = elim h [
  | inl e ↦ subst (λ (l : List ℕ). save_as (record_size l) g ≡ l) e (shows _ new g)
  | inr e ↦ subst (λ (l : List ℕ). save_as (record_size l) g ≡ l) e (shows _ old g)
]

-- ---- the laws

-- the total of new words
pub image_length_lem : (b : Bounds) (g : Graph) → well_formed b g ≡ true → length (save g) ≡ image_length (length g.vseq) (length g.eseq)
unfolding save
image_length_lem b g h = length_saved _ new g b h

module _ (b : Bounds) (g : Graph) (h : well_formed b g ≡ true) where
  -- what is saved, new or old, is loaded again
  pub loads_back : (ws : List ℕ) → SavesAs g ws → load ws ≡ g
  unfolding load
  loads_back ws s =
      ap (load_as (record_size ws)) (sym (saved_shown g ws s))
      ∙ load_save (record_size ws) (record_size_lem ws) g (sound_fits b g g.vseq (formed b g h).vertices_sound)

  pub saved_same : load (save g) ≡ g
  saved_same = loads_back (save g) (inl refl)

  pub saves_loads : (ws : List ℕ) → SavesAs g ws → loadable b ws ≡ true
  unfolding loadable
  saves_loads ws s =
      subst (λ (x : Graph). (sound_header ws && well_formed b x && (equal_lists ws (save x) || equal_lists ws (save_old x))) ≡ true) (sym (loads_back ws s))
      (and_both (sound_header ws && well_formed b g) (equal_lists ws (save g) || equal_lists ws (save_old g))
      (and_both (sound_header ws) (well_formed b g) (subst (λ (l : List ℕ). sound_header l ≡ true) (saved_shown g ws s) (header_sound (record_size ws) (record_size_lem ws) g b h)) h)
      (elim s [
        | inl e ↦ subst (λ (l : List ℕ). (equal_lists l (save g) || equal_lists l (save_old g)) ≡ true) e (rw (words_refl (save g)))
        | inr e ↦ subst (λ (l : List ℕ). (equal_lists l (save g) || equal_lists l (save_old g)) ≡ true) e
            (or_right (equal_lists (save_old g) (save g)) (equal_lists (save_old g) (save_old g)) (words_refl (save_old g)))
      ]))

  pub saved_loads : loadable b (save g) ≡ true
  saved_loads = saves_loads (save g) (inl refl)

-- what loadable words say: the header, the graph, and that it saves as these words
pub record Loaded (b : Bounds) (ws : List ℕ) : Type 0 where
  pub header : sound_header ws ≡ true
  pub formed : well_formed b (load ws) ≡ true
  pub saves : SavesAs (load ws) ws
  pub again : save_as (record_size ws) (load ws) ≡ ws

pub loaded : (b : Bounds) (ws : List ℕ) → loadable b ws ≡ true → Loaded b ws
unfolding loadable
loaded b ws h =
    let g = load ws in
    let a = and_true (sound_header ws && well_formed b g) (equal_lists ws (save g) || equal_lists ws (save_old g)) h in
    let c = and_true (sound_header ws) (well_formed b g) a.0 in
    let s = either (equal_lists ws (save g)) (equal_lists ws (save_old g)) refl refl a.1 in
    record { header = c.0; formed = c.1; saves = s; again = saved_shown g ws s }
  where
    either : (x y : Bool) → equal_lists ws (save (load ws)) ≡ x → equal_lists ws (save_old (load ws)) ≡ y → (x || y) ≡ true → SavesAs (load ws) ws
    either true y e f q = inl (sym (words_eq ws (save (load ws)) e))
    either false true e f q = inr (sym (words_eq ws (save_old (load ws)) f))
    either false false e f q = ft q

-- REFERENCE 10.6
pub loads : (b : Bounds) (ws : List ℕ) → (loadable b ws ≡ true) ↔ ((g : Graph) × (well_formed b g ≡ true) × SavesAs g ws)
loads b ws = (λ h. let l = loaded b ws h in (load ws, l.formed, l.saves), λ s. saves_loads b s.0 s.1 ws s.2)

-- what was loaded, by old words or new, is saved with degrees and is then the same graph; new words come back unchanged
module _ (b : Bounds) (ws : List ℕ) (h : loadable b ws ≡ true) where
  pub saved_anew : (record_size (save (load ws)) ≡ vertex_size) × (loadable b (save (load ws)) ≡ true) × (load (save (load ws)) ≡ load ws)
  saved_anew = let f = (loaded b ws h).formed in (new_size (load ws), saved_loads b (load ws) f, saved_same b (load ws) f)

  pub loaded_same : record_size ws ≡ vertex_size → save (load ws) ≡ ws
  unfolding save
  loaded_same e = ap (λ (m : ℕ). save_as m (load ws)) (sym e) ∙ (loaded b ws h).again

-- equal words, of whichever record, come from equal graphs
pub one_graph : (b c : Bounds) (g h : Graph) → well_formed b g ≡ true → well_formed c h ≡ true → {ws : List ℕ} → SavesAs g ws → SavesAs h ws → g ≡ h
one_graph b c g h p q {ws} s t = sym (loads_back b g p ws s) ∙ loads_back c h q ws t

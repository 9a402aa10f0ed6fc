-- The saved words of a well-formed graph have a sound verdict; so a verdict is sound exactly where the words load.
use Rattle.std.specs.Prelude.{◌==◌}
use Prim.Native.Nat.{ℕ, zero, suc, ◌+◌, ◌≤◌}
use mathlib.Core.Path.{◌≡◌, refl, sym, ap, ◌∙◌, subst}
use mathlib.Core.Logic.{◌↔◌}
use mathlib.Core.Bool.{Bool, true, false, not, ◌||◌}
use mathlib.Core.List.{List, [], ◌∷◌, ◌++◌, map}
use native.Mathlib.Omega.{arith}
use lib.Dec.{leb}
use lib.ListN.{length, drop}
use lib.Seq.{drop_at}
use borrow.Author.Tests.{eq-eqb, eqb-true, le-ltb, le-leb, not-true}
use Rattle.lists.specs.Choice.{◌⇒◌else◌}
use Rattle.lists.specs.Lists.{any, all, member, count, distinct, concat_map}
use Rattle.lists.specs.Keyed.{remove_by}
use Rattle.lists.proofs.Bools.{tf, ft, and_true}
use Rattle.lists.proofs.Sums.{count_has, Alike, alike_length}
use Rattle.graph.specs.declared.Reading.{Reading}
use Rattle.graph.specs.declared.Reading.TheVariants.{Untested, Silent, Heard}
use Rattle.graph.specs.Graph.{Vertex, Edge, Graph, vertex_number, edge_number, itself, is_vertex, has_vertex, reading_kind}
use Rattle.graph.specs.WellFormed.{Bounds, words_at, sound_vertex, sound_edge, well_formed}
use Rattle.image.specs.Image.{vertex_record, edge_record, incidences_of, vertex_offset, edge_offset, incidence_offset, save_as, vertex_count, edge_count, record_size, load, loadable, numbers_in}
use Rattle.image_check.specs.Checks.{walk, good_list, list_walk, sound_counts, parts_verdict, verdict}
use Rattle.image_check.proofs.Walks.{vertex_walk, edge_walk, degree_walk}
use Rattle.image.proofs.Sizes.{Size, record_size_lem}
use Rattle.image.proofs.Formed.{Formed, formed, vertex_facts, edge_facts}
use Rattle.image.proofs.RecordWords.{record_length, edges_back, Fits}
use Rattle.image.proofs.Ends.{has_number, sound_fits}
use Rattle.image.proofs.Loads.{vertex_words, edge_words, incidence_words, loaded}
use Rattle.image.proofs.Counts.{self_one, rem_count, rem_length}
use Rattle.image.proofs.Room.{few_vertices_lem, few_edges_lem}
use Rattle.lists.proofs.Members.{has_self}
use Rattle.image_check.proofs.DegreePass.{degree_whole}
use Rattle.image_check.proofs.SoundLoads.{sound_loads}
use Rattle.std.specs.Prelude.{Ok}

-- later numbers are not seen, once n is
later : (n : ℕ) (seen ns : List ℕ) → member n ns ≡ false → ((m : ℕ) → member m (n ∷ ns) ≡ true → member m seen ≡ false) → (m : ℕ) → member m ns ≡ true → member m (n ∷ seen) ≡ false
later n seen ns f k m h = go (n == m) refl
  where
    go : (t : Bool) → (n == m) ≡ t → (t || member m seen) ≡ false
    go true e = tf (sym h ∙ subst (λ (y : ℕ). member y ns ≡ false) (eqb-true n m e) f)
    go false e = k m (rw e h)

-- ---- vertices

module _ (size : ℕ) (z : Size size) where
  behind : (v : Vertex) (vs : List Vertex) → drop size (vertex_record size v ++ concat_map (vertex_record size) vs) ≡ concat_map (vertex_record size) vs
  behind v vs = drop_at (vertex_record size v) (concat_map (vertex_record size) vs) size (record_length size z v)

  vertices_walk : (b : Bounds) (g : Graph) (seen : List ℕ) (vs : List Vertex) (at : ℕ) → all (sound_vertex b g) vs ≡ true → distinct (map vertex_number vs) ≡ true →
      ((m : ℕ) → member m (map vertex_number vs) ≡ true → member m seen ≡ false) → vertex_walk size b.vertices b.types seen (length vs) (concat_map (vertex_record size) vs) at ≡ Ok tt
  unfolding walk
  vertices_walk b g seen [] at h d k = refl
  vertices_walk b g seen (v ∷ vs) at h d k =
      let a = and_true (sound_vertex b g v) (all (sound_vertex b g) vs) h in
      let f = vertex_facts b g v a.0 in
      let e = and_true (not (member v.number (map vertex_number vs))) (distinct (map vertex_number vs)) d in
      rw (f.number, f.type, f.value, k v.number (has_self v.number (map vertex_number vs)), behind v vs)
      (vertices_walk b g (v.number ∷ seen) vs (at + size) a.1 e.1 (later v.number seen (map vertex_number vs) (not-true (member v.number (map vertex_number vs)) e.0) k))

  numbers_each : (vs : List Vertex) → numbers_in size (length vs) (concat_map (vertex_record size) vs) ≡ map vertex_number vs
  unfolding numbers_in
  numbers_each [] = refl
  numbers_each (v ∷ vs) = rw (behind v vs) (ap (λ (l : List ℕ). v.number ∷ l) (numbers_each vs))

  -- each degree is the length of its list, and so the ends of its vertex
  degrees_walk : (es : List Edge) (vs : List Vertex) (at : ℕ) → Fits es vs → degree_walk size es (length vs) (concat_map (vertex_record size) vs) at ≡ Ok tt
  unfolding walk Fits
  degrees_walk es [] at f = refl
  degrees_walk es (v ∷ vs) at f =
      rw (
        le-ltb _ size (degree_whole size z v.number v.type v.value (length (words_at es v.number)) (length v.incidences) (concat_map (vertex_record size) vs) f.0),
        behind v vs,
      )
      (degrees_walk es vs (at + size) f.1)

-- ---- edges

pub kind_le : (r : Reading) → leb (reading_kind r) 2 ≡ true
kind_le Untested = refl
kind_le Silent = refl
kind_le (Heard d) = refl

edges_walk : (b : Bounds) (g : Graph) (ns seen : List ℕ) (es : List Edge) (at : ℕ) → ((m : ℕ) → has_vertex g m ≡ member m ns) → all (sound_edge b g) es ≡ true →
    distinct (map edge_number es) ≡ true → ((m : ℕ) → member m (map edge_number es) ≡ true → member m seen ≡ false) →
    edge_walk b.edges b.types ns seen (length es) (concat_map edge_record es) at ≡ Ok tt
unfolding walk
edges_walk b g ns seen [] at u h d k = refl
edges_walk b g ns seen (x ∷ es) at u h d k =
    let a = and_true (sound_edge b g x) (all (sound_edge b g) es) h in
    let f = edge_facts b g x a.0 in
    let e = and_true (not (member x.number (map edge_number es))) (distinct (map edge_number es)) d in
    rw (f.number, k x.number (has_self x.number (map edge_number es)), sym (u x.alpha) ∙ f.starts, sym (u x.omega) ∙ f.stops, f.type, kind_le x.reading, f.reading)
    (edges_walk b g ns (x.number ∷ seen) es (at + 6) u a.1 e.1 (later x.number seen (map edge_number es) (not-true (member x.number (map edge_number es)) e.0) k))

-- ---- lists

pub alike_good : (d : ℕ) (wanted xs rest : List ℕ) → length wanted ≡ d → Alike xs wanted → good_list d wanted (xs ++ rest) ≡ d
unfolding good_list
alike_good zero wanted xs rest e k = refl
alike_good (suc d) [] xs rest e k = absurd (omega arith)
alike_good (suc d) (y ∷ ys) [] rest e k = absurd (omega (arith, self_one y, k y))
alike_good (suc d) (y ∷ ys) (w ∷ xs) rest e k =
    let c : 1 ≤ count w (y ∷ ys) = omega (arith, self_one w, k w) in
    rw (count_has w (y ∷ ys) c)
    (ap suc (alike_good d (remove_by itself w (y ∷ ys)) xs rest (omega (arith, rem_length w (y ∷ ys) c)) (λ x. omega (arith, rem_count w (y ∷ ys) c x, k x))))

lists_walk : (b : Bounds) (g : Graph) (vs : List Vertex) (at : ℕ) → all (sound_vertex b g) vs ≡ true → list_walk g.eseq (map vertex_number vs) (concat_map incidences_of vs) at ≡ Ok tt
unfolding list_walk
lists_walk b g [] at h = refl
lists_walk b g (v ∷ vs) at h =
    let a = and_true (sound_vertex b g v) (all (sound_vertex b g) vs) h in
    let k = (vertex_facts b g v a.0).words in
    let wanted = words_at g.eseq v.number in
    rw (
      alike_good (length wanted) wanted v.incidences (concat_map incidences_of vs) refl k,
      le-ltb (length wanted) (length wanted) (omega arith),
      drop_at v.incidences (concat_map incidences_of vs) (length wanted) (alike_length v.incidences wanted k),
    )
    (lists_walk b g vs (at + length wanted) a.1)

-- ---- the whole

no_edges : (b : Bounds) (g : Graph) → length g.vseq ≡ 0 → all (sound_edge b g) g.eseq ≡ true → length g.eseq ≡ 0
no_edges b g z h = go g.vseq g.eseq refl z h
  where
    go : (vs : List Vertex) (es : List Edge) → g.vseq ≡ vs → length vs ≡ 0 → all (sound_edge b g) es ≡ true → length es ≡ 0
    go vs [] e z h = refl
    go [] (x ∷ es) e z h = ft (sym (ap (any (is_vertex x.alpha)) e) ∙ (edge_facts b g x (and_true (sound_edge b g x) (all (sound_edge b g) es) h).0).starts)
    go (v ∷ vs) (x ∷ es) e z h = absurd (omega arith)

module _ (b : Bounds) (g : Graph) (h : well_formed b g ≡ true) where
  p : Formed b g
  p = formed b g h

  counted : sound_counts b.vertices b.edges (length g.vseq) (length g.eseq) ≡ true
  unfolding sound_counts
  counted =
      rw (le-leb (length g.vseq) b.vertices (few_vertices_lem b g h), le-leb (length g.eseq) b.edges (few_edges_lem b g h))
      (go (length g.vseq == 0) refl)
    where
      go : (t : Bool) → (length g.vseq == 0) ≡ t → (t ⇒ (length g.eseq == 0) else true) ≡ true
      go true e = eq-eqb (length g.eseq) 0 (no_edges b g (eqb-true (length g.vseq) 0 e) p.edges_sound)
      go false e = refl

  module _ (size : ℕ) (z : Size size) where
    first : vertex_walk size b.vertices b.types [] (length g.vseq) (concat_map (vertex_record size) g.vseq) vertex_offset ≡ Ok tt
    first = vertices_walk size z b g [] g.vseq vertex_offset p.vertices_sound p.distinct_vertex_numbers (λ m e. refl)

    second : (at : ℕ) → edge_walk b.edges b.types (map vertex_number g.vseq) [] (length g.eseq) (concat_map edge_record g.eseq) at ≡ Ok tt
    second at = edges_walk b g (map vertex_number g.vseq) [] g.eseq at (λ m. has_number m g.vseq) p.edges_sound p.distinct_edge_numbers (λ m e. refl)

    third : degree_walk size g.eseq (length g.vseq) (concat_map (vertex_record size) g.vseq) vertex_offset ≡ Ok tt
    third = degrees_walk size z g.eseq g.vseq vertex_offset (sound_fits b g g.vseq p.vertices_sound)

    fourth : (at : ℕ) → list_walk g.eseq (map vertex_number g.vseq) (concat_map incidences_of g.vseq) at ≡ Ok tt
    fourth at = lists_walk b g g.vseq at p.vertices_sound

    -- all four walks over saved words
    saved_sound : (sound_counts b.vertices b.edges (vertex_count (save_as size g)) (edge_count (save_as size g)) ≡ true) × (parts_verdict size b (save_as size g) ≡ Ok tt)
    unfolding save_as
    saved_sound = (
      counted,
      rw (vertex_words size z g, edge_words size z g, incidence_words size z g, numbers_each size z g.vseq, edges_back g.eseq, first)
          (rw (second (edge_offset size (length g.vseq))) (rw third (fourth (incidence_offset size (length g.vseq) (length g.eseq))))),
    )

pub loads_sound : (b : Bounds) (ws : List ℕ) → loadable b ws ≡ true → verdict b ws ≡ Ok tt
unfolding verdict
loads_sound b ws h =
    let l = loaded b ws h in
    let s = saved_sound b (load ws) l.formed (record_size ws) (record_size_lem ws) in
    rw (
      l.header,
      subst (λ (us : List ℕ). sound_counts b.vertices b.edges (vertex_count us) (edge_count us) ≡ true) l.again s.0,
    )
    (subst (λ (us : List ℕ). parts_verdict (record_size ws) b us ≡ Ok tt) l.again s.1)

-- a verdict is sound for exactly the words that load
pub sound_exactly : (b : Bounds) (ws : List ℕ) → (verdict b ws ≡ Ok tt) ↔ (loadable b ws ≡ true)
sound_exactly b ws = (sound_loads b ws, loads_sound b ws)

-- Words with a sound verdict are loadable.
use Rattle.std.specs.Prelude.{◌==◌}
use Prim.Native.Nat.{ℕ, zero, suc, ◌+◌, ◌*◌, ◌-◌, ◌^◌, ◌≤◌}
use mathlib.Core.Path.{◌≡◌, refl, sym, ap, ap₂, ◌∙◌}
use mathlib.Core.Bool.{Bool, true, false, not, ◌&&◌, ◌||◌}
use mathlib.Core.List.{List, [], ◌∷◌, ◌++◌, map}
use native.Mathlib.Omega.{arith}
use lib.Dec.{leb, ltb, eqb}
use lib.ListN.{length, get_or, take, drop, length-drop, take-append-drop}
use borrow.Author.Tests.{ne_eqb, eqb-true, eqb-false, leb-true, not-true}
use Rattle.lists.specs.Choice.{◌⇒◌else◌, to_bit, within}
use Rattle.lists.specs.Lists.{all, member, count, distinct, concat_map}
use Rattle.lists.specs.Keyed.{remove_by}
use Rattle.lists.proofs.Bools.{ft, and_both}
use Rattle.lists.proofs.Sums.{has_count, Alike, alike_same, alike_length}
use Rattle.graph.specs.declared.Reading.TheVariants.{Untested, Silent, Heard}
use Rattle.graph.specs.Graph.{Edge, Graph, vertex_number, edge_number, itself, has_vertex, vertex_numbers, edge_numbers, reading_kind, decimetres, reading_of, is_reading}
use Rattle.graph.specs.WellFormed.{Bounds, words_at, same_words, sound_vertex, sound_edge, well_formed}
use Rattle.image.specs.Image.{degree_word, vertex_record, edge_size, edge_record, incidences_of, vertex_offset, edge_offset, incidence_offset, save_as, vertex_count, edge_count, record_size}
use Rattle.image.specs.Image.{numbers_in}
use Rattle.image.specs.Image.{sound_header, vertex_part, edge_part, incidence_part, edges_from, vertices_from, load, loadable}
use Rattle.image_check.specs.Checks.{good_list, list_walk, sound_counts, numbers_of, edges_of, vertex_verdict, edge_verdict, degree_verdict, list_verdict, passed, part_limits, edge_by}
use Rattle.image_check.proofs.Walks.{vertex_walk, edge_walk, degree_walk}
use Rattle.image_check.specs.Checks.{parts_verdict, verdict}
use Rattle.image.proofs.Sizes.{Size, size_range, degree_cut, record_size_lem}
use Rattle.image.proofs.Loads.{saves_by, saves_loads}
use Rattle.image.proofs.Ends.{has_number}
use Rattle.image.proofs.Counts.{rem_count, rem_length}
use Rattle.image.proofs.Headers.{sound_front}
use Rattle.image.proofs.Parts.{split_words, long_vertices, long_edges}
use Rattle.image_check.proofs.Verdicts.{header_not, list_sound, ended_nil, then_sound, edge_ok}
use Rattle.image_check.proofs.Numbers.{numbers_distinct}
use Rattle.image_check.proofs.VertexPass.{vertex_step, walk_distinct}
use Rattle.image_check.proofs.EdgePass.{edge_step}
use Rattle.image_check.proofs.DegreePass.{degree_step}
use Rattle.std.specs.Prelude.{Ok, Err}
use Rattle.image_check.specs.declared.BadImage.TheVariants.{Header}

-- ---- one list

pub good_alike : (d : ℕ) (wanted ws : List ℕ) → length wanted ≡ d → d ≤ good_list d wanted ws → Alike (take d ws) wanted
unfolding good_list
good_alike zero [] ws e h x = refl
good_alike zero (y ∷ ys) ws e h x = absurd (omega arith)
good_alike (suc d) wanted [] e h x = absurd (omega arith)
good_alike (suc d) wanted (w ∷ ws) e h x = go (λ k m. good_alike d (remove_by itself w wanted) ws k m x) (member w wanted) refl h
  where
    go : (length (remove_by itself w wanted) ≡ d → d ≤ good_list d (remove_by itself w wanted) ws → count x (take d ws) ≡ count x (remove_by itself w wanted)) → (t : Bool) → member w wanted ≡ t →
        suc d ≤ (t ⇒ suc (good_list d (remove_by itself w wanted) ws) else 0) → to_bit (w == x) + count x (take d ws) ≡ count x wanted
    go ih true f h =
        let c = has_count w wanted f in
        omega (arith, ih (omega (arith, rem_length w wanted c)) (omega arith), rem_count w wanted c x)
    go ih false f h = absurd (omega arith)

-- ---- vertices

numbers_load : (size : ℕ) (es : List Edge) (k : ℕ) (vs ws : List ℕ) → map vertex_number (vertices_from size es k vs ws) ≡ numbers_in size k vs
unfolding vertices_from numbers_in
numbers_load size es zero vs ws = refl
numbers_load size es (suc k) vs ws = ap (λ (l : List ℕ). get_or vs 0 0 ∷ l) (numbers_load size es k (drop size vs) (drop (length (words_at es (get_or vs 0 0))) ws))

vertices_sound : (size : ℕ) (b : Bounds) (g : Graph) (seen : List ℕ) (k : ℕ) (vs ws : List ℕ) (at to : ℕ) → vertex_walk size b.vertices b.types seen k vs at ≡ Ok tt →
    list_walk g.eseq (numbers_in size k vs) ws to ≡ Ok tt → all (sound_vertex b g) (vertices_from size g.eseq k vs ws) ≡ true
unfolding list_walk numbers_in vertices_from
vertices_sound size b g seen zero vs ws at to s l = refl
vertices_sound size b g seen (suc k) vs ws at to s l =
    let n = get_or vs 0 0 in
    let t = get_or vs 1 0 in
    let x = get_or vs 2 0 in
    let wanted = words_at g.eseq n in
    let d = length wanted in
    let r = vertex_step size b.vertices b.types seen k vs at s in
    let q = list_sound d to (good_list d wanted ws) (list_walk g.eseq (numbers_in size k (drop size vs)) (drop d ws) (to + d)) l in
    and_both _ (all (sound_vertex b g) (vertices_from size g.eseq k (drop size vs) (drop d ws)))
    (and_both _ (same_words (take d ws) wanted)
    (and_both _ (ltb x (2 ^ 32)) (and_both (within 1 b.vertices n) (ltb t b.types) r.ok.number r.ok.type) r.ok.value)
    (alike_same (take d ws) wanted (good_alike d wanted ws refl q.0)))
    (vertices_sound size b g (n ∷ seen) k (drop size vs) (drop d ws) (at + size) (to + d) r.rest q.1)

-- ---- edges

pub reading_known : (k d : ℕ) → is_reading k d ≡ true → (reading_kind (reading_of k d) ≡ k) × (decimetres (reading_of k d) ≡ d)
reading_known k d h = go (k == 0) (k == 1) refl refl
  where
    low : leb k 1 ≡ true → d ≡ 0
    low f = let q : eqb k 2 ≡ false = ne_eqb k 2 (λ e. omega (arith, leb-true k 1 f)) in part (eqb d 0) refl q (rw (f, q) at h)
      where
        part : (t : Bool) → eqb d 0 ≡ t → eqb k 2 ≡ false → (t || false) ≡ true → d ≡ 0
        part true e q r = eqb-true d 0 e
        part false e q r = ft r

    high : leb k 1 ≡ false → k ≡ 2
    high f = part (eqb k 2) refl (rw f at h)
      where
        part : (t : Bool) → eqb k 2 ≡ t → (t && leb d 9999) ≡ true → k ≡ 2
        part true e r = eqb-true k 2 e
        part false e r = ft r

    go : (x y : Bool) → (k == 0) ≡ x → (k == 1) ≡ y →
        (reading_kind (x ⇒ Untested else y ⇒ Silent else Heard d) ≡ k) × (decimetres (x ⇒ Untested else y ⇒ Silent else Heard d) ≡ d)
    go true y e f = let q = eqb-true k 0 e in (sym q, sym (low (rw q)))
    go false true e f = let q = eqb-true k 1 f in (sym q, sym (low (rw q)))
    go false false e f = (two (leb k 1) refl, refl)
      where
        two : (t : Bool) → leb k 1 ≡ t → 2 ≡ k
        two true i = absurd (omega (arith, leb-true k 1 i, eqb-false k 0 e, eqb-false k 1 f))
        two false i = sym (high i)

edge_numbers_lem : (k : ℕ) (ws : List ℕ) → map edge_number (edges_from k ws) ≡ numbers_in edge_size k ws
unfolding edges_from numbers_in
edge_numbers_lem zero ws = refl
edge_numbers_lem (suc k) ws = ap (λ (l : List ℕ). get_or ws 0 0 ∷ l) (edge_numbers_lem k (drop edge_size ws))

edges_distinct : (cap types : ℕ) (vs seen : List ℕ) (k : ℕ) (ws : List ℕ) (at : ℕ) → edge_walk cap types vs seen k ws at ≡ Ok tt → distinct (map edge_number (edges_from k ws)) ≡ true
edges_distinct cap types vs seen k ws at s = ap distinct (edge_numbers_lem k ws) ∙ numbers_distinct (edge_by (part_limits cap types) vs) 6 6 fresh seen k ws at s
  where
    fresh : (us ws : List ℕ) → 6 ≤ passed (edge_by (part_limits cap types) vs us ws) → member (get_or ws 0 0) us ≡ false
    fresh us ws h =
        not-true (member (get_or ws 0 0) us)
        (edge_ok cap types (not (member (get_or ws 0 0) us)) (member (get_or ws 1 0) vs) (member (get_or ws 2 0) vs) (get_or ws 0 0) (get_or ws 3 0) (get_or ws 4 0) (get_or ws 5 0) h).new

edges_sound : (b : Bounds) (g : Graph) (vs seen : List ℕ) (k : ℕ) (ws : List ℕ) (at : ℕ) → edge_walk b.edges b.types vs seen k ws at ≡ Ok tt →
    ((m : ℕ) → member m vs ≡ true → has_vertex g m ≡ true) → all (sound_edge b g) (edges_from k ws) ≡ true
unfolding edges_from
edges_sound b g vs seen zero ws at s u = refl
edges_sound b g vs seen (suc k) ws at s u =
    let n = get_or ws 0 0 in
    let a = get_or ws 1 0 in
    let o = get_or ws 2 0 in
    let t = get_or ws 3 0 in
    let r = edge_step b.edges b.types vs seen k ws at s in
    let q = reading_known (get_or ws 4 0) (get_or ws 5 0) r.ok.reading in
    and_both _ (all (sound_edge b g) (edges_from k (drop edge_size ws)))
    (and_both _ (is_reading (reading_kind (reading_of (get_or ws 4 0) (get_or ws 5 0))) (decimetres (reading_of (get_or ws 4 0) (get_or ws 5 0))))
    (and_both _ (ltb t b.types)
    (and_both _ (has_vertex g o) (and_both (within 1 b.edges n) (has_vertex g a) r.ok.number (u a r.ok.starts)) (u o r.ok.stops))
    r.ok.type)
    (rw (q.0, q.1) r.ok.reading))
    (edges_sound b g vs (n ∷ seen) k (drop edge_size ws) (at + edge_size) r.rest u)

-- ---- the words again

cut3 : (ws : List ℕ) (m : ℕ) → length ws ≡ 3 + m → get_or ws 0 0 ∷ get_or ws 1 0 ∷ get_or ws 2 0 ∷ drop 3 ws ≡ ws
cut3 [] m e = absurd (omega arith)
cut3 (a ∷ []) m e = absurd (omega arith)
cut3 (a ∷ b ∷ []) m e = absurd (omega arith)
cut3 (a ∷ b ∷ c ∷ ws) m e = refl

pub cut6 : (ws : List ℕ) (m : ℕ) → length ws ≡ 6 + m → get_or ws 0 0 ∷ get_or ws 1 0 ∷ get_or ws 2 0 ∷ get_or ws 3 0 ∷ get_or ws 4 0 ∷ get_or ws 5 0 ∷ drop 6 ws ≡ ws
cut6 (a ∷ b ∷ c ∷ ws) m e = ap (λ (l : List ℕ). a ∷ b ∷ c ∷ l) (cut3 ws m (omega arith))
cut6 [] m e = absurd (omega arith)
cut6 (a ∷ []) m e = absurd (omega arith)
cut6 (a ∷ b ∷ []) m e = absurd (omega arith)

pub cut_vertex : (size : ℕ) → Size size → (ws : List ℕ) (m : ℕ) → length ws ≡ size + m →
    get_or ws 0 0 ∷ get_or ws 1 0 ∷ get_or ws 2 0 ∷ (degree_word size (get_or ws 3 0) ++ drop size ws) ≡ ws
cut_vertex size z ws m e =
    ap (λ (l : List ℕ). get_or ws 0 0 ∷ get_or ws 1 0 ∷ get_or ws 2 0 ∷ l) (degree_cut size z ws m e)
    ∙ cut3 ws (size - 3 + m) (omega (arith, (size_range size z).0))

-- where degrees and lists are sound, the records have their words again
vertices_again : (size : ℕ) → Size size → (es : List Edge) (k : ℕ) (vs ws : List ℕ) (at to : ℕ) → degree_walk size es k vs at ≡ Ok tt →
    list_walk es (numbers_in size k vs) ws to ≡ Ok tt → length vs ≡ size * k →
    (concat_map (vertex_record size) (vertices_from size es k vs ws) ≡ vs) × (length (vertices_from size es k vs ws) ≡ k)
unfolding vertices_from list_walk numbers_in
vertices_again size z es zero [] ws at to s l e = (refl, refl)
vertices_again size z es zero (x ∷ vs) ws at to s l e = absurd (omega arith)
vertices_again size z es (suc k) vs ws at to s l e =
    let n = get_or vs 0 0 in
    let wanted = words_at es n in
    let d = length wanted in
    let q = list_sound d to (good_list d wanted ws) (list_walk es (numbers_in size k (drop size vs)) (drop d ws) (to + d)) l in
    let c = degree_step size z es k vs at s in
    let r = vertices_again size z es k (drop size vs) (drop d ws) (at + size) (to + d) c.1 q.1 (omega (arith, length-drop size vs)) in
    let t : length (take d ws) ≡ d = alike_length (take d ws) wanted (good_alike d wanted ws refl q.0) in (
      ap (λ (l : List ℕ). n ∷ get_or vs 1 0 ∷ get_or vs 2 0 ∷ l) (ap₂ ◌++◌ (ap (degree_word size) t ∙ sym c.0) r.0) ∙ cut_vertex size z vs (size * k) (omega arith),
      ap suc r.1,
    )

edges_again : (cap types : ℕ) (vs seen : List ℕ) (k : ℕ) (ws : List ℕ) (at : ℕ) → edge_walk cap types vs seen k ws at ≡ Ok tt → length ws ≡ edge_size * k →
    (concat_map edge_record (edges_from k ws) ≡ ws) × (length (edges_from k ws) ≡ k)
unfolding edges_from
edges_again cap types vs seen zero [] at s e = (refl, refl)
edges_again cap types vs seen zero (x ∷ ws) at s e = absurd (omega arith)
edges_again cap types vs seen (suc k) ws at s e =
    let r = edge_step cap types vs seen k ws at s in
    let q = reading_known (get_or ws 4 0) (get_or ws 5 0) r.ok.reading in
    let i = edges_again cap types vs (get_or ws 0 0 ∷ seen) k (drop 6 ws) (at + 6) r.rest (omega (arith, length-drop 6 ws)) in
    (rw (q.0, q.1, i.0) (cut6 ws (6 * k) (omega arith)), ap suc i.1)

lists_again : (size : ℕ) (es : List Edge) (k : ℕ) (vs ws : List ℕ) (at : ℕ) → list_walk es (numbers_in size k vs) ws at ≡ Ok tt →
    concat_map incidences_of (vertices_from size es k vs ws) ≡ ws
unfolding list_walk numbers_in vertices_from
lists_again size es zero vs ws at l = sym (ended_nil ws at l)
lists_again size es (suc k) vs ws at l =
    let wanted = words_at es (get_or vs 0 0) in
    let d = length wanted in
    let q = list_sound d at (good_list d wanted ws) (list_walk es (numbers_in size k (drop size vs)) (drop d ws) (at + d)) l in
    ap (λ (z : List ℕ). take d ws ++ z) (lists_again size es k (drop size vs) (drop d ws) (at + d) q.1) ∙ take-append-drop d ws

-- ---- the parts of a sound verdict

pub record Sounds (b : Bounds) (ws : List ℕ) : Type 0 where
  pub header : sound_header ws ≡ true
  pub vertices : vertex_verdict (record_size ws) b ws ≡ Ok tt
  pub edges : edge_verdict (record_size ws) b ws ≡ Ok tt
  pub degrees : degree_verdict (record_size ws) ws ≡ Ok tt
  pub lists : list_verdict (record_size ws) ws ≡ Ok tt

pub sounds : (b : Bounds) (ws : List ℕ) → verdict b ws ≡ Ok tt → Sounds b ws
unfolding verdict
sounds b ws h = go (sound_header ws) (sound_counts b.vertices b.edges (vertex_count ws) (edge_count ws)) refl h
  where
    size : ℕ
    size = record_size ws

    go : (x y : Bool) → sound_header ws ≡ x → (not (x && y) ⇒ (Err Header) else parts_verdict size b ws) ≡ Ok tt → Sounds b ws
    go true true e h =
        let p = then_sound (vertex_verdict size b ws) _ h in
        let q = then_sound (edge_verdict size b ws) _ p.1 in
        let r = then_sound (degree_verdict size ws) (list_verdict size ws) q.1 in
        record { header = e; vertices = p.0; edges = q.0; degrees = r.0; lists = r.1 }
    go true false e h = absurd (header_not h)
    go false y e h = absurd (header_not h)

pub sound_loads : (b : Bounds) (ws : List ℕ) → verdict b ws ≡ Ok tt → loadable b ws ≡ true
unfolding load save_as well_formed
sound_loads b ws h = saves_loads b (load ws) formed ws (saves_by size z (load ws) ws again)
  where
    s : Sounds b ws
    s = sounds b ws h

    size : ℕ
    size = record_size ws

    z : Size size
    z = record_size_lem ws

    v : ℕ
    v = vertex_count ws

    e : ℕ
    e = edge_count ws

    es : List Edge
    es = edges_of size ws

    vs : List ℕ
    vs = vertex_part size ws

    is : List ℕ
    is = incidence_part size ws

    numbers : map vertex_number (load ws).vseq ≡ numbers_of size ws
    numbers = numbers_load size es v vs is

    known : (k : ℕ) → member k (numbers_of size ws) ≡ true → has_vertex (load ws) k ≡ true
    known k x = has_number k (load ws).vseq ∙ ap (member k) numbers ∙ x

    formed : well_formed b (load ws) ≡ true
    formed =
        and_both _ (all (sound_edge b (load ws)) (load ws).eseq)
        (and_both _ (all (sound_vertex b (load ws)) (load ws).vseq)
        (and_both (distinct (vertex_numbers (load ws))) (distinct (edge_numbers (load ws)))
        (ap distinct numbers ∙ walk_distinct size b.vertices b.types [] v vs vertex_offset s.vertices)
        (edges_distinct b.edges b.types (numbers_of size ws) [] e (edge_part size ws) (edge_offset size v) s.edges))
        (vertices_sound size b (load ws) [] v vs is vertex_offset (incidence_offset size v e) s.vertices s.lists))
        (edges_sound b (load ws) (numbers_of size ws) [] e (edge_part size ws) (edge_offset size v) s.edges known)

    vs_again : (concat_map (vertex_record size) (load ws).vseq ≡ vs) × (length (load ws).vseq ≡ v)
    vs_again = vertices_again size z es v vs is vertex_offset (incidence_offset size v e) s.degrees s.lists (long_vertices ws s.header)

    es_again : (concat_map edge_record es ≡ edge_part size ws) × (length es ≡ e)
    es_again = edges_again b.edges b.types (numbers_of size ws) [] e (edge_part size ws) (edge_offset size v) s.edges (long_edges ws s.header)

    again : save_as size (load ws) ≡ ws
    again =
        rw (vs_again.1, es_again.1, vs_again.0, es_again.0, lists_again size es v vs is (incidence_offset size v e) s.lists)
        (ap (λ (l : List ℕ). l ++ (vs ++ (edge_part size ws ++ is))) (sym (sound_front ws s.header)) ∙ split_words size ws)

-- The offset of a verdict: the part it stands in, and that nothing that loads has the words read before it and this one.
use Prim.Native.Nat.{ℕ, zero, suc, ◌+◌, ◌*◌, ◌≤◌, ◌<◌}
use mathlib.Core.Path.{◌≡◌, refl, sym, ap, ap₂, ◌∙◌, subst}
use mathlib.Core.Logic.{◌⊎◌, inl, inr}
use mathlib.Core.Bool.{Bool, true, false, not, ◌&&◌}
use mathlib.Core.List.{List, [], ◌∷◌}
use native.Mathlib.Omega.{arith}
use lib.Dec.{ltb}
use lib.ListN.{length, get_or, take, drop, length-take, length-drop, get_or-eq_default}
use lib.Seq.{get_or-take, get_or-drop, ext_get_or}
use borrow.Author.Tests.{ltb-true, ltb-false}
use Rattle.lists.specs.Choice.{◌⇒◌else◌}
use Rattle.lists.specs.Lists.{distinct}
use Rattle.graph.specs.Graph.{Edge}
use Rattle.graph.specs.WellFormed.{Bounds, words_at}
use Rattle.image.specs.Image.{edge_size, vertex_offset, edge_offset, incidence_offset, length_as, vertex_count, edge_count, record_size, sound_header, vertex_part, edge_part, incidence_part}
use Rattle.image.specs.Image.{numbers_in}
use Rattle.image.specs.Image.{edges_from, loadable}
use Rattle.image_check.specs.Checks.{good_list, list_walk, sound_counts, numbers_of, edges_of, vertex_verdict, edge_verdict, degree_verdict, list_verdict}
use Rattle.image_check.proofs.Walks.{vertex_walk, edge_walk, degree_walk}
use Rattle.image_check.specs.Checks.{parts_verdict, verdict}
use Rattle.image_check.specs.FirstBad.{pass_of, Begins}
use Rattle.image.proofs.Sizes.{size_range, row_in, row_back, record_size_lem, size_by}
use Rattle.image.proofs.Ends.{ends, ends_nil, ends_two}
use Rattle.image.proofs.Headers.{sound_length}
use Rattle.image_check.proofs.VertexPass.{walk_distinct}
use Rattle.image_check.proofs.EdgePass.{edge_step}
use Rattle.image_check.proofs.SoundLoads.{Sounds, sounds}
use Rattle.image_check.proofs.SavedSound.{loads_sound}
use Rattle.image_check.proofs.Offsets.{sound_record, sound_incidence, header_record, header_incidence, then_record, then_incidence, list_bad, row_drop, row_first, Place, vertex_range}
use Rattle.image_check.proofs.Offsets.{walk_no_incidence, vertex_prefix, edge_range, edge_prefix, degree_wrong, degrees_right, list_from}
use Rattle.image_check.proofs.Offsets.{list_no_bad_record, list_prefix}
use Rattle.image_check.proofs.ReadOrder.{header_plain, is_degree_lem, read_plain, read_degree, read_list, read_row, read_edge}
use Rattle.std.specs.Prelude.{Ok, Err}
use Rattle.image_check.specs.declared.BadImage.TheVariants.{Header, Record, Incidence}
use Rattle.image_check.specs.Checks.{Verdict}

-- ---- the walk that finds the bad word

module _ (b : Bounds) (ws : List ℕ) where
  abbrev size : ℕ
  size = record_size ws

  pub record Headed (v : Verdict) : Type 0 where
    pub header : sound_header ws ≡ true
    pub counts : sound_counts b.vertices b.edges (vertex_count ws) (edge_count ws) ≡ true
    pub parts : parts_verdict (record_size ws) b ws ≡ v

  headed : (v : Verdict) → (Err Header ≡ v → ⊥) → verdict b ws ≡ v → Headed v
  unfolding verdict
  headed v n h = go (sound_header ws) (sound_counts b.vertices b.edges (vertex_count ws) (edge_count ws)) refl refl h
    where
      go : (x y : Bool) → sound_header ws ≡ x → sound_counts b.vertices b.edges (vertex_count ws) (edge_count ws) ≡ y →
          (not (x && y) ⇒ (Err Header) else parts_verdict (record_size ws) b ws) ≡ v → Headed v
      go true true e f h = record { header = e; counts = f; parts = h }
      go true false e f h = absurd (n h)
      go false y e f h = absurd (n h)

  pub record_headed : (k : ℕ) → verdict b ws ≡ Err (Record k) → Headed (Err (Record k))
  record_headed k h = headed (Err (Record k)) header_record h

  pub incidence_headed : (k : ℕ) → verdict b ws ≡ Err (Incidence k) → Headed (Err (Incidence k))
  incidence_headed k h = headed (Err (Incidence k)) header_incidence h

  -- a bad record: of a vertex; of an edge, where all of these are sound; or by a degree, where all others are
  pub data Found (k : ℕ) : Type 0 where
    in_vertex : vertex_verdict (record_size ws) b ws ≡ Err (Record k) → Found k
    in_edge : vertex_verdict (record_size ws) b ws ≡ Ok tt → edge_verdict (record_size ws) b ws ≡ Err (Record k) → Found k
    in_degree : vertex_verdict (record_size ws) b ws ≡ Ok tt → edge_verdict (record_size ws) b ws ≡ Ok tt → degree_verdict (record_size ws) ws ≡ Err (Record k) → Found k

  pub record_found : (k : ℕ) → verdict b ws ≡ Err (Record k) → Found k
  record_found k h = elim (then_record (vertex_verdict size b ws) _ k (record_headed k h).parts) [
    | inl x ↦ in_vertex x
    | inr x ↦ elim (then_record (edge_verdict size b ws) _ k x.1) [
      | inl y ↦ in_edge x.0 y
      | inr y ↦ elim (then_record (degree_verdict size ws) (list_verdict size ws) k y.1) [
        | inl z ↦ in_degree x.0 y.0 z
        | inr z ↦ absurd (list_no_bad_record (edges_of size ws) (numbers_of size ws) (incidence_part size ws) (incidence_offset size (vertex_count ws) (edge_count ws)) k z.1)
      ]
    ]
  ]

  -- a bad incidence: all records are sound
  pub record Listed (k : ℕ) : Type 0 where
    pub vertices : vertex_verdict (record_size ws) b ws ≡ Ok tt
    pub edges : edge_verdict (record_size ws) b ws ≡ Ok tt
    pub degrees : degree_verdict (record_size ws) ws ≡ Ok tt
    pub lists : list_verdict (record_size ws) ws ≡ Err (Incidence k)

  pub incidence_found : (k : ℕ) → verdict b ws ≡ Err (Incidence k) → Listed k
  incidence_found k h = elim (then_incidence (vertex_verdict size b ws) _ k (incidence_headed k h).parts) [
    | inl x ↦ absurd (walk_no_incidence _ _ _ _ [] (vertex_count ws) (vertex_part size ws) vertex_offset k x)
    | inr x ↦ elim (then_incidence (edge_verdict size b ws) _ k x.1) [
      | inl y ↦ absurd (walk_no_incidence _ _ _ _ [] (edge_count ws) (edge_part size ws) (edge_offset size (vertex_count ws)) k y)
      | inr y ↦ elim (then_incidence (degree_verdict size ws) (list_verdict size ws) k y.1) [
        | inl z ↦ absurd (walk_no_incidence _ _ _ _ tt (vertex_count ws) (vertex_part size ws) vertex_offset k z)
        | inr z ↦ record { vertices = x.0; edges = y.0; degrees = z.0; lists = z.1 }
      ]
    ]
  ]

-- ---- the part that the offset stands in

-- the lists that sound records ask for are all the words of the incidence part
pub walk_ends : (cap types : ℕ) (ns seen : List ℕ) (k : ℕ) (ws : List ℕ) (at : ℕ) → distinct ns ≡ true → edge_walk cap types ns seen k ws at ≡ Ok tt → ends (edges_from k ws) ns ≡ 2 * k
unfolding edges_from
walk_ends cap types ns seen zero ws at d h = ends_nil ns
walk_ends cap types ns seen (suc k) ws at d h =
    let r = edge_step cap types ns seen k ws at h in
    let q = walk_ends cap types ns (get_or ws 0 0 ∷ seen) k (drop 6 ws) (at + 6) d r.rest in
    ends_two _ (edges_from k (drop 6 ws)) ns d r.ok.starts r.ok.stops ∙ omega (arith, q)

list_to : (es : List Edge) (ns ws : List ℕ) (at m : ℕ) → length ws ≡ ends es ns → list_walk es ns ws at ≡ Err (Incidence m) → m < at + length ws
unfolding list_walk ends
list_to es [] [] at m e h = absurd (sound_incidence h)
list_to es [] (w ∷ ws) at m e h = absurd (omega arith)
list_to es (n ∷ ns) ws at m e h =
    let wanted = words_at es n in
    let d = length wanted in
    elim (list_bad d at (good_list d wanted ws) m (list_walk es ns (drop d ws) (at + d)) h) [
      | inl x ↦ omega (arith, x.0, x.1, e)
      | inr x ↦ omega (arith, length-drop d ws, e, list_to es ns (drop d ws) (at + d) m (omega (arith, length-drop d ws, e)) x.1)
    ]

module _ (b : Bounds) (ws : List ℕ) (k : ℕ) where
  -- an offset of a bad record names a word of the records
  pub record_in : verdict b ws ≡ Err (Record k) → (vertex_offset ≤ k) × (k < incidence_offset (record_size ws) (vertex_count ws) (edge_count ws))
  record_in h = go (record_found b ws k h)
    where
      size' : ℕ
      size' = record_size ws

      go : Found b ws k → (vertex_offset ≤ k) × (k < incidence_offset size' (vertex_count ws) (edge_count ws))
      go (in_vertex x) =
          let r = vertex_range size' (record_size_lem ws) b.vertices b.types [] (vertex_count ws) (vertex_part size' ws) vertex_offset k x in
          (r.0, omega (arith, r.1))
      go (in_edge x y) =
          let r = edge_range b.edges b.types (numbers_of size' ws) [] (edge_count ws) (edge_part size' ws) (edge_offset size' (vertex_count ws)) k y in
          (omega (arith, r.0), r.1)
      go (in_degree x y q) =
          let w = degree_wrong size' (record_size_lem ws) (edges_of size' ws) (vertex_count ws) (vertex_part size' ws) vertex_offset k q in
          let p = w.at_row in
          (omega (arith, p.place), omega (arith, p.place, row_in size' p.row 3 (vertex_count ws) p.inside (omega (arith, w.four))))

  -- the incidence part is as long as the lists together
  pub incidences_all : sound_header ws ≡ true → vertex_verdict (record_size ws) b ws ≡ Ok tt → edge_verdict (record_size ws) b ws ≡ Ok tt →
      length (incidence_part (record_size ws) ws) ≡ ends (edges_of (record_size ws) ws) (numbers_of (record_size ws) ws)
  incidences_all t x y =
      let size = record_size ws in
      omega (
        arith,
        sound_length ws t,
        length-drop (incidence_offset size (vertex_count ws) (edge_count ws)) ws,
        walk_ends b.edges b.types (numbers_of size ws) [] (edge_count ws) (edge_part size ws) (edge_offset size (vertex_count ws))
            (walk_distinct size b.vertices b.types [] (vertex_count ws) (vertex_part size ws) vertex_offset x) y,
      )

  -- an offset of a bad incidence names a word of the incidence part
  pub incidence_in : verdict b ws ≡ Err (Incidence k) → (incidence_offset (record_size ws) (vertex_count ws) (edge_count ws) ≤ k) × (k < length ws)
  incidence_in h =
      let t = (incidence_headed b ws k h).header in
      let f = incidence_found b ws k h in
      let at = incidence_offset (record_size ws) (vertex_count ws) (edge_count ws) in
      let es = edges_of (record_size ws) ws in
      let ns = numbers_of (record_size ws) ws in
      let is = incidence_part (record_size ws) ws in (
        list_from es ns is at k f.lists,
        omega (arith, sound_length ws t, length-drop at ws, list_to es ns is at k (incidences_all t f.vertices f.edges) f.lists),
      )

-- ---- nothing that loads has the words read before the bad one, and this one

-- words of a part
part_word : (m n i : ℕ) (us ws : List ℕ) → (i < n → get_or us (m + i) 0 ≡ get_or ws (m + i) 0) → get_or (take n (drop m us)) i 0 ≡ get_or (take n (drop m ws)) i 0
part_word m n i us ws e = go (ltb i n) refl
  where
    go : (t : Bool) → ltb i n ≡ t → get_or (take n (drop m us)) i 0 ≡ get_or (take n (drop m ws)) i 0
    go true f =
        let l = ltb-true i n f in
        get_or-take n (drop m us) i 0 l ∙ get_or-drop m us i 0 ∙ e l ∙ sym (get_or-drop m ws i 0) ∙ sym (get_or-take n (drop m ws) i 0 l)
    go false f =
        let l = ltb-false i n f in
        get_or-eq_default (take n (drop m us)) 0 (omega (arith, length-take n (drop m us))) ∙ sym (get_or-eq_default (take n (drop m ws)) 0 (omega (arith, length-take n (drop m ws))))

-- the numbers of records are their first words
numbers_same : (size k : ℕ) (us ws : List ℕ) → ((j : ℕ) → j < k → get_or us (size * j + 0) 0 ≡ get_or ws (size * j + 0) 0) → numbers_in size k us ≡ numbers_in size k ws
unfolding numbers_in
numbers_same size zero us ws e = refl
numbers_same size (suc k) us ws e =
    ap₂ ◌∷◌ (sym (row_first size 0 us) ∙ e 0 (omega arith) ∙ row_first size 0 ws)
    (numbers_same size k (drop size us) (drop size ws) (λ j h. row_drop size j 0 us ∙ e (suc j) (omega arith) ∙ sym (row_drop size j 0 ws)))

module _ (b : Bounds) (ws : List ℕ) (k : ℕ) (us : List ℕ) (before : Begins ws k us) (this : get_or us k 0 ≡ get_or ws k 0) where
  -- words that pass 0 reads
  plain : (i : ℕ) → pass_of ws i ≡ 0 → (pass_of ws k ≡ 0 → i ≤ k) → get_or us i 0 ≡ get_or ws i 0
  plain i e h = go (pass_of ws k) refl
    where
      at : (t : Bool) → ltb i k ≡ t → pass_of ws k ≡ 0 → get_or us i 0 ≡ get_or ws i 0
      at true q z = before i (inr (e ∙ sym z, ltb-true i k q))
      at false q z = let f : k ≡ i = omega (arith, ltb-false i k q, h z) in subst (λ (n : ℕ). get_or us n 0 ≡ get_or ws n 0) f this

      go : (n : ℕ) → pass_of ws k ≡ n → get_or us i 0 ≡ get_or ws i 0
      go zero z = at (ltb i k) refl z
      go (suc n) z = before i (inl (omega (arith, e, z)))

  -- by a sound verdict of us
  module _ (low : vertex_offset ≤ k) (header : sound_header ws ≡ true) (s : Sounds b us) where
    abbrev n : ℕ
    n = record_size ws

    abbrev v : ℕ
    v = vertex_count ws

    abbrev e : ℕ
    e = edge_count ws

    abbrev o : ℕ
    o = edge_offset n v

    abbrev end : ℕ
    end = incidence_offset n v e

    head : (i : ℕ) → i < 6 → get_or us i 0 ≡ get_or ws i 0
    head i h = plain i (read_plain ws i (header_plain ws i h) (omega arith)) (λ z. omega arith)

    same_size : record_size us ≡ n
    same_size = size_by us ws (head 0 (omega arith)) (head 3 (omega arith))

    same_length : length us ≡ length ws
    same_length =
        let p : length_as (record_size us) (vertex_count us) (edge_count us) ≡ length_as n v e = rw (same_size, head 0 (omega arith), head 1 (omega arith)) in
        sound_length us s.header ∙ p ∙ sym (sound_length ws header)

    -- the vertex part of us, in the counts of ws
    abbrev vs : List ℕ
    vs = take (n * v) (drop vertex_offset us)

    abbrev es : List ℕ
    es = take (edge_size * e) (drop o us)

    -- a word but a degree of record j, where those up to it are read
    row_same : (j r : ℕ) → r < 3 → (pass_of ws k ≡ 0 → vertex_offset + (n * j + r) ≤ k) → get_or vs (n * j + r) 0 ≡ get_or (vertex_part n ws) (n * j + r) 0
    row_same j r l h =
        part_word vertex_offset (n * v) (n * j + r) us ws
        (λ q. plain (vertex_offset + (n * j + r)) (read_row ws (vertex_offset + (n * j + r)) r l (record { row = j; inside = row_back n j r v q; place = refl })) h)

    numbers_at : (pass_of ws k ≡ 0 → o ≤ k) → numbers_in n v vs ≡ numbers_of n ws
    numbers_at h =
        numbers_same n v vs (vertex_part n ws)
        (λ j q. row_same j 0 (omega arith) (λ z. omega (arith, h z, row_in n j 0 v q (omega (arith, (size_range n (record_size_lem ws)).0)))))

    edges_at : (pass_of ws k ≡ 0 → end ≤ k) → es ≡ edge_part n ws
    edges_at h =
        ext_get_or 0 es (edge_part n ws)
        (omega (
          arith,
          same_length,
          length-take (edge_size * e) (drop o us),
          length-take (edge_size * e) (drop o ws),
          length-drop o us,
          length-drop o ws,
        ))
        (λ i l. part_word o (edge_size * e) i us ws (λ q. plain (o + i) (read_edge ws (o + i) (omega arith) (omega arith)) (λ z. omega (arith, h z))))

    vertices_sound : vertex_walk n b.vertices b.types [] v vs vertex_offset ≡ Ok tt
    vertices_sound = rw (same_size, head 0 (omega arith)) at s.vertices

    edges_sound : edge_walk b.edges b.types (numbers_in n v vs) [] e es o ≡ Ok tt
    edges_sound = rw (same_size, head 0 (omega arith), head 1 (omega arith)) at s.edges

    degrees_sound : degree_walk n (edges_from e es) v vs vertex_offset ≡ Ok tt
    degrees_sound = rw (same_size, head 0 (omega arith), head 1 (omega arith)) at s.degrees

    lists_sound : list_walk (edges_from e es) (numbers_in n v vs) (drop end us) end ≡ Ok tt
    lists_sound = rw (same_size, head 0 (omega arith), head 1 (omega arith)) at s.lists

    not_vertex : vertex_verdict n b ws ≡ Err (Record k) → ⊥
    not_vertex h =
        sound_record (sym vertices_sound
        ∙ vertex_prefix n (record_size_lem ws) b.vertices b.types [] v vs (vertex_part n ws) vertex_offset k h (λ j r l q. row_same j r l (λ z. q)))

    not_edge : edge_verdict n b ws ≡ Err (Record k) → ⊥
    not_edge h =
        let r = edge_range b.edges b.types (numbers_of n ws) [] e (edge_part n ws) o k h in
        let at : edge_walk b.edges b.types (numbers_of n ws) [] e es o ≡ Ok tt = rw (numbers_at (λ z. r.0)) at edges_sound in
        sound_record (sym at
        ∙ edge_prefix b.edges b.types (numbers_of n ws) [] e es (edge_part n ws) o k h
        (λ i l. part_word o (edge_size * e) i us ws (λ q. plain (o + i) (read_edge ws (o + i) (omega arith) (omega arith)) (λ z. l))))

    -- a degree that disagrees with the edges does so in us
    not_degree : degree_verdict n ws ≡ Err (Record k) → ⊥
    not_degree h =
        let w = degree_wrong n (record_size_lem ws) (edges_of n ws) v (vertex_part n ws) vertex_offset k h in
        let p = w.at_row in
        let j = p.row in
        let one : pass_of ws k ≡ 1 = read_degree ws k (is_degree_lem ws k w.four (subst (λ (x : ℕ). Place x v 3 vertex_offset k) w.four p)) in
        let t = degrees_right n (record_size_lem ws) (edges_from e es) w.four v vs vertex_offset degrees_sound j p.inside in
        let here : get_or vs (n * j + 3) 0 ≡ get_or (vertex_part n ws) (n * j + 3) 0 =
        part_word vertex_offset (n * v) (n * j + 3) us ws (λ q. subst (λ (x : ℕ). get_or us x 0 ≡ get_or ws x 0) p.place this) in
        let number : get_or vs (n * j + 0) 0 ≡ get_or (vertex_part n ws) (n * j + 0) 0 = row_same j 0 (omega arith) (λ z. absurd (omega (arith, one, z))) in
        let edges : edges_from e es ≡ edges_of n ws = ap (edges_from e) (edges_at (λ z. absurd (omega (arith, one, z)))) in
        w.disagrees (sym here ∙ t ∙ ap₂ (λ (x : List Edge) (y : ℕ). length (words_at x y)) edges number)

    not_incidence : list_verdict n ws ≡ Err (Incidence k) → ⊥
    not_incidence h =
        let r = list_from (edges_of n ws) (numbers_of n ws) (incidence_part n ws) end k h in
        let two : pass_of ws k ≡ 2 = read_list ws k r in
        let at : list_walk (edges_of n ws) (numbers_of n ws) (drop end us) end ≡ Ok tt =
        rw (numbers_at (λ z. absurd (omega (arith, two, z))), edges_at (λ z. absurd (omega (arith, two, z)))) at lists_sound in
        sound_incidence (sym at
        ∙ list_prefix (edges_of n ws) (numbers_of n ws) (drop end us) (incidence_part n ws) end k (omega (arith, length-drop end us, length-drop end ws, same_length)) h
        (λ i l. get_or-drop end us i 0 ∙ upto (end + i) (omega arith) l two ∙ sym (get_or-drop end ws i 0)))
      where
        upto : (i : ℕ) → end ≤ i → i ≤ k → pass_of ws k ≡ 2 → get_or us i 0 ≡ get_or ws i 0
        upto i l m two = go (ltb i k) refl
          where
            go : (t : Bool) → ltb i k ≡ t → get_or us i 0 ≡ get_or ws i 0
            go true q = before i (inr (read_list ws i l ∙ sym two, ltb-true i k q))
            go false q = let f : k ≡ i = omega (arith, ltb-false i k q, m) in subst (λ (x : ℕ). get_or us x 0 ≡ get_or ws x 0) f this

  -- the offset is that of a bad record or a bad incidence
  pub nothing_follows : (verdict b ws ≡ Err (Record k)) ⊎ (verdict b ws ≡ Err (Incidence k)) → loadable b us ≡ false
  nothing_follows h = go (loadable b us) refl
    where
      found : vertex_offset ≤ k → sound_header ws ≡ true → Sounds b us → Found b ws k → ⊥
      found low t s (in_vertex x) = not_vertex low t s x
      found low t s (in_edge x y) = not_edge low t s y
      found low t s (in_degree x y q) = not_degree low t s q

      none : Sounds b us → ⊥
      none s = elim h [
        | inl x ↦ found (record_in b ws k x).0 (record_headed b ws k x).header s (record_found b ws k x)
        | inr x ↦ not_incidence (omega (arith, (incidence_in b ws k x).0)) (incidence_headed b ws k x).header s (incidence_found b ws k x).lists
      ]

      go : (t : Bool) → loadable b us ≡ t → t ≡ false
      go true f = absurd (none (sounds b us (loads_sound b us f)))
      go false f = refl

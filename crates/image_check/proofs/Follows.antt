-- The words read before a bad one can go on: some words that load have them.
use Rattle.std.specs.Prelude.{◌==◌}
use Prim.Native.Nat.{ℕ, zero, suc, ◌+◌, ◌*◌, ◌-◌, ◌≤◌, ◌<◌}
use mathlib.Core.Path.{◌≡◌, refl, sym, ap, ◌∙◌, subst}
use mathlib.Core.Logic.{inl, inr}
use mathlib.Core.Bool.{Bool, true, false, ◌&&◌}
use mathlib.Core.List.{List, [], ◌++◌}
use native.Mathlib.Omega.{arith}
use lib.Dec.{leb, ltb}
use lib.ListN.{length, get_or, take, drop, length-append, get_or-append}
use lib.Seq.{drop-drop, take_at, drop_at, get_or-take, get_or-append-add}
use borrow.Author.Tests.{eq-eqb, eqb-true, eqb-false, ltb-true, ltb-false}
use Rattle.lists.specs.Choice.{◌⇒◌else◌}
use Rattle.lists.specs.Lists.{member, equal_lists}
use Rattle.lists.proofs.Bools.{and_true, and_both}
use Rattle.graph.specs.Graph.{Edge}
use Rattle.graph.specs.WellFormed.{Bounds, words_at}
use Rattle.image.specs.Image.{edge_size, vertex_offset, edge_offset, incidence_offset, length_as, header_of, vertex_count, edge_count, record_size, header_as, sound_header, vertex_part}
use Rattle.image.specs.Image.{edge_part, numbers_in}
use Rattle.image.specs.Image.{incidence_part, edges_from, loadable}
use Rattle.image_check.specs.Checks.{list_walk, sound_counts, numbers_of, edges_of, vertex_verdict, edge_verdict, degree_verdict, list_verdict, verdict}
use Rattle.image_check.proofs.Walks.{vertex_walk, edge_walk, degree_walk}
use Rattle.image_check.specs.FirstBad.{pass_of, ReadBefore, Begins}
use Rattle.image.proofs.Sizes.{Size, record_size_lem, size_by}
use Rattle.lists.proofs.Equality.{words_refl}
use Rattle.image.proofs.Ends.{ends}
use Rattle.image.proofs.Headers.{header_words, sound_front, sound_as}
use Rattle.image_check.proofs.Capacity.{counts_le}
use Rattle.image_check.proofs.VertexPass.{vertex_step, walk_distinct}
use Rattle.lists.proofs.Members.{has_self}
use Rattle.image_check.proofs.SoundLoads.{sounds, sound_loads}
use Rattle.image.proofs.Parts.{split_words, long_vertices, long_edges}
use Rattle.image_check.proofs.SavedSound.{loads_sound}
use Rattle.image_check.proofs.Offsets.{Place, Wrong, walk_place, vertex_range, edge_range, degree_wrong, degrees_right, list_from}
use Rattle.image_check.proofs.WithDegrees.{with_degrees, degrees_long, degrees_walk, degrees_numbers, degrees_sound, degrees_stay}
use Rattle.image_check.proofs.ReadOrder.{degree_row, is_degree_lem, plain_row, first_plain, second_degree, read_row, read_degree, read_edge, read_list}
use Rattle.image_check.proofs.FirstBad.{Found, in_vertex, in_edge, in_degree, record_headed, incidence_headed, record_found, incidence_found, walk_ends, incidences_all}
use Rattle.image_check.proofs.Fill.{vertex_fit, edge_fill, edge_fit, lists_fill, lists_fit}
use Rattle.std.specs.Prelude.{Ok, Err}
use Rattle.image_check.specs.declared.BadImage.TheVariants.{Record, Incidence}

-- ---- words of lists that are put together

begins : (n : ℕ) (us ws : List ℕ) → take n us ≡ take n ws → (i : ℕ) → i < n → get_or us i 0 ≡ get_or ws i 0
begins n us ws e i h = sym (get_or-take n us i 0 h) ∙ ap (λ (l : List ℕ). get_or l i 0) e ∙ get_or-take n ws i 0 h

join_at : (xs ys p q : List ℕ) (i : ℕ) → length xs ≡ length ys → (i < length ys → get_or xs i 0 ≡ get_or ys i 0) →
    ((j : ℕ) → i ≡ length ys + j → get_or p j 0 ≡ get_or q j 0) → get_or (xs ++ p) i 0 ≡ get_or (ys ++ q) i 0
join_at xs ys p q i e f g = go (ltb i (length ys)) refl
  where
    go : (t : Bool) → ltb i (length ys) ≡ t → get_or (xs ++ p) i 0 ≡ get_or (ys ++ q) i 0
    go true h =
        let l = ltb-true i (length ys) h in
        get_or-append xs p 0 i (omega arith) ∙ f l ∙ sym (get_or-append ys q 0 i l)
    go false h =
        let l = ltb-false i (length ys) h in
        let a : i ≡ length xs + (i - length ys) = omega arith in
        let c : i ≡ length ys + (i - length ys) = omega arith in
        ap (λ (x : ℕ). get_or (xs ++ p) x 0) a ∙ get_or-append-add xs p (i - length ys) 0 ∙ g (i - length ys) c
        ∙ sym (get_or-append-add ys q (i - length ys) 0) ∙ sym (ap (λ (x : ℕ). get_or (ys ++ q) x 0) c)

-- ---- the law, and counts

pub record Follows (b : Bounds) (ws : List ℕ) (k : ℕ) : Type 0 where
  pub words : List ℕ
  pub loads : loadable b words ≡ true
  pub begin : Begins ws k words

some_number : (size v : ℕ) (vs : List ℕ) → 1 ≤ v → member (get_or vs 0 0) (numbers_in size v vs) ≡ true
unfolding numbers_in
some_number size zero vs h = absurd (omega arith)
some_number size (suc v) vs h = has_self (get_or vs 0 0) (numbers_in size v (drop size vs))

-- edges only where there is a vertex
counts_some : (vcap ecap v e : ℕ) → sound_counts vcap ecap v e ≡ true → 1 ≤ e → 1 ≤ v
unfolding sound_counts
counts_some vcap ecap v e h l =
    let a = and_true (leb v vcap) (leb e ecap && ((v == 0) ⇒ (e == 0) else true)) h in
    let c = and_true (leb e ecap) ((v == 0) ⇒ (e == 0) else true) a.1 in
    go (v == 0) refl c.1
  where
    go : (t : Bool) → (v == 0) ≡ t → (t ⇒ (e == 0) else true) ≡ true → 1 ≤ v
    go true f q = absurd (omega (arith, eqb-true e 0 q))
    go false f q = positive v (eqb-false v 0 f)
      where
        positive : (n : ℕ) → (n ≡ 0 → ⊥) → 1 ≤ n
        positive zero r = absurd (r refl)
        positive (suc n) r = omega arith

-- ---- words put together from sound parts, in the counts and the size of ws

module _ (b : Bounds) (ws : List ℕ) (header : sound_header ws ≡ true) where
  abbrev n : ℕ
  n = record_size ws

  abbrev v : ℕ
  v = vertex_count ws

  abbrev e : ℕ
  e = edge_count ws

  abbrev o : ℕ
  o = edge_offset n v

  abbrev end : ℕ
  end = incidence_offset n v e

  abbrev whole : List ℕ → List ℕ → List ℕ → List ℕ
  whole vs es is = header_of n v e ++ (vs ++ (es ++ is))

  split : ws ≡ whole (vertex_part n ws) (edge_part n ws) (incidence_part n ws)
  split = sym (split_words n ws) ∙ ap (λ (l : List ℕ). l ++ (vertex_part n ws ++ (edge_part n ws ++ incidence_part n ws))) (sound_front ws header)

  module _ (vs es is : List ℕ) (lv : length vs ≡ n * v) (le : length es ≡ edge_size * e) (li : length is ≡ 2 * e) where
    whole_length : length (whole vs es is) ≡ length_as n v e
    whole_length = omega (arith, length-append vs (es ++ is), length-append es is, lv, le, li)

    whole_header : sound_header (whole vs es is) ≡ true
    unfolding header_as
    whole_header =
        sound_as n (record_size_lem ws) (whole vs es is)
        (and_both (equal_lists (header_of n v e) (header_of n v e)) (length (whole vs es is) == length_as n v e) (words_refl (header_of n v e))
        (eq-eqb (length (whole vs es is)) (length_as n v e) whole_length))

    whole_size : record_size (whole vs es is) ≡ n
    whole_size = size_by (whole vs es is) ws refl (sym (header_words ws header).second)

    whole_vertices : vertex_part n (whole vs es is) ≡ vs
    whole_vertices = take_at vs (es ++ is) (n * v) lv

    behind_vertices : drop o (whole vs es is) ≡ es ++ is
    behind_vertices = sym (drop-drop (n * v) 6 (whole vs es is)) ∙ drop_at vs (es ++ is) (n * v) lv

    whole_edges : edge_part n (whole vs es is) ≡ es
    whole_edges = ap (take (edge_size * e)) behind_vertices ∙ take_at es is (edge_size * e) le

    whole_incidences : incidence_part n (whole vs es is) ≡ is
    whole_incidences = sym (drop-drop (edge_size * e) o (whole vs es is)) ∙ ap (drop (edge_size * e)) behind_vertices ∙ drop_at es is (edge_size * e) le

    whole_sound : sound_counts b.vertices b.edges v e ≡ true → vertex_walk n b.vertices b.types [] v vs vertex_offset ≡ Ok tt →
        edge_walk b.edges b.types (numbers_in n v vs) [] e es o ≡ Ok tt → degree_walk n (edges_from e es) v vs vertex_offset ≡ Ok tt →
        list_walk (edges_from e es) (numbers_in n v vs) is end ≡ Ok tt → verdict b (whole vs es is) ≡ Ok tt
    unfolding verdict
    whole_sound c x y d z = rw (whole_header, c, whole_size, whole_vertices, whole_edges, whole_incidences, x) (rw y (rw d z))

    -- they have the words of ws where each part has them
    whole_begins : (k : ℕ) → ((i : ℕ) → ReadBefore ws (vertex_offset + i) k → i < n * v → get_or vs i 0 ≡ get_or (vertex_part n ws) i 0) →
        ((i : ℕ) → ReadBefore ws (o + i) k → i < edge_size * e → get_or es i 0 ≡ get_or (edge_part n ws) i 0) →
        ((i : ℕ) → ReadBefore ws (end + i) k → get_or is i 0 ≡ get_or (incidence_part n ws) i 0) → Begins ws k (whole vs es is)
    whole_begins k fv fe fi i r =
        join_at (header_of n v e) (header_of n v e) (vs ++ (es ++ is)) (vertex_part n ws ++ (edge_part n ws ++ incidence_part n ws)) i refl (λ l. refl)
        (λ j p.
        join_at vs (vertex_part n ws) (es ++ is) (edge_part n ws ++ incidence_part n ws) j (lv ∙ sym (long_vertices ws header))
        (λ l. fv j (subst (λ (x : ℕ). ReadBefore ws x k) p r) (omega (arith, l, long_vertices ws header)))
        (λ m q.
        join_at es (edge_part n ws) is (incidence_part n ws) m (le ∙ sym (long_edges ws header))
        (λ l. fe m (subst (λ (x : ℕ). ReadBefore ws x k) (omega (arith, p, q, long_vertices ws header)) r) (omega (arith, l, long_edges ws header)))
        (λ h u. fi h (subst (λ (x : ℕ). ReadBefore ws x k) (omega (arith, p, q, u, long_vertices ws header, long_edges ws header)) r))))
        ∙ sym (ap (λ (l : List ℕ). get_or l i 0) split)

  -- ---- each case

  module _ (k : ℕ) (counts : sound_counts b.vertices b.edges v e ≡ true) where
    z : Size n
    z = record_size_lem ws

    few : (v ≤ b.vertices) × (e ≤ b.edges)
    few = counts_le b.vertices b.edges v e counts

    -- sound records: the lists are two words for each edge
    lists_long : (vs es : List ℕ) → vertex_walk n b.vertices b.types [] v vs vertex_offset ≡ Ok tt →
        edge_walk b.edges b.types (numbers_in n v vs) [] e es o ≡ Ok tt → ends (edges_from e es) (numbers_in n v vs) ≡ 2 * e
    lists_long vs es x y =
        walk_ends b.edges b.types (numbers_in n v vs) [] e es o (walk_distinct n b.vertices b.types [] v vs vertex_offset x) y

    -- records are sound: the degrees are put right, and the lists filled up
    with_lists : (vs es : List ℕ) → length es ≡ edge_size * e → vertex_walk n b.vertices b.types [] v vs vertex_offset ≡ Ok tt →
        edge_walk b.edges b.types (numbers_in n v vs) [] e es o ≡ Ok tt →
        ((i : ℕ) → ReadBefore ws (vertex_offset + i) k → i < n * v → get_or (with_degrees n (edges_from e es) v vs) i 0 ≡ get_or (vertex_part n ws) i 0) →
        ((i : ℕ) → ReadBefore ws (o + i) k → i < edge_size * e → get_or es i 0 ≡ get_or (edge_part n ws) i 0) →
        ((i : ℕ) → ReadBefore ws (end + i) k → ⊥) → Follows b ws k
    with_lists vs es le x y fv fe none =
        let E = edges_from e es in
        let us = with_degrees n E v vs in
        let ns : numbers_in n v us ≡ numbers_in n v vs = degrees_numbers n z E v vs in
        let x' = degrees_walk n z E b.vertices b.types [] v vs vertex_offset ∙ x in
        let y' : edge_walk b.edges b.types (numbers_in n v us) [] e es o ≡ Ok tt = rw ns y in
        let r = lists_fill E (numbers_in n v us) end [] in
        let lu = degrees_long n z E v vs in
        let li = r.long ∙ lists_long us es x' y' in
        record {
          words = whole us es r.words;
          loads = sound_loads b (whole us es r.words) (whole_sound us es r.words lu le li counts x' y' (degrees_sound n z E v vs vertex_offset) r.sound);
          begin = whole_begins us es r.words lu le li k fv fe (λ i q. absurd (none i q));
        }

    -- a word but a degree is as in vs, whatever the degrees are
    plain_stays : (es : List Edge) (vs : List ℕ) (i : ℕ) → pass_of ws (vertex_offset + i) ≡ 0 → i < n * v → get_or (with_degrees n es v vs) i 0 ≡ get_or vs i 0
    plain_stays es vs i h l =
        let p = plain_row ws i (first_plain ws (vertex_offset + i) h) l in
        let q = p.2 in
        let f : n * q.row + p.0 ≡ i = omega (arith, q.place) in
        subst (λ (x : ℕ). get_or (with_degrees n es v vs) x 0 ≡ get_or vs x 0) f (degrees_stay n z es v vs q.row p.0 q.inside p.1)

    -- what is read before a word of pass 0 is of that pass, and stands before it
    first_before : pass_of ws k ≡ 0 → (i : ℕ) → ReadBefore ws i k → (pass_of ws i ≡ 0) × (i < k)
    first_before f i r = elim r [
      | inl x ↦ absurd (omega (arith, x, f))
      | inr x ↦ (x.0 ∙ f, x.1)
    ]

    after_vertex : 1 ≤ b.types → vertex_verdict n b ws ≡ Err (Record k) → Follows b ws k
    after_vertex some h =
        let w = walk_place _ _ _ _ [] v (vertex_part n ws) vertex_offset k h in
        let r = vertex_range n z b.vertices b.types [] v (vertex_part n ws) vertex_offset k h in
        let f = vertex_fit n z b.vertices b.types some [] v (vertex_part n ws) vertex_offset k (k - 6) h (omega (arith, r.0)) (long_vertices ws header) (omega (arith, few.0)) in
        let t = some_number n v f.words (omega (arith, w.2.inside)) in
        let g = edge_fill b.edges b.types some (numbers_in n v f.words) (get_or f.words 0 0) t [] e o [] (omega (arith, few.1)) in
        let zero_k = read_row ws k w.0 w.1 w.2 in
        with_lists f.words g.words g.long f.sound g.sound
        (λ i q l.
        let a = first_before zero_k (vertex_offset + i) q in
        plain_stays (edges_from e g.words) f.words i a.0 l ∙ begins (k - 6) f.words (vertex_part n ws) f.begin i (omega (arith, a.1)))
        (λ i q l. absurd (omega (arith, (first_before zero_k (o + i) q).1, r.1)))
        (λ i q. omega (arith, (first_before zero_k (end + i) q).1, r.1))

    after_edge : 1 ≤ b.types → vertex_verdict n b ws ≡ Ok tt → edge_verdict n b ws ≡ Err (Record k) → Follows b ws k
    after_edge some x h =
        let r = edge_range b.edges b.types (numbers_of n ws) [] e (edge_part n ws) o k h in
        let t = some_number n v (vertex_part n ws) (counts_some b.vertices b.edges v e counts (omega (arith, r.0, r.1))) in
        let g =
        edge_fit b.edges b.types some (numbers_of n ws) (get_or (vertex_part n ws) 0 0) t [] e (edge_part n ws) o k (k - o) h (omega (arith, r.0)) (long_edges ws header) (omega (arith, few.1)) in
        let zero_k = read_edge ws k r.0 r.1 in
        with_lists (vertex_part n ws) g.words g.long x g.sound
        (λ i q l. plain_stays (edges_from e g.words) (vertex_part n ws) i (first_before zero_k (vertex_offset + i) q).0 l)
        (λ i q l. begins (k - o) g.words (edge_part n ws) g.begin i (omega (arith, (first_before zero_k (o + i) q).1)))
        (λ i q. omega (arith, (first_before zero_k (end + i) q).1, r.1))

    -- the degrees before it are right already
    after_degree : vertex_verdict n b ws ≡ Ok tt → edge_verdict n b ws ≡ Ok tt → degree_verdict n ws ≡ Err (Record k) → Follows b ws k
    after_degree x y h =
        let vs = vertex_part n ws in
        let es = edges_of n ws in
        let w = degree_wrong n z es v vs vertex_offset k h in
        let p = w.at_row in
        let one : pass_of ws k ≡ 1 = read_degree ws k (is_degree_lem ws k w.four (subst (λ (m : ℕ). Place m v 3 vertex_offset k) w.four p)) in
        with_lists vs (edge_part n ws) (long_edges ws header) x y
        (λ i q l. elim q [
          | inl a ↦ plain_stays es vs i (omega (arith, a, one)) l
          | inr a ↦ earlier w i (a.0 ∙ one) a.1 l
        ])
        (λ i q l. refl)
        (λ i q. elim q [
          | inl a ↦ omega (arith, a, one, read_list ws (end + i) (omega arith))
          | inr a ↦ omega (arith, a.0, one, read_list ws (end + i) (omega arith))
        ])
      where
        earlier : (w : Wrong n (edges_of n ws) v (vertex_part n ws) vertex_offset k) (i : ℕ) → pass_of ws (vertex_offset + i) ≡ 1 → vertex_offset + i < k → i < n * v →
            get_or (with_degrees n (edges_of n ws) v (vertex_part n ws)) i 0 ≡ get_or (vertex_part n ws) i 0
        earlier w i a c l =
            let vs = vertex_part n ws in
            let es = edges_of n ws in
            let d = degree_row ws (vertex_offset + i) (second_degree ws (vertex_offset + i) a) in
            let j = d.1.row in
            let four : n * j + 3 ≡ 4 * j + 3 = ap (λ (m : ℕ). m * j + 3) w.four in
            let place : i ≡ n * j + 3 = omega (arith, d.1.place, four) in
            let there : k ≡ 6 + (4 * w.at_row.row + 3) = subst (λ (m : ℕ). k ≡ 6 + (m * w.at_row.row + 3)) w.four w.at_row.place in
            let near : j < w.at_row.row = omega (arith, c, place, four, there) in
            let stays = degrees_stay n z es v vs j 0 d.1.inside (omega arith) in
            let right = degrees_right n z es w.four v (with_degrees n es v vs) vertex_offset (degrees_sound n z es v vs vertex_offset) j d.1.inside in
            subst (λ (x : ℕ). get_or (with_degrees n es v vs) x 0 ≡ get_or vs x 0) (sym place)
            (right ∙ ap (λ (x : ℕ). length (words_at es x)) stays ∙ sym (w.before j near))

    after_incidence : vertex_verdict n b ws ≡ Ok tt → edge_verdict n b ws ≡ Ok tt → degree_verdict n ws ≡ Ok tt → list_verdict n ws ≡ Err (Incidence k) → Follows b ws k
    after_incidence x y d h =
        let vs = vertex_part n ws in
        let es = edge_part n ws in
        let r = list_from (edges_of n ws) (numbers_of n ws) (incidence_part n ws) end k h in
        let g = lists_fit (edges_of n ws) (numbers_of n ws) (incidence_part n ws) end k (k - end) h (omega (arith, r)) (incidences_all b ws k header x y) in
        let lv = long_vertices ws header in
        let le = long_edges ws header in
        let li = g.long ∙ lists_long vs es x y in
        let two = read_list ws k r in
        record {
          words = whole vs es g.words;
          loads = sound_loads b (whole vs es g.words) (whole_sound vs es g.words lv le li counts x y d g.sound);
          begin =
              whole_begins vs es g.words lv le li k (λ i q l. refl) (λ i q l. refl)
              (λ i q. elim q [
                | inl a ↦ absurd (omega (arith, a, two, read_list ws (end + i) (omega arith)))
                | inr a ↦ begins (k - end) g.words (incidence_part n ws) g.begin i (omega (arith, a.1))
              ]);
        }

module _ (b : Bounds) (ws : List ℕ) (k : ℕ) where
  -- without types no words with a vertex load (no-types): then a bad type stands behind a number that nothing follows either
  pub record_follows : 1 ≤ b.types → verdict b ws ≡ Err (Record k) → Follows b ws k
  record_follows some h = go (record_found b ws k h)
    where
      go : Found b ws k → Follows b ws k
      go (in_vertex x) = let t = record_headed b ws k h in after_vertex b ws t.header k t.counts some x
      go (in_edge x y) = let t = record_headed b ws k h in after_edge b ws t.header k t.counts some x y
      go (in_degree x y q) = let t = record_headed b ws k h in after_degree b ws t.header k t.counts x y q

  pub incidence_follows : verdict b ws ≡ Err (Incidence k) → Follows b ws k
  incidence_follows h =
      let t = incidence_headed b ws k h in
      let f = incidence_found b ws k h in
      after_incidence b ws t.header k t.counts f.vertices f.edges f.degrees f.lists

pub no_types : (b : Bounds) (ws : List ℕ) → b.types ≡ 0 → 1 ≤ vertex_count ws → loadable b ws ≡ false
no_types b ws z h = go (loadable b ws) refl
  where
    none : (size v : ℕ) → 1 ≤ v → (vs : List ℕ) → vertex_walk size b.vertices b.types [] v vs vertex_offset ≡ Ok tt → ⊥
    none size zero l vs s = omega arith
    none size (suc v) l vs s = omega (arith, z, ltb-true (get_or vs 1 0) b.types (vertex_step size b.vertices b.types [] v vs vertex_offset s).ok.type)

    go : (t : Bool) → loadable b ws ≡ t → t ≡ false
    go true f = absurd (none (record_size ws) (vertex_count ws) h (vertex_part (record_size ws) ws) (sounds b ws (loads_sound b ws f)).vertices)
    go false f = refl

-- The four passes over scratch of zeros are the verdict.
use Rattle.std.specs.Prelude.{◌==◌}
use Prim.Native.Nat.{ℕ, zero, suc, ◌+◌, ◌*◌, ◌-◌, ◌≤◌, ◌<◌}
use mathlib.Core.Path.{◌≡◌, refl, sym, ap, ap₂, ◌∙◌, subst}
use mathlib.Core.Bool.{true, false}
use mathlib.Core.List.{List, [], ◌∷◌}
use native.Mathlib.Omega.{arith}
use lib.ListN.{length, get_or, drop, replicate, length-drop, length-replicate}
use lib.Seq.{length-take-le}
use borrow.Author.Tests.{eq-eqb, ne_eqb}
use Rattle.lists.specs.Choice.{to_bit}
use Rattle.lists.specs.Lists.{member}
use Rattle.graph.specs.WellFormed.{Bounds, words_at}
use Rattle.image.specs.Image.{vertex_offset, edge_offset, incidence_offset, record_size, sound_header, vertex_count, edge_count, vertex_part, part, edges_from, numbers_in}
use Rattle.image_check.specs.Checks.{bounds, list_walk, sound_counts, ended, and_then, verdict, vertex_limits, edge_limits}
use Rattle.image_check.proofs.Walks.{vertex_walk, edge_walk, degree_walk}
use Rattle.image_check.specs.Scratch.{vertex_run, vertex_marks, edge_run, edge_degrees, edge_owners, degree_run, incidence_run, scratch_run, Ran, parts}
use Rattle.image_check.specs.declared.BadImage.{BadImage}
use Rattle.image_check.proofs.Verdicts.{stop, then_same}
use Rattle.image.proofs.Headers.{sound_length}
use Rattle.image_check.proofs.Capacity.{counts_none}
use Rattle.image.proofs.Parts.{part_1, part_2, part_3}
use Rattle.image_check.proofs.VertexPass.{Small, small_take, small_drop, Indicator, vertex_agrees, marks_agree, walk_distinct, walk_positive}
use Rattle.image_check.proofs.EdgePass.{Marked, Seen, Paired, marked_by, edge_agrees, degrees_agree, owners_agree}
use Rattle.image_check.proofs.ListPass.{incidence_agrees}
use Rattle.lists.proofs.Members.{positive}
use Rattle.image_check.proofs.DegreePass.{degree_agrees}
use Rattle.std.specs.Prelude.{Ok, Err}
use Rattle.image_check.specs.declared.BadImage.TheVariants.{Header}
use Rattle.image_check.specs.Checks.{Verdict}

zeros : (n i : ℕ) → ◌≡◌ {A = ℕ} (get_or (replicate n 0) i 0) 0
zeros zero i = refl
zeros (suc n) zero = refl
zeros (suc n) (suc i) = zeros n i

module _ (deg own : List ℕ) (deg_zero : (i : ℕ) → get_or deg i 0 ≡ 0) (own_zero : (i : ℕ) → get_or own i 0 ≡ 0)
    (b : Bounds) (deg_room : b.vertices < length deg) (Own_room : 2 * b.edges + 1 < length own) where
  scratch_agrees : (size v e : ℕ) (vs es is : List ℕ) → Small vs →
      scratch_run deg own b (parts size v e vs es is)
      ≡ and_then (vertex_walk size b.vertices b.types [] v vs vertex_offset)
      (and_then (edge_walk b.edges b.types (numbers_in size v vs) [] e es (edge_offset size v))
      (and_then (degree_walk size (edges_from e es) v vs vertex_offset)
      (list_walk (edges_from e es) (numbers_in size v vs) is (incidence_offset size v e))))
  unfolding scratch_run
  scratch_agrees size v e vs es is small =
      rw (vertex_agrees size b.vertices b.types deg [] v vs vertex_offset deg_room deg_zero small)
      (then_same (vertex_walk size b.vertices b.types [] v vs vertex_offset) _ _ after_vertices)
    where
      numbers : List ℕ
      numbers = numbers_in size v vs

      marks : List ℕ
      marks = vertex_marks size deg v vs

      seen0 : Seen [] own
      seen0 n = eq-eqb (get_or own (2 * n) 0) 0 (own_zero (2 * n))

      paired0 : Paired own
      paired0 n e = own_zero (2 * n + 1)

      after_vertices : vertex_walk size b.vertices b.types [] v vs vertex_offset ≡ Ok tt →
          and_then (edge_run (edge_limits b) marks own e es (edge_offset size v))
          (and_then (degree_run size (edge_degrees marks e es) v vs vertex_offset) (incidence_run size (edge_degrees marks e es) (edge_owners own e es) v vs is (incidence_offset size v e)))
          ≡ and_then (edge_walk b.edges b.types numbers [] e es (edge_offset size v))
          (and_then (degree_walk size (edges_from e es) v vs vertex_offset) (list_walk (edges_from e es) numbers is (incidence_offset size v e)))
      after_vertices s =
          rw (edge_agrees b.edges b.types numbers nz marks own [] e es (edge_offset size v) Own_room marked seen0)
          (then_same (edge_walk b.edges b.types numbers [] e es (edge_offset size v)) _ _ λ q.
          ap₂ and_then (degree_agrees size (edges_from e es) (edge_degrees marks e es) v vs vertex_offset (counted q))
          (incidence_agrees size (edges_from e es) (edge_degrees marks e es) (edge_owners own e es) v vs is (incidence_offset size v e)
          (counted q)
          (λ n h w.
          let p = positive n numbers nz h in
          let z : (0 == n) ≡ false = ne_eqb 0 n (λ r. omega arith) in
          let y : to_bit (get_or own w 0 == n) ≡ 0 = rw (own_zero w, z) in
          omega (arith, y, owners_agree b.edges b.types numbers nz own [] e es (edge_offset size v) Own_room seen0 paired0 q n p w))
          nz
          (walk_distinct size b.vertices b.types [] v vs vertex_offset s)))
        where
          nz : member 0 numbers ≡ false
          nz = walk_positive size b.vertices b.types [] v vs vertex_offset s

          indicator : Indicator numbers marks
          indicator = marks_agree size b.vertices b.types deg [] v vs vertex_offset deg_room deg_zero s

          marked : Marked numbers marks
          marked = marked_by numbers marks indicator

          -- deg has 1 more than the ends of each vertex
          counted : edge_walk b.edges b.types numbers [] e es (edge_offset size v) ≡ Ok tt →
              (n : ℕ) → member n numbers ≡ true → get_or (edge_degrees marks e es) n 0 - 1 ≡ length (words_at (edges_from e es) n)
          counted q n h =
              let m : get_or marks n 0 ≡ 1 = indicator n ∙ ap to_bit h in
              omega (arith, m, degrees_agree b.edges b.types numbers nz marks [] e es (edge_offset size v) marked q n)

-- ---- the passes one by one

module _ (deg own : List ℕ) (b : Bounds) (size v e : ℕ) (vs es is : List ℕ) (r : Verdict) (first_pass : r ≡ vertex_run size (vertex_limits b) deg v vs vertex_offset) where
  pub pass_1 : (bad : BadImage) → r ≡ Err bad → Err bad ≡ scratch_run deg own b (parts size v e vs es is)
  unfolding scratch_run
  pass_1 bad k = rw (← first_pass) (stop r _ bad k)

  module _ (sound : r ≡ Ok tt) (d : List ℕ) (marks : d ≡ vertex_marks size deg v vs)
      (q : Verdict) (second_pass : q ≡ edge_run (edge_limits b) d own e es (edge_offset size v)) where
    pub pass_2 : (bad : BadImage) → q ≡ Err bad → Err bad ≡ scratch_run deg own b (parts size v e vs es is)
    unfolding scratch_run
    pass_2 bad k = rw (← first_pass, sound, ← marks, ← second_pass) (stop q _ bad k)

    module _ (sound' : q ≡ Ok tt) (d' : List ℕ) (degrees : d' ≡ edge_degrees d e es) (y : Verdict) (third_pass : y ≡ degree_run size d' v vs vertex_offset) where
      pub pass_3 : (bad : BadImage) → y ≡ Err bad → Err bad ≡ scratch_run deg own b (parts size v e vs es is)
      unfolding scratch_run
      pass_3 bad k = rw (← first_pass, sound, ← marks, ← second_pass, sound', ← degrees, ← third_pass) (stop y _ bad k)

      pub pass_4 : y ≡ Ok tt → (o' : List ℕ) → o' ≡ edge_owners own e es →
          (z : Verdict) → z ≡ incidence_run size d' o' v vs is (incidence_offset size v e) → z ≡ scratch_run deg own b (parts size v e vs es is)
      unfolding scratch_run
      pass_4 t o' x z g = rw (← first_pass, sound, ← marks, ← second_pass, sound', ← degrees, ← third_pass, t, ← x) g

-- ---- what the check needs

pub bad_head : (b : Bounds) (ws : List ℕ) → sound_header ws ≡ false → Err Header ≡ verdict b ws
unfolding verdict
bad_head b ws h = rw h

module _ (ws : List ℕ) (h : sound_header ws ≡ true) where
  pub bad_counts : (b : Bounds) → sound_counts b.vertices b.edges (vertex_count ws) (edge_count ws) ≡ false → Err Header ≡ verdict b ws
  unfolding verdict
  bad_counts b k = rw (h, k)

  pub incidences_few : (e : ℕ) → e ≡ edge_count ws → e ≤ 4000 → (is : List ℕ) → is ≡ part 3 ws → length is ≤ 8000
  incidences_few e he le is q =
      omega (arith, sound_length ws h, ap length (q ∙ part_3 ws h), length-drop (incidence_offset (record_size ws) (vertex_count ws) (edge_count ws)) ws)

  -- the records are all there
  pub vertices_all : (size v : ℕ) → size ≡ record_size ws → v ≡ vertex_count ws → (vs : List ℕ) → vs ≡ part 1 ws → size * v ≡ length vs
  vertices_all size v hs hv vs q =
      let n = record_size ws * vertex_count ws in
      let e : length (vertex_part (record_size ws) ws) ≡ n = length-take-le n (drop vertex_offset ws) (omega (arith, sound_length ws h, length-drop vertex_offset ws)) in
      rw (hs, hv) (sym e ∙ ap length (sym (q ∙ part_1 ws h)))

  pub edges_all : (e : ℕ) → e ≡ edge_count ws → (es : List ℕ) → es ≡ part 2 ws → 6 * e ≡ length es
  edges_all e he es q =
      let o = edge_offset (record_size ws) (vertex_count ws) in
      let n = length-take-le (6 * edge_count ws) (drop o ws) (omega (arith, sound_length ws h, length-drop o ws)) in
      rw he (sym n ∙ ap length (sym (q ∙ part_2 ws h)))

  pub verdict_by : Small ws → (vcap ecap types size v e : ℕ) → size ≡ record_size ws → v ≡ vertex_count ws → e ≡ edge_count ws →
      sound_counts vcap ecap v e ≡ true → (vs es is : List ℕ) → vs ≡ part 1 ws → es ≡ part 2 ws → is ≡ part 3 ws → (r : Verdict) →
      Ran (bounds vcap ecap types) (parts size v e vs es is) r → r ≡ verdict (bounds vcap ecap types) ws
  unfolding verdict
  verdict_by m vcap ecap types size v e hs hv he k vs es is p q s r g =
      let k' : sound_counts vcap ecap (vertex_count ws) (edge_count ws) ≡ true = rw (hv, he) at k in
      let n = record_size ws in
      let small : Small vs = subst (λ (l : List ℕ). Small l) (sym (p ∙ part_1 ws h)) (small_take (n * vertex_count ws) (drop vertex_offset ws) (small_drop vertex_offset ws m)) in
      let t =
      scratch_agrees (replicate g.degs 0) (replicate g.owns 0) (zeros g.degs) (zeros g.owns) (bounds vcap ecap types) (rw length-replicate g.vertices)
      (rw length-replicate g.edges) size v e vs es is small in
      rw (h, k') (rw (p ∙ part_1 ws h, q ∙ part_2 ws h, s ∙ part_3 ws h, hs, hv, he) at (g.verdict ∙ t))

  -- without a vertex there is nothing to go through
  pub none_sound : Small ws → (vcap ecap types v e : ℕ) → vcap ≤ 1000 → ecap ≤ 4000 → v ≡ vertex_count ws → e ≡ edge_count ws → sound_counts vcap ecap v e ≡ true → v ≡ 0 →
      Ok tt ≡ verdict (bounds vcap ecap types) ws
  unfolding scratch_run
  none_sound m vcap ecap types v e lv le hv he k z =
      let y = counts_none vcap ecap v e k z in
      let few : length (part 3 ws) ≡ 0 =
      omega (arith, y, he, sound_length ws h, ap length (part_3 ws h), length-drop (incidence_offset (record_size ws) (vertex_count ws) (edge_count ws)) ws) in
      verdict_by m vcap ecap types (record_size ws) v e refl hv he k (part 1 ws) (part 2 ws) (part 3 ws) refl refl refl (Ok tt)
      (record { degs = 1001; owns = 8002; vertices = omega (arith, lv); edges = omega (arith, le); verdict = rw (z, y) (sym (no_words (part 3 ws) few _)) })
    where
      no_words : (is : List ℕ) → length is ≡ 0 → (at : ℕ) → ended is at ≡ Ok tt
      no_words [] l at = refl
      no_words (x ∷ is) l at = absurd (omega arith)

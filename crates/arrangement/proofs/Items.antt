-- The items of words that load: numbers and words as the code reads them off the parts.
use Prim.Native.Nat.{ℕ, zero, suc, ◌*◌, ◌/◌, ◌≤◌}
use mathlib.Core.Path.{◌≡◌, refl, sym, ap, ◌∙◌}
use mathlib.Core.Bool.{true, false}
use mathlib.Core.List.{List, ◌∷◌, map}
use native.Mathlib.Omega.{arith}
use lib.ListN.{length, get_or, drop, replicate}
use borrow.Author.Tests.{ne_eqb}
use Rattle.lists.specs.Choice.{if_equal}
use Rattle.lists.specs.Lists.{member, count}
use Rattle.lists.specs.Keyed.{count_by_key}
use Rattle.lists.proofs.Counts.{count_by_key_lem, count_same}
use Rattle.lists.proofs.Members.{counted_all, all_keys}
use Rattle.lists.proofs.Sums.{Alike, all_imp, distinct_count}
use Rattle.graph.specs.Graph.{Edge, vertex_number, edge_number, has_vertex, vertex_numbers, edge_numbers, this_in, list_of}
use Rattle.graph.specs.WellFormed.{WellFormed, Within, well_formed, words_at}
use Rattle.graph.proofs.Facts.{to_facts}
use Rattle.graph.proofs.Incidence.{pick_le}
use Rattle.graph.proofs.Lists.{ordered_list}
use Rattle.graph.proofs.Words.{words_this}
use Rattle.image.specs.Image.{record_size, sound_header, part, vertex_count, edge_count, vertex_part, edge_part, edges_from, vertices_from, load, loadable, numbers_in}
use Rattle.image_check.specs.Checks.{saved_bounds, load_code, verdict}
use Rattle.image_check.proofs.Verdicts.{zero_sound}
use Rattle.image_check.proofs.LoadCodes.{code_loads}
use Rattle.image_check.proofs.ScratchPass.{vertices_all, edges_all}
use Rattle.image.proofs.Sizes.{size_range, record_size_lem}
use Rattle.image.proofs.Loads.{loaded}
use Rattle.image.proofs.Formed.{formed}
use Rattle.image.proofs.Ends.{has_number}
use Rattle.image.proofs.EdgePart.{part_two, load_edges}
use Rattle.arrangement.specs.Orders.{refusal, vertex_order, edge_order, word_order}
use Rattle.arrangement.specs.Scratch.{marked, settled}
use Rattle.arrangement.proofs.Taking.{Once, Inside, tied_marks, settled_is}

-- ---- numbers of records

pub numbers_length : (size k : ℕ) (ws : List ℕ) → length (numbers_in size k ws) ≡ k
unfolding numbers_in
numbers_length size zero ws = refl
numbers_length size (suc k) ws = ap suc (numbers_length size k (drop size ws))

vertices_read : (size : ℕ) (es : List Edge) (k : ℕ) (vs ws : List ℕ) → map vertex_number (vertices_from size es k vs ws) ≡ numbers_in size k vs
unfolding vertices_from numbers_in
vertices_read size es zero vs ws = refl
vertices_read size es (suc k) vs ws = ap (λ (l : List ℕ). get_or vs 0 0 ∷ l) (vertices_read size es k (drop size vs) _)

edges_read : (k : ℕ) (ws : List ℕ) → map edge_number (edges_from k ws) ≡ numbers_in 6 k ws
unfolding edges_from numbers_in
edges_read zero ws = refl
edges_read (suc k) ws = ap (λ (l : List ℕ). get_or ws 0 0 ∷ l) (edges_read k (drop 6 ws))

-- ---- the records of words that load

pub size_least : (ws : List ℕ) (size : ℕ) → size ≡ record_size ws → 3 ≤ size
size_least ws size e = omega (arith, e, (size_range (record_size ws) (record_size_lem ws)).0)

module _ (ws : List ℕ) (z : load_code saved_bounds ws ≡ 0) where
  header : sound_header ws ≡ true
  header = (loaded saved_bounds ws ((code_loads saved_bounds ws).0 z)).header

  pub vertices_whole : (size v : ℕ) → size ≡ record_size ws → v ≡ vertex_count ws → (vs : List ℕ) → vs ≡ part 1 ws → size * v ≡ length vs
  vertices_whole = vertices_all ws header

  pub edges_whole : (e : ℕ) → e ≡ edge_count ws → (es : List ℕ) → es ≡ part 2 ws → 6 * e ≡ length es
  edges_whole = edges_all ws header

-- ---- refusals

module _ (ws wanted list : List ℕ) (code : ℕ) (e : code ≡ load_code saved_bounds ws) (n : code ≡ 0 → ⊥) where
  pub vertices_refused : refusal code list ≡ vertex_order ws wanted list
  unfolding vertex_order
  vertices_refused = simp (ne_eqb (load_code saved_bounds ws) 0 (λ z. n (e ∙ z))) (rw e)

  pub edges_refused : refusal code list ≡ edge_order ws wanted list
  unfolding edge_order
  edges_refused = simp (ne_eqb (load_code saved_bounds ws) 0 (λ z. n (e ∙ z))) (rw e)

  pub words_refused : (v : ℕ) → refusal code list ≡ word_order ws v wanted list
  unfolding word_order
  words_refused v = simp (ne_eqb (load_code saved_bounds ws) 0 (λ z. n (e ∙ z))) (rw e)

-- ---- words that load

module _ (ws : List ℕ) (z : load_code saved_bounds ws ≡ 0) where
  h : loadable saved_bounds ws ≡ true
  h = (code_loads saved_bounds ws).0 z

  fine : well_formed saved_bounds (load ws) ≡ true
  fine = (loaded saved_bounds ws h).formed

  facts : WellFormed (load ws) × Within saved_bounds (load ws)
  facts = to_facts saved_bounds (load ws) fine

  first_part : part 1 ws ≡ vertex_part (record_size ws) ws
  unfolding part
  first_part = rw (loaded saved_bounds ws h).header

  second_part : part 2 ws ≡ edge_part (record_size ws) ws
  second_part = part_two ws (loaded saved_bounds ws h).header

  pub vertices_are : numbers_in (record_size ws) (vertex_count ws) (part 1 ws) ≡ vertex_numbers (load ws)
  unfolding load
  vertices_are = ap (numbers_in (record_size ws) (vertex_count ws)) first_part ∙ sym (vertices_read (record_size ws) (load ws).eseq (vertex_count ws) (vertex_part (record_size ws) ws) _)

  pub edges_are : numbers_in 6 (edge_count ws) (part 2 ws) ≡ edge_numbers (load ws)
  unfolding load
  edges_are = ap (numbers_in 6 (edge_count ws)) second_part ∙ sym (edges_read (edge_count ws) (edge_part (record_size ws) ws))

  pub eseq_is : edges_from (edge_count ws) (part 2 ws) ≡ (load ws).eseq
  eseq_is = ap (edges_from (edge_count ws)) second_part ∙ sym (load_edges ws)

  -- ---- numbers are each once, and below the scratch's end

  vertex_inside : Inside 8002 (vertex_numbers (load ws))
  vertex_inside n q = omega (arith, counted_all {P = λ k. k ≤ 1000} (all_keys {P = λ k. k ≤ 1000} vertex_number (all_imp (λ v f. f.number) facts.1.vertices)) n q)

  edge_inside : Inside 8002 (edge_numbers (load ws))
  edge_inside n q = omega (arith, edge_below n q)
    where
      edge_below : (n : ℕ) → 1 ≤ count n (edge_numbers (load ws)) → n ≤ 4000
      edge_below n q = counted_all {P = λ k. k ≤ 4000} (all_keys {P = λ k. k ≤ 4000} edge_number (all_imp (λ v f. f.number) facts.1.edges)) n q

  edge_most : (n : ℕ) → 1 ≤ count_by_key edge_number n (load ws).eseq → n ≤ 4000
  edge_most n q = counted_all {P = λ k. k ≤ 4000} (all_keys {P = λ k. k ≤ 4000} edge_number (all_imp (λ v f. f.number) facts.1.edges)) n
      (omega (arith, q, count_by_key_lem edge_number n (load ws).eseq))

  words_count : (v k : ℕ) → count k (words_at (load ws).eseq v) ≡ if_equal (this_in (load ws).eseq k) v (count_by_key edge_number (k / 2) (load ws).eseq) 0
  words_count v k = words_this k v (load ws).eseq (omega (arith, facts.0.eorder (k / 2)))

  words_alike : (v : ℕ) → Alike (words_at (load ws).eseq v) (list_of (load ws) v)
  words_alike v k = words_count v k ∙ sym (facts.0.lists v k) ∙ sym (count_same k (list_of (load ws) v))

  words_once : (v : ℕ) → Once (words_at (load ws).eseq v)
  words_once v k = omega (arith, words_alike v k, count_same k (list_of (load ws) v), ordered_list (load ws) facts.0 v k)

  words_inside : (v : ℕ) → Inside 8002 (words_at (load ws).eseq v)
  words_inside v k q =
      omega (arith, edge_most (k / 2) (omega (arith, q, words_count v k, pick_le (this_in (load ws).eseq k) v (count_by_key edge_number (k / 2) (load ws).eseq))))

  -- ---- the three results

  pub vertices_settled : (wanted list : List ℕ) →
      settled 12 wanted (vertex_count ws) (marked (numbers_in (record_size ws) (vertex_count ws) (part 1 ws)) (replicate 8002 0)) list ≡ vertex_order ws wanted list
  unfolding vertex_order
  vertices_settled wanted list =
      let items = vertex_numbers (load ws) in
      let o : Once items = distinct_count items (formed saved_bounds (load ws) fine).distinct_vertex_numbers in
      (λ i. settled 12 wanted (counted i) (marked (vertices_are i) (replicate 8002 0)) list)
      ∙ settled_is 12 items items wanted list (marked items (replicate 8002 0)) (tied_marks 8002 items o vertex_inside) o (λ n. refl)
      ∙ sym (rw (zero_sound (verdict saved_bounds ws) z))
    where
      counted : vertex_count ws ≡ length (vertex_numbers (load ws))
      counted = sym (numbers_length (record_size ws) (vertex_count ws) (part 1 ws)) ∙ ap length vertices_are

  pub edges_settled : (wanted list : List ℕ) →
      settled 14 wanted (edge_count ws) (marked (numbers_in 6 (edge_count ws) (part 2 ws)) (replicate 8002 0)) list ≡ edge_order ws wanted list
  unfolding edge_order
  edges_settled wanted list =
      let items = edge_numbers (load ws) in
      let o : Once items = distinct_count items (formed saved_bounds (load ws) fine).distinct_edge_numbers in
      (λ i. settled 14 wanted (counted i) (marked (edges_are i) (replicate 8002 0)) list)
      ∙ settled_is 14 items items wanted list (marked items (replicate 8002 0)) (tied_marks 8002 items o edge_inside) o (λ n. refl)
      ∙ sym (rw (zero_sound (verdict saved_bounds ws) z))
    where
      counted : edge_count ws ≡ length (edge_numbers (load ws))
      counted = sym (numbers_length 6 (edge_count ws) (part 2 ws)) ∙ ap length edges_are

  pub vertex_found : (v : ℕ) → member v (numbers_in (record_size ws) (vertex_count ws) (part 1 ws)) ≡ has_vertex (load ws) v
  vertex_found v = ap (member v) vertices_are ∙ sym (has_number v (load ws).vseq)

  pub words_missing : (v : ℕ) (wanted list : List ℕ) → member v (numbers_in (record_size ws) (vertex_count ws) (part 1 ws)) ≡ false → refusal 4 list ≡ word_order ws v wanted list
  unfolding word_order
  words_missing v wanted list e = sym (rw (zero_sound (verdict saved_bounds ws) z, sym (vertex_found v) ∙ e))

  pub words_settled : (v : ℕ) (wanted list : List ℕ) → member v (numbers_in (record_size ws) (vertex_count ws) (part 1 ws)) ≡ true →
      settled 16 wanted (length (words_at (edges_from (edge_count ws) (part 2 ws)) v)) (marked (words_at (edges_from (edge_count ws) (part 2 ws)) v) (replicate 8002 0)) list
      ≡ word_order ws v wanted list
  unfolding word_order
  words_settled v wanted list e =
      let items = words_at (load ws).eseq v in
      (λ i. settled 16 wanted (length (words_at (eseq_is i) v)) (marked (words_at (eseq_is i) v) (replicate 8002 0)) list)
      ∙ settled_is 16 items (list_of (load ws) v) wanted list (marked items (replicate 8002 0)) (tied_marks 8002 items (words_once v) (words_inside v)) (words_once v) (words_alike v)
      ∙ sym (rw (zero_sound (verdict saved_bounds ws) z, sym (vertex_found v) ∙ e))

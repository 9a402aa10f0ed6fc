-- How large the numbers are that a well-formed graph answers.
use Prim.Native.Nat.{ℕ, ◌+◌, ◌*◌, ◌%◌, ◌^◌, ◌≤◌, ◌<◌}
use mathlib.Core.Path.{◌≡◌, ap, ◌∙◌}
use mathlib.Core.Bool.{Bool, true, ◌&&◌}
use mathlib.Core.List.{◌∷◌, map}
use native.Mathlib.Omega.{arith}
use lib.ListN.{length}
use Rattle.lists.specs.Lists.{All, more, count}
use Rattle.lists.specs.Keyed.{count_by_key}
use Rattle.lists.proofs.Picks.{pick_yes, pick_no, same, differ, same?, is_yes, is_no}
use Rattle.lists.proofs.Sums.{all_imp, distinct_count}
use Rattle.lists.proofs.Counts.{bit_is, count_same}
use Rattle.lists.proofs.KeyedAll.{all_find, all_found}
use Rattle.lists.proofs.KeyedLaws.{find_none}
use Rattle.lists.proofs.Firsts.{distinct_firsts}
use Rattle.lists.proofs.Members.{all_counted, counted_all, all_firsts, all_keys, keep_length}
use Rattle.graph.specs.declared.Change.{Change}
use Rattle.graph.specs.declared.Change.TheVariants.{Single, DeleteVertex}
use Rattle.graph.specs.Graph.{Vertex, Edge, Graph, vertex_number, edge_number, no_vertex, no_edge, edge_in, vertex, edge, vertex_numbers, edge_numbers, out_word, in_word, edge_of, this, that, this_in}
use Rattle.graph.specs.Graph.{list_of, reading_kind, decimetres}
use Rattle.graph.specs.WellFormed.{Bounds, well_formed, WellFormed, VertexIn, EdgeIn, Within}
use Rattle.graph.specs.Changes.{edges_at, cost}
use Rattle.graph.specs.Questions.{on_side, degree}
use Rattle.graph.proofs.Facts.{to_facts}
use Rattle.graph.proofs.Incidence.{this_out, this_into, pick_le}
use Rattle.graph.proofs.Lists.{ordered_list}
use Rattle.graph.proofs.Orders.{key_find}
use Rattle.graph.proofs.Readings.{reading_range}
use Rattle.image.proofs.Counts.{distinct_few}

-- an oriented word of an edge whose number is from 1 to cap
abbrev pub WordOf : ℕ → ℕ → Type 0
WordOf cap k = (2 ≤ k) × (k ≤ 2 * cap + 1)

abbrev Numbered : ℕ → ℕ → Type 0
Numbered cap n = (1 ≤ n) × (n ≤ cap)

module _ (b : Bounds) (g : Graph) (h : well_formed b g ≡ true) where
  well : WellFormed g
  well = (to_facts b g h).0

  fits : Within b g
  fits = (to_facts b g h).1

  -- ---- numbers

  pub vertex_numbers_le : All (λ n. n ≤ b.vertices) (vertex_numbers g)
  vertex_numbers_le = all_keys vertex_number (all_imp (λ (v : Vertex) f. f.number) fits.vertices)

  pub edge_numbers_le : All (λ n. n ≤ b.edges) (edge_numbers g)
  edge_numbers_le = all_keys edge_number (all_imp (λ (e : Edge) f. f.number) fits.edges)

  vertex_le : (n : ℕ) → 1 ≤ count_by_key vertex_number n g.vseq → n ≤ b.vertices
  vertex_le n c = omega (arith, key_find vertex_number no_vertex n g.vseq c, (all_find vertex_number (VertexIn b) no_vertex n c fits.vertices).number)

  edge_le : (n : ℕ) → 1 ≤ count_by_key edge_number n g.eseq → n ≤ b.edges
  edge_le n c = omega (arith, key_find edge_number no_edge n g.eseq c, (all_find edge_number (EdgeIn b) no_edge n c fits.edges).number)

  -- ---- the ends of an edge; 0 where it is missing

  end_le : (k : ℕ) → this_in g.eseq k ≤ b.vertices
  end_le k = elim (same? (count_by_key edge_number (edge_of k) g.eseq) 0) [
    | same e f ↦ omega (arith, none k e)
    | differ e f ↦ vertex_le (this_in g.eseq k) (omega (arith, well.ends k (omega (arith, well.eorder (edge_of k)))))
  ]
    where
      none : (k : ℕ) → count_by_key edge_number (edge_of k) g.eseq ≡ 0 → this_in g.eseq k ≡ 0
      none k e =
          let d : edge_in g.eseq (edge_of k) ≡ no_edge = find_none edge_number no_edge (edge_of k) g.eseq e in
          elim (same? (k % 2) 0) [
            | same i j ↦ pick_yes (k % 2) 0 _ _ i ∙ ap (λ (x : Edge). x.alpha) d
            | differ i j ↦ pick_no (k % 2) 0 _ _ i ∙ ap (λ (x : Edge). x.omega) d
          ]

  pub alpha_le : (n : ℕ) → (edge g n).alpha ≤ b.vertices
  alpha_le n = rw this_out at (end_le (out_word n))

  pub omega_le : (n : ℕ) → (edge g n).omega ≤ b.vertices
  omega_le n = rw this_into at (end_le (in_word n))

  pub this_le : (k : ℕ) → this g k ≤ b.vertices
  this_le k = end_le k

  pub that_le : (k : ℕ) → that g k ≤ b.vertices
  that_le k = elim (same? (k % 2) 0) [
    | same i j ↦ rw (pick_yes (k % 2) 0 (edge g (edge_of k)).omega (edge g (edge_of k)).alpha i) (omega_le (edge_of k))
    | differ i j ↦ rw (pick_no (k % 2) 0 (edge g (edge_of k)).omega (edge g (edge_of k)).alpha i) (alpha_le (edge_of k))
  ]

  -- ---- what a vertex and an edge carry; types are below their number, or 0

  pub vertex_type_le : (n : ℕ) → (vertex g n).type ≤ b.types
  vertex_type_le n = all_found vertex_number (λ (v : Vertex). v.type ≤ b.types) no_vertex n (omega arith) (all_imp (λ (v : Vertex) f. omega (arith, f.type)) fits.vertices)

  pub edge_type_le : (n : ℕ) → (edge g n).type ≤ b.types
  edge_type_le n = all_found edge_number (λ (e : Edge). e.type ≤ b.types) no_edge n (omega arith) (all_imp (λ (e : Edge) f. omega (arith, f.type)) fits.edges)

  pub value_lt : (n : ℕ) → (vertex g n).value < 2 ^ 32
  value_lt n = all_found vertex_number (λ (v : Vertex). v.value < 2 ^ 32) no_vertex n (omega arith) (all_imp (λ (v : Vertex) f. f.value) fits.vertices)

  reading_le : (n : ℕ) → (reading_kind (edge g n).reading ≤ 2) × (decimetres (edge g n).reading ≤ 9999)
  reading_le n =
      all_found edge_number (λ (e : Edge). (reading_kind e.reading ≤ 2) × (decimetres e.reading ≤ 9999)) no_edge n (omega arith, omega arith)
      (all_imp (λ (e : Edge) f. reading_range e.reading f.reading) fits.edges)

  pub reading_kind_le : (n : ℕ) → reading_kind (edge g n).reading ≤ 2
  reading_kind_le n = (reading_le n).0

  pub decimetres_le : (n : ℕ) → decimetres (edge g n).reading ≤ 9999
  decimetres_le n = (reading_le n).1

  -- ---- the list of a vertex

  pub list_words : (u : ℕ) → All (WordOf b.edges) (list_of g u)
  list_words u = all_counted (list_of g u) (λ k c.
      let d : 1 ≤ count_by_key edge_number (edge_of k) g.eseq =
      omega (arith, count_same k (list_of g u), well.lists u k, pick_le (this_in g.eseq k) u (count_by_key edge_number (edge_of k) g.eseq)) in
      let n = edge_le (edge_of k) d in
      let r : 1 ≤ edge_of k = elim (same? 0 (edge_of k)) [
        | same e f ↦ absurd (omega (arith, well.eorder (edge_of k), is_yes 0 (edge_of k) e))
        | differ e f ↦ omega arith
      ] in
      (omega arith, omega arith))

  -- each word once: with 1 in front they are distinct, and none is above 2 × edges + 1
  pub list_length_le : (u : ℕ) → length (list_of g u) ≤ 2 * b.edges
  list_length_le u = omega (arith, distinct_few (2 * b.edges + 1) (1 ∷ list_of g u) once range)
    where
      in_list : All (Numbered (2 * b.edges + 1)) (1 ∷ list_of g u)
      in_list = more {x = 1} (omega arith, omega arith) (all_imp (λ k f. (omega (arith, f.0), f.1)) (list_words u))

      range : (n : ℕ) → 1 ≤ count n (1 ∷ list_of g u) → (1 ≤ n) × (n ≤ 2 * b.edges + 1)
      range n c = counted_all in_list n c

      once : (n : ℕ) → count n (1 ∷ list_of g u) ≤ 1
      once n = elim (same? 1 n) [
        | same e f ↦
            elim (same? (count n (list_of g u)) 0) [
              | same i j ↦ omega (arith, bit_is 1 n, is_yes 1 n e)
              | differ i j ↦ absurd (omega (arith, (counted_all (list_words u) n (omega arith)).0))
            ]
        | differ e f ↦ omega (arith, bit_is 1 n, is_no 1 n e, count_same n (list_of g u), ordered_list g well u n)
      ]

  pub degree_le : (in_class : ℕ → Bool) (c a : ℕ) → degree in_class c g a ≤ 2 * b.edges
  unfolding degree
  degree_le in_class c a = omega (arith, keep_length (λ w. in_class (edge g (edge_of w)).type && on_side c w) (list_of g a), list_length_le a)

  -- ---- the cost of a change

  pub edges_at_le : (a : ℕ) → length (edges_at g a) ≤ b.edges
  edges_at_le a = distinct_few b.edges (edges_at g a) (distinct_count (edges_at g a) (distinct_firsts (map edge_of (list_of g a)))) (counted_all in_list)
    where
      in_list : All (Numbered b.edges) (edges_at g a)
      in_list = all_firsts (all_keys edge_of (all_imp (λ k f. (omega (arith, f.0), omega (arith, f.1))) (list_words a)))

  pub cost_le : (c : Change) → cost c g ≤ 1 + b.edges
  cost_le (Single c) = omega arith
  cost_le (DeleteVertex a) = omega (arith, edges_at_le a)

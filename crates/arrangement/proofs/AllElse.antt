-- What the graphs of Reach are: the items stand in the order wanted, and all else is as it was.
use Prim.Native.Nat.{ℕ, ◌≤◌}
use mathlib.Core.Path.{◌≡◌, refl, sym, ap, ◌∙◌}
use mathlib.Core.Logic.{◌≢◌}
use mathlib.Core.Bool.{true}
use mathlib.Core.List.{List, [], ◌∷◌, map}
use native.Mathlib.Omega.{arith}
use Rattle.lists.specs.Keyed.{count_by_key, update_by}
use Rattle.lists.specs.Arranged.{in_order}
use Rattle.lists.proofs.Arranged.{times, order_keys, order_finds}
use Rattle.lists.proofs.Counts.{count_by_key_lem, count_same}
use Rattle.lists.proofs.KeyedLaws.{key_upd, find_upd, find_upd_other}
use Rattle.lists.proofs.Sums.{same_alike}
use Rattle.graph.specs.Graph.{Vertex, Graph, vertex_number, edge_number, no_vertex, no_edge, vertex, edge, vertex_numbers, edge_numbers, list_of}
use Rattle.graph.specs.WellFormed.{same_words}
use Rattle.graph.specs.Changes.{on_vseq, on_eseq, on_list}

wanted_counts : {A : Type 0} (key : A → ℕ) (ws : List ℕ) (l : List A) → same_words ws (map key l) ≡ true → (n : ℕ) → times n ws ≡ count_by_key key n l
wanted_counts key ws l e n = sym (count_same n ws) ∙ same_alike ws (map key l) e n ∙ count_by_key_lem key n l

module _ (g : Graph) (wanted : List ℕ) where
  -- ---- Vseq: its order, each vertex with its type, value and list, and Eseq

  module _ (e : same_words wanted (vertex_numbers g) ≡ true) where
    c : (n : ℕ) → times n wanted ≡ count_by_key vertex_number n g.vseq
    c = wanted_counts vertex_number wanted g.vseq e

    pub vertices_ordered : vertex_numbers (on_vseq (in_order vertex_number no_vertex wanted) g) ≡ wanted
    vertices_ordered = order_keys vertex_number no_vertex wanted g.vseq (λ n. omega (arith, c n))

    pub vertices_kept : (n : ℕ) → vertex (on_vseq (in_order vertex_number no_vertex wanted) g) n ≡ vertex g n
    vertices_kept n = order_finds vertex_number no_vertex n wanted g.vseq (λ k. omega (arith, c k)) (λ z. omega (arith, c n, z))

  pub edges_stay : (on_vseq (in_order vertex_number no_vertex wanted) g).eseq ≡ g.eseq
  edges_stay = refl

  -- ---- Eseq: its order, each edge, and Vseq

  module _ (e : same_words wanted (edge_numbers g) ≡ true) where
    k : (n : ℕ) → times n wanted ≡ count_by_key edge_number n g.eseq
    k = wanted_counts edge_number wanted g.eseq e

    pub edges_ordered : edge_numbers (on_eseq (in_order edge_number no_edge wanted) g) ≡ wanted
    edges_ordered = order_keys edge_number no_edge wanted g.eseq (λ n. omega (arith, k n))

    pub edges_kept : (n : ℕ) → edge (on_eseq (in_order edge_number no_edge wanted) g) n ≡ edge g n
    edges_kept n = order_finds edge_number no_edge n wanted g.eseq (λ j. omega (arith, k j)) (λ z. omega (arith, k n, z))

  pub vertices_stay : (on_eseq (in_order edge_number no_edge wanted) g).vseq ≡ g.vseq
  vertices_stay = refl

  -- ---- the list of v: every other vertex whole, and of v all but the list

  module _ (v : ℕ) where
    abbrev after : Graph
    after = on_vseq (update_by vertex_number v (on_list (λ _. wanted))) g

    pub list_ordered : 1 ≤ count_by_key vertex_number v g.vseq → list_of after v ≡ wanted
    list_ordered h = ap (λ (x : Vertex). x.incidences) (find_upd vertex_number (on_list (λ _. wanted)) (λ y. refl) no_vertex v g.vseq h)

    pub own_kept : 1 ≤ count_by_key vertex_number v g.vseq → vertex after v ≡ on_list (λ _. wanted) (vertex g v)
    own_kept h = find_upd vertex_number (on_list (λ _. wanted)) (λ y. refl) no_vertex v g.vseq h

    pub order_stays : vertex_numbers after ≡ vertex_numbers g
    order_stays = numbers g.vseq
      where
        numbers : (l : List Vertex) → map vertex_number (update_by vertex_number v (on_list (λ _. wanted)) l) ≡ map vertex_number l
        numbers [] = refl
        numbers (y ∷ l) = rw (key_upd vertex_number (on_list (λ _. wanted)) (λ y. refl) v y, numbers l)

    pub rows_stay : after.eseq ≡ g.eseq
    rows_stay = refl

    pub others_kept : (u : ℕ) → v ≢ u → vertex after u ≡ vertex g u
    others_kept u n = find_upd_other vertex_number (on_list (λ _. wanted)) (λ y. refl) no_vertex v u g.vseq n

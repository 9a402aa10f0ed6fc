-- The graph that the tables hold is the one that is read off them.
use Rattle.std.proofs.Common.{◌≡◌, ℕ, ◌≤◌, List, [], ◌∷◌, map, get_or, sym, refl, ap, ◌∙◌, arith}
use Rattle.linked_lists.specs.Links.{nodes}
use Rattle.linked_lists.proofs.Model.{held_nodes}
use Rattle.lists.proofs.Picks.{pick_no, pick_self, is_yes, is_zero}
use Rattle.lists.specs.Keyed.{count_by_key, find_by}
use Rattle.graph.specs.Graph.{Graph, vertex_number, edge_number, no_vertex, no_edge, out_word, in_word, vertex_in, edge_in, list_in, reading_of}
use Rattle.graph.proofs.Orders.{key_find}
use Rattle.graph.proofs.Incidence.{this_out, this_into}
use Rattle.graph_tables.specs.Tables.{State, vertex_links, edge_links, incidence_links, vertex_list_ends, edge_list_ends, vertex_ends, edge_place}
use Rattle.graph_tables.specs.Holds.{Holds}
use Rattle.graph_tables.specs.Read.{vertex_at, edge_at, graph_of}
use Rattle.graph_tables.proofs.Frames.{valid_v, valid_e, valid_i, row_v, row_e}
use Rattle.graph.proofs.Readings.{reading_back}

-- a function of the key that gives each element gives the list
module _ {A : Type 0} (key : A → ℕ) (d : A) (f : ℕ → A) where
  list_of : (l : List A) → ((n : ℕ) → count_by_key key n l ≤ 1) → ((n : ℕ) → 1 ≤ count_by_key key n l → f n ≡ find_by key d n l) → map f (map key l) ≡ l
  list_of [] u h = refl
  list_of (y ∷ l) u h =
      let k = is_yes (key y) (key y) refl in
      let first : f (key y) ≡ y = h (key y) (omega arith) ∙ pick_self (key y) y _ in
      let rest : map f (map key l) ≡ l = list_of l (λ n. omega (arith, u n)) (λ n i.
      h n (omega arith) ∙ pick_no (key y) n _ _ (is_zero (key y) n (omega (arith, u n)))) in
      λ i. first i ∷ rest i

module _ (s : State) (g : Graph) (h : Holds s g) where
  read_vertex : (v : ℕ) → 1 ≤ count_by_key vertex_number v g.vseq → vertex_at s v ≡ vertex_in g.vseq v
  read_vertex v c =
      let r = row_v s.vertices (vertex_list_ends s.head) g.vseq h.core.vseq v c in
      let o = h.core.vrows v r.0 in
      λ i. record {
        number = sym (key_find vertex_number no_vertex v g.vseq c) i;
        type = o.type i;
        value = o.value i;
        incidences = held_nodes incidence_links s.edges (vertex_ends s.vertices v) valid_i (list_in g.vseq v) (h.core.lists v r.0) i;
      }

  read_edge : (e : ℕ) → 1 ≤ count_by_key edge_number e g.eseq → edge_at s e ≡ edge_in g.eseq e
  read_edge e c =
      let r = row_e s.edges (edge_list_ends s.head) g.eseq h.core.eseq e c in
      let o = h.core.erows e r.0 in
      let q : reading_of (get_or s.edges (edge_place 5 e) 0) (get_or s.edges (edge_place 9 e) 0) ≡ (edge_in g.eseq e).reading =
      rw (o.kind, o.decimetres) (reading_back (edge_in g.eseq e).reading) in
      λ i. record {
        number = sym (key_find edge_number no_edge e g.eseq c) i;
        alpha = (h.core.this (out_word e) (omega (arith, r)) ∙ this_out g.eseq e) i;
        omega = (h.core.this (in_word e) (omega (arith, r)) ∙ this_into g.eseq e) i;
        type = o.type i;
        reading = q i;
      }

  pub graph_is : graph_of s ≡ g
  unfolding graph_of
  graph_is =
      let v : nodes vertex_links s.vertices (vertex_list_ends s.head) ≡ map vertex_number g.vseq =
      held_nodes vertex_links s.vertices (vertex_list_ends s.head) valid_v (map vertex_number g.vseq) h.core.vseq in
      let e : nodes edge_links s.edges (edge_list_ends s.head) ≡ map edge_number g.eseq =
      held_nodes edge_links s.edges (edge_list_ends s.head) valid_e (map edge_number g.eseq) h.core.eseq in
      let vs : map (vertex_at s) (map vertex_number g.vseq) ≡ g.vseq = list_of vertex_number no_vertex (vertex_at s) g.vseq (λ n. omega (arith, h.sound.vorder n)) read_vertex in
      let es : map (edge_at s) (map edge_number g.eseq) ≡ g.eseq = list_of edge_number no_edge (edge_at s) g.eseq (λ n. omega (arith, h.sound.eorder n)) read_edge in
      λ i. record { vseq = (ap (map (vertex_at s)) v ∙ vs) i; eseq = (ap (map (edge_at s)) e ∙ es) i }

-- no tables hold two graphs
pub holds_one : (s : State) (g g' : Graph) → Holds s g → Holds s g' → g ≡ g'
holds_one s g g' h h' = sym (graph_is s g h) ∙ graph_is s g' h'

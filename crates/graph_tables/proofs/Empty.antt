-- Tables of zeros, and tables that were cleared, hold the empty graph.
use Rattle.std.proofs.Common.{◌≡◌, ℕ, zero, suc, List, [], length, get_or, replicate, sym, refl, ◌∙◌, arith}
use Rattle.linked_lists.proofs.HeldLaws.{held_none}
use Rattle.lists.proofs.Picks.{pick_both, is_le}
use Rattle.graph.specs.Graph.{empty, this_in}
use Rattle.graph_tables.specs.Tables.{state, no_head, cleared, vertex_links, edge_links, incidence_links, vertex_place, edge_place, half_place, vertex_ends}
use Rattle.graph_tables.specs.Holds.{Holds}

module _ (vertices edges : List ℕ) (zv : (i : ℕ) → get_or vertices i 0 ≡ 0) (ze : (i : ℕ) → get_or edges i 0 ≡ 0) where
  no_ends : (v : ℕ) → vertex_ends vertices v ≡ record { first = 0; last = 0 }
  no_ends v i = record { first = zv (vertex_place 3 v) i; last = zv (vertex_place 4 v) i }

  pub holds_empty : Holds (state no_head vertices edges) empty
  holds_empty = record {
    core = record {
      vseq = held_none vertex_links vertices;
      eseq = held_none edge_links edges;
      vrows = λ v r. record { live = zv (vertex_place 0 v); type = zv (vertex_place 1 v); value = zv (vertex_place 2 v) };
      erows = λ e r. record { live = ze (edge_place 3 e); type = ze (edge_place 4 e); kind = ze (edge_place 5 e); decimetres = ze (edge_place 9 e) };
      this = λ w r. ze (half_place 2 w) ∙ sym (pick_both _ _ 0);
      lists = λ v r. rw (no_ends v) (held_none incidence_links edges);
      disjoint = λ u v k n. omega arith;
      vertices = refl;
      edges = refl;
    };
    sound = record {
      vorder = λ n. omega (arith, is_le 0 n);
      eorder = λ n. omega (arith, is_le 0 n);
      lists = λ u k. sym (pick_both (this_in [] k) u 0);
      ends = λ k q. absurd (omega arith);
    };
  }

zeros : (n i : ℕ) → get_or (replicate {A = ℕ} n 0) i 0 ≡ 0
zeros zero i = refl
zeros (suc n) zero = refl
zeros (suc n) (suc i) = zeros n i

pub holds_cleared : (vertices edges : List ℕ) → Holds (cleared vertices edges) empty
unfolding cleared
holds_cleared vertices edges = holds_empty (replicate (length vertices) 0) (replicate (length edges) 0) (zeros (length vertices)) (zeros (length edges))

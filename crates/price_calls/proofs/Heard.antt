-- The walk along the list of a reads, word by word, what the definition of the way reads.
use Prim.Native.Nat.{ℕ, ◌%◌, ◌≤◌}
use mathlib.Core.Path.{◌≡◌, refl, sym, ap, ap₂, ◌∙◌}
use mathlib.Core.List.{List}
use native.Mathlib.Omega.{arith}
use Rattle.lists.specs.Choice.{if_equal}
use Rattle.lists.specs.Lists.{All, done, more}
use Rattle.lists.specs.Keyed.{count_by_key}
use Rattle.lists.proofs.Picks.{pick_yes, pick_no, same, differ, same?}
use Rattle.lists.proofs.Members.{all_counted}
use Rattle.lists.proofs.Counts.{count_same}
use Rattle.linked_lists.proofs.Model.{held_nodes}
use Rattle.graph.specs.declared.Reading.{Reading}
use Rattle.graph.specs.declared.Reading.TheVariants.{Untested}
use Rattle.graph.specs.Graph.{Graph, edge_number, itself, edge, edge_of, this, list_of}
use Rattle.graph.specs.Changes.{VertexThere, EdgeThere}
use Rattle.graph.proofs.Incidence.{pick_le}
use Rattle.graph_tables.specs.Tables.{State, incidence_links, vertex_ends, wthis}
use Rattle.graph_tables.specs.Holds.{Holds}
use Rattle.graph_tables.proofs.Frames.{valid_i}
use Rattle.graph_tables.proofs.Answers.{vertex_row, omega_is, reading_at_lem}
use Rattle.prices.specs.Prices.{reading_out, later, last_tested, way}
use Rattle.price_calls.specs.Ways.{reading_to, way_at}

same_along : (f k : ℕ → Reading) (r : Reading) {ws : List ℕ} → All (λ w. f w ≡ k w) ws → last_tested f r ws ≡ last_tested k r ws
same_along f k r done = refl
same_along f k r (more {x = w} {xs = ws} e s) = ap (λ (x : Reading). last_tested f (later r x) ws) e ∙ same_along f k (later r (k w)) s

module _ (s : State) (g : Graph) (h : Holds s g) (a b : ℕ) where
  word_is : (w : ℕ) → 1 ≤ count_by_key itself w (list_of g a) → reading_to s.edges b w ≡ reading_out g b w
  word_is w i = elim (same? (w % 2) 0) [
    | differ p q ↦ pick_no (w % 2) 0 _ _ p ∙ sym (pick_no (w % 2) 0 _ _ p)
    | same p q ↦
        let c : EdgeThere g (edge_of w) = omega (arith, h.sound.lists a w, pick_le (this g w) a (count_by_key edge_number (edge_of w) g.eseq), h.sound.eorder (edge_of w)) in
        let z : wthis s.edges (Prim.Native.Nat.◌+◌ w 1) ≡ (edge g (edge_of w)).omega =
        ap (wthis s.edges) (omega arith) ∙ omega_is s g h (edge_of w) c in
        pick_yes (w % 2) 0 _ _ p ∙ ap₂ (λ (x : ℕ) (y : Reading). if_equal x b y Untested) z (reading_at_lem s g h (edge_of w) c) ∙ sym (pick_yes (w % 2) 0 _ _ p)
  ]

  pub way_is : VertexThere g a → way_at s.vertices s.edges a b ≡ way g a b
  unfolding way way_at
  way_is c =
      ap (last_tested (reading_to s.edges b) Untested) (held_nodes incidence_links s.edges (vertex_ends s.vertices a) valid_i (list_of g a) (h.core.lists a (vertex_row s g h a c).0))
      ∙ same_along (reading_to s.edges b) (reading_out g b) Untested (all_counted (list_of g a) (λ w i. word_is w (omega (arith, count_same w (list_of g a)))))

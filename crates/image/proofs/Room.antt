-- Code 106: what a graph within the capacities saves as has room in 6 + 4 × vertices + 8 × edges words.
use Rattle.std.specs.Prelude.{◌==◌}
use Prim.Native.Nat.{ℕ, suc, ◌+◌, ◌≤◌}
use mathlib.Core.Path.{◌≡◌, refl, ap}
use mathlib.Core.Bool.{Bool, true, false}
use mathlib.Core.List.{List, [], ◌∷◌, map}
use native.Mathlib.Omega.{arith}
use lib.ListN.{length}
use borrow.Author.Tests.{eqb-true}
use Rattle.lists.specs.Choice.{to_bit, within}
use Rattle.lists.specs.Lists.{distinct, count, All, done, more}
use Rattle.lists.proofs.Sums.{distinct_count, all_bool}
use Rattle.graph.specs.Graph.{Graph, vertex_number, edge_number}
use Rattle.graph.specs.WellFormed.{Bounds, sound_vertex, sound_edge, well_formed}
use Rattle.image.specs.Image.{image_length, save}
use Rattle.lists.proofs.Bools.{within_range}
use Rattle.image.proofs.Formed.{formed, vertex_facts, edge_facts}
use Rattle.image.proofs.Loads.{image_length_lem}
use Rattle.image.proofs.Counts.{distinct_few}

-- at most as many elements as the capacity: their numbers are distinct, and from 1 to it
module _ {A : Type 0} (key : A → ℕ) (cap : ℕ) where
  pub Numbered : A → Type 0
  Numbered x = within 1 cap (key x) ≡ true

  keys_length : (xs : List A) → length (map key xs) ≡ length xs
  keys_length [] = refl
  keys_length (x ∷ xs) = ap suc (keys_length xs)

  keys_range : {xs : List A} → All Numbered xs → (n : ℕ) → 1 ≤ count n (map key xs) → (1 ≤ n) × (n ≤ cap)
  unfolding Numbered
  keys_range done n c = absurd (omega arith)
  keys_range (more {x = x} {xs = xs} p a) n c = go (λ i. keys_range a n i) (key x == n) refl c
    where
      go : (1 ≤ count n (map key xs) → (1 ≤ n) × (n ≤ cap)) → (t : Bool) → (key x == n) ≡ t → 1 ≤ to_bit t + count n (map key xs) → (1 ≤ n) × (n ≤ cap)
      go ih true e c = let q = within_range 1 cap (key x) p in let r = eqb-true (key x) n e in (omega (arith, r, q.0), omega (arith, r, q.1))
      go ih false e c = ih (omega arith)

  pub few : (xs : List A) → distinct (map key xs) ≡ true → All Numbered xs → length xs ≤ cap
  few xs d a = omega (arith, keys_length xs, distinct_few cap (map key xs) (distinct_count (map key xs) d) (keys_range a))

module _ (b : Bounds) (g : Graph) (h : well_formed b g ≡ true) where
  pub few_vertices_lem : length g.vseq ≤ b.vertices
  unfolding Numbered
  few_vertices_lem =
      few vertex_number b.vertices g.vseq (formed b g h).distinct_vertex_numbers
      (all_bool (sound_vertex b g) (λ v e. (vertex_facts b g v e).number) g.vseq (formed b g h).vertices_sound)

  pub few_edges_lem : length g.eseq ≤ b.edges
  unfolding Numbered
  few_edges_lem =
      few edge_number b.edges g.eseq (formed b g h).distinct_edge_numbers
      (all_bool (sound_edge b g) (λ e s. (edge_facts b g e s).number) g.eseq (formed b g h).edges_sound)

  pub image_fits : length (save g) ≤ image_length b.vertices b.edges
  image_fits = omega (arith, image_length_lem b g h, few_vertices_lem, few_edges_lem)

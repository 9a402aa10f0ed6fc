-- The walks over records, and how many words of one are sound, by their values.
use Prim.Native.Nat.{ℕ}
use mathlib.Core.Bool.{Bool, ◌&&◌}
use mathlib.Core.List.{List, [], ◌∷◌}
use Rattle.lists.specs.Choice.{within}
use Rattle.graph.specs.Graph.{Edge}
use Rattle.image.specs.Image.{old_vertex_size, edge_size}
use Rattle.image_check.specs.Checks.{passed, part_limits, vertex_tests, field_tests, degree_tests, walk, seeing, vertex_by, edge_by, degree_by}
use Rattle.image_check.specs.Checks.{Verdict}

abbrev pub good_vertex : ℕ → ℕ → Bool → ℕ → ℕ → ℕ → ℕ
good_vertex cap types fresh n t x = passed (vertex_tests (part_limits cap types) (λ m. fresh) (n ∷ t ∷ x ∷ []))

abbrev pub good_edge : ℕ → ℕ → Bool → Bool → Bool → ℕ → ℕ → ℕ → ℕ → ℕ
good_edge cap types fresh from to n t k d = passed ((within 1 cap n && fresh) ∷ from ∷ to ∷ field_tests types t k d)

abbrev pub good_degree : ℕ → ℕ → ℕ
good_degree degree d = passed (degree_tests (λ n. degree) (0 ∷ 0 ∷ 0 ∷ d ∷ []))

abbrev pub vertex_walk : ℕ → ℕ → ℕ → List ℕ → ℕ → List ℕ → ℕ → Verdict
vertex_walk size cap types seen k ws at = walk (vertex_by (part_limits cap types)) seeing old_vertex_size size seen k ws at

abbrev pub edge_walk : ℕ → ℕ → List ℕ → List ℕ → ℕ → List ℕ → ℕ → Verdict
edge_walk cap types vs seen k ws at = walk (edge_by (part_limits cap types) vs) seeing edge_size edge_size seen k ws at

abbrev pub degree_walk : ℕ → List Edge → ℕ → List ℕ → ℕ → Verdict
degree_walk size es k ws at = walk (degree_by es) (λ s r. s) size size tt k ws at

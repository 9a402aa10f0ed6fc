-- The vertices and edges that a graph has, by test and by count.
use Prim.Native.Nat.{ℕ, ◌≤◌}
use mathlib.Core.Path.{◌≡◌}
use mathlib.Core.Bool.{true, false}
use native.Mathlib.Omega.{arith}
use Rattle.lists.specs.Keyed.{count_by_key}
use Rattle.lists.proofs.Picks.{is_zero}
use Rattle.lists.proofs.Counts.{any_count, count_any, any_none}
use Rattle.graph.specs.Graph.{Graph, vertex_number, edge_number, no_vertex, no_edge, vertex, edge, has_vertex, has_edge}
use Rattle.graph.specs.WellFormed.{WellFormed}
use Rattle.graph.specs.Changes.{VertexThere, EdgeThere}
use Rattle.graph.proofs.Orders.{key_find}

module _ (g : Graph) (n : ℕ) where
  pub vertex_count : has_vertex g n ≡ true → 1 ≤ count_by_key vertex_number n g.vseq
  vertex_count h = any_count vertex_number n g.vseq h

  pub count_vertex : 1 ≤ count_by_key vertex_number n g.vseq → has_vertex g n ≡ true
  count_vertex h = count_any vertex_number n g.vseq h

  pub vertex_none : has_vertex g n ≡ false → count_by_key vertex_number n g.vseq ≡ 0
  vertex_none h = any_none vertex_number n g.vseq h

  pub edge_count : has_edge g n ≡ true → 1 ≤ count_by_key edge_number n g.eseq
  edge_count h = any_count edge_number n g.eseq h

  pub edge_none : has_edge g n ≡ false → count_by_key edge_number n g.eseq ≡ 0
  edge_none h = any_none edge_number n g.eseq h

  -- each stands once, under its own number, which is not 0
  pub vertex_once : WellFormed g → has_vertex g n ≡ true → VertexThere g n
  vertex_once w h = omega (arith, vertex_count h, w.vorder n)

  pub edge_once : WellFormed g → has_edge g n ≡ true → EdgeThere g n
  edge_once w h = omega (arith, edge_count h, w.eorder n)

  pub vertex_number_lem : VertexThere g n → (vertex g n).number ≡ n
  vertex_number_lem h = key_find vertex_number no_vertex n g.vseq (omega arith)

  pub edge_number_lem : EdgeThere g n → (edge g n).number ≡ n
  edge_number_lem h = key_find edge_number no_edge n g.eseq (omega arith)

  pub vertex_real : WellFormed g → VertexThere g n → 1 ≤ n
  vertex_real w h = omega (arith, is_zero 0 n (omega (arith, w.vorder n)))

  pub edge_real : WellFormed g → EdgeThere g n → 1 ≤ n
  edge_real w h = omega (arith, is_zero 0 n (omega (arith, w.eorder n)))

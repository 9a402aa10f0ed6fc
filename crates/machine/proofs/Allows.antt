-- A change that no code from 2 to 9 refuses is one that the graph allows.
use Rattle.std.specs.Prelude.{◌==◌}
use Prim.Native.Nat.{ℕ, ◌≤◌, ◌<◌}
use mathlib.Core.Path.{◌≡◌, refl}
use mathlib.Core.Bool.{Bool, true, false, not, ◌||◌}
use native.Mathlib.Omega.{arith}
use lib.Dec.{leb}
use borrow.Author.Tests.{eqb-true, eqb-false, leb-false, not-false}
use Rattle.lists.specs.Choice.{◌⇒◌else◌, within}
use Rattle.graph.specs.declared.Change.{Change}
use Rattle.graph.specs.declared.SingleChange.{SingleChange}
use Rattle.graph.specs.declared.SingleChange.TheVariants.{CreateVertex, CreateEdge, DeleteEdge, RetypeVertex, RetypeEdge, SetValue, SetReading, SetAlpha, SetOmega, VertexBefore}
use Rattle.graph.specs.declared.SingleChange.TheVariants.{VertexAfter, EdgeBefore, EdgeAfter, WordBefore, WordAfter}
use Rattle.graph.specs.declared.Change.TheVariants.{Single, DeleteVertex}
use Rattle.graph.specs.Graph.{Graph, has_vertex, has_edge, edge_of, this, is_reading}
use Rattle.graph.specs.WellFormed.{Bounds, WellFormed}
use Rattle.graph.specs.Changes.{VertexThere, EdgeThere, SinglyAllowed, Allowed}
use Rattle.graph.proofs.Numbers.{vertex_none, edge_none, vertex_once, edge_once}
use Rattle.machine.specs.Codes.{lacks_vertex, lacks_edge, change_code}
use Rattle.commands.specs.Fits.{SingleFits, ChangeFits}
use Rattle.lists.proofs.Bools.{within_range, or_none}

-- a chain that gives 0 has passed its first row
zero : (t : Bool) (k r : ℕ) → 1 ≤ k → ◌≡◌ {A = ℕ} (t ⇒ k else r) 0 → (t ≡ false) × (r ≡ 0)
zero true k r p e = absurd (omega arith)
zero false k r p e = (refl, e)

ranged : (cap n : ℕ) → not (within 1 cap n) ≡ false → (1 ≤ n) × (n ≤ cap)
ranged cap n e = within_range 1 cap n (not-false (within 1 cap n) e)

module _ (b : Bounds) (g : Graph) (w : WellFormed g) where
  vertex : (n : ℕ) → lacks_vertex g n ≡ false → VertexThere g n
  vertex n e = vertex_once g n w (not-false (has_vertex g n) e)

  edge : (n : ℕ) → lacks_edge g n ≡ false → EdgeThere g n
  edge n e = edge_once g n w (not-false (has_edge g n) e)

  vertices : (x y r : ℕ) → ◌≡◌ {A = ℕ} ((lacks_vertex g x || lacks_vertex g y) ⇒ 4 else r) 0 → VertexThere g x × VertexThere g y × (r ≡ 0)
  vertices x y r e =
      let z = zero (lacks_vertex g x || lacks_vertex g y) 4 r (omega arith) e in
      let n = or_none (lacks_vertex g x) (lacks_vertex g y) z.0 in
      (vertex x n.0, vertex y n.1, z.1)

  edges : (x y r : ℕ) → ◌≡◌ {A = ℕ} ((lacks_edge g x || lacks_edge g y) ⇒ 5 else r) 0 → EdgeThere g x × EdgeThere g y × (r ≡ 0)
  edges x y r e =
      let z = zero (lacks_edge g x || lacks_edge g y) 5 r (omega arith) e in
      let n = or_none (lacks_edge g x) (lacks_edge g y) z.0 in
      (edge x n.0, edge y n.1, z.1)

  type : (t : ℕ) → ◌≡◌ {A = ℕ} (leb b.types t ⇒ 6 else 0) 0 → t < b.types
  type t e = leb-false b.types t (zero (leb b.types t) 6 0 (omega arith) e).0

  apart : (x y : ℕ) → ◌≡◌ {A = ℕ} ((x == y) ⇒ 9 else 0) 0 → x ≡ y → ⊥
  apart x y e = eqb-false x y (zero (x == y) 9 0 (omega arith) e).0

  two_vertices : (x y : ℕ) → ◌≡◌ {A = ℕ} ((lacks_vertex g x || lacks_vertex g y) ⇒ 4 else (x == y) ⇒ 9 else 0) 0 → VertexThere g x × VertexThere g y × (x ≡ y → ⊥)
  two_vertices x y e = let z = vertices x y _ e in (z.0, z.1, apart x y z.2)

  two_edges : (x y : ℕ) → ◌≡◌ {A = ℕ} ((lacks_edge g x || lacks_edge g y) ⇒ 5 else (x == y) ⇒ 9 else 0) 0 → EdgeThere g x × EdgeThere g y × (x ≡ y → ⊥)
  two_edges x y e = let z = edges x y _ e in (z.0, z.1, apart x y z.2)

  two_words : (x y : ℕ) → ◌≡◌ {A = ℕ} ((lacks_edge g (edge_of x) || lacks_edge g (edge_of y)) ⇒ 5 else not (this g x == this g y) ⇒ 8 else (x == y) ⇒ 9 else 0) 0 →
      EdgeThere g (edge_of x) × EdgeThere g (edge_of y) × (this g x ≡ this g y) × (x ≡ y → ⊥)
  two_words x y e =
      let z = edges (edge_of x) (edge_of y) _ e in
      let s = zero (not (this g x == this g y)) 8 _ (omega arith) z.2 in
      (z.0, z.1, eqb-true (this g x) (this g y) (not-false (this g x == this g y) s.0), apart x y s.1)

  pub singly_allows : (c : SingleChange) → SingleFits c → change_code b g (Single c) ≡ 0 → SinglyAllowed b g c
  singly_allows (CreateVertex n t x) f e =
      let p = zero (not (within 1 b.vertices n)) 2 _ (omega arith) e in
      let q = zero (has_vertex g n) 3 _ (omega arith) p.1 in
      let r = ranged b.vertices n p.0 in
      (r.0, r.1, vertex_none g n q.0, type t q.1, f)
  singly_allows (CreateEdge n a o t) f e =
      let p = zero (not (within 1 b.edges n)) 2 _ (omega arith) e in
      let q = zero (has_edge g n) 3 _ (omega arith) p.1 in
      let r = ranged b.edges n p.0 in
      let v = vertices a o _ q.1 in
      (r.0, r.1, edge_none g n q.0, v.0, v.1, type t v.2)
  singly_allows (DeleteEdge a) f e = edge a (zero (lacks_edge g a) 5 0 (omega arith) e).0
  singly_allows (RetypeVertex a t) f e = let p = zero (lacks_vertex g a) 4 _ (omega arith) e in (vertex a p.0, type t p.1)
  singly_allows (RetypeEdge a t) f e = let p = zero (lacks_edge g a) 5 _ (omega arith) e in (edge a p.0, type t p.1)
  singly_allows (SetValue a x) f e = (vertex a (zero (lacks_vertex g a) 4 0 (omega arith) e).0, f)
  singly_allows (SetReading a k d) f e =
      let p = zero (lacks_edge g a) 5 _ (omega arith) e in
      (edge a p.0, not-false (is_reading k d) (zero (not (is_reading k d)) 7 0 (omega arith) p.1).0)
  singly_allows (SetAlpha n v) f e =
      let p = zero (lacks_vertex g v) 4 _ (omega arith) e in
      (edge n (zero (lacks_edge g n) 5 0 (omega arith) p.1).0, vertex v p.0)
  singly_allows (SetOmega n v) f e =
      let p = zero (lacks_vertex g v) 4 _ (omega arith) e in
      (edge n (zero (lacks_edge g n) 5 0 (omega arith) p.1).0, vertex v p.0)
  singly_allows (VertexBefore x y) f e = two_vertices x y e
  singly_allows (VertexAfter x y) f e = two_vertices x y e
  singly_allows (EdgeBefore x y) f e = two_edges x y e
  singly_allows (EdgeAfter x y) f e = two_edges x y e
  singly_allows (WordBefore x y) f e = two_words x y e
  singly_allows (WordAfter x y) f e = two_words x y e

  pub allows : (c : Change) → ChangeFits c → change_code b g c ≡ 0 → Allowed b g c
  allows (Single c) f e = singly_allows c f e
  allows (DeleteVertex a) f e = vertex a (zero (lacks_vertex g a) 4 0 (omega arith) e).0

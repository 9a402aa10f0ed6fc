-- What a look-up says: of the table, and of the graph that the table holds.
use Rattle.std.specs.Prelude.{◌==◌}
use Rattle.std.proofs.Common.{◌≡◌, ℕ, ◌+◌, ◌-◌, ◌*◌, ◌/◌, ◌≤◌, Bool, true, false, ltb, List, length, get_or, sym, refl, ◌∙◌, arith, ltb-false}
use borrow.Author.Tests.{eqb-false}
use Rattle.lists.specs.Choice.{◌⇒◌else◌}
use Rattle.graph.specs.Graph.{Graph, has_vertex, has_edge}
use Rattle.graph_tables.specs.declared.Lookup.{Lookup}
use Rattle.graph_tables.specs.declared.Lookup.TheVariants.{Found, Missing}
use Rattle.graph_tables.specs.Tables.{state, EdgeRowIn, HalfRowIn, found_row, lookup_vertex, lookup_edge}
use Rattle.graph_tables.specs.Holds.{HoldsV, HoldsE}
use Rattle.graph_tables.proofs.Finds.{found_vertex, found_edge}

at_missing {ℓ} : {X : Type ℓ} {k : ℕ} → Found k ≡ Missing → X
at_missing e = absurd (let z : ◌≡◌ {A = ℕ} 0 1 = cc in omega arith)

at_found {ℓ} : {X : Type ℓ} {k : ℕ} → Missing ≡ Found k → X
at_found e = at_missing (sym e)

same_place : {j k : ℕ} → Found j ≡ Found k → k ≡ j
same_place e = cc

-- ---- a row that is found is in the table, and begins at k

module _ (size live : ℕ) (table : List ℕ) (n k : ℕ) (f : Lookup) (e : f ≡ found_row size live table n) (i : f ≡ Found k) where
  found_row_lem : (1 ≤ n) × (size * n ≤ length table) × (k ≡ size * n - size)
  unfolding found_row
  found_row_lem = go (n == 0) (ltb (length table) (size * n)) (get_or table (size * n - size + live) 0 == 0) refl refl (sym e ∙ i)
    where
      go : (p q d : Bool) → (n == 0) ≡ p → ltb (length table) (size * n) ≡ q →
          (p ⇒ Missing else q ⇒ Missing else d ⇒ Missing else Found (size * n - size)) ≡ Found k → (1 ≤ n) × (size * n ≤ length table) × (k ≡ size * n - size)
      go true q d i j e = at_found e
      go false true d i j e = at_found e
      go false false true i j e = at_found e
      go false false false i j e = (omega (arith, eqb-false n 0 i), ltb-false (length table) (size * n) j, same_place e)

pub vertex_end : (vertices : List ℕ) (n k : ℕ) (f : Lookup) → f ≡ lookup_vertex vertices n → f ≡ Found k → k + 8 ≤ length vertices
vertex_end vertices n k f e i = let r = found_row_lem 8 0 vertices n k f e i in omega (arith, r.0, r.1, r.2)

module _ (edges : List ℕ) (n k : ℕ) (f : Lookup) (e : f ≡ lookup_edge edges n) (i : f ≡ Found k) where
  pub edge_in : EdgeRowIn edges n
  edge_in = let r = found_row_lem 12 3 edges n k f e i in (r.0, r.1)

  pub edge_end : k + 12 ≤ length edges
  edge_end = let r = found_row_lem 12 3 edges n k f e i in omega (arith, r.0, r.1, r.2)

-- an oriented word of an edge that is found
pub word_in : (edges : List ℕ) (w : ℕ) (f : Lookup) (k : ℕ) → f ≡ lookup_edge edges (w / 2) → f ≡ Found k → HalfRowIn edges w
word_in edges w f k e i =
    let r = edge_in edges (w / 2) k f e i in
    (omega (arith, r.0), omega (arith, r.1))

-- ---- a look-up finds what the graph has

by_has : {b : Bool} (j k : ℕ) → (b ⇒ Found j else Missing) ≡ Found k → b ≡ true
by_has {b = true} j k e = refl
by_has {b = false} j k e = at_found e

by_lacks : {b : Bool} (j : ℕ) → (b ⇒ Found j else Missing) ≡ Missing → b ≡ false
by_lacks {b = true} j e = at_missing e
by_lacks {b = false} j e = refl

module _ (vertices : List ℕ) (g : Graph) (n : ℕ) (h : HoldsV vertices g) where
  pub vertex_looked : lookup_vertex vertices n ≡ (has_vertex g n ⇒ Found (8 * n - 8) else Missing)
  vertex_looked = found_vertex (state h.1.0 vertices h.0) g h.1.1 n

  pub vertex_there : (f : Lookup) (k : ℕ) → f ≡ lookup_vertex vertices n → f ≡ Found k → has_vertex g n ≡ true
  vertex_there f k e i = by_has (8 * n - 8) k (sym vertex_looked ∙ sym e ∙ i)

  pub vertex_lacking : (f : Lookup) → f ≡ lookup_vertex vertices n → f ≡ Missing → has_vertex g n ≡ false
  vertex_lacking f e i = by_lacks (8 * n - 8) (sym vertex_looked ∙ sym e ∙ i)

module _ (edges : List ℕ) (g : Graph) (n : ℕ) (h : HoldsE edges g) where
  pub edge_looked : lookup_edge edges n ≡ (has_edge g n ⇒ Found (12 * n - 12) else Missing)
  edge_looked = found_edge (state h.1.0 h.0 edges) g h.1.1 n

  pub edge_there : (f : Lookup) (k : ℕ) → f ≡ lookup_edge edges n → f ≡ Found k → has_edge g n ≡ true
  edge_there f k e i = by_has (12 * n - 12) k (sym edge_looked ∙ sym e ∙ i)

  pub edge_lacking : (f : Lookup) → f ≡ lookup_edge edges n → f ≡ Missing → has_edge g n ≡ false
  edge_lacking f e i = by_lacks (12 * n - 12) (sym edge_looked ∙ sym e ∙ i)

-- What a row that was looked up says: of the table, and of the graph that the table holds.
use Rattle.std.specs.Prelude.{Result, Ok, Err}
use Rattle.std.specs.Result.{IsErrAnd}
use Prim.Native.Nat.{ℕ, ◌+◌, ◌≤◌}
use mathlib.Core.Path.{◌≡◌, refl, sym, ap, ◌∙◌}
use mathlib.Core.Bool.{true, false}
use mathlib.Core.List.{List}
use lib.ListN.{length}
use Rattle.graph.specs.Graph.{Graph, has_vertex, has_edge, edge_of}
use Rattle.graph_tables.specs.declared.Lookup.{Lookup}
use Rattle.graph_tables.specs.declared.Lookup.TheVariants.{Found, Missing}
use Rattle.graph_tables.specs.Tables.{HalfRowIn, lookup_vertex, lookup_edge}
use Rattle.graph_tables.specs.Holds.{HoldsV, HoldsE}
use Rattle.graph_tables.proofs.LookedUp.{vertex_end, edge_end, word_in, vertex_there, vertex_lacking, edge_there, edge_lacking}
use Rattle.commands.specs.declared.refusal.Refusal.{Refusal}
use Rattle.commands.specs.declared.refusal.Refusal.TheVariants.{NoVertex, NoEdge}
use Rattle.commands.specs.Answers.{refuses}
use Rattle.commands.specs.Refusals.{refusal_code, answer_by}
use Rattle.question_calls.specs.Words.{row_or}

found : (refusal : Refusal) {k : ℕ} (f : Lookup) → row_or refusal f ≡ Ok k → f ≡ Found k
found refusal (Found j) e = cc
found refusal Missing e = cc

missing : (refusal : Refusal) {r : Refusal} (f : Lookup) → row_or refusal f ≡ Err r → (f ≡ Missing) × (r ≡ refusal)
missing refusal (Found j) e = cc
missing refusal Missing e = (refl, cc)

-- the exit of a `?` with a refusal that is known
left : (came : Result ℕ Refusal) (refusal : Refusal) {r : Refusal} → IsErrAnd came (λ y. y ≡ r) → r ≡ refusal → answer_by came ≡ refuses (refusal_code refusal)
left (Ok _) refusal e i = elim e [ ]
left (Err y) refusal e i = ap (λ (x : Refusal). refuses (refusal_code x)) (e ∙ i)

module _ (vertices : List ℕ) (n : ℕ) (row : Result ℕ Refusal) (e : row ≡ row_or NoVertex (lookup_vertex vertices n)) where
  pub vertex_row_end : (k : ℕ) → row ≡ Ok k → k + 8 ≤ length vertices
  vertex_row_end k i = vertex_end vertices n k _ refl (found _ _ (sym e ∙ i))

  module _ (g : Graph) (h : HoldsV vertices g) where
    pub vertex_stands : (k : ℕ) → row ≡ Ok k → has_vertex g n ≡ true
    vertex_stands k i = vertex_there vertices g n h _ k refl (found _ _ (sym e ∙ i))

    -- the exit of its `?`
    pub vertex_exit : (came : Result ℕ Refusal) {r : Refusal} → row ≡ Err r → IsErrAnd came (λ y. y ≡ r) → (answer_by came ≡ refuses 4) × (has_vertex g n ≡ false)
    vertex_exit came i o = let q = missing _ _ (sym e ∙ i) in (left came NoVertex o q.1, vertex_lacking vertices g n h _ refl q.0)

module _ (edges : List ℕ) (n : ℕ) (row : Result ℕ Refusal) (e : row ≡ row_or NoEdge (lookup_edge edges n)) where
  pub edge_row_end : (k : ℕ) → row ≡ Ok k → k + 12 ≤ length edges
  edge_row_end k i = edge_end edges n k _ refl (found _ _ (sym e ∙ i))

  module _ (g : Graph) (h : HoldsE edges g) where
    pub edge_stands : (k : ℕ) → row ≡ Ok k → has_edge g n ≡ true
    edge_stands k i = edge_there edges g n h _ k refl (found _ _ (sym e ∙ i))

    -- the exit of its `?`
    pub edge_exit : (came : Result ℕ Refusal) {r : Refusal} → row ≡ Err r → IsErrAnd came (λ y. y ≡ r) → (answer_by came ≡ refuses 5) × (has_edge g n ≡ false)
    edge_exit came i o = let q = missing _ _ (sym e ∙ i) in (left came NoEdge o q.1, edge_lacking edges g n h _ refl q.0)

-- the half of an oriented word whose edge stands
pub half_stands : (edges : List ℕ) (w k : ℕ) (row : Result ℕ Refusal) → row ≡ row_or NoEdge (lookup_edge edges (edge_of w)) → row ≡ Ok k → HalfRowIn edges w
half_stands edges w k row e i = word_in edges w _ k refl (found _ _ (sym e ∙ i))

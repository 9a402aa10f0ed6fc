-- The edit of a change is within the bounds.
use Prim.Native.Nat.{ℕ}
use mathlib.Core.Path.{refl, subst}
use native.Mathlib.Omega.{arith}
use Rattle.lists.proofs.KeyedAll.{all_find}
use Rattle.graph.specs.declared.SingleChange.{SingleChange}
use Rattle.graph.specs.declared.SingleChange.TheVariants.{CreateVertex, CreateEdge, DeleteEdge, RetypeVertex, RetypeEdge, SetValue, SetReading, SetAlpha, SetOmega, VertexBefore}
use Rattle.graph.specs.declared.SingleChange.TheVariants.{VertexAfter, EdgeBefore, EdgeAfter, WordBefore, WordAfter}
use Rattle.graph.specs.Graph.{Graph, vertex_number, edge_number, no_vertex, no_edge, vertex, edge}
use Rattle.graph.specs.WellFormed.{Bounds, VertexFits, EdgeFits, VertexIn, EdgeIn, Within}
use Rattle.graph.specs.Changes.{VertexThere, EdgeThere, SinglyAllowed}
use Rattle.graph.specs.Edits.{EditIn}
use Rattle.graph.specs.Plans.{removal, vertex_removal, word_move, plan}
use Rattle.graph.proofs.Numbers.{vertex_number_lem, edge_number_lem}
use Rattle.graph.proofs.Readings.{reading_sound}

module _ (b : Bounds) (g : Graph) (w : Within b g) where
  pub vertex_fits : (n : ℕ) → VertexThere g n → VertexFits b n (vertex g n).type (vertex g n).value
  vertex_fits n h = subst (λ (m : ℕ). VertexFits b m (vertex g n).type (vertex g n).value) (vertex_number_lem g n h)
      (all_find vertex_number (VertexIn b) no_vertex n (omega arith) w.vertices)

  pub edge_fits : (n : ℕ) → EdgeThere g n → EdgeFits b n (edge g n).type (edge g n).reading
  edge_fits n h = subst (λ (m : ℕ). EdgeFits b m (edge g n).type (edge g n).reading) (edge_number_lem g n h)
      (all_find edge_number (EdgeIn b) no_edge n (omega arith) w.edges)

  pub removal_in : (n : ℕ) → EdgeThere g n → EditIn b (removal n g)
  unfolding removal
  removal_in n h = edge_fits n h

  pub vertex_removal_in : (a : ℕ) → VertexThere g a → EditIn b (vertex_removal a g)
  unfolding vertex_removal
  vertex_removal_in a h = vertex_fits a h

  pub plan_in : (c : SingleChange) → SinglyAllowed b g c → EditIn b (plan c g)
  unfolding plan word_move
  plan_in (CreateVertex n t x) h = record { number = h.1; type = h.3; value = h.4 }
  plan_in (CreateEdge n a o t) h = record { number = h.1; type = h.5; reading = refl }
  plan_in (DeleteEdge a) h = removal_in a h
  plan_in (RetypeVertex a t) h = let f = vertex_fits a h.0 in (f, record { number = f.number; type = h.1; value = f.value })
  plan_in (RetypeEdge a t) h = let f = edge_fits a h.0 in (f, record { number = f.number; type = h.1; reading = f.reading })
  plan_in (SetValue a x) h = let f = vertex_fits a h.0 in (f, record { number = f.number; type = f.type; value = h.1 })
  plan_in (SetReading a k d) h = let f = edge_fits a h.0 in (f, record { number = f.number; type = f.type; reading = reading_sound k d h.1 })
  plan_in (SetAlpha e v) h = tt
  plan_in (SetOmega e v) h = tt
  plan_in (VertexBefore x y) h = tt
  plan_in (VertexAfter x y) h = tt
  plan_in (EdgeBefore x y) h = tt
  plan_in (EdgeAfter x y) h = tt
  plan_in (WordBefore x y) h = tt
  plan_in (WordAfter x y) h = tt

-- An edit within the bounds keeps the graph within them.
use Prim.Native.Nat.{ℕ}
use mathlib.Core.Path.{◌≡◌}
use mathlib.Core.Bool.{true}
use mathlib.Core.List.{List, []}
use native.Mathlib.Omega.{arith}
use Rattle.lists.specs.Lists.{All}
use Rattle.lists.specs.Keyed.{update_by}
use Rattle.lists.proofs.KeyedAll.{all_ins, all_rem, all_upd, all_find}
use Rattle.graph.specs.declared.Edit.{Edit}
use Rattle.graph.specs.declared.Edit.TheVariants.{InsertVertex, RemoveVertex, InsertEdge, RemoveEdge, SetVertex, SetEdge, MoveVertex, MoveEdge, MoveWord}
use Rattle.graph.specs.Graph.{Vertex, Graph, vertex_number, edge_number, no_vertex, no_edge}
use Rattle.graph.specs.WellFormed.{Bounds, well_formed, VertexIn, EdgeIn, Within}
use Rattle.graph.specs.Changes.{on_list, with_vertex, with_edge, with_seen}
use Rattle.graph.specs.Edits.{inverse, apply, Applies, EditIn}
use Rattle.graph.proofs.Keeps.{keeps_formed}
use Rattle.graph.proofs.Facts.{to_facts, from_facts}

module _ (b : Bounds) where
  in_list : (v : ℕ) (h : List ℕ → List ℕ) {vs : List Vertex} → All (VertexIn b) vs → All (VertexIn b) (update_by vertex_number v (on_list h) vs)
  in_list v h a = all_upd vertex_number (VertexIn b) v (on_list h) (λ y e i. record { number = i.number; type = i.type; value = i.value }) a

  pub keeps_within : (e : Edit) (g : Graph) → Applies e g → EditIn b e → Within b g → Within b (apply e g)
  keeps_within (InsertVertex n t v p) g h i w = record {
    vertices = all_ins vertex_number (VertexIn b) 0 p (record { number = n; type = t; value = v; incidences = [] }) i w.vertices;
    edges = w.edges;
  }
  keeps_within (RemoveVertex n t v p) g h i w = record { vertices = all_rem vertex_number (VertexIn b) n w.vertices; edges = w.edges }
  keeps_within (InsertEdge n a z t r p o j) g h i w = record {
    vertices = in_list z _ (in_list a _ w.vertices);
    edges = all_ins edge_number (EdgeIn b) 0 p (record { number = n; alpha = a; omega = z; type = t; reading = r }) i w.edges;
  }
  keeps_within (RemoveEdge n a z t r p o j) g h i w = record {
    vertices = in_list a _ (in_list z _ w.vertices);
    edges = all_rem edge_number (EdgeIn b) n w.edges;
  }
  keeps_within (SetVertex n t v t' v') g h i w = record {
    vertices = all_upd vertex_number (VertexIn b) n (with_vertex t' v') (λ y e j. record { number = j.number; type = i.1.type; value = i.1.value }) w.vertices;
    edges = w.edges;
  }
  keeps_within (SetEdge n t r t' r') g h i w = record {
    vertices = w.vertices;
    edges = all_upd edge_number (EdgeIn b) n (with_edge t' r') (λ y e j. record { number = j.number; type = i.1.type; reading = i.1.reading }) w.edges;
  }
  keeps_within (MoveVertex n old new) g h i w = record {
    vertices = all_ins vertex_number (VertexIn b) 0 new _ (all_find vertex_number (VertexIn b) no_vertex n (omega (arith, h.0.there)) w.vertices) (all_rem vertex_number (VertexIn b) n w.vertices);
    edges = w.edges;
  }
  keeps_within (MoveEdge n old new) g h i w = record {
    vertices = w.vertices;
    edges = all_ins edge_number (EdgeIn b) 0 new _ (all_find edge_number (EdgeIn b) no_edge n (omega (arith, h.0.there)) w.edges) (all_rem edge_number (EdgeIn b) n w.edges);
  }
  keeps_within (MoveWord x v old u new) g h i w = record {
    vertices = in_list u _ (in_list v _ w.vertices);
    edges = all_upd edge_number (EdgeIn b) _ (with_seen x u) (λ y e j. record { number = j.number; type = j.type; reading = j.reading }) w.edges;
  }

  pub inverse_in : (e : Edit) → EditIn b e → EditIn b (inverse e)
  inverse_in (InsertVertex n t v p) i = i
  inverse_in (RemoveVertex n t v p) i = i
  inverse_in (InsertEdge n a z t r p o j) i = i
  inverse_in (RemoveEdge n a z t r p o j) i = i
  inverse_in (SetVertex n t v t' v') i = (i.1, i.0)
  inverse_in (SetEdge n t r t' r') i = (i.1, i.0)
  inverse_in (MoveVertex n old new) i = i
  inverse_in (MoveEdge n old new) i = i
  inverse_in (MoveWord x v old u new) i = i

  pub keeps : (e : Edit) (g : Graph) → well_formed b g ≡ true → Applies e g → EditIn b e → well_formed b (apply e g) ≡ true
  keeps e g h a i =
      let f = to_facts b g h in
      from_facts b (apply e g) (keeps_formed e g a f.0) (keeps_within e g a i f.1)

-- For callers: what `apply_edit` asks and leaves, where the edit is within the capacities; and the same for the inverse of an edit.
use Rattle.std.proofs.Common.{◌≡◌, ℕ, ◌/◌, ◌≤◌, sym, ap, ◌∙◌, subst, arith}
use Rattle.graph.specs.declared.Edit.{Edit}
use Rattle.graph.specs.declared.Edit.TheVariants.{InsertVertex, RemoveVertex, InsertEdge, RemoveEdge, SetVertex, SetEdge, MoveVertex, MoveEdge, MoveWord}
use Rattle.graph.specs.Graph.{Graph}
use Rattle.graph.specs.WellFormed.{Bounds, WellFormed}
use Rattle.graph.specs.Edits.{inverse, apply, Applies, EditIn}
use Rattle.graph.proofs.Undoes.{undoes, inverse_applies}
use Rattle.graph.proofs.EditBounds.{inverse_in}
use Rattle.graph_tables.specs.Tables.{State, VertexRowIn, EdgeRowIn}
use Rattle.graph_tables.specs.Holds.{Holds}
use Rattle.graph_tables.specs.Edits.{state_apply, Can, Small, Room}
use Rattle.graph_tables.specs.Capacities.{Sized}
use Rattle.graph_tables.proofs.Refines.{can_edit, holds_edit}
use Rattle.graph_tables.proofs.Sizes.{Alike, same_size}

-- ---- capacities

module _ (b : Bounds) (s : State) (z : Sized b s) where
  pub small : Small s
  small = record { vertices = omega (arith, z.vertices, z.few_vertices); edges = omega (arith, z.edges, z.few_edges) }

  -- a number within the capacity has a row
  pub vertex_in : (n : ℕ) → 1 ≤ n → n ≤ b.vertices → VertexRowIn s.vertices n
  vertex_in n p q = (p, omega (arith, z.vertices))

  pub edge_in : (n : ℕ) → 1 ≤ n → n ≤ b.edges → EdgeRowIn s.edges n
  edge_in n p q = (p, omega (arith, z.edges))

  pub sized_alike : (s' : State) → Alike s s' → Sized b s'
  sized_alike s' a = record {
    vertices = z.vertices ∙ ap (λ (n : ℕ). n / 8) (sym a.vertices);
    edges = z.edges ∙ ap (λ (n : ℕ). n / 12) (sym a.edges);
    few_vertices = z.few_vertices;
    few_edges = z.few_edges;
  }

  pub room_in : (g : Graph) (e : Edit) → Applies e g → EditIn b e → Room e s
  room_in g (InsertVertex n t v p) a i = vertex_in n a.real i.number
  room_in g (RemoveVertex n t v p) a i = tt
  room_in g (InsertEdge n x y t r p o j) a i = edge_in n a.0.real i.number
  room_in g (RemoveEdge n x y t r p o j) a i = tt
  room_in g (SetVertex n t v t' v') a i = tt
  room_in g (SetEdge n t r t' r') a i = tt
  room_in g (MoveVertex n old new) a i = tt
  room_in g (MoveEdge n old new) a i = tt
  room_in g (MoveWord w v old u new) a i = tt

-- ---- an edit

module _ (b : Bounds) (s : State) (z : Sized b s) (g : Graph) (h : Holds s g) (e : Edit) (a : Applies e g) (i : EditIn b e) where
  pub can_apply : Can e s
  can_apply = can_edit s g h (small b s z) e a (room_in b s z g e a i)

  pub applied : Holds (state_apply e s) (apply e g)
  applied = holds_edit s g h (small b s z) e a (room_in b s z g e a i)

  -- in the words of a call that was given e
  module _ (s' : State) (q : s' ≡ state_apply e s) where
    pub edited : Holds s' (apply e g)
    edited = subst (λ (x : State). Holds x (apply e g)) (sym q) applied

    pub edited_sized : Sized b s'
    edited_sized = subst (λ (x : State). Sized b x) (sym q) (sized_alike b s z (state_apply e s) (same_size e s))

-- ---- the inverse of an edit, from any tables that hold the changed graph

module _ (b : Bounds) (s : State) (z : Sized b s) (e : Edit) (g : Graph) (w : WellFormed g) (a : Applies e g) (i : EditIn b e) (h : Holds s (apply e g)) where
  pub can_revert : (f : Edit) → f ≡ inverse e → Can f s
  can_revert f q = subst (λ (x : Edit). Can x s) (sym q) (can_apply b s z (apply e g) h (inverse e) (inverse_applies e g a w) (inverse_in b e i))

  pub reverted : (f : Edit) (s' : State) → f ≡ inverse e → s' ≡ state_apply f s → Holds s' g
  reverted f s' q t =
      subst (λ (x : Graph). Holds s' x) (undoes e g a w)
      (edited b s z (apply e g) h (inverse e) (inverse_applies e g a w) (inverse_in b e i) s' (t ∙ ap (λ (x : Edit). state_apply x s) q))

  pub reverted_sized : (f : Edit) (s' : State) → f ≡ inverse e → s' ≡ state_apply f s → Sized b s'
  reverted_sized f s' q t =
      edited_sized b s z (apply e g) h (inverse e) (inverse_applies e g a w) (inverse_in b e i) s' (t ∙ ap (λ (x : Edit). state_apply x s) q)

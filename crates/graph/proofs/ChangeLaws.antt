-- Each change is its edits, keeps the graph well formed, and costs as many edits as it says.
use Prim.Native.Nat.{ℕ, ◌≤◌}
use mathlib.Core.Path.{◌≡◌, refl, sym, ap, ◌∙◌}
use mathlib.Core.Bool.{true}
use mathlib.Core.List.{List, [], ◌∷◌, ◌++◌}
use native.Mathlib.Omega.{arith}
use lib.ListN.{length, length-append}
use Rattle.lists.specs.Lists.{All, done, more}
use Rattle.lists.specs.Keyed.{remove_by}
use Rattle.lists.proofs.Sums.{all_append}
use Rattle.graph.specs.declared.Change.{Change}
use Rattle.graph.specs.declared.Change.TheVariants.{Single, DeleteVertex}
use Rattle.graph.specs.Graph.{Graph, vertex_number, list_of, edge_of}
use Rattle.graph.specs.WellFormed.{Bounds, well_formed, WellFormed, Within}
use Rattle.graph.specs.Changes.{on_vseq, edges_at, delete_edges, delete_vertex, changed, cost, VertexThere, Allowed}
use Rattle.graph.specs.Edits.{apply, EditIn}
use Rattle.graph.specs.Plans.{removal, vertex_removal, apply_all, AppliesAll, removals, edits_of}
use Rattle.graph.proofs.Keeps.{keeps_formed}
use Rattle.graph.proofs.Facts.{to_facts}
use Rattle.graph.proofs.EditBounds.{keeps_within}
use Rattle.graph.proofs.EditLists.{apply_append, applies_append, all_formed, all_within, keeps_all}
use Rattle.graph.proofs.Removals.{removal_applies, removal_is, vertex_removal_applies}
use Rattle.graph.proofs.EdgesAt.{none_edges, edges_none, edges_first, edges_next, removals_apply, removals_empty, removals_are, removals_length, removals_vertices}
use Rattle.graph.proofs.PlanLaws.{plan_applies, plan_is}
use Rattle.graph.proofs.PlanBounds.{removal_in, vertex_removal_in, plan_in}

removals_in : (b : Bounds) (a : ℕ) (ns : List ℕ) (g : Graph) → WellFormed g → Within b g → edges_at g a ≡ ns → All (EditIn b) (removals ns g)
removals_in b a [] g w i h = done
removals_in b a (n ∷ ns) g w i h =
    let s = edges_next a g w n ns h in
    let e = removal_applies g n s.0 in
    let f = removal_in b g i n s.0 in
    more f (removals_in b a ns (apply (removal n g) g) (keeps_formed (removal n g) g e w) (keeps_within b (removal n g) g e f i) s.1)

-- ---- kind 2: once its edges are out

abbrev without_edges : Graph → ℕ → Graph
without_edges g a = apply_all (removals (edges_at g a) g) g

module _ (g : Graph) (w : WellFormed g) (a : ℕ) where
  without_edges_applies : AppliesAll (removals (edges_at g a) g) g
  without_edges_applies = removals_apply a (edges_at g a) g w refl

  without_edges_formed : WellFormed (without_edges g a)
  without_edges_formed = all_formed (removals (edges_at g a) g) g without_edges_applies w

  without_edges_there : VertexThere g a → VertexThere (without_edges g a) a
  without_edges_there h = removals_vertices (edges_at g a) a g ∙ h

  without_edges_none : list_of (without_edges g a) a ≡ []
  without_edges_none = none_edges (without_edges g a) a (removals_empty a (edges_at g a) g w refl)

-- ---- every change

pub cost_real : (c : Change) (g : Graph) → 1 ≤ cost c g
cost_real (Single c) g = omega arith
cost_real (DeleteVertex a) g = omega arith

module _ (g : Graph) where
  pub edits_cost : (c : Change) → length (edits_of c g) ≡ cost c g
  unfolding edits_of
  edits_cost (Single c) = refl
  edits_cost (DeleteVertex a) =
      omega (arith, length-append (removals (edges_at g a) g) (vertex_removal a (without_edges g a) ∷ []), removals_length (edges_at g a) g)

module _ (b : Bounds) (g : Graph) (w : WellFormed g) where
  pub edits_apply : (c : Change) → Allowed b g c → AppliesAll (edits_of c g) g
  unfolding edits_of
  edits_apply (Single c) h = (plan_applies b g w c h, tt)
  edits_apply (DeleteVertex a) h =
      applies_append (removals (edges_at g a) g) (vertex_removal a (without_edges g a) ∷ []) g (without_edges_applies g w a)
      (vertex_removal_applies (without_edges g a) a (without_edges_there g w a h) (without_edges_none g w a), tt)

  pub change_is : (c : Change) → Allowed b g c → apply_all (edits_of c g) g ≡ changed c g
  unfolding edits_of vertex_removal changed delete_vertex
  change_is (Single c) h = plan_is b g w c h
  change_is (DeleteVertex a) h =
      apply_append (removals (edges_at g a) g) (vertex_removal a (without_edges g a) ∷ []) g
      ∙ ap (on_vseq (remove_by vertex_number a)) (removals_are (edges_at g a) g)

  pub edits_in : (c : Change) → Within b g → Allowed b g c → All (EditIn b) (edits_of c g)
  unfolding edits_of
  edits_in (Single c) i h = more (plan_in b g i c h) done
  edits_in (DeleteVertex a) i h =
      let r = removals_in b a (edges_at g a) g w i refl in
      all_append r (more (vertex_removal_in b (without_edges g a) (all_within b (removals (edges_at g a) g) g (without_edges_applies g w a) r i)
      a (without_edges_there g w a h)) done)

-- each of the sixteen changes keeps the graph well formed
pub change_keeps : (b : Bounds) (g : Graph) (c : Change) → well_formed b g ≡ true → Allowed b g c → well_formed b (changed c g) ≡ true
change_keeps b g c t h =
    let f = to_facts b g t in
    rw (← change_is b g f.0 c h) (keeps_all b (edits_of c g) g t (edits_apply b g f.0 c h) (edits_in b g f.0 c f.1 h))

-- ---- kind 2, one edge after another: the first word's edge goes, and what is left to do is the deletion of what is left

module _ (g : Graph) (w : WellFormed g) (a : ℕ) where
  pub deletion_step : (x : ℕ) (xs : List ℕ) → list_of g a ≡ x ∷ xs →
      edits_of (DeleteVertex a) g ≡ removal (edge_of x) g ∷ edits_of (DeleteVertex a) (apply (removal (edge_of x) g) g)
  unfolding edits_of
  deletion_step x xs e = ap (λ (ns : List ℕ). removals ns g ++ (vertex_removal a (apply_all (removals ns g) g) ∷ [])) (edges_first g w a x xs e)

  pub deletion_last : list_of g a ≡ [] → edits_of (DeleteVertex a) g ≡ vertex_removal a g ∷ []
  unfolding edits_of
  deletion_last e = ap (λ (ns : List ℕ). removals ns g ++ (vertex_removal a (apply_all (removals ns g) g) ∷ [])) (edges_none g w a e)

  pub deleted_step : (x : ℕ) (xs : List ℕ) → list_of g a ≡ x ∷ xs →
      changed (DeleteVertex a) g ≡ changed (DeleteVertex a) (apply (removal (edge_of x) g) g)
  unfolding changed delete_vertex delete_edges
  deleted_step x xs e = ap (λ (ns : List ℕ). on_vseq (remove_by vertex_number a) (delete_edges ns g)) (edges_first g w a x xs e)
      ∙ ap (λ (f : Graph). on_vseq (remove_by vertex_number a) (delete_edges (edges_at (apply (removal (edge_of x) g) g) a) f)) (sym (removal_is g (edge_of x)))

  pub deleted_last : list_of g a ≡ [] → changed (DeleteVertex a) g ≡ apply (vertex_removal a g) g
  unfolding changed delete_vertex delete_edges vertex_removal
  deleted_last e = ap (λ (ns : List ℕ). on_vseq (remove_by vertex_number a) (delete_edges ns g)) (edges_none g w a e)

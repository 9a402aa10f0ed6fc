-- An edit that applies keeps the graph exactly where its old and its new agree.
use Rattle.std.specs.Prelude.{◌==◌}
use Prim.Native.Nat.{ℕ, ◌%◌}
use mathlib.Core.Path.{◌≡◌, refl, sym, ap, ap₂, ◌∙◌, subst}
use mathlib.Core.Bool.{Bool, true, false, not, ◌||◌}
use mathlib.Core.List.{List, [], ◌∷◌}
use native.Mathlib.Omega.{arith}
use borrow.Author.Tests.{eqb-true, eq-eqb}
use Rattle.lists.specs.Choice.{if_equal}
use Rattle.lists.specs.Keyed.{count_by_key}
use Rattle.lists.proofs.Bools.{and_true, and_both, ft}
use Rattle.lists.proofs.Picks.{pick_yes, pick_no, same as alike, differ, same?, is_yes}
use Rattle.lists.proofs.Places.{upd_agree, upd_same}
use Rattle.graph.specs.declared.Reading.{Reading}
use Rattle.graph.specs.declared.Reading.TheVariants.{Untested, Silent, Heard}
use Rattle.graph.specs.declared.Change.{Change}
use Rattle.graph.specs.declared.SingleChange.{SingleChange}
use Rattle.graph.specs.declared.SingleChange.TheVariants.{CreateVertex, CreateEdge, DeleteEdge, RetypeVertex, RetypeEdge, SetValue, SetReading, SetAlpha, SetOmega, VertexBefore}
use Rattle.graph.specs.declared.SingleChange.TheVariants.{VertexAfter, EdgeBefore, EdgeAfter, WordBefore, WordAfter}
use Rattle.graph.specs.declared.Change.TheVariants.{Single, DeleteVertex}
use Rattle.graph.specs.declared.Edit.{Edit}
use Rattle.graph.specs.declared.Edit.TheVariants.{InsertVertex, RemoveVertex, InsertEdge, RemoveEdge, SetVertex, SetEdge, MoveVertex, MoveEdge, MoveWord}
use Rattle.graph.specs.Graph.{Vertex, Edge, Graph, vertex_number, edge_number, itself, no_vertex, no_edge, vertex_in, edge_in, edge_of, reading_kind, decimetres}
use Rattle.graph.specs.WellFormed.{Bounds, WellFormed}
use Rattle.graph.specs.Changes.{with_vertex, with_edge, with_seen, edges_at, delete_edges, delete_vertex, changed, singly_changed, SinglyAllowed, Allowed}
use Rattle.graph.specs.Edits.{inverse, apply, Applies}
use Rattle.graph.specs.Plans.{plan, removal}
use Rattle.graph.specs.Same.{same_reading, same_vertex, same_edge, same_by, same_graph, differs, resizes, alters, idle}
use Rattle.graph.proofs.Orders.{placed_back}
use Rattle.graph.proofs.Incidence.{detach_back}
use Rattle.graph.proofs.Lists.{held, ordered_list}
use Rattle.graph.proofs.Undoes.{graph_path, inverse_applies}
use Rattle.graph.proofs.PlanLaws.{plan_applies, plan_is}
use Rattle.graph.proofs.EdgesAt.{removals_are, removals_vertices}
use Rattle.lists.proofs.KeyedLaws.{count_rem}
use Rattle.lists.proofs.Equality.{words_eq, words_refl}

-- ---- the test of equality

reading_eq : (r s : Reading) → same_reading r s ≡ true → r ≡ s
reading_eq Untested Untested h = refl
reading_eq Untested Silent h = ft h
reading_eq Untested (Heard d) h = ft h
reading_eq Silent Untested h = ft h
reading_eq Silent Silent h = refl
reading_eq Silent (Heard d) h = ft h
reading_eq (Heard d) Untested h = ft h
reading_eq (Heard d) Silent h = ft h
reading_eq (Heard d) (Heard k) h = ap Heard (eqb-true d k h)

reading_refl : (r : Reading) → same_reading r r ≡ true
reading_refl r = and_both _ _ (eq-eqb (reading_kind r) (reading_kind r) refl) (eq-eqb (decimetres r) (decimetres r) refl)

vertex_eq : (v u : Vertex) → same_vertex v u ≡ true → v ≡ u
vertex_eq v u h =
    let a = and_true (v.number == u.number) _ h in
    let b = and_true (v.type == u.type) _ a.1 in
    let c = and_true (v.value == u.value) _ b.1 in
    let n = eqb-true v.number u.number a.0 in
    let t = eqb-true v.type u.type b.0 in
    let x = eqb-true v.value u.value c.0 in
    let l = words_eq v.incidences u.incidences c.1 in
    λ i. record { number = n i; type = t i; value = x i; incidences = l i }

vertex_refl : (v : Vertex) → same_vertex v v ≡ true
vertex_refl v =
    and_both (v.number == v.number) _ (eq-eqb v.number _ refl)
    (and_both (v.type == v.type) _ (eq-eqb v.type _ refl) (and_both (v.value == v.value) _ (eq-eqb v.value _ refl) (words_refl v.incidences)))

edge_eq : (e f : Edge) → same_edge e f ≡ true → e ≡ f
edge_eq e f h =
    let a = and_true (e.number == f.number) _ h in
    let b = and_true (e.alpha == f.alpha) _ a.1 in
    let c = and_true (e.omega == f.omega) _ b.1 in
    let d = and_true (e.type == f.type) _ c.1 in
    let n = eqb-true e.number f.number a.0 in
    let x = eqb-true e.alpha f.alpha b.0 in
    let z = eqb-true e.omega f.omega c.0 in
    let t = eqb-true e.type f.type d.0 in
    let r = reading_eq e.reading f.reading d.1 in
    λ i. record { number = n i; alpha = x i; omega = z i; type = t i; reading = r i }

edge_refl : (e : Edge) → same_edge e e ≡ true
edge_refl e =
    and_both (e.number == e.number) _ (eq-eqb e.number _ refl)
    (and_both (e.alpha == e.alpha) _ (eq-eqb e.alpha _ refl)
    (and_both (e.omega == e.omega) _ (eq-eqb e.omega _ refl)
    (and_both (e.type == e.type) _ (eq-eqb e.type _ refl) (reading_refl e.reading))))

module _ {A : Type 0} (p : A → A → Bool) where
  by_eq : ((x y : A) → p x y ≡ true → x ≡ y) → (xs ys : List A) → same_by p xs ys ≡ true → xs ≡ ys
  by_eq e [] [] h = refl
  by_eq e [] (y ∷ ys) h = ft h
  by_eq e (x ∷ xs) [] h = ft h
  by_eq e (x ∷ xs) (y ∷ ys) h = let a = and_true (p x y) (same_by p xs ys) h in ap₂ ◌∷◌ (e x y a.0) (by_eq e xs ys a.1)

  by_refl : ((x : A) → p x x ≡ true) → (xs : List A) → same_by p xs xs ≡ true
  by_refl e [] = refl
  by_refl e (x ∷ xs) = and_both (p x x) (same_by p xs xs) (e x) (by_refl e xs)

pub same_to : (g h : Graph) → same_graph g h ≡ true → g ≡ h
unfolding same_graph
same_to g h e =
    let a = and_true (same_by same_vertex g.vseq h.vseq) _ e in
    graph_path g h (by_eq same_vertex vertex_eq g.vseq h.vseq a.0) (by_eq same_edge edge_eq g.eseq h.eseq a.1)

same_refl : (g : Graph) → same_graph g g ≡ true
unfolding same_graph
same_refl g = and_both _ _ (by_refl same_vertex vertex_refl g.vseq) (by_refl same_edge edge_refl g.eseq)

pub same_from : (g h : Graph) → g ≡ h → same_graph g h ≡ true
same_from g h e = subst (λ (x : Graph). same_graph g x ≡ true) e (same_refl g)

-- ---- an edit whose old and new agree keeps the graph

end_same : (x v : ℕ) (e : Edge) → if_equal (x % 2) 0 e.alpha e.omega ≡ v → with_seen x v e ≡ e
end_same x v e h = elim (same? (x % 2) 0) [
  | alike i j ↦
      let k : e.alpha ≡ v = simp pick_yes at h in
      simp pick_yes (λ t. record { number = e.number; alpha = sym k t; omega = e.omega; type = e.type; reading = e.reading })
  | differ i j ↦
      let k : e.omega ≡ v = simp pick_no at h in
      simp pick_no (λ t. record { number = e.number; alpha = e.alpha; omega = sym k t; type = e.type; reading = e.reading })
]

module _ (g : Graph) (w : WellFormed g) where
  set_vertex : (n t v : ℕ) → Applies (SetVertex n t v t v) g → apply (SetVertex n t v t v) g ≡ g
  set_vertex n t v h = graph_path _ _
      (upd_agree vertex_number no_vertex n (with_vertex t v) (λ (y : Vertex). y) g.vseq (λ k. omega (arith, w.vorder k))
      (λ i. record { number = (vertex_in g.vseq n).number; type = sym h.1 i; value = sym h.2 i; incidences = (vertex_in g.vseq n).incidences })
      ∙ upd_same vertex_number n g.vseq) refl

  set_edge : (n t : ℕ) (r : Reading) → Applies (SetEdge n t r t r) g → apply (SetEdge n t r t r) g ≡ g
  set_edge n t r h = graph_path _ _ refl
      (upd_agree edge_number no_edge n (with_edge t r) (λ (y : Edge). y) g.eseq (λ k. omega (arith, w.eorder k))
      (λ i. record { number = (edge_in g.eseq n).number; alpha = (edge_in g.eseq n).alpha; omega = (edge_in g.eseq n).omega; type = sym h.1 i; reading = sym h.2 i })
      ∙ upd_same edge_number n g.eseq)

  move_word : (x v p : ℕ) → Applies (MoveWord x v p v p) g → apply (MoveWord x v p v p) g ≡ g
  move_word x v p h = graph_path _ _
      (detach_back g.vseq v p x w.vorder (ordered_list g w v) (record { there = held g w x v h.0 h.1; before = h.3 }))
      (upd_agree edge_number no_edge (edge_of x) (with_seen x v) (λ (y : Edge). y) g.eseq (λ k. omega (arith, w.eorder k)) (end_same x v (edge_in g.eseq (edge_of x)) h.1)
      ∙ upd_same edge_number (edge_of x) g.eseq)

  pub idle_keeps : (e : Edit) → Applies e g → idle e ≡ true → apply e g ≡ g
  idle_keeps (InsertVertex n t v p) h i = ft i
  idle_keeps (RemoveVertex n t v p) h i = ft i
  idle_keeps (InsertEdge n a z t r p o j) h i = ft i
  idle_keeps (RemoveEdge n a z t r p o j) h i = ft i
  idle_keeps (SetVertex n t v t' v') h i =
      let a = and_true (t == t') (v == v') i in
      let p = eqb-true t t' a.0 in
      let q = eqb-true v v' a.1 in
      ap₂ (λ (x y : ℕ). apply (SetVertex n t v x y) g) (sym p) (sym q) ∙ set_vertex n t v h
  idle_keeps (SetEdge n t r t' r') h i =
      let a = and_true (t == t') (same_reading r r') i in
      let p = eqb-true t t' a.0 in
      let q = reading_eq r r' a.1 in
      ap₂ (λ (x : ℕ) (y : Reading). apply (SetEdge n t r x y) g) (sym p) (sym q) ∙ set_edge n t r h
  idle_keeps (MoveVertex n old new) h i =
      ap (λ (x : ℕ). apply (MoveVertex n old x) g) (sym (eqb-true old new i)) ∙ graph_path _ _ (placed_back vertex_number no_vertex g.vseq n old w.vorder h.0) refl
  idle_keeps (MoveEdge n old new) h i =
      ap (λ (x : ℕ). apply (MoveEdge n old x) g) (sym (eqb-true old new i)) ∙ graph_path _ _ refl (placed_back edge_number no_edge g.eseq n old w.eorder h.0)
  idle_keeps (MoveWord x v old u new) h i =
      let a = and_true (v == u) (old == new) i in
      let p = eqb-true v u a.0 in
      let q = eqb-true old new a.1 in
      ap₂ (λ (y z : ℕ). apply (MoveWord x v old y z) g) (sym p) (sym q)
      ∙ move_word x v old (subst (λ (y : ℕ). Applies (MoveWord x v old y old) g) (sym p) (subst (λ (z : ℕ). Applies (MoveWord x v old u z) g) (sym q) h))

  -- ---- and an edit that keeps the graph has an old and a new that agree: its inverse applies to what it made

  kept_applies : (e : Edit) → Applies e g → apply e g ≡ g → Applies (inverse e) g
  kept_applies e h k = subst (λ (x : Graph). Applies (inverse e) x) k (inverse_applies e g h w)

  pub keeps_idle : (e : Edit) → Applies e g → apply e g ≡ g → idle e ≡ true
  keeps_idle (InsertVertex n t v p) h k = absurd (omega (arith, h.fresh, (kept_applies (InsertVertex n t v p) h k).0.there))
  keeps_idle (RemoveVertex n t v p) h k = absurd (omega (arith, h.0.there, (kept_applies (RemoveVertex n t v p) h k).fresh))
  keeps_idle (InsertEdge n a z t r p o i) h k = absurd (omega (arith, h.0.fresh, (kept_applies (InsertEdge n a z t r p o i) h k).0.there))
  keeps_idle (RemoveEdge n a z t r p o i) h k = absurd (omega (arith, h.0.there, (kept_applies (RemoveEdge n a z t r p o i) h k).0.fresh))
  keeps_idle (SetVertex n t v t' v') h k =
      let c = kept_applies (SetVertex n t v t' v') h k in
      and_both (t == t') (v == v') (eq-eqb t t' (sym h.1 ∙ c.1)) (eq-eqb v v' (sym h.2 ∙ c.2))
  keeps_idle (SetEdge n t r t' r') h k =
      let c = kept_applies (SetEdge n t r t' r') h k in
      and_both (t == t') (same_reading r r') (eq-eqb t t' (sym h.1 ∙ c.1)) (subst (λ (x : Reading). same_reading r x ≡ true) (sym h.2 ∙ c.2) (reading_refl r))
  keeps_idle (MoveVertex n old new) h k = let c = kept_applies (MoveVertex n old new) h k in eq-eqb old new (sym h.0.before ∙ c.0.before)
  keeps_idle (MoveEdge n old new) h k = let c = kept_applies (MoveEdge n old new) h k in eq-eqb old new (sym h.0.before ∙ c.0.before)
  keeps_idle (MoveWord x v old u new) h k =
      let c = kept_applies (MoveWord x v old u new) h k in
      let p : v ≡ u = sym h.1 ∙ c.1 in
      and_both (v == u) (old == new) (eq-eqb v u p)
      (eq-eqb old new (sym h.3 ∙ ap (λ (y : ℕ). Rattle.lists.specs.Keyed.prev_by itself 0 x (Rattle.graph.specs.Graph.list_in g.vseq y)) p ∙ c.3))

  -- ---- a change that is one edit alters the graph exactly where the edit's old and new differ

  differs_plan : (b : Bounds) (c : SingleChange) → SinglyAllowed b g c → differs (Single c) g ≡ not (idle (plan c g))
  unfolding differs changed
  differs_plan b c a = ap not (go (same_graph (singly_changed c g) g) (idle (plan c g)) refl refl)
    where
      made : apply (plan c g) g ≡ singly_changed c g
      made = plan_is b g w c a

      on : Applies (plan c g) g
      on = plan_applies b g w c a

      go : (s t : Bool) → same_graph (singly_changed c g) g ≡ s → idle (plan c g) ≡ t → s ≡ t
      go true true p q = refl
      go true false p q = ft (sym q ∙ keeps_idle (plan c g) on (made ∙ same_to (singly_changed c g) g p))
      go false true p q = ft (sym p ∙ same_from (singly_changed c g) g (sym made ∙ idle_keeps (plan c g) on q))
      go false false p q = refl

  -- an edit that creates or deletes is not idle
  resizes_plan : (c : SingleChange) → resizes c ≡ true → idle (plan c g) ≡ false
  unfolding plan removal
  resizes_plan (CreateVertex n t x) e = refl
  resizes_plan (CreateEdge n i o t) e = refl
  resizes_plan (DeleteEdge i) e = refl
  resizes_plan (RetypeVertex i t) e = ft e
  resizes_plan (RetypeEdge i t) e = ft e
  resizes_plan (SetValue i x) e = ft e
  resizes_plan (SetReading i k d) e = ft e
  resizes_plan (SetAlpha n v) e = ft e
  resizes_plan (SetOmega n v) e = ft e
  resizes_plan (VertexBefore i j) e = ft e
  resizes_plan (VertexAfter i j) e = ft e
  resizes_plan (EdgeBefore i j) e = ft e
  resizes_plan (EdgeAfter i j) e = ft e
  resizes_plan (WordBefore i j) e = ft e
  resizes_plan (WordAfter i j) e = ft e

  -- what `alters` says of an accepted change is that the graph after it is another one
  singly_exactly : (b : Bounds) (c : SingleChange) → SinglyAllowed b g c → alters (Single c) g ≡ differs (Single c) g
  unfolding alters
  singly_exactly b c h = go (resizes c) refl
    where
      go : (t : Bool) → resizes c ≡ t → (t || differs (Single c) g) ≡ differs (Single c) g
      go true e = sym (differs_plan b c h ∙ ap not (resizes_plan c e))
      go false e = refl

  pub alters_plan : (b : Bounds) (c : SingleChange) → SinglyAllowed b g c → alters (Single c) g ≡ not (idle (plan c g))
  alters_plan b c h = singly_exactly b c h ∙ differs_plan b c h

  -- kind 2 always does: the vertex is gone
  deletion_differs : (a : ℕ) → count_by_key vertex_number a g.vseq ≡ 1 → differs (DeleteVertex a) g ≡ true
  unfolding differs changed delete_vertex
  deletion_differs a h = go (same_graph (changed (DeleteVertex a) g) g) refl
    where
      gone : count_by_key vertex_number a (changed (DeleteVertex a) g).vseq ≡ 0
      gone =
          omega (
            arith,
            count_rem vertex_number a a (delete_edges (edges_at g a) g).vseq,
            is_yes a a refl,
            ap (λ (x : Graph). count_by_key vertex_number a x.vseq) (removals_are (edges_at g a) g),
            removals_vertices (edges_at g a) a g,
            h,
          )

      go : (t : Bool) → same_graph (changed (DeleteVertex a) g) g ≡ t → not t ≡ true
      go true p = absurd (omega (arith, gone, h, ap (λ (x : Graph). count_by_key vertex_number a x.vseq) (same_to (changed (DeleteVertex a) g) g p)))
      go false p = refl

  pub alters_exactly : (b : Bounds) (c : Change) → Allowed b g c → alters c g ≡ differs c g
  unfolding alters
  alters_exactly b (Single c) h = singly_exactly b c h
  alters_exactly b (DeleteVertex a) h = sym (deletion_differs a h)

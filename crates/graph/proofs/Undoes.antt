-- An edit is undone by its inverse, and the inverse applies.
use mathlib.Core.Path.{◌≡◌, refl, sym, ap, ◌∙◌}
use mathlib.Core.List.{[]}
use Prim.Native.Nat.{ℕ, ◌/◌, ◌%◌}
use native.Mathlib.Omega.{arith}
use Rattle.lists.specs.Choice.{if_equal}
use Rattle.lists.specs.Keyed.{insert_after_by, remove_by}
use Rattle.lists.proofs.Picks.{pick_yes, pick_no, same, differ, same?}
use Rattle.lists.proofs.KeyedLaws.{rem_ins, find_ins, count_upd, find_upd, upd_back}
use Rattle.graph.specs.declared.Edit.{Edit}
use Rattle.graph.specs.declared.Edit.TheVariants.{InsertVertex, RemoveVertex, InsertEdge, RemoveEdge, SetVertex, SetEdge, MoveVertex, MoveEdge, MoveWord}
use Rattle.graph.specs.Graph.{Vertex, Edge, Graph, vertex_number, edge_number, itself, no_vertex, no_edge, out_word, in_word, vertex_in, edge_in}
use Rattle.graph.specs.WellFormed.{WellFormed}
use Rattle.graph.specs.Changes.{on_list, with_vertex, with_edge, with_seen, detach}
use Rattle.graph.specs.Edits.{inverse, attach, apply, Applies}
use Rattle.graph.proofs.Orders.{placed_back, placed_fits, fits_placed, move_back, move_placed, ordered_upd}
use Rattle.graph.proofs.Incidence.{attach_back, detach_back, attach_prev, detach_prev, this_set, count_list}
use Rattle.graph.proofs.Lists.{held, ends_at, gone, ordered_list, free_out, free_into, a_there, z_there, placed_into, placed_out, back_out}

-- an end set and set back
end_back : (x u v : ℕ) (e : Edge) → if_equal (x % 2) 0 e.alpha e.omega ≡ v → with_seen x v (with_seen x u e) ≡ e
end_back x u v e h = elim (same? (x % 2) 0) [
  | same i j ↦
      let k : e.alpha ≡ v = simp pick_yes at h in
      simp pick_yes (λ t. record { number = e.number; alpha = sym k t; omega = e.omega; type = e.type; reading = e.reading })
  | differ i j ↦
      let k : e.omega ≡ v = simp pick_no at h in
      simp pick_no (λ t. record { number = e.number; alpha = e.alpha; omega = sym k t; type = e.type; reading = e.reading })
]

pub graph_path : (g h : Graph) → g.vseq ≡ h.vseq → g.eseq ≡ h.eseq → g ≡ h
graph_path g h a b = λ i. record { vseq = a i; eseq = b i }

pub undoes : (e : Edit) (g : Graph) → Applies e g → WellFormed g → apply (inverse e) (apply e g) ≡ g
undoes (InsertVertex n t v p) g h w = graph_path _ _ (rem_ins vertex_number 0 p (record { number = n; type = t; value = v; incidences = [] }) g.vseq h.fresh) refl
undoes (RemoveVertex n t v p) g h w = graph_path _ _ (rw (← h.1) (placed_back vertex_number no_vertex g.vseq n p w.vorder h.0)) refl
undoes (InsertEdge n a z t r p o i) g h w = graph_path _ _
    (rw (attach_back (attach g.vseq a o (out_word n)) z i (in_word n) (ordered_upd vertex_number (on_list (insert_after_by itself 0 o (out_word n))) g.vseq a (λ y. refl) w.vorder)
    (free_into g w n a o z h.0.fresh h.1))
    (attach_back g.vseq a o (out_word n) w.vorder (free_out g w n a h.0.fresh)))
    (rem_ins edge_number 0 p (record { number = n; alpha = a; omega = z; type = t; reading = r }) g.eseq h.0.fresh)
undoes (RemoveEdge n a z t r p o i) g h w = graph_path _ _
    (rw (back_out g w n a z t r h.0.there h.1 o (placed_out g w n a z t r h.0.there h.1 o h.3))
    (detach_back g.vseq z i (in_word n) w.vorder (ordered_list g w z) (placed_into g w n a z t r h.0.there h.1 i h.2)))
    (rw (← h.1) (placed_back edge_number no_edge g.eseq n p w.eorder h.0))
undoes (SetVertex n t v t' v') g h w = graph_path _ _ (upd_back vertex_number (with_vertex t' v') (λ y. refl) no_vertex n (with_vertex t v) g.vseq (λ k. omega (arith, w.vorder k))
    (λ i. record { number = (vertex_in g.vseq n).number; type = sym h.1 i; value = sym h.2 i; incidences = (vertex_in g.vseq n).incidences })) refl
undoes (SetEdge n t r t' r') g h w = graph_path _ _ refl (upd_back edge_number (with_edge t' r') (λ y. refl) no_edge n (with_edge t r) g.eseq (λ k. omega (arith, w.eorder k))
    (λ i. record { number = (edge_in g.eseq n).number; alpha = (edge_in g.eseq n).alpha; omega = (edge_in g.eseq n).omega; type = sym h.1 i; reading = sym h.2 i }))
undoes (MoveVertex n old new) g h w = graph_path _ _ (move_back vertex_number no_vertex g.vseq n old new w.vorder h.0) refl
undoes (MoveEdge n old new) g h w = graph_path _ _ refl (move_back edge_number no_edge g.eseq n old new w.eorder h.0)
undoes (MoveWord x v old u new) g h w = graph_path _ _
    (rw (attach_back (detach g.vseq v x) u new x (ordered_upd vertex_number (on_list (remove_by itself x)) g.vseq v (λ y. refl) w.vorder) (gone g w x v u h.0 h.1))
    (detach_back g.vseq v old x w.vorder (ordered_list g w v) (record { there = held g w x v h.0 h.1; before = h.3 })))
    (upd_back edge_number (with_seen x u) (λ y. refl) no_edge (x / 2) (with_seen x v) g.eseq (λ k. omega (arith, w.eorder k)) (end_back x u v (edge_in g.eseq (x / 2)) h.1))

pub inverse_applies : (e : Edit) (g : Graph) → Applies e g → WellFormed g → Applies (inverse e) (apply e g)
inverse_applies (InsertVertex n t v p) g h w =
    let x : Vertex = record { number = n; type = t; value = v; incidences = [] } in
    (fits_placed vertex_number g.vseq x p h, find_ins vertex_number no_vertex 0 p x g.vseq h.fresh)
inverse_applies (RemoveVertex n t v p) g h w = placed_fits vertex_number g.vseq n p w.vorder h.0
inverse_applies (InsertEdge n a z t r p o i) g h w =
    let x : Edge = record { number = n; alpha = a; omega = z; type = t; reading = r } in
    let f = free_into g w n a o z h.0.fresh h.1 in
    let c = count_list g.vseq a z (insert_after_by itself 0 o (out_word n)) ∙ h.2 in (
      fits_placed edge_number g.eseq x p h.0,
      find_ins edge_number no_edge 0 p x g.eseq h.0.fresh,
      attach_prev (attach g.vseq a o (out_word n)) z i (in_word n) c f h.4,
      rw (attach_back (attach g.vseq a o (out_word n)) z i (in_word n) (ordered_upd vertex_number (on_list (insert_after_by itself 0 o (out_word n))) g.vseq a (λ y. refl) w.vorder) f)
          (attach_prev g.vseq a o (out_word n) h.1 (free_out g w n a h.0.fresh) h.3),
    )
inverse_applies (RemoveEdge n a z t r p o i) g h w =
    let q = placed_out g w n a z t r h.0.there h.1 o h.3 in
    let ca = a_there g w n a z t r h.0.there h.1 in
    let cz = z_there g w n a z t r h.0.there h.1 in (
      placed_fits edge_number g.eseq n p w.eorder h.0,
      count_list (detach g.vseq z (in_word n)) a a (remove_by itself (out_word n)) ∙ count_list g.vseq z a (remove_by itself (in_word n)) ∙ ca,
      count_list (detach g.vseq z (in_word n)) a z (remove_by itself (out_word n)) ∙ count_list g.vseq z z (remove_by itself (in_word n)) ∙ cz,
      detach_prev (detach g.vseq z (in_word n)) a o (out_word n) (count_list g.vseq z a (remove_by itself (in_word n)) ∙ ca) q,
      rw (back_out g w n a z t r h.0.there h.1 o q) (detach_prev g.vseq z i (in_word n) cz (placed_into g w n a z t r h.0.there h.1 i h.2)),
    )
inverse_applies (SetVertex n t v t' v') g h w =
    let e = find_upd vertex_number (with_vertex t' v') (λ y. refl) no_vertex n g.vseq (omega (arith, h.0)) in
    (count_upd vertex_number (with_vertex t' v') (λ y. refl) n n g.vseq ∙ h.0, ap (λ (x : Vertex). x.type) e, ap (λ (x : Vertex). x.value) e)
inverse_applies (SetEdge n t r t' r') g h w =
    let e = find_upd edge_number (with_edge t' r') (λ y. refl) no_edge n g.eseq (omega (arith, h.0)) in
    (count_upd edge_number (with_edge t' r') (λ y. refl) n n g.eseq ∙ h.0, ap (λ (x : Edge). x.type) e, ap (λ (x : Edge). x.reading) e)
inverse_applies (MoveVertex n old new) g h w = move_placed vertex_number no_vertex g.vseq n old new w.vorder h.0 h.1
inverse_applies (MoveEdge n old new) g h w = move_placed edge_number no_edge g.eseq n old new w.eorder h.0 h.1
inverse_applies (MoveWord x v old u new) g h w =
    let f = gone g w x v u h.0 h.1 in
    let c = ends_at g w x v h.0 h.1 in (
      count_upd edge_number (with_seen x u) (λ y. refl) (x / 2) (x / 2) g.eseq ∙ h.0,
      this_set g.eseq x u h.0,
      count_list (detach g.vseq v x) u v (insert_after_by itself 0 new x) ∙ count_list g.vseq v v (remove_by itself x) ∙ c,
      attach_prev (detach g.vseq v x) u new x (count_list g.vseq v u (remove_by itself x) ∙ h.2) f h.4,
      rw (attach_back (detach g.vseq v x) u new x (ordered_upd vertex_number (on_list (remove_by itself x)) g.vseq v (λ y. refl) w.vorder) f)
          (detach_prev g.vseq v old x c (record { there = held g w x v h.0 h.1; before = h.3 })),
    )

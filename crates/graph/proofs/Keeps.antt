-- An edit keeps the graph well formed.
use mathlib.Core.Path.{◌≡◌, refl, sym, ap, ◌∙◌}
use mathlib.Core.Logic.{◌≢◌}
use mathlib.Core.List.{[]}
use Prim.Native.Nat.{ℕ, ◌/◌, ◌%◌}
use native.Mathlib.Omega.{arith}
use native.Mathlib.Nat.{zero-add, sub-zero}
use Rattle.lists.specs.Choice.{if_equal}
use Rattle.lists.specs.Keyed.{count_by_key, insert_after_by, remove_by, update_by}
use Rattle.lists.proofs.Picks.{pick_both, Same, same, differ, same?, is_yes, is_no}
use Rattle.lists.proofs.KeyedLaws.{count_ins, count_rem, find_ins, find_ins_other, find_rem_other, count_upd}
use Rattle.graph.specs.declared.Reading.{Reading}
use Rattle.graph.specs.declared.Edit.{Edit}
use Rattle.graph.specs.declared.Edit.TheVariants.{InsertVertex, RemoveVertex, InsertEdge, RemoveEdge, SetVertex, SetEdge, MoveVertex, MoveEdge, MoveWord}
use Rattle.graph.specs.Graph.{Vertex, Edge, Graph, vertex_number, edge_number, itself, no_vertex, no_edge, out_word, in_word, vertex_in, edge_in, list_in, this_in}
use Rattle.graph.specs.WellFormed.{WellFormed}
use Rattle.graph.specs.Changes.{on_list, with_vertex, with_edge, with_seen, detach}
use Rattle.graph.specs.Edits.{attach, apply, Applies}
use Rattle.graph.proofs.Orders.{ordered_ins, ordered_rem, find_kept, find_move, count_move, ordered_upd}
use Rattle.graph.proofs.Incidence.{count_attach, count_detach, count_attach_other, count_detach_other, apart, apart', out_half, into_half, this_out, this_into, this_set, this_other}
use Rattle.graph.proofs.Incidence.{count_list, list_ins, list_rem, Word, out_word_lem, in_word_lem, other_word, word?}
use Rattle.graph.proofs.Lists.{held, ends_at, gone, free_out, free_into, out_at, into_at, a_there, z_there}

module _ (n a z t : ℕ) (r : Reading) (p o i : ℕ) (g : Graph) (h : Applies (InsertEdge n a z t r p o i) g) (w : WellFormed g) where
  abbrev new : Edge
  new = record { number = n; alpha = a; omega = z; type = t; reading = r }

  new_out : this_in (insert_after_by edge_number 0 p new g.eseq) (out_word n) ≡ a
  new_out = this_out (insert_after_by edge_number 0 p new g.eseq) n ∙ ap (λ (x : Edge). x.alpha) (find_ins edge_number no_edge 0 p new g.eseq h.0.fresh)

  new_into : this_in (insert_after_by edge_number 0 p new g.eseq) (in_word n) ≡ z
  new_into = this_into (insert_after_by edge_number 0 p new g.eseq) n ∙ ap (λ (x : Edge). x.omega) (find_ins edge_number no_edge 0 p new g.eseq h.0.fresh)

  new_other : (k : ℕ) → n ≢ k / 2 → this_in (insert_after_by edge_number 0 p new g.eseq) k ≡ this_in g.eseq k
  new_other k d = ap (λ (x : Edge). if_equal (k % 2) 0 x.alpha x.omega) (find_ins_other edge_number no_edge 0 p (k / 2) new g.eseq d)

  insert_lists : (u k : ℕ) → Word n k → count_by_key itself k (list_in (attach (attach g.vseq a o (out_word n)) z i (in_word n)) u)
      ≡ if_equal (this_in (insert_after_by edge_number 0 p new g.eseq) k) u (count_by_key edge_number (k / 2) (insert_after_by edge_number 0 p new g.eseq)) 0
  insert_lists u k (out_word_lem e) =
      rw e (count_attach_other (attach g.vseq a o (out_word n)) z i (in_word n) u (out_word n) (count_list g.vseq a z (insert_after_by itself 0 o (out_word n)) ∙ h.2) (apart' n)
      ∙ count_attach g.vseq a o (out_word n) u (out_word n) h.1
      ∙ rw (new_out, out_half, count_ins edge_number n 0 p new g.eseq, h.0.fresh, free_out g w n u h.0.fresh, is_yes (out_word n) (out_word n) refl, is_yes n n refl) (omega arith))
  insert_lists u k (in_word_lem e) = rw e (count_attach (attach g.vseq a o (out_word n)) z i (in_word n) u (in_word n) (count_list g.vseq a z (insert_after_by itself 0 o (out_word n)) ∙ h.2)
      ∙ rw (new_into, into_half, count_ins edge_number n 0 p new g.eseq, h.0.fresh, free_into g w n a o u h.0.fresh h.1, is_yes (in_word n) (in_word n) refl, is_yes n n refl) (omega arith))
  insert_lists u k (other_word d e f) = count_attach_other (attach g.vseq a o (out_word n)) z i (in_word n) u k (count_list g.vseq a z (insert_after_by itself 0 o (out_word n)) ∙ h.2) f
      ∙ count_attach_other g.vseq a o (out_word n) u k h.1 e ∙ w.lists u k
      ∙ rw (new_other k d, count_ins edge_number (k / 2) 0 p new g.eseq, is_no n (k / 2) d, zero-add)

  insert_ends : (k : ℕ) → Word n k → count_by_key edge_number (k / 2) (insert_after_by edge_number 0 p new g.eseq) ≡ 1
      → count_by_key vertex_number (this_in (insert_after_by edge_number 0 p new g.eseq) k) g.vseq ≡ 1
  insert_ends k (out_word_lem e) j = rw (e, new_out) h.1
  insert_ends k (in_word_lem e) j = rw (e, new_into) h.2
  insert_ends k (other_word d e f) j = rw (new_other k d) (w.ends k (omega (arith, j, count_ins edge_number (k / 2) 0 p new g.eseq, is_no n (k / 2) d)))

module _ (n a z t : ℕ) (r : Reading) (p o i : ℕ) (g : Graph) (h : Applies (RemoveEdge n a z t r p o i) g) (w : WellFormed g) where
  old_other : (k : ℕ) → n ≢ k / 2 → this_in (remove_by edge_number n g.eseq) k ≡ this_in g.eseq k
  old_other k d = ap (λ (x : Edge). if_equal (k % 2) 0 x.alpha x.omega) (find_rem_other edge_number no_edge (k / 2) n g.eseq d)

  ca : count_by_key vertex_number a g.vseq ≡ 1
  ca = a_there g w n a z t r h.0.there h.1

  cz : count_by_key vertex_number z g.vseq ≡ 1
  cz = z_there g w n a z t r h.0.there h.1

  ca' : count_by_key vertex_number a (detach g.vseq z (in_word n)) ≡ 1
  ca' = count_list g.vseq z a (remove_by itself (in_word n)) ∙ ca

  remove_lists : (u k : ℕ) → Word n k → count_by_key itself k (list_in (detach (detach g.vseq z (in_word n)) a (out_word n)) u) ≡ if_equal (this_in (remove_by edge_number n g.eseq) k) u
      (count_by_key edge_number (k / 2) (remove_by edge_number n g.eseq)) 0
  remove_lists u k (out_word_lem e) = rw e (count_detach (detach g.vseq z (in_word n)) a (out_word n) u (out_word n) ca'
      ∙ rw (
        count_detach_other g.vseq z (in_word n) u (out_word n) cz (apart' n),
        w.lists u (out_word n),
        out_at g w n a z t r h.0.there h.1,
        is_yes (out_word n) (out_word n) refl,
        out_half,
        count_rem edge_number n n g.eseq,
        h.0.there,
        is_yes n n refl,
        pick_both,
      ) (omega arith))
  remove_lists u k (in_word_lem e) = rw e (count_detach_other (detach g.vseq z (in_word n)) a (out_word n) u (in_word n) ca' (apart n)
      ∙ count_detach g.vseq z (in_word n) u (in_word n) cz
      ∙ rw (
        w.lists u (in_word n),
        into_at g w n a z t r h.0.there h.1,
        is_yes (in_word n) (in_word n) refl,
        into_half,
        count_rem edge_number n n g.eseq,
        h.0.there,
        is_yes n n refl,
        pick_both,
      ) (omega arith))
  remove_lists u k (other_word d e f) = count_detach_other (detach g.vseq z (in_word n)) a (out_word n) u k ca' e ∙ count_detach_other g.vseq z (in_word n) u k cz f ∙ w.lists u k
      ∙ rw (old_other k d, count_rem edge_number (k / 2) n g.eseq, is_no n (k / 2) d, sub-zero)

  remove_ends : (k : ℕ) → Word n k → count_by_key edge_number (k / 2) (remove_by edge_number n g.eseq) ≡ 1 → count_by_key vertex_number (this_in (remove_by edge_number n g.eseq) k) g.vseq ≡ 1
  remove_ends k (out_word_lem e) j = absurd (omega (arith, j, count_rem edge_number (k / 2) n g.eseq, is_yes n (k / 2) (omega arith), w.eorder (k / 2)))
  remove_ends k (in_word_lem e) j = absurd (omega (arith, j, count_rem edge_number (k / 2) n g.eseq, is_yes n (k / 2) (omega arith), w.eorder (k / 2)))
  remove_ends k (other_word d e f) j = rw (old_other k d) (w.ends k (omega (arith, j, count_rem edge_number (k / 2) n g.eseq, is_no n (k / 2) d)))

module _ (x v old u new : ℕ) (g : Graph) (h : Applies (MoveWord x v old u new) g) (w : WellFormed g) where
  move_this : (k : ℕ) → x ≢ k → this_in (update_by edge_number (x / 2) (with_seen x u) g.eseq) k ≡ this_in g.eseq k
  move_this k d = this_other g.eseq x u k h.0 d

  move_lists : (s k : ℕ) → Same x k → count_by_key itself k (list_in (attach (detach g.vseq v x) u new x) s) ≡ if_equal (this_in (update_by edge_number (x / 2) (with_seen x u) g.eseq) k) s
      (count_by_key edge_number (k / 2) (update_by edge_number (x / 2) (with_seen x u) g.eseq)) 0
  move_lists s k (same e f) =
      rw f (count_attach (detach g.vseq v x) u new x s x (count_list g.vseq v u (remove_by itself x) ∙ h.2)
      ∙ rw (gone g w x v s h.0 h.1, this_set g.eseq x u h.0, count_upd edge_number (with_seen x u) (λ y. refl) (x / 2) (x / 2) g.eseq, h.0, is_yes x x refl) (omega arith))
  move_lists s k (differ e f) = count_attach_other (detach g.vseq v x) u new x s k (count_list g.vseq v u (remove_by itself x) ∙ h.2) e ∙ count_detach_other g.vseq v x s k
      (ends_at g w x v h.0 h.1) e ∙ rw (move_this k e, count_upd edge_number (with_seen x u) (λ y. refl) (k / 2) (x / 2) g.eseq) (w.lists s k)

  move_ends : (k : ℕ) → Same x k → count_by_key edge_number (k / 2) g.eseq ≡ 1 → count_by_key vertex_number (this_in (update_by edge_number (x / 2) (with_seen x u) g.eseq) k) g.vseq ≡ 1
  move_ends k (same e f) i = rw (f, this_set g.eseq x u h.0) h.2
  move_ends k (differ e f) i = rw (move_this k e) (w.ends k i)

pub keeps_formed : (e : Edit) (g : Graph) → Applies e g → WellFormed g → WellFormed (apply e g)
keeps_formed (InsertVertex n t v p) g h w =
    let x : Vertex = record { number = n; type = t; value = v; incidences = [] } in
    record {
      vorder = ordered_ins vertex_number g.vseq x p w.vorder h;
      eorder = w.eorder;
      lists = λ u k. rw (list_ins g.vseq n t v p u h.fresh) (w.lists u k);
      ends = λ k i. omega (
        arith,
        count_ins vertex_number (this_in g.eseq k) 0 p x g.vseq,
        w.ends k i,
        is_no n (this_in g.eseq k) (λ e. omega (arith, h.fresh, w.ends k i, ap (λ (m : ℕ). count_by_key vertex_number m g.vseq) e)),
      );
    }
keeps_formed (RemoveVertex n t v p) g h w =
    let z = ap (λ (x : Vertex). x.incidences) h.1 in
    record {
      vorder = ordered_rem vertex_number g.vseq n w.vorder;
      eorder = w.eorder;
      lists = λ u k. rw (list_rem g.vseq n u h.0.there z) (w.lists u k);
      ends = λ k i. omega (arith, count_rem vertex_number (this_in g.eseq k) n g.vseq, w.ends k i, is_no n (this_in g.eseq k) (λ e. omega (arith, rw z at (held g w k n i (sym e)))));
    }
keeps_formed (InsertEdge n a z t r p o i) g h w = record {
  vorder = ordered_upd vertex_number (on_list (insert_after_by itself 0 i (in_word n))) (attach g.vseq a o (out_word n)) z (λ y. refl)
      (ordered_upd vertex_number (on_list (insert_after_by itself 0 o (out_word n))) g.vseq a (λ y. refl) w.vorder);
  eorder = ordered_ins edge_number g.eseq (record { number = n; alpha = a; omega = z; type = t; reading = r }) p w.eorder h.0;
  lists = λ u k. insert_lists n a z t r p o i g h w u k (word? n k);
  ends = λ k j. count_list (attach g.vseq a o (out_word n)) z _ (insert_after_by itself 0 i (in_word n)) ∙ count_list g.vseq a _ (insert_after_by itself 0 o (out_word n))
      ∙ insert_ends n a z t r p o i g h w k (word? n k) j;
}
keeps_formed (RemoveEdge n a z t r p o i) g h w = record {
  vorder = ordered_upd vertex_number (on_list (remove_by itself (out_word n))) (detach g.vseq z (in_word n)) a (λ y. refl)
      (ordered_upd vertex_number (on_list (remove_by itself (in_word n))) g.vseq z (λ y. refl) w.vorder);
  eorder = ordered_rem edge_number g.eseq n w.eorder;
  lists = λ u k. remove_lists n a z t r p o i g h w u k (word? n k);
  ends = λ k j. count_list (detach g.vseq z (in_word n)) a _ (remove_by itself (out_word n)) ∙ count_list g.vseq z _ (remove_by itself (in_word n)) ∙ remove_ends n a z t r p o i g h w k (word? n k) j;
}
keeps_formed (SetVertex n t v t' v') g h w = record {
  vorder = ordered_upd vertex_number (with_vertex t' v') g.vseq n (λ y. refl) w.vorder;
  eorder = w.eorder;
  lists = λ u k. ap (count_by_key itself k) (find_kept vertex_number no_vertex (λ (x : Vertex). x.incidences) (with_vertex t' v') u n g.vseq (λ y. refl) (λ y. refl)) ∙ w.lists u k;
  ends = λ k j. count_upd vertex_number (with_vertex t' v') (λ y. refl) (this_in g.eseq k) n g.vseq ∙ w.ends k j;
}
keeps_formed (SetEdge n t r t' r') g h w =
    let c : (k : ℕ) → count_by_key edge_number k (update_by edge_number n (with_edge t' r') g.eseq) ≡ count_by_key edge_number k g.eseq =
    λ k. count_upd edge_number (with_edge t' r') (λ y. refl) k n g.eseq in
    let s : (k : ℕ) → this_in (update_by edge_number n (with_edge t' r') g.eseq) k ≡ this_in g.eseq k =
    λ k. find_kept edge_number no_edge (λ (x : Edge). if_equal (k % 2) 0 x.alpha x.omega) (with_edge t' r') (k / 2) n g.eseq (λ y. refl) (λ y. refl) in
    record {
      vorder = w.vorder;
      eorder = ordered_upd edge_number (with_edge t' r') g.eseq n (λ y. refl) w.eorder;
      lists = λ u k. rw (s k, c (k / 2)) (w.lists u k);
      ends = λ k j. rw (s k) (w.ends k (sym (c (k / 2)) ∙ j));
    }
keeps_formed (MoveVertex n old new) g h w =
    let c : (k : ℕ) → count_by_key vertex_number k (insert_after_by vertex_number 0 new (vertex_in g.vseq n) (remove_by vertex_number n g.vseq)) ≡ count_by_key vertex_number k g.vseq =
    λ k. count_move vertex_number no_vertex k n new g.vseq h.0.there in
    record {
      vorder = λ k. omega (arith, c k, w.vorder k);
      eorder = w.eorder;
      lists = λ u k. ap (λ (x : Vertex). count_by_key itself k x.incidences) (find_move vertex_number no_vertex u n new g.vseq w.vorder h.0.there) ∙ w.lists u k;
      ends = λ k j. c (this_in g.eseq k) ∙ w.ends k j;
    }
keeps_formed (MoveEdge n old new) g h w =
    let m = insert_after_by edge_number 0 new (edge_in g.eseq n) (remove_by edge_number n g.eseq) in
    let c : (k : ℕ) → count_by_key edge_number k m ≡ count_by_key edge_number k g.eseq = λ k. count_move edge_number no_edge k n new g.eseq h.0.there in
    let s : (k : ℕ) → this_in m k ≡ this_in g.eseq k = λ k. ap (λ (x : Edge). if_equal (k % 2) 0 x.alpha x.omega) (find_move edge_number no_edge (k / 2) n new g.eseq w.eorder h.0.there) in
    record {
      vorder = w.vorder;
      eorder = λ k. omega (arith, c k, w.eorder k);
      lists = λ u k. rw (s k, c (k / 2)) (w.lists u k);
      ends = λ k j. rw (s k) (w.ends k (sym (c (k / 2)) ∙ j));
    }
keeps_formed (MoveWord x v old u new) g h w =
    let c : (k : ℕ) → count_by_key edge_number k (update_by edge_number (x / 2) (with_seen x u) g.eseq) ≡ count_by_key edge_number k g.eseq =
    λ k. count_upd edge_number (with_seen x u) (λ y. refl) k (x / 2) g.eseq in
    record {
      vorder = ordered_upd vertex_number (on_list (insert_after_by itself 0 new x)) (detach g.vseq v x) u (λ y. refl)
          (ordered_upd vertex_number (on_list (remove_by itself x)) g.vseq v (λ y. refl) w.vorder);
      eorder = λ k. omega (arith, c k, w.eorder k);
      lists = λ s k. move_lists x v old u new g h w s k (same? x k);
      ends = λ k j. count_list (detach g.vseq v x) u _ (insert_after_by itself 0 new x) ∙ count_list g.vseq v _ (remove_by itself x) ∙ move_ends x v old u new g h w k (same? x k)
          (sym (c (k / 2)) ∙ j);
    }

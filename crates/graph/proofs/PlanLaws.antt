-- The edit of a change applies, makes the change, and is within the bounds.
use Prim.Native.Nat.{ℕ, ◌≤◌}
use mathlib.Core.Path.{◌≡◌, refl, ap, ◌∙◌}
use mathlib.Core.List.{List, [], ◌∷◌, ◌++◌}
use native.Mathlib.Omega.{arith}
use Rattle.lists.specs.Keyed.{count_by_key, remove_by, last_by}
use Rattle.lists.proofs.Places.{last_in, ins_last, upd_agree}
use Rattle.graph.specs.declared.Reading.TheVariants.{Untested}
use Rattle.graph.specs.declared.SingleChange.{SingleChange}
use Rattle.graph.specs.declared.SingleChange.TheVariants.{CreateVertex, CreateEdge, DeleteEdge, RetypeVertex, RetypeEdge, SetValue, SetReading, SetAlpha, SetOmega, VertexBefore}
use Rattle.graph.specs.declared.SingleChange.TheVariants.{VertexAfter, EdgeBefore, EdgeAfter, WordBefore, WordAfter}
use Rattle.graph.specs.Graph.{Vertex, Graph, vertex_number, edge_number, itself, no_vertex, no_edge, vertex, edge, list_in, list_of, this, out_word, in_word, edge_of, reading_of}
use Rattle.graph.specs.WellFormed.{Bounds, Ordered, WellFormed}
use Rattle.graph.specs.Changes.{with_vertex, on_list, with_edge, append, detach, create_vertex, create_edge, retype_vertex, retype_edge}
use Rattle.graph.specs.Changes.{set_value, set_reading, reattach, vertex_before, vertex_after, edge_before, edge_after, VertexThere, EdgeThere, SinglyAllowed, singly_changed}
use Rattle.graph.specs.Edits.{attach, apply, Applies}
use Rattle.graph.specs.Plans.{word_move, list_without, move_last, plan}
use Rattle.graph.proofs.Orders.{ordered_upd}
use Rattle.graph.proofs.Incidence.{ordered_detach, out_half, into_half}
use Rattle.graph.proofs.Lists.{ordered_list, free_out}
use Rattle.graph.proofs.Undoes.{graph_path}
use Rattle.graph.proofs.Removals.{removal_applies, removal_is, word_move_applies}
use Rattle.graph.proofs.Moves.{attach_last, ordered_attach, after_place, before_place, before_is, own_vertex, word_after_place, word_before_place, word_after_is, word_before_is}

module _ (g : Graph) (w : WellFormed g) where
  -- a word moved to the end of a list
  move_last_applies : (x u : ℕ) → EdgeThere g (edge_of x) → VertexThere g u → Applies (move_last x u g) g
  move_last_applies x u h i = word_move_applies g x u (last_by itself 0 (list_without x u g)) h i (last_in itself 0 (list_without x u g))

  move_last_is : (x u : ℕ) → EdgeThere g (edge_of x) → apply (move_last x u g) g ≡ reattach x u g
  unfolding word_move reattach
  move_last_is x u h = graph_path _ _
      (attach_last (detach g.vseq (this g x) x) u x (ordered_upd vertex_number (on_list (remove_by itself x)) g.vseq (this g x) (λ y. refl) w.vorder)
      (ordered_detach g.vseq (this g x) x u (w.ends x h) (ordered_list g w u)))
      refl

  -- the words of a new edge: the out word last at its start, then the in word last at its end
  out_last : (n a : ℕ) → attach g.vseq a (last_by itself 0 (list_of g a)) (out_word n) ≡ append g.vseq a (out_word n)
  out_last n a = attach_last g.vseq a (out_word n) w.vorder (ordered_list g w a)

  in_last : (n a o : ℕ) → 1 ≤ n → count_by_key edge_number n g.eseq ≡ 0 → VertexThere g a
      → attach (append g.vseq a (out_word n)) o (last_by itself 0 (list_in (append g.vseq a (out_word n)) o)) (in_word n) ≡ append (append g.vseq a (out_word n)) o (in_word n)
  in_last n a o r f c =
      let d : Ordered itself (list_in (append g.vseq a (out_word n)) o) =
      rw (← out_last n a) (ordered_attach g.vseq a (last_by itself 0 (list_of g a)) (out_word n) o c (omega arith) (free_out g w n o f) (ordered_list g w o)) in
      attach_last (append g.vseq a (out_word n)) o (in_word n) (ordered_upd vertex_number (on_list (λ ws. ws ++ (out_word n ∷ []))) g.vseq a (λ y. refl) w.vorder) d

module _ (b : Bounds) (g : Graph) (w : WellFormed g) where
  pub plan_applies : (c : SingleChange) → SinglyAllowed b g c → Applies (plan c g) g
  unfolding plan
  plan_applies (CreateVertex n t x) h = record { real = h.0; fresh = h.2; after = last_in vertex_number 0 g.vseq }
  plan_applies (CreateEdge n a o t) h = (
    record { real = h.0; fresh = h.2; after = last_in edge_number 0 g.eseq },
    h.3,
    h.4,
    last_in itself 0 (list_of g a),
    rw (out_last g w n a) (last_in itself 0 (list_in (append g.vseq a (out_word n)) o)),
  )
  plan_applies (DeleteEdge a) h = removal_applies g a h
  plan_applies (RetypeVertex a t) h = (h.0, refl, refl)
  plan_applies (RetypeEdge a t) h = (h.0, refl, refl)
  plan_applies (SetValue a x) h = (h.0, refl, refl)
  plan_applies (SetReading a k d) h = (h.0, refl, refl)
  plan_applies (SetAlpha n v) h = move_last_applies g w (out_word n) v (rw out_half h.0) h.1
  plan_applies (SetOmega n v) h = move_last_applies g w (in_word n) v (rw into_half h.0) h.1
  plan_applies (VertexBefore x y) h = (record { there = h.0; before = refl }, before_place vertex_number g.vseq x y w.vorder h.1 h.2)
  plan_applies (VertexAfter x y) h = (record { there = h.0; before = refl }, after_place vertex_number g.vseq x y w.vorder h.1 h.2)
  plan_applies (EdgeBefore x y) h = (record { there = h.0; before = refl }, before_place edge_number g.eseq x y w.eorder h.1 h.2)
  plan_applies (EdgeAfter x y) h = (record { there = h.0; before = refl }, after_place edge_number g.eseq x y w.eorder h.1 h.2)
  plan_applies (WordBefore x y) h =
      word_move_applies g x (this g x) _ h.0 (own_vertex g w x y h.0 h.1 h.2 h.3) (word_before_place g w x y h.0 h.1 h.2 h.3)
  plan_applies (WordAfter x y) h =
      word_move_applies g x (this g x) y h.0 (own_vertex g w x y h.0 h.1 h.2 h.3) (word_after_place g w x y h.0 h.1 h.2 h.3)

  pub plan_is : (c : SingleChange) → SinglyAllowed b g c → apply (plan c g) g ≡ singly_changed c g
  unfolding plan singly_changed create_vertex create_edge retype_vertex retype_edge set_value set_reading vertex_before vertex_after edge_before edge_after
  plan_is (CreateVertex n t x) h = graph_path _ _ (ins_last vertex_number 0 (record { number = n; type = t; value = x; incidences = [] }) g.vseq w.vorder) refl
  plan_is (CreateEdge n a o t) h = graph_path _ _
      (ap (λ (l : List Vertex). attach l o (last_by itself 0 (list_in (append g.vseq a (out_word n)) o)) (in_word n)) (out_last g w n a) ∙ in_last g w n a o h.0 h.2 h.3)
      (ins_last edge_number 0 (record { number = n; alpha = a; omega = o; type = t; reading = Untested }) g.eseq w.eorder)
  plan_is (DeleteEdge a) h = removal_is g a
  plan_is (RetypeVertex a t) h =
      graph_path _ _ (upd_agree vertex_number no_vertex a (with_vertex t (vertex g a).value) (λ v. with_vertex t v.value v) g.vseq (λ k. omega (arith, w.vorder k)) refl) refl
  plan_is (RetypeEdge a t) h = graph_path _ _ refl (upd_agree edge_number no_edge a (with_edge t (edge g a).reading) (λ x. with_edge t x.reading x) g.eseq (λ k. omega (arith, w.eorder k)) refl)
  plan_is (SetValue a x) h =
      graph_path _ _ (upd_agree vertex_number no_vertex a (with_vertex (vertex g a).type x) (λ v. with_vertex v.type x v) g.vseq (λ k. omega (arith, w.vorder k)) refl) refl
  plan_is (SetReading a k d) h =
      graph_path _ _ refl (upd_agree edge_number no_edge a (with_edge (edge g a).type (reading_of k d)) (λ x. with_edge x.type (reading_of k d) x) g.eseq
      (λ k. omega (arith, w.eorder k)) refl)
  plan_is (SetAlpha n v) h = move_last_is g w (out_word n) v (rw out_half h.0)
  plan_is (SetOmega n v) h = move_last_is g w (in_word n) v (rw into_half h.0)
  plan_is (VertexBefore x y) h = graph_path _ _ (before_is vertex_number g.vseq x y w.vorder h.1 h.2 (vertex g x)) refl
  plan_is (VertexAfter x y) h = refl
  plan_is (EdgeBefore x y) h = graph_path _ _ refl (before_is edge_number g.eseq x y w.eorder h.1 h.2 (edge g x))
  plan_is (EdgeAfter x y) h = refl
  plan_is (WordBefore x y) h = word_before_is g w x y h.0 h.1 h.2 h.3
  plan_is (WordAfter x y) h = word_after_is g w x y h.0 h.1 h.2 h.3

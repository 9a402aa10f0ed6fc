-- Places in an order once an element is out, and words put elsewhere.
use Prim.Native.Nat.{ℕ, ◌+◌, ◌%◌, ◌≤◌}
use mathlib.Core.Path.{◌≡◌, refl, sym, ap, ◌∙◌}
use mathlib.Core.Logic.{◌≢◌}
use mathlib.Core.List.{List, [], ◌∷◌, ◌++◌}
use native.Mathlib.Omega.{arith}
use Rattle.lists.specs.Choice.{if_equal, indicator}
use Rattle.lists.specs.Keyed.{count_by_key, insert_after_by, insert_before_by, remove_by, prev_by, last_by, find_by, update_by, put_before, put_after}
use Rattle.lists.proofs.Picks.{pick_yes, pick_no, pick_self, same, differ, same?, is_yes, is_no}
use Rattle.lists.proofs.KeyedLaws.{count_rem}
use Rattle.lists.proofs.Places.{ins_last, prev_there, ins_before, upd_agree, upd_same, upd_upd}
use Rattle.graph.specs.Graph.{Vertex, Edge, Graph, vertex_number, edge_number, itself, no_vertex, no_edge, vertex, edge, vertex_in, list_in, list_of, this, edge_of}
use Rattle.graph.specs.WellFormed.{Ordered, WellFormed}
use Rattle.graph.specs.Changes.{on_list, with_seen, append, detach, word_before, word_after, VertexThere, EdgeThere}
use Rattle.graph.specs.Edits.{attach, apply}
use Rattle.graph.specs.Plans.{word_move, list_without}
use Rattle.graph.proofs.Orders.{key_find, ordered_rem}
use Rattle.graph.proofs.Incidence.{list_upd, count_attach, count_attach_other, pick_le}
use Rattle.graph.proofs.Lists.{held, ordered_list}
use Rattle.graph.proofs.Undoes.{graph_path}

-- ---- words at the end of a list

pub attach_last : (l : List Vertex) (v w : ℕ) → Ordered vertex_number l → Ordered itself (list_in l v) → attach l v (last_by itself 0 (list_in l v)) w ≡ append l v w
attach_last l v w d e = upd_agree vertex_number no_vertex v (on_list (insert_after_by itself 0 (last_by itself 0 (list_in l v)) w)) (on_list (λ ws. ws ++ (w ∷ []))) l (λ n. omega (arith, d n))
    (λ i. record { number = (vertex_in l v).number; type = (vertex_in l v).type; value = (vertex_in l v).value; incidences = ins_last itself 0 w (list_in l v) e i })

pub ordered_attach : (l : List Vertex) (v p w u : ℕ) → count_by_key vertex_number v l ≡ 1 → 1 ≤ w → count_by_key itself w (list_in l u) ≡ 0 → Ordered itself (list_in l u)
    → Ordered itself (list_in (attach l v p w) u)
ordered_attach l v p w u c r z d k = elim (same? w k) [
  | same e f ↦ omega (arith, count_attach l v p w u k c, pick_le v u (indicator w k), is_yes w k e, is_no 0 k (omega arith), ap (λ (m : ℕ). count_by_key itself m (list_in l u)) e)
  | differ e f ↦ omega (arith, count_attach_other l v p w u k c e, d k)
]

-- ---- a place in an order, once a is out

module _ {A : Type 0} (key : A → ℕ) (l : List A) (a b : ℕ) (d : Ordered key l) (h : count_by_key key b l ≡ 1) (n : a ≢ b) where
  pub stays : 1 ≤ count_by_key key b (remove_by key a l)
  stays = omega (arith, count_rem key b a l, is_no a b n)

  pub after_place : 1 ≤ indicator 0 b + count_by_key key b (remove_by key a l)
  after_place = omega (arith, stays)

  pub before_place : 1 ≤ indicator 0 (prev_by key 0 b (remove_by key a l)) + count_by_key key (prev_by key 0 b (remove_by key a l)) (remove_by key a l)
  before_place = prev_there key 0 b (remove_by key a l) stays

  pub before_is : (x : A) → insert_after_by key 0 (prev_by key 0 b (remove_by key a l)) x (remove_by key a l) ≡ insert_before_by key b x (remove_by key a l)
  before_is x = ins_before key 0 b x (remove_by key a l) stays (ordered_rem key l a d)

-- ---- a word put elsewhere in its own list

list_left : (l : List Vertex) (v w : ℕ) → count_by_key vertex_number v l ≡ 1 → list_in (detach l v w) v ≡ remove_by itself w (list_in l v)
list_left l v w c = list_upd l v v (remove_by itself w) c ∙ pick_self v _ _

end_same : (x : ℕ) (e : Edge) → with_seen x (if_equal (x % 2) 0 e.alpha e.omega) e ≡ e
end_same x e = elim (same? (x % 2) 0) [
  | same i j ↦ simp pick_yes
  | differ i j ↦ simp pick_no
]

module _ (g : Graph) (w : WellFormed g) (x y : ℕ) (h : EdgeThere g (edge_of x)) (i : EdgeThere g (edge_of y)) (t : this g x ≡ this g y) (n : x ≢ y) where
  pub own_vertex : VertexThere g (this g x)
  own_vertex = w.ends x h

  x_held : count_by_key itself x (list_of g (this g x)) ≡ 1
  x_held = held g w x (this g x) h refl

  y_held : count_by_key itself y (list_of g (this g x)) ≡ 1
  y_held = held g w y (this g x) i (sym t)

  order : Ordered itself (list_of g (this g x))
  order = ordered_list g w (this g x)

  left : list_without x (this g x) g ≡ remove_by itself x (list_of g (this g x))
  left = list_left g.vseq (this g x) x own_vertex

  pub word_after_place : 1 ≤ indicator 0 y + count_by_key itself y (list_without x (this g x) g)
  word_after_place = rw left (after_place itself (list_of g (this g x)) x y order y_held n)

  pub word_before_place : 1 ≤ indicator 0 (prev_by itself 0 y (list_without x (this g x) g)) + count_by_key itself (prev_by itself 0 y (list_without x (this g x) g)) (list_without x (this g x) g)
  word_before_place = rw left (before_place itself (list_of g (this g x)) x y order y_held n)

  -- the ends stay
  ends_same : update_by edge_number (edge_of x) (with_seen x (this g x)) g.eseq ≡ g.eseq
  ends_same = upd_agree edge_number no_edge (edge_of x) (with_seen x (this g x)) (λ (e : Edge). e) g.eseq (λ k. omega (arith, w.eorder k)) (end_same x (edge g (edge_of x)))
      ∙ upd_same edge_number (edge_of x) g.eseq

  -- out and in again is one update of the list
  one_update : (p : ℕ) (f : List ℕ → List ℕ) → insert_after_by itself 0 p x (remove_by itself x (list_of g (this g x))) ≡ f (list_of g (this g x))
      → attach (detach g.vseq (this g x) x) (this g x) p x ≡ update_by vertex_number (this g x) (on_list f) g.vseq
  one_update p f e = upd_upd vertex_number (this g x) (on_list (remove_by itself x)) (on_list (insert_after_by itself 0 p x)) g.vseq (λ v. refl)
      ∙ upd_agree vertex_number no_vertex (this g x) (on_list (λ ws. insert_after_by itself 0 p x (remove_by itself x ws))) (on_list f) g.vseq (λ k. omega (arith, w.vorder k))
      (λ i. record { number = (vertex g (this g x)).number; type = (vertex g (this g x)).type; value = (vertex g (this g x)).value; incidences = e i })

  found : find_by itself 0 x (list_of g (this g x)) ≡ x
  found = key_find itself 0 x (list_of g (this g x)) (omega (arith, x_held))

  pub word_after_is : apply (word_move x (this g x) y g) g ≡ word_after x y g
  unfolding word_move word_after
  word_after_is = graph_path _ _ (one_update y (put_after itself 0 x y) (ap (λ (z : ℕ). insert_after_by itself 0 y z (remove_by itself x (list_of g (this g x)))) (sym found))) ends_same

  pub word_before_is : apply (word_move x (this g x) (prev_by itself 0 y (list_without x (this g x) g)) g) g ≡ word_before x y g
  unfolding word_move word_before
  word_before_is = graph_path _ _
      (one_update (prev_by itself 0 y (list_without x (this g x) g)) (put_before itself 0 x y)
      (ap (λ (l : List ℕ). insert_after_by itself 0 (prev_by itself 0 y l) x (remove_by itself x (list_of g (this g x)))) left
      ∙ before_is itself (list_of g (this g x)) x y order y_held n x
      ∙ ap (λ (z : ℕ). insert_before_by itself y z (remove_by itself x (list_of g (this g x)))) (sym found)))
      ends_same

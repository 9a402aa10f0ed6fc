-- The edits read off the tables are those of the graph that the tables hold.
use Prim.Native.Nat.{ℕ, ◌+◌, ◌^◌, ◌≤◌, ◌<◌}
use mathlib.Core.Path.{◌≡◌, refl, sym, ap, ◌∙◌}
use mathlib.Core.Logic.{◌≢◌}
use mathlib.Core.List.{[], ◌∷◌, ◌++◌}
use native.Mathlib.Omega.{arith}
use Rattle.lists.specs.Choice.{if_equal, indicator}
use Rattle.lists.specs.Keyed.{count_by_key, remove_by, prev_by, last_by}
use Rattle.lists.proofs.Picks.{pick_yes, pick_no, same, differ, same?, is_no}
use Rattle.lists.proofs.Places.{prev_there}
use Rattle.graph.specs.declared.Edit.TheVariants.{InsertVertex, RemoveVertex, InsertEdge, RemoveEdge, SetVertex, SetEdge, MoveVertex, MoveEdge, MoveWord}
use Rattle.graph.specs.declared.Reading.TheVariants.{Untested}
use Rattle.graph.specs.declared.SingleChange.{SingleChange}
use Rattle.graph.specs.declared.SingleChange.TheVariants.{CreateVertex, CreateEdge, DeleteEdge, RetypeVertex, RetypeEdge, SetValue, SetReading, SetAlpha, SetOmega, VertexBefore}
use Rattle.graph.specs.declared.SingleChange.TheVariants.{VertexAfter, EdgeBefore, EdgeAfter, WordBefore, WordAfter}
use Rattle.graph.specs.Graph.{Graph, vertex_number, edge_number, itself, edge, edge_of, out_word, in_word, this, list_in, list_of, reading_of}
use Rattle.graph.specs.WellFormed.{Bounds}
use Rattle.graph.specs.Changes.{VertexThere, EdgeThere, SinglyAllowed, append, detach}
use Rattle.graph.specs.Plans.{removal, vertex_removal, word_move, list_without, move_last, plan}
use Rattle.graph.proofs.Incidence.{list_upd, out_half, into_half, this_out, this_into}
use Rattle.graph.proofs.Lists.{ordered_list}
use Rattle.graph_tables.specs.Tables.{State, vlast, wprev}
use Rattle.graph_tables.specs.Holds.{Holds}
use Rattle.graph_tables.specs.Capacities.{Sized}
use Rattle.tried_edits.specs.Plans.{unless, plan_remove_vertex, plan_remove_edge, plan_word_last, state_plan, CanPlan}
use Rattle.tried_edits.proofs.Removed.{prev_rem, last_rem, last_other, last_append}
use Rattle.graph_tables.proofs.Answers.{last_vertex, last_edge, vertex_row, vertex_type, vertex_value, last_word, vertex_prev, edge_row, edge_type, reading_at_lem, alpha_is, omega_is}
use Rattle.graph_tables.proofs.Answers.{edge_prev, word_row, word_this, word_vertex, word_listed, word_prev}

-- `unless` of equal parts
unless_by : (a : ℕ) {p p' x x' : ℕ} → p ≡ p' → x ≡ x' → unless a p x ≡ unless a p' x'
unless_by a p q i = unless a (p i) (q i)

-- the place that is read, once a is out
pub chosen : (a : ℕ) {p p' x x' q : ℕ} → p ≡ p' → x ≡ x' → q ≡ if_equal x a p x → q ≡ unless a p' x'
chosen a p x q = q ∙ unless_by a p x

module _ (s : State) (g : Graph) (h : Holds s g) where
  -- a word that leaves its list: what stands before another, and what stands last, in any list
  module _ (w : ℕ) (c : EdgeThere g (edge_of w)) where
    real : 2 ≤ w
    real = (word_row s g h w c).0

    -- w is in no other list
    elsewhere : (u : ℕ) → this g w ≢ u → count_by_key itself w (list_of g u) ≡ 0
    elsewhere u d = h.sound.lists u w ∙ pick_no (this g w) u _ _ d

    list_out : (u : ℕ) → this g w ≡ u → list_without w u g ≡ remove_by itself w (list_of g u)
    list_out u e = list_upd g.vseq (this g w) u (remove_by itself w) (word_vertex s g h w c) ∙ pick_yes (this g w) u _ _ e

    list_kept : (u : ℕ) → this g w ≢ u → list_without w u g ≡ list_of g u
    list_kept u d = list_upd g.vseq (this g w) u (remove_by itself w) (word_vertex s g h w c) ∙ pick_no (this g w) u _ _ d

    prev_out : (u b : ℕ) → w ≢ b → 1 ≤ count_by_key itself b (list_of g u) →
        unless w (prev_by itself 0 w (list_of g (this g w))) (prev_by itself 0 b (list_of g u)) ≡ prev_by itself 0 b (list_without w u g)
    prev_out u b n i = elim (same? (this g w) u) [
      | same e f ↦
          let l = list_of g u in
          let j : count_by_key itself w l ≡ 1 = rw e at (word_listed s g h w c) in
          unless_by w (ap (λ (v : ℕ). prev_by itself 0 w (list_of g v)) e) refl
          ∙ sym (prev_rem itself 0 w b l n (omega arith) i (ordered_list g h.sound u))
          ∙ ap (prev_by itself 0 b) (sym (list_out u e))
      | differ e f ↦
          let l = list_of g u in
          let o : prev_by itself 0 b l ≢ w =
          λ q. omega (arith, prev_there itself 0 b l i, elsewhere u e, ap (λ (k : ℕ). indicator 0 k + count_by_key itself k l) q, is_no 0 w (λ r. omega (arith, real))) in
          pick_no (prev_by itself 0 b l) w _ _ o ∙ ap (prev_by itself 0 b) (sym (list_kept u e))
    ]

    last_out : (u : ℕ) → unless w (prev_by itself 0 w (list_of g (this g w))) (last_by itself 0 (list_of g u)) ≡ last_by itself 0 (list_without w u g)
    last_out u = elim (same? (this g w) u) [
      | same e f ↦
          let l = list_of g u in
          let j : count_by_key itself w l ≡ 1 = rw e at (word_listed s g h w c) in
          unless_by w (ap (λ (v : ℕ). prev_by itself 0 w (list_of g v)) e) refl
          ∙ sym (last_rem itself 0 w l (omega arith) (ordered_list g h.sound u))
          ∙ ap (last_by itself 0) (sym (list_out u e))
      | differ e f ↦
          let l = list_of g u in
          let o : last_by itself 0 l ≢ w = last_other itself 0 w l (omega (arith, elsewhere u e, is_no 0 w (λ r. omega (arith, real)))) in
          pick_no (last_by itself 0 l) w _ _ o ∙ ap (last_by itself 0) (sym (list_kept u e))
    ]

    pub last_move : (u : ℕ) → VertexThere g u → plan_word_last s.vertices s.edges w u ≡ move_last w u g
    unfolding word_move
    last_move u cu =
        let t = word_this s g h w c in
        let p = word_prev s g h w c in
        let q = unless_by w p (last_word s g h u cu) ∙ last_out u in
        λ i. MoveWord w (t i) (p i) u (q i)

  there_out : (e : ℕ) → EdgeThere g e → EdgeThere g (edge_of (out_word e))
  there_out e c = rw (out_half e) c

  there_in : (e : ℕ) → EdgeThere g e → EdgeThere g (edge_of (in_word e))
  there_in e c = rw (into_half e) c

  -- the removal of an edge
  pub removal_is : (n : ℕ) → EdgeThere g n → plan_remove_edge s.edges n ≡ removal n g
  unfolding removal
  removal_is n c =
      let ci = there_in n c in
      let co = there_out n c in
      let a = alpha_is s g h n c in
      let z = omega_is s g h n c in
      let t = edge_type s g h n c in
      let r = reading_at_lem s g h n c in
      let p = edge_prev s g h n c in
      let i = word_prev s g h (in_word n) ci in
      let i' : wprev s.edges (in_word n) ≡ prev_by itself 0 (in_word n) (list_of g (edge g n).omega) = i ∙ ap (λ (v : ℕ). prev_by itself 0 (in_word n) (list_of g v)) (this_into g.eseq n) in
      let o = word_prev s g h (out_word n) co in
      let q : unless (in_word n) (wprev s.edges (in_word n)) (wprev s.edges (out_word n)) ≡ prev_by itself 0 (out_word n) (list_in (detach g.vseq (edge g n).omega (in_word n)) (edge g n).alpha) =
      unless_by (in_word n) i o
      ∙ prev_out (in_word n) ci (this g (out_word n)) (out_word n) (omega arith) (omega (arith, word_listed s g h (out_word n) co))
      ∙ (λ k. prev_by itself 0 (out_word n) (list_in (detach g.vseq (this_into g.eseq n k) (in_word n)) (this_out g.eseq n k))) in
      λ k. RemoveEdge n (a k) (z k) (t k) (r k) (p k) (q k) (i' k)

  -- the last word of omega's list, once the out word is last in alpha's
  into_last : (n a o : ℕ) → VertexThere g a → VertexThere g o → if_equal a o (out_word n) (vlast s.vertices o) ≡ last_by itself 0 (list_in (append g.vseq a (out_word n)) o)
  into_last n a o ca co =
      let l = list_upd g.vseq a o (λ ws. ws ++ (out_word n ∷ [])) ca in
      elim (same? a o) [
        | same e f ↦ pick_yes a o _ _ e ∙ sym (ap (last_by itself 0) (l ∙ pick_yes a o _ _ e) ∙ last_append itself 0 (list_of g o) (out_word n))
        | differ e f ↦ pick_no a o _ _ e ∙ last_word s g h o co ∙ sym (ap (last_by itself 0) (l ∙ pick_no a o _ _ e))
      ]

  -- the removal of a vertex
  pub vertex_removal_is : (v : ℕ) → VertexThere g v → plan_remove_vertex s.vertices v ≡ vertex_removal v g
  unfolding vertex_removal
  vertex_removal_is v a = λ i. RemoveVertex v (vertex_type s g h v a i) (vertex_value s g h v a i) (vertex_prev s g h v a i)

  pub plan_is : (b : Bounds) (c : SingleChange) → SinglyAllowed b g c → state_plan c s ≡ plan c g
  unfolding plan removal word_move
  plan_is b (CreateVertex n t x) a = ap (λ (p : ℕ). InsertVertex n t x p) (last_vertex s g h)
  plan_is b (CreateEdge n x o t) a = λ i. InsertEdge n x o t Untested (last_edge s g h i) (last_word s g h x a.3 i) (into_last n x o a.3 a.4 i)
  plan_is b (DeleteEdge n) a = removal_is n a
  plan_is b (RetypeVertex v t) a = λ i. SetVertex v (vertex_type s g h v a.0 i) (vertex_value s g h v a.0 i) t (vertex_value s g h v a.0 i)
  plan_is b (RetypeEdge e t) a = λ i. SetEdge e (edge_type s g h e a.0 i) (reading_at_lem s g h e a.0 i) t (reading_at_lem s g h e a.0 i)
  plan_is b (SetValue v x) a = λ i. SetVertex v (vertex_type s g h v a.0 i) (vertex_value s g h v a.0 i) (vertex_type s g h v a.0 i) x
  plan_is b (SetReading e k d) a = λ i. SetEdge e (edge_type s g h e a.0 i) (reading_at_lem s g h e a.0 i) (edge_type s g h e a.0 i) (reading_of k d)
  plan_is b (SetAlpha e v) a = last_move (out_word e) (there_out e a.0) v a.1
  plan_is b (SetOmega e v) a = last_move (in_word e) (there_in e a.0) v a.1
  plan_is b (VertexBefore x y) a =
      let p = vertex_prev s g h x a.0 in
      let q = unless_by x p (vertex_prev s g h y a.1) ∙ sym (prev_rem vertex_number 0 x y g.vseq a.2 (omega (arith, a.0)) (omega (arith, a.1)) h.sound.vorder) in
      λ i. MoveVertex x (p i) (q i)
  plan_is b (VertexAfter x y) a = λ i. MoveVertex x (vertex_prev s g h x a.0 i) y
  plan_is b (EdgeBefore x y) a =
      let p = edge_prev s g h x a.0 in
      let q = unless_by x p (edge_prev s g h y a.1) ∙ sym (prev_rem edge_number 0 x y g.eseq a.2 (omega (arith, a.0)) (omega (arith, a.1)) h.sound.eorder) in
      λ i. MoveEdge x (p i) (q i)
  plan_is b (EdgeAfter x y) a = λ i. MoveEdge x (edge_prev s g h x a.0 i) y
  plan_is b (WordBefore x y) a =
      let v = word_this s g h x a.0 in
      let p = word_prev s g h x a.0 in
      let same_list : count_by_key itself y (list_of g (this g x)) ≡ 1 = rw a.2 (word_listed s g h y a.1) in
      let q = unless_by x p (word_prev s g h y a.1 ∙ ap (λ (k : ℕ). prev_by itself 0 y (list_of g k)) (sym a.2))
      ∙ prev_out x a.0 (this g x) y a.3 (omega (arith, same_list)) in
      λ i. MoveWord x (v i) (p i) (v i) (q i)
  plan_is b (WordAfter x y) a = λ i. MoveWord x (word_this s g h x a.0 i) (word_prev s g h x a.0 i) (word_this s g h x a.0 i) y

-- the rows that a plan reads are there
module _ (b : Bounds) (s : State) (z : Sized b s) (g : Graph) (h : Holds s g) where
  short : (n : ℕ) → EdgeThere g n → n < 2 ^ 31
  short n c = omega (arith, edge_row s g h n c, z.edges, z.few_edges)

  pub can_plan : (c : SingleChange) → SinglyAllowed b g c → CanPlan c s
  can_plan (CreateVertex n t x) a = tt
  can_plan (CreateEdge n x o t) a = (omega (arith, a.1, z.few_edges), vertex_row s g h x a.3, vertex_row s g h o a.4)
  can_plan (DeleteEdge n) a = (short n a, edge_row s g h n a)
  can_plan (RetypeVertex v t) a = vertex_row s g h v a.0
  can_plan (RetypeEdge e t) a = edge_row s g h e a.0
  can_plan (SetValue v x) a = vertex_row s g h v a.0
  can_plan (SetReading e k d) a = edge_row s g h e a.0
  can_plan (SetAlpha e v) a = (short e a.0, edge_row s g h e a.0, vertex_row s g h v a.1)
  can_plan (SetOmega e v) a = (short e a.0, edge_row s g h e a.0, vertex_row s g h v a.1)
  can_plan (VertexBefore x y) a = (vertex_row s g h x a.0, vertex_row s g h y a.1)
  can_plan (VertexAfter x y) a = vertex_row s g h x a.0
  can_plan (EdgeBefore x y) a = (edge_row s g h x a.0, edge_row s g h y a.1)
  can_plan (EdgeAfter x y) a = edge_row s g h x a.0
  can_plan (WordBefore x y) a = (word_row s g h x a.0, word_row s g h y a.1)
  can_plan (WordAfter x y) a = word_row s g h x a.0

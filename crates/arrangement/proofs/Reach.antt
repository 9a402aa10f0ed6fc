-- Every order is within reach: of Vseq, of Eseq and of one vertex's list, by n - 1 calls, on any machine with as many free
-- changes. Everything else is as it was.
use Prim.Native.Nat.{ℕ, ◌-◌, ◌≤◌}
use mathlib.Core.Path.{◌≡◌, refl, sym, ap, ◌∙◌}
use mathlib.Core.Bool.{true}
use mathlib.Core.List.{List, [], ◌∷◌}
use native.Mathlib.Omega.{arith}
use lib.ListN.{length}
use borrow.Author.Tests.{eq-eqb, ne_eqb}
use Rattle.lists.specs.Lists.{done, count}
use Rattle.lists.specs.Keyed.{count_by_key, put_after, update_by}
use Rattle.lists.specs.Arranged.{put_in_turn, in_order}
use Rattle.lists.proofs.Arranged.{times, arranged_is}
use Rattle.lists.proofs.Picks.{pick_no, same, differ, same?, is_yes}
use Rattle.lists.proofs.Counts.{count_any, count_by_key_lem, count_same}
use Rattle.lists.proofs.Places.{upd_agree, upd_same, upd_upd}
use Rattle.lists.proofs.Sums.{same_alike}
use Rattle.graph.specs.declared.SingleChange.TheVariants.{VertexAfter, EdgeAfter, WordAfter}
use Rattle.graph.specs.declared.Change.TheVariants.{Single}
use Rattle.graph.specs.Graph.{Vertex, Edge, Graph, vertex_number, edge_number, itself, no_vertex, no_edge, vertex, vertex_numbers, edge_numbers, edge_of, this_in, this, list_of}
use Rattle.graph.specs.WellFormed.{WellFormed, same_words}
use Rattle.graph.specs.Changes.{on_vseq, on_eseq, on_list, changed}
use Rattle.graph.specs.Same.{alters}
use Rattle.graph.proofs.Numbers.{count_vertex}
use Rattle.graph.proofs.Lists.{ordered_list}
use Rattle.graph.proofs.Incidence.{pick_le}
use Rattle.history.specs.Machine.{Machine, present}
use Rattle.commands.specs.Commands.{command_of, change_of}
use Rattle.machine.specs.Calls.{Parameters, bounds_in}
use Rattle.machine.specs.Codes.{free, change_code}
use Rattle.machine.specs.Machine.{answers, last}
use Rattle.arrangement.specs.Orders.{arrange_calls}
use Rattle.arrangement.specs.Reach.{Reaches}
use Rattle.arrangement.proofs.Moved.{order_words, Wanted, next_there, next_apart, next_wanted, all_wanted}
use Rattle.arrangement.proofs.Reaching.{InPlace, Passes, moved_on, moves_reach}

-- no call, nothing moved
stays : (w : Parameters) (m : Machine) (g : Graph) → present m ≡ g → Reaches w m [] 0 g
unfolding answers last
stays w m g e = record { accepted = done; reached = e; left = omega arith }

as_counts : {A : Type 0} (key : A → ℕ) (ws : List ℕ) (xs : List ℕ) (l : List A) → same_words ws xs ≡ true → ((n : ℕ) → count n xs ≡ count_by_key key n l) → (n : ℕ) → times n ws ≡ count_by_key key n l
as_counts key ws xs l e f n = sym (count_same n ws) ∙ same_alike ws xs e n ∙ f n

-- ---- vertices

module _ (w : Parameters) where
  vertex_passes : (g : Graph) (a b : ℕ) → 1 ≤ count_by_key vertex_number a g.vseq → 1 ≤ count_by_key vertex_number b g.vseq → (a ≡ b → ⊥) → change_code (bounds_in w) g (Single (VertexAfter a b)) ≡ 0
  vertex_passes g a b p q n = rw (count_vertex g a p, count_vertex g b q, ne_eqb a b n)

  vertices_pass : (b : ℕ) (ws : List ℕ) (g : Graph) → Wanted vertex_number b ws g.vseq → Passes w 12 (λ a b. Single (VertexAfter a b)) b ws g
  unfolding changed
  vertices_pass b [] g h = tt
  vertices_pass b (a ∷ ws) g h = (
    vertex_passes g a b (next_there vertex_number no_vertex b a ws g.vseq h) h.first (next_apart vertex_number no_vertex b a ws g.vseq h),
    vertices_pass a ws (changed (Single (VertexAfter a b)) g) (next_wanted vertex_number no_vertex b a ws g.vseq h),
  )

  vertices_moved : (b : ℕ) (ws : List ℕ) (g : Graph) → moved_on w 12 (λ a b. Single (VertexAfter a b)) b ws g ≡ on_vseq (put_in_turn vertex_number no_vertex b ws) g
  unfolding changed
  vertices_moved b [] g = refl
  vertices_moved b (a ∷ ws) g = vertices_moved a ws (changed (Single (VertexAfter a b)) g)

  pub reach_vertices : (m : Machine) (wanted : List ℕ) → InPlace m → WellFormed (present m) → same_words wanted (vertex_numbers (present m)) ≡ true → length wanted - 1 ≤ free w m →
      Reaches w m (arrange_calls 12 wanted) (length wanted - 1) (on_vseq (in_order vertex_number no_vertex wanted) (present m))
  unfolding command_of change_of alters
  reach_vertices m wanted p wf e f = go wanted (as_counts vertex_number wanted (vertex_numbers (present m)) (present m).vseq e (λ n. count_by_key_lem vertex_number n (present m).vseq)) f
    where
      g : Graph
      g = present m

      go : (ws : List ℕ) → ((n : ℕ) → times n ws ≡ count_by_key vertex_number n g.vseq) → length ws - 1 ≤ free w m →
          Reaches w m (arrange_calls 12 ws) (length ws - 1) (on_vseq (in_order vertex_number no_vertex ws) g)
      go [] c k = stays w m _ (ap (λ (l : List Vertex). on_vseq (λ _. l) g) (arranged_is vertex_number no_vertex [] g.vseq wf.vorder c))
      go (b ∷ ws) c k =
          let r = moves_reach w 12 (λ a b. Single (VertexAfter a b)) (λ a b. refl) (λ a b g. refl) (λ a b g. refl) b ws m p
          (vertices_pass b ws g (all_wanted vertex_number b ws g.vseq wf.vorder c)) (omega arith) in
          let q = vertices_moved b ws g ∙ ap (λ (l : List Vertex). on_vseq (λ _. l) g) (arranged_is vertex_number no_vertex (b ∷ ws) g.vseq wf.vorder c) in
          record { accepted = r.accepted; reached = r.reached ∙ q; left = omega (arith, r.left) }

  -- ---- edges

  edge_passes : (g : Graph) (a b : ℕ) → 1 ≤ count_by_key edge_number a g.eseq → 1 ≤ count_by_key edge_number b g.eseq → (a ≡ b → ⊥) → change_code (bounds_in w) g (Single (EdgeAfter a b)) ≡ 0
  edge_passes g a b p q n = rw (count_any edge_number a g.eseq p, count_any edge_number b g.eseq q, ne_eqb a b n)

  edges_pass : (b : ℕ) (ws : List ℕ) (g : Graph) → Wanted edge_number b ws g.eseq → Passes w 14 (λ a b. Single (EdgeAfter a b)) b ws g
  unfolding changed
  edges_pass b [] g h = tt
  edges_pass b (a ∷ ws) g h = (
    edge_passes g a b (next_there edge_number no_edge b a ws g.eseq h) h.first (next_apart edge_number no_edge b a ws g.eseq h),
    edges_pass a ws (changed (Single (EdgeAfter a b)) g) (next_wanted edge_number no_edge b a ws g.eseq h),
  )

  edges_moved : (b : ℕ) (ws : List ℕ) (g : Graph) → moved_on w 14 (λ a b. Single (EdgeAfter a b)) b ws g ≡ on_eseq (put_in_turn edge_number no_edge b ws) g
  unfolding changed
  edges_moved b [] g = refl
  edges_moved b (a ∷ ws) g = edges_moved a ws (changed (Single (EdgeAfter a b)) g)

  pub reach_edges : (m : Machine) (wanted : List ℕ) → InPlace m → WellFormed (present m) → same_words wanted (edge_numbers (present m)) ≡ true → length wanted - 1 ≤ free w m →
      Reaches w m (arrange_calls 14 wanted) (length wanted - 1) (on_eseq (in_order edge_number no_edge wanted) (present m))
  unfolding command_of change_of alters
  reach_edges m wanted p wf e f = go wanted (as_counts edge_number wanted (edge_numbers (present m)) (present m).eseq e (λ n. count_by_key_lem edge_number n (present m).eseq)) f
    where
      g : Graph
      g = present m

      go : (ws : List ℕ) → ((n : ℕ) → times n ws ≡ count_by_key edge_number n g.eseq) → length ws - 1 ≤ free w m →
          Reaches w m (arrange_calls 14 ws) (length ws - 1) (on_eseq (in_order edge_number no_edge ws) g)
      go [] c k = stays w m _ (ap (λ (l : List Edge). on_eseq (λ _. l) g) (arranged_is edge_number no_edge [] g.eseq wf.eorder c))
      go (b ∷ ws) c k =
          let r = moves_reach w 14 (λ a b. Single (EdgeAfter a b)) (λ a b. refl) (λ a b g. refl) (λ a b g. refl) b ws m p
          (edges_pass b ws g (all_wanted edge_number b ws g.eseq wf.eorder c)) (omega arith) in
          let q = edges_moved b ws g ∙ ap (λ (l : List Edge). on_eseq (λ _. l) g) (arranged_is edge_number no_edge (b ∷ ws) g.eseq wf.eorder c) in
          record { accepted = r.accepted; reached = r.reached ∙ q; left = omega (arith, r.left) }

  -- ---- the list of a vertex

  -- what holds of a word in the list of v
  abbrev SeenFrom : List Edge → ℕ → ℕ → Type 0
  SeenFrom es v x = (1 ≤ count_by_key edge_number (edge_of x) es) × (this_in es x ≡ v)

  word_passes : (g : Graph) (v a b : ℕ) → SeenFrom g.eseq v a → SeenFrom g.eseq v b → (a ≡ b → ⊥) → change_code (bounds_in w) g (Single (WordAfter a b)) ≡ 0
  word_passes g v a b p q n =
      rw (count_any edge_number (edge_of a) g.eseq p.0, count_any edge_number (edge_of b) g.eseq q.0, eq-eqb (this g a) (this g b) (p.1 ∙ sym q.1), ne_eqb a b n)

  words_pass : (v b : ℕ) (ws : List ℕ) (g : Graph) → ((n : ℕ) → 1 ≤ times n (b ∷ ws) → SeenFrom g.eseq v n) → ((n : ℕ) → times n (b ∷ ws) ≤ 1) → Passes w 16 (λ a b. Single (WordAfter a b)) b ws g
  unfolding changed
  words_pass v b [] g s o = tt
  words_pass v b (a ∷ ws) g s o = (
    word_passes g v a b (s a (omega (arith, is_yes a a refl))) (s b (omega (arith, is_yes b b refl))) (λ e. omega (arith, o a, is_yes a a refl, is_yes b a (sym e))),
    words_pass v a ws (changed (Single (WordAfter a b)) g) (λ n h. s n (omega (arith, h))) (λ n. omega (arith, o n)),
  )

  words_moved : (v b : ℕ) (ws : List ℕ) (g : Graph) → ((n : ℕ) → 1 ≤ times n ws → this_in g.eseq n ≡ v) →
      moved_on w 16 (λ a b. Single (WordAfter a b)) b ws g ≡ on_vseq (update_by vertex_number v (on_list (put_in_turn itself 0 b ws))) g
  unfolding changed
  words_moved v b [] g s = ap (λ (l : List Vertex). on_vseq (λ _. l) g) (sym (upd_same vertex_number v g.vseq))
  words_moved v b (a ∷ ws) g s =
      words_moved v a ws (changed (Single (WordAfter a b)) g) (λ n h. s n (omega (arith, h)))
      ∙ ap (λ (u : ℕ). on_vseq (λ _. update_by vertex_number v (on_list (put_in_turn itself 0 a ws)) (update_by vertex_number u (on_list (put_after itself 0 a b)) g.vseq)) g)
      (s a (omega (arith, is_yes a a refl)))
      ∙ ap (λ (l : List Vertex). on_vseq (λ _. l) g) (upd_upd vertex_number v (on_list (put_after itself 0 a b)) (on_list (put_in_turn itself 0 a ws)) g.vseq (λ y. refl))

  seen : (g : Graph) → WellFormed g → (v x : ℕ) → 1 ≤ count_by_key itself x (list_of g v) → SeenFrom g.eseq v x
  seen g wf v x h = elim (same? (this_in g.eseq x) v) [
    | same e f ↦ (omega (arith, wf.lists v x, pick_le (this_in g.eseq x) v (count_by_key edge_number (edge_of x) g.eseq)), e)
    | differ e f ↦ absurd (omega (arith, h, wf.lists v x, pick_no (this_in g.eseq x) v (count_by_key edge_number (edge_of x) g.eseq) 0 e))
  ]

  pub reach_words : (m : Machine) (v : ℕ) (wanted : List ℕ) → InPlace m → WellFormed (present m) → same_words wanted (list_of (present m) v) ≡ true → length wanted - 1 ≤ free w m →
      Reaches w m (arrange_calls 16 wanted) (length wanted - 1) (on_vseq (update_by vertex_number v (on_list (λ _. wanted))) (present m))
  unfolding command_of change_of alters
  reach_words m v wanted p wf e f = go wanted (as_counts itself wanted (list_of (present m) v) (list_of (present m) v) e (λ n. count_same n (list_of (present m) v))) f
    where
      g : Graph
      g = present m

      -- the list put in order is the one wanted
      ordered : (ws : List ℕ) (h : List ℕ → List ℕ) → h (list_of g v) ≡ ws →
          on_vseq (update_by vertex_number v (on_list h)) g ≡ on_vseq (update_by vertex_number v (on_list (λ _. ws))) g
      ordered ws h q = ap (λ (l : List Vertex). on_vseq (λ _. l) g)
          (upd_agree vertex_number no_vertex v (on_list h) (on_list (λ _. ws)) g.vseq (λ n. omega (arith, wf.vorder n)) (ap (λ (l : List ℕ). on_list (λ _. l) (vertex g v)) q))

      go : (ws : List ℕ) → ((n : ℕ) → times n ws ≡ count_by_key itself n (list_of g v)) → length ws - 1 ≤ free w m →
          Reaches w m (arrange_calls 16 ws) (length ws - 1) (on_vseq (update_by vertex_number v (on_list (λ _. ws))) g)
      go [] c k = stays w m _
          (ap (λ (l : List Vertex). on_vseq (λ _. l) g) (sym (upd_same vertex_number v g.vseq)) ∙ ordered [] (λ l. l) (arranged_is itself 0 [] (list_of g v) (ordered_list g wf v) c))
      go (b ∷ ws) c k =
          let s : (n : ℕ) → 1 ≤ times n (b ∷ ws) → SeenFrom g.eseq v n = λ n h. seen g wf v n (omega (arith, c n)) in
          let r = moves_reach w 16 (λ a b. Single (WordAfter a b)) (λ a b. refl) (λ a b g. refl) (λ a b g. refl) b ws m p
          (words_pass v b ws g s (λ n. omega (arith, c n, ordered_list g wf v n))) (omega arith) in
          let a = arranged_is itself 0 (b ∷ ws) (list_of g v) (ordered_list g wf v) c ∙ order_words (b ∷ ws) (list_of g v) (λ n. omega (arith, c n)) in
          let q = words_moved v b ws g (λ n h. (s n (omega (arith, h))).1) ∙ ordered (b ∷ ws) (put_in_turn itself 0 b ws) a in
          record { accepted = r.accepted; reached = r.reached ∙ q; left = omega (arith, r.left) }

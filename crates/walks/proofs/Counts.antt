-- The edges counted along a list are the distinct edges at the vertex.
use Prim.Native.Nat.{ℕ, zero, suc, ◌+◌, ◌-◌, ◌%◌, ◌≤◌}
use mathlib.Core.Path.{◌≡◌, refl, sym, ap, ◌∙◌}
use mathlib.Core.Logic.{◌≢◌}
use mathlib.Core.Bool.{true, false}
use mathlib.Core.List.{List, [], ◌∷◌, map}
use native.Mathlib.Omega.{arith}
use lib.ListN.{length}
use Rattle.lists.specs.Choice.{if_equal, to_bit}
use Rattle.lists.specs.Lists.{sum_of, member}
use Rattle.lists.specs.Keyed.{count_by_key}
use Rattle.lists.proofs.Picks.{pick_yes, pick_no, pick_both, same, differ, same?, is_yes, is_no, is_zero}
use Rattle.linked_lists.proofs.Model.{held_nodes}
use borrow.Author.Tests.{eq-eqb, ne_eqb}
use Rattle.graph.specs.Graph.{Graph, edge_number, itself, edge, edge_of, out_word, in_word, list_of}
use Rattle.graph.specs.Changes.{VertexThere, edges_at}
use Rattle.graph.proofs.Incidence.{out_half, into_half, this_out, this_into, out_word_lem, in_word_lem, other_word, word?}
use Rattle.graph.proofs.Lists.{ordered_list, unheld}
use Rattle.graph_tables.specs.Tables.{State, incidence_links, vertex_ends, wthis}
use Rattle.graph_tables.specs.Holds.{Holds}
use Rattle.graph_tables.proofs.Answers.{vertex_row}
use Rattle.walks.proofs.DistinctSums.{share, distinct_sum}
use Rattle.walks.specs.Walks.{counted_at, distinct_edges_at}
use Rattle.graph_tables.proofs.Frames.{valid_i}

pub counted_le : (edges : List ℕ) (w : ℕ) → counted_at edges w ≤ 1
counted_le edges w = elim (same? (w % 2) 0) [
  | same e f ↦ rw (pick_yes (w % 2) 0) (omega arith)
  | differ e f ↦ rw (pick_no (w % 2) 0) (elim (same? (wthis edges (w - 1)) (wthis edges w)) [
    | same i j ↦ rw (pick_yes (wthis edges (w - 1)) (wthis edges w)) (omega arith)
    | differ i j ↦ rw (pick_no (wthis edges (w - 1)) (wthis edges w)) (omega arith)
  ])
]

-- ---- the words of one edge in a list

none_of : (u k : ℕ) (l : List ℕ) → count_by_key itself u l ≡ 0 → sum_of (λ w. if_equal w u k 0) l ≡ 0
none_of u k [] h = refl
none_of u k (y ∷ l) h = omega (arith, pick_no y u k 0 (is_zero y u (omega arith)), none_of u k l (omega arith))

module _ (e : ℕ) where
  words_share : (f : ℕ → ℕ) (k : ℕ) → f (out_word e) ≡ 1 → f (in_word e) ≡ k → (l : List ℕ) → share f edge_of e l ≡ count_by_key itself (out_word e) l + sum_of (λ w. if_equal w (in_word e) k 0) l
  words_share f k p q [] = refl
  words_share f k p q (y ∷ l) = elim (word? e y) [
    | out_word_lem r ↦
        let a : if_equal (edge_of y) e (f y) 0 ≡ 1 = pick_yes (edge_of y) e _ _ (omega arith) ∙ ap f r ∙ p in
        omega (arith, a, is_yes y (out_word e) r, pick_no y (in_word e) k 0 (λ z. omega arith), words_share f k p q l)
    | in_word_lem r ↦
        let a : if_equal (edge_of y) e (f y) 0 ≡ k = pick_yes (edge_of y) e _ _ (omega arith) ∙ ap f r ∙ q in
        omega (arith, a, is_no y (out_word e) (λ z. omega arith), pick_yes y (in_word e) k 0 r, words_share f k p q l)
    | other_word d i j ↦
        let a : if_equal (edge_of y) e (f y) 0 ≡ 0 = pick_no (edge_of y) e _ _ (λ z. d (sym z)) in
        omega (arith, a, is_no y (out_word e) (λ z. i (sym z)), pick_no y (in_word e) k 0 (λ z. j (sym z)), words_share f k p q l)
  ]

  none_added : (l : List ℕ) → sum_of (λ w. if_equal w (in_word e) 0 0) l ≡ 0
  none_added [] = refl
  none_added (y ∷ l) = omega (arith, pick_both {A = ℕ} y (in_word e) 0, none_added l)

  ones_added : (l : List ℕ) → sum_of (λ w. if_equal w (in_word e) 1 0) l ≡ count_by_key itself (in_word e) l
  ones_added [] = refl
  ones_added (y ∷ l) = omega (arith, ones_added l)

  edge_some : (l : List ℕ) → 1 ≤ count_by_key itself (out_word e) l + count_by_key itself (in_word e) l → member e (map edge_of l) ≡ true
  edge_some [] h = absurd (omega arith)
  edge_some (y ∷ l) h = elim (word? e y) [
    | out_word_lem r ↦ rw (eq-eqb (edge_of y) e (omega arith))
    | in_word_lem r ↦ rw (eq-eqb (edge_of y) e (omega arith))
    | other_word d i j ↦ rw (ne_eqb (edge_of y) e (λ z. d (sym z))) (edge_some l (omega (arith, is_no y (out_word e) (λ z. i (sym z)), is_no y (in_word e) (λ z. j (sym z)))))
  ]

  edge_none : (l : List ℕ) → count_by_key itself (out_word e) l + count_by_key itself (in_word e) l ≡ 0 → member e (map edge_of l) ≡ false
  edge_none [] h = refl
  edge_none (y ∷ l) h = elim (word? e y) [
    | out_word_lem r ↦ absurd (omega (arith, is_yes y (out_word e) r))
    | in_word_lem r ↦ absurd (omega (arith, is_yes y (in_word e) r))
    | other_word d i j ↦ rw (ne_eqb (edge_of y) e (λ z. d (sym z))) (edge_none l (omega arith))
  ]

  -- a share of 1 where the edge has a word in the list, else 0
  share_is : (x : ℕ) (l : List ℕ) → x ≤ 1 → (x ≡ 0 → count_by_key itself (out_word e) l + count_by_key itself (in_word e) l ≡ 0)
      → (1 ≤ x → 1 ≤ count_by_key itself (out_word e) l + count_by_key itself (in_word e) l) →
      x ≡ to_bit (member e (map edge_of l))
  share_is zero l m a b = sym (ap to_bit (edge_none l (a refl)))
  share_is (suc x) l m a b = let z : suc x ≡ 1 = omega arith in z ∙ sym (ap to_bit (edge_some l (b (omega arith))))

-- ---- the list of a vertex

module _ (s : State) (g : Graph) (h : Holds s g) (v : ℕ) (c : VertexThere g v) where
  at_out : (e : ℕ) → count_by_key itself (out_word e) (list_of g v) ≡ if_equal (edge g e).alpha v (count_by_key edge_number e g.eseq) 0
  at_out e = h.sound.lists v (out_word e) ∙ (λ i. if_equal (this_out g.eseq e i) v (count_by_key edge_number (out_half e i) g.eseq) 0)

  at_in : (e : ℕ) → count_by_key itself (in_word e) (list_of g v) ≡ if_equal (edge g e).omega v (count_by_key edge_number e g.eseq) 0
  at_in e = h.sound.lists v (in_word e) ∙ (λ i. if_equal (this_into g.eseq e i) v (count_by_key edge_number (into_half e i) g.eseq) 0)

  -- an edge that is no loop has one word in the list at most
  at_most : (e : ℕ) → (edge g e).alpha ≢ (edge g e).omega → count_by_key itself (out_word e) (list_of g v) + count_by_key itself (in_word e) (list_of g v) ≤ 1
  at_most e d = elim (same? (edge g e).alpha v) [
    | same p q ↦ omega (arith, at_in e, pick_no (edge g e).omega v (count_by_key edge_number e g.eseq) 0 (λ z. d (p ∙ sym z)), ordered_list g h.sound v (out_word e))
    | differ p q ↦ omega (arith, at_out e, pick_no (edge g e).alpha v (count_by_key edge_number e g.eseq) 0 p, ordered_list g h.sound v (in_word e))
  ]

  abbrev f : ℕ → ℕ
  f w = counted_at s.edges w

  -- number 0 has no words in a list; the ends of any other are those of the graph
  loop? : (e : ℕ) → 1 ≤ e → f (in_word e) ≡ if_equal (edge g e).alpha (edge g e).omega 0 1
  loop? e r =
      let q : in_word e - 1 ≡ out_word e = omega arith in
      pick_no (in_word e % 2) 0 _ _ (λ z. omega arith)
      ∙ (λ i. if_equal ((ap (wthis s.edges) q ∙ h.core.this (out_word e) (omega arith) ∙ this_out g.eseq e) i) ((h.core.this (in_word e) (omega arith) ∙ this_into g.eseq e) i) 0 1)

  out_one : (e : ℕ) → f (out_word e) ≡ 1
  out_one e = pick_yes (out_word e % 2) 0 _ _ (omega arith)

  edge_share : (e : ℕ) → share f edge_of e (list_of g v) ≡ to_bit (member e (map edge_of (list_of g v)))
  edge_share e = elim (same? e 0) [
    | same i j ↦
        let none : count_by_key edge_number e g.eseq ≡ 0 = omega (arith, h.sound.eorder e, is_yes 0 e j) in
        let no_out : count_by_key itself (out_word e) (list_of g v) ≡ 0 = unheld g h.sound (out_word e) v (rw (out_half e) none) in
        let no_in : count_by_key itself (in_word e) (list_of g v) ≡ 0 = unheld g h.sound (in_word e) v (rw (into_half e) none) in
        let x = words_share e f (f (in_word e)) (out_one e) refl (list_of g v) in
        share_is e (share f edge_of e (list_of g v)) (list_of g v)
        (omega (arith, x, no_out, none_of (in_word e) (f (in_word e)) (list_of g v) no_in)) (λ z. omega arith)
        (λ z. absurd (omega (arith, x, no_out, none_of (in_word e) (f (in_word e)) (list_of g v) no_in)))
    | differ i j ↦ elim (same? (edge g e).alpha (edge g e).omega) [
      | same p q ↦
          let x = words_share e f 0 (out_one e) (loop? e (omega arith) ∙ pick_yes _ _ _ _ p) (list_of g v) in
          let w : count_by_key itself (in_word e) (list_of g v) ≡ count_by_key itself (out_word e) (list_of g v) =
          at_in e ∙ ap (λ (k : ℕ). if_equal k v (count_by_key edge_number e g.eseq) 0) q ∙ sym (at_out e) in
          share_is e (share f edge_of e (list_of g v)) (list_of g v)
          (omega (arith, x, none_added e (list_of g v), ordered_list g h.sound v (out_word e)))
          (λ z. omega (arith, x, w, none_added e (list_of g v))) (λ z. omega (arith, x, w, none_added e (list_of g v)))
      | differ p q ↦
          let x = words_share e f 1 (out_one e) (loop? e (omega arith) ∙ pick_no _ _ _ _ p) (list_of g v) in
          share_is e (share f edge_of e (list_of g v)) (list_of g v)
          (omega (arith, x, ones_added e (list_of g v), at_most e p))
          (λ z. omega (arith, x, ones_added e (list_of g v))) (λ z. omega (arith, x, ones_added e (list_of g v)))
    ]
  ]

  pub edges_counted : distinct_edges_at s.vertices s.edges v ≡ length (edges_at g v)
  unfolding distinct_edges_at
  edges_counted =
      ap (λ (l : List ℕ). sum_of f l) (held_nodes incidence_links s.edges (vertex_ends s.vertices v) valid_i (list_of g v) (h.core.lists v (vertex_row s g h v c).0))
      ∙ distinct_sum f edge_of (list_of g v) edge_share

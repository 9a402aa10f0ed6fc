-- Incidence lists: words attached and detached, and the ends of edges.
use mathlib.Core.Path.{◌≡◌, refl, sym, ap, ◌∙◌}
use mathlib.Core.Logic.{◌≢◌}
use mathlib.Core.List.{List, []}
use Prim.Native.Nat.{ℕ, ◌+◌, ◌-◌, ◌/◌, ◌%◌, ◌≤◌}
use native.Mathlib.Omega.{arith}
use Rattle.lists.specs.Choice.{if_equal, indicator}
use Rattle.lists.specs.Keyed.{count_by_key, insert_after_by, remove_by, prev_by, find_by, update_by}
use Rattle.lists.proofs.Picks.{pick_yes, pick_no, pick_self, pick_both, same, differ, same?, is_yes, is_no}
use Rattle.lists.proofs.KeyedLaws.{count_ins, count_rem, rem_ins, prev_ins, prev_in, find_ins, find_ins_other, find_rem_other, find_none, count_upd, find_upd, find_upd_other, upd_back}
use Rattle.graph.specs.Graph.{Vertex, Edge, vertex_number, edge_number, itself, no_vertex, no_edge, out_word, in_word, vertex_in, edge_in, list_in, this_in}
use Rattle.graph.specs.WellFormed.{Ordered}
use Rattle.graph.specs.Changes.{on_list, with_seen, detach}
use Rattle.graph.specs.Edits.{attach, Placed}
use Rattle.graph.proofs.Orders.{placed_back, key_find}

pub list_upd : (l : List Vertex) (v u : ℕ) (h : List ℕ → List ℕ) → count_by_key vertex_number v l ≡ 1 → list_in (update_by vertex_number v (on_list h) l) u
    ≡ if_equal v u (h (list_in l u)) (list_in l u)
list_upd l v u h c = elim (same? v u) [
  | same e f ↦ rw (f, pick_self) (ap (λ (x : Vertex). x.incidences) (find_upd vertex_number (on_list h) (λ y. refl) no_vertex v l (omega arith)))
  | differ e f ↦ rw (pick_no v u) (ap (λ (x : Vertex). x.incidences) (find_upd_other vertex_number (on_list h) (λ y. refl) no_vertex v u l e))
]

pub count_attach : (l : List Vertex) (v p w u k : ℕ) → count_by_key vertex_number v l ≡ 1 → count_by_key itself k (list_in (attach l v p w) u)
    ≡ if_equal v u (indicator w k) 0 + count_by_key itself k (list_in l u)
count_attach l v p w u k c = ap (count_by_key itself k) (list_upd l v u (insert_after_by itself 0 p w) c) ∙ elim (same? v u) [
  | same e f ↦ simp pick_yes (count_ins itself k 0 p w (list_in l u))
  | differ e f ↦ simp pick_no (omega arith)
]

pub count_detach : (l : List Vertex) (v w u k : ℕ) → count_by_key vertex_number v l ≡ 1 → count_by_key itself k (list_in (detach l v w) u)
    ≡ count_by_key itself k (list_in l u) - if_equal v u (indicator w k) 0
count_detach l v w u k c = ap (count_by_key itself k) (list_upd l v u (remove_by itself w) c) ∙ elim (same? v u) [
  | same e f ↦ simp pick_yes (count_rem itself k w (list_in l u))
  | differ e f ↦ simp pick_no (omega arith)
]

pub list_back : (l : List Vertex) (v : ℕ) (h k : List ℕ → List ℕ) → Ordered vertex_number l → k (h (list_in l v)) ≡ list_in l v
    → update_by vertex_number v (on_list k) (update_by vertex_number v (on_list h) l) ≡ l
list_back l v h k d e = upd_back vertex_number (on_list h) (λ y. refl) no_vertex v (on_list k) l (λ n. omega (arith, d n))
    (λ i. record { number = (vertex_in l v).number; type = (vertex_in l v).type; value = (vertex_in l v).value; incidences = e i })

pub attach_back : (l : List Vertex) (v p w : ℕ) → Ordered vertex_number l → count_by_key itself w (list_in l v) ≡ 0 → detach (attach l v p w) v w ≡ l
attach_back l v p w d h = list_back l v (insert_after_by itself 0 p w) (remove_by itself w) d (rem_ins itself 0 p w (list_in l v) h)

find_number : (k : ℕ) (l : List ℕ) → 1 ≤ count_by_key itself k l → find_by itself 0 k l ≡ k
find_number k l h = key_find itself 0 k l h

pub detach_back : (l : List Vertex) (v p w : ℕ) → Ordered vertex_number l → Ordered itself (list_in l v) → Placed itself (list_in l v) w p → attach (detach l v w) v p w ≡ l
detach_back l v p w d u h = list_back l v (remove_by itself w) (insert_after_by itself 0 p w) d
    (ap (λ (x : ℕ). insert_after_by itself 0 p x (remove_by itself w (list_in l v))) (sym (find_number w (list_in l v) (omega (arith, h.there)))) ∙ placed_back itself 0 (list_in l v) w p u h)

pub count_attach_other : (l : List Vertex) (v p w u k : ℕ) → count_by_key vertex_number v l ≡ 1 → w ≢ k → count_by_key itself k (list_in (attach l v p w) u) ≡ count_by_key itself k (list_in l u)
count_attach_other l v p w u k c h = count_attach l v p w u k c ∙ rw (is_no w k h, pick_both) (omega arith)

pub count_detach_other : (l : List Vertex) (v w u k : ℕ) → count_by_key vertex_number v l ≡ 1 → w ≢ k → count_by_key itself k (list_in (detach l v w) u) ≡ count_by_key itself k (list_in l u)
count_detach_other l v w u k c h = count_detach l v w u k c ∙ rw (is_no w k h, pick_both) (omega arith)

pub ordered_detach : (l : List Vertex) (v w u : ℕ) → count_by_key vertex_number v l ≡ 1 → Ordered itself (list_in l u) → Ordered itself (list_in (detach l v w) u)
ordered_detach l v w u c d k = omega (arith, d k, count_detach l v w u k c)

pub pick_le : (m n a : ℕ) → if_equal m n a 0 ≤ a
pick_le m n a = elim (same? m n) [ same e f ↦ rw pick_yes (omega arith) | differ e f ↦ rw pick_no (omega arith) ]

pub apart : (n : ℕ) → out_word n ≢ in_word n
apart n = omega arith

pub apart' : (n : ℕ) → in_word n ≢ out_word n
apart' n = omega arith

pub out_half : (n : ℕ) → out_word n / 2 ≡ n
out_half n = omega arith

pub into_half : (n : ℕ) → in_word n / 2 ≡ n
into_half n = omega arith

pub this_out : (l : List Edge) (n : ℕ) → this_in l (out_word n) ≡ (edge_in l n).alpha
this_out l n = pick_yes (out_word n % 2) 0 _ _ (omega arith) ∙ ap (λ (k : ℕ). (edge_in l k).alpha) (out_half n)

pub this_into : (l : List Edge) (n : ℕ) → this_in l (in_word n) ≡ (edge_in l n).omega
this_into l n = pick_no (in_word n % 2) 0 _ _ (omega arith) ∙ ap (λ (k : ℕ). (edge_in l k).omega) (into_half n)

pub attach_prev : (l : List Vertex) (v p w : ℕ) → count_by_key vertex_number v l ≡ 1 → count_by_key itself w (list_in l v) ≡ 0 → 1 ≤ indicator 0 p + count_by_key itself p (list_in l v)
    → prev_by itself 0 w (list_in (attach l v p w) v) ≡ p
attach_prev l v p w c h i = ap (prev_by itself 0 w) (list_upd l v v (insert_after_by itself 0 p w) c) ∙ rw pick_self (prev_ins itself 0 p w (list_in l v) h i)

pub detach_prev : (l : List Vertex) (v p w : ℕ) → count_by_key vertex_number v l ≡ 1 → Placed itself (list_in l v) w p → 1 ≤ indicator 0 p + count_by_key itself p (list_in (detach l v w) v)
detach_prev l v p w c h = rw (list_upd l v v (remove_by itself w) c, pick_self, ← h.before) (prev_in itself 0 w (list_in l v) (omega (arith, h.there)))

pub this_set : (l : List Edge) (x u : ℕ) → count_by_key edge_number (x / 2) l ≡ 1 → this_in (update_by edge_number (x / 2) (with_seen x u) l) x ≡ u
this_set l x u c = ap (λ (e : Edge). if_equal (x % 2) 0 e.alpha e.omega) (find_upd edge_number (with_seen x u) (λ y. refl) no_edge (x / 2) l (omega arith)) ∙ elim (same? (x % 2) 0) [
  | same i j ↦ simp pick_yes
  | differ i j ↦ simp pick_no
]

pub this_other : (l : List Edge) (x u k : ℕ) → count_by_key edge_number (x / 2) l ≡ 1 → x ≢ k → this_in (update_by edge_number (x / 2) (with_seen x u) l) k ≡ this_in l k
this_other l x u k c d = elim (same? (x / 2) (k / 2)) [
  | same i j ↦ rw j (ap (λ (e : Edge). if_equal (k % 2) 0 e.alpha e.omega) (find_upd edge_number (with_seen x u) (λ y. refl) no_edge (x / 2) l (omega arith)) ∙ elim (same? (k % 2) 0) [
    | same s t ↦
        let o : x % 2 ≢ 0 = omega arith in
        simp (pick_yes, pick_no)
    | differ s t ↦
        let o : x % 2 ≡ 0 = omega arith in
        simp (pick_yes, pick_no)
  ])
  | differ i j ↦ ap (λ (e : Edge). if_equal (k % 2) 0 e.alpha e.omega) (find_upd_other edge_number (with_seen x u) (λ y. refl) no_edge (x / 2) (k / 2) l i)
]

pub count_list : (l : List Vertex) (v n : ℕ) (h : List ℕ → List ℕ) → count_by_key vertex_number n (update_by vertex_number v (on_list h) l) ≡ count_by_key vertex_number n l
count_list l v n h = count_upd vertex_number (on_list h) (λ y. refl) n v l

pub list_ins : (l : List Vertex) (n t v p u : ℕ) → count_by_key vertex_number n l ≡ 0
    → list_in (insert_after_by vertex_number 0 p (record { number = n; type = t; value = v; incidences = [] }) l) u ≡ list_in l u
list_ins l n t v p u c =
    let x : Vertex = record { number = n; type = t; value = v; incidences = [] } in
    elim (same? n u) [
      | same e f ↦ rw f (ap (λ (y : Vertex). y.incidences) (find_ins vertex_number no_vertex 0 p x l c) ∙ sym (ap (λ (y : Vertex). y.incidences) (find_none vertex_number no_vertex n l c)))
      | differ e f ↦ ap (λ (y : Vertex). y.incidences) (find_ins_other vertex_number no_vertex 0 p u x l e)
    ]

pub list_rem : (l : List Vertex) (n u : ℕ) → count_by_key vertex_number n l ≡ 1 → list_in l n ≡ [] → list_in (remove_by vertex_number n l) u ≡ list_in l u
list_rem l n u c z = elim (same? n u) [
  | same e f ↦ rw f (ap (λ (y : Vertex). y.incidences) (find_none vertex_number no_vertex n (remove_by vertex_number n l) (omega (arith, count_rem vertex_number n n l, is_yes n n refl))) ∙ sym z)
  | differ e f ↦ ap (λ (y : Vertex). y.incidences) (find_rem_other vertex_number no_vertex u n l e)
]

pub data Word (n k : ℕ) : Type 0 where
  out_word_lem : k ≡ out_word n → Word n k
  in_word_lem : k ≡ in_word n → Word n k
  other_word : n ≢ k / 2 → out_word n ≢ k → in_word n ≢ k → Word n k

pub word? : (n k : ℕ) → Word n k
word? n k = elim (same? k (out_word n)) [
  | same e f ↦ out_word_lem e
  | differ e f ↦ elim (same? k (in_word n)) [ same i j ↦ in_word_lem i | differ i j ↦ other_word (omega arith) (omega arith) (omega arith) ]
]

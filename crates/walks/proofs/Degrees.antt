-- The words counted along a list are the degree.
use Prim.Native.Nat.{ℕ, ◌+◌, ◌/◌, ◌%◌, ◌≤◌, ◌<◌}
use mathlib.Core.Path.{◌≡◌, refl, ap, ◌∙◌}
use mathlib.Core.Bool.{Bool, true, false, ◌&&◌}
use mathlib.Core.List.{List, [], ◌∷◌}
use native.Mathlib.Omega.{arith}
use lib.Dec.{ltb}
use lib.ListN.{length}
use borrow.Author.Tests.{ne_eqb, lt-ltb}
use Rattle.lists.specs.Choice.{◌⇒◌else◌, to_bit}
use Rattle.lists.specs.Lists.{sum_of, filter}
use Rattle.lists.specs.Keyed.{count_by_key}
use Rattle.lists.proofs.Picks.{is_yes}
use Rattle.linked_lists.specs.Links.{nodes}
use Rattle.linked_lists.proofs.Model.{held_nodes}
use Rattle.graph.specs.Graph.{Graph, itself, edge, edge_of, list_of}
use Rattle.graph.specs.WellFormed.{Bounds}
use Rattle.graph.specs.Changes.{VertexThere}
use Rattle.graph.specs.Questions.{on_side, degree}
use Rattle.graph_tables.specs.Tables.{State, incidence_links, vertex_ends, etype}
use Rattle.graph_tables.specs.Holds.{Holds}
use Rattle.graph_tables.specs.Capacities.{Sized}
use Rattle.graph_tables.proofs.Frames.{valid_i}
use Rattle.type_rows.specs.Types.{below}
use Rattle.type_rows.specs.Rows.{good_rows}
use Rattle.type_rows.specs.Closure.{closure_words, bit_of}
use Rattle.type_rows.proofs.Closing.{bit_below}
use Rattle.walks.specs.Walks.{degree_one, degree_at}
use Rattle.graph_tables.proofs.Answers.{vertex_row, edge_type}
use Rattle.walks.proofs.Walkable.{listed_edge}

-- ---- one word

bit_le : (p : Bool) → to_bit p ≤ 1
bit_le true = omega arith
bit_le false = omega arith

pub one_le : (in_class : ℕ → Bool) (c : ℕ) (edges : List ℕ) (w : ℕ) → degree_one in_class c edges w ≤ 1
one_le in_class c edges w = bit_le (in_class (etype edges (w / 2)) && on_side c w)

-- ---- the list

sum_keep : (p : ℕ → Bool) (l : List ℕ) → sum_of (λ w. to_bit (p w)) l ≡ length (filter p l)
sum_keep p [] = refl
sum_keep p (w ∷ l) = go (sum_keep p l) (p w)
  where
    go : sum_of (λ w. to_bit (p w)) l ≡ length (filter p l) → (b : Bool) → to_bit b + sum_of (λ w. to_bit (p w)) l ≡ length (b ⇒ (w ∷ filter p l) else filter p l)
    go h true = omega arith
    go h false = omega arith

keep_agree : (p q : ℕ → Bool) (l : List ℕ) → ((w : ℕ) → 1 ≤ count_by_key itself w l → p w ≡ q w) → filter p l ≡ filter q l
keep_agree p q [] h = refl
keep_agree p q (w ∷ l) h =
    let r : filter p l ≡ filter q l = keep_agree p q l (λ x i. h x (omega arith)) in
    let b : p w ≡ q w = h w (omega (arith, is_yes w w refl)) in
    λ i. b i ⇒ (w ∷ r i) else r i

pub degree_sum : (in_class : ℕ → Bool) (c : ℕ) (vertices edges : List ℕ) (v : ℕ) →
    sum_of (degree_one in_class c edges) (nodes incidence_links edges (vertex_ends vertices v)) ≡ degree_at in_class c vertices edges v
unfolding degree_at
degree_sum in_class c vertices edges v =
    sum_keep (λ w. in_class (etype edges (w / 2)) && on_side c w) (nodes incidence_links edges (vertex_ends vertices v))

-- by the words of a closure
pub degree_below : (rows words : List ℕ) → good_rows rows ≡ true → words ≡ closure_words rows → (t c : ℕ) (vertices edges : List ℕ) (v : ℕ) →
    degree_at (λ s. bit_of words s t) c vertices edges v ≡ degree_at (λ s. below rows s t) c vertices edges v
degree_below rows words good e t c vertices edges v = λ i. degree_at (λ s. bit_below rows words s t good e i) c vertices edges v

-- question 45
pub degree_is : (b : Bounds) (s : State) → Sized b s → (g : Graph) → Holds s g → (v : ℕ) → VertexThere g v → (in_class : ℕ → Bool) (c : ℕ) → degree_at in_class c s.vertices s.edges v
    ≡ degree in_class c g v
unfolding degree_at degree
degree_is b s z g h v t in_class c =
    ap (λ (l : List ℕ). length (filter (λ w. in_class (etype s.edges (w / 2)) && on_side c w) l))
    (held_nodes incidence_links s.edges (vertex_ends s.vertices v) valid_i (list_of g v) (h.core.lists v (vertex_row s g h v t).0))
    ∙ ap length
    (keep_agree (λ w. in_class (etype s.edges (w / 2)) && on_side c w) (λ w. in_class (edge g (edge_of w)).type && on_side c w) (list_of g v)
    (λ w i. ap (λ (k : ℕ). in_class k && on_side c w) (edge_type s g h (edge_of w) (listed_edge b s z g h v t w i))))

-- ---- classes

none_kept : (p : ℕ → Bool) (l : List ℕ) → ((w : ℕ) → p w ≡ false) → 0 ≡ length (filter p l)
none_kept p [] h = refl
none_kept p (w ∷ l) h = rw (h w) (none_kept p l h)

-- no edge is in a class above 63
pub class_none : (words : List ℕ) (t c : ℕ) (vertices edges : List ℕ) (v : ℕ) → 63 < t → 0 ≡ degree_at (λ s. bit_of words s t) c vertices edges v
unfolding degree_at
class_none words t c vertices edges v h =
    none_kept (λ w. bit_of words (etype edges (w / 2)) t && on_side c w) (nodes incidence_links edges (vertex_ends vertices v)) (λ w. ap (λ (b : Bool). b && on_side c w) (out (etype edges (w / 2))))
  where
    out : (k : ℕ) → bit_of words k t ≡ false
    out k = rw (lt-ltb 63 t h) (go (ltb 63 k))
      where
        go : (b : Bool) → (b ⇒ false else false) ≡ false
        go true = refl
        go false = refl

pub class_same : (t : ℕ) → t ≤ 63 → t % 64 ≡ t
class_same t h = omega arith

-- no word is on a side that has another number
pub side_beyond : (in_class : ℕ → Bool) (c : ℕ) (vertices edges : List ℕ) (v : ℕ) → 2 < c → 0 ≡ degree_at in_class c vertices edges v
unfolding degree_at
side_beyond in_class c vertices edges v h =
    none_kept (λ w. in_class (etype edges (w / 2)) && on_side c w) (nodes incidence_links edges (vertex_ends vertices v)) (λ w. out (in_class (etype edges (w / 2))) w)
  where
    off : (w : ℕ) → on_side c w ≡ false
    off w = simp (ne_eqb c 0 (λ q. omega (arith, h, q)), ne_eqb c 1 (λ q. omega (arith, h, q)), ne_eqb c 2 (λ q. omega (arith, h, q)))

    out : (b : Bool) (w : ℕ) → (b && on_side c w) ≡ false
    out true w = off w
    out false w = refl

-- What a step leaves alone. The words of a table go by their place in a row: a step names the places that it keeps, and each part
-- of what the tables hold names the places that it reads.
use Rattle.std.proofs.Common.{◌≡◌, ℕ, zero, suc, ◌%◌, ◌<◌, ◌≤◌, ◌≢◌, List, [], ◌∷◌, map, length, get_or, set, sym, refl, ◌∙◌, arith, length-set, get_or-set_other, get_or-set_same}
use Rattle.linked_lists.specs.declared.LinkLayout.{LinkLayout}
use Rattle.linked_lists.specs.declared.Ends.{Ends}
use Rattle.linked_lists.specs.Links.{ValidLayout, Direction, backward, forward, link_address, HasAddress, Inside, Held, table_unlink, table_insert}
use Rattle.linked_lists.specs.Lists.{Fresh}
use Rattle.linked_lists.proofs.Puts.{length_join}
use Rattle.linked_lists.proofs.Frames.{unlink_word, insert_word, held_agree}
use Rattle.lists.proofs.Picks.{is_no}
use Rattle.lists.specs.Keyed.{count_by_key}
use Rattle.graph.specs.Graph.{Vertex, Edge, vertex_number, edge_number, itself, list_in}
use Rattle.graph_tables.specs.Tables.{vertex_links, edge_links, incidence_links, vertex_place, edge_place, half_place, VertexRowIn, EdgeRowIn, vertex_ends, put_ends}
use Rattle.graph_tables.specs.Holds.{VRows, ERows, ThisEntries, Lists}
use Rattle.linked_lists.proofs.Counted.{inside_is}
use Rattle.graph_tables.proofs.Keys.{keys_count}

pub valid_v : ValidLayout vertex_links
valid_v = record { two = omega arith; near = omega arith }

pub valid_e : ValidLayout edge_links
valid_e = record { two = omega arith; near = omega arith }

pub valid_i : ValidLayout incidence_links
valid_i = record { two = omega arith; near = omega arith }

-- t' agrees with t at the places of P
abbrev pub Keeps : (ℕ → Type 0) → List ℕ → List ℕ → Type 0
Keeps P t t' = (i : ℕ) → P i → get_or t' i 0 ≡ get_or t i 0

-- the places in a row: of the vertex table, and of the edge table
abbrev pub VOrder : ℕ → Type 0
VOrder i = 6 ≤ i % 8

abbrev pub VData : ℕ → Type 0
VData i = i % 8 < 3

abbrev pub VEnds : ℕ → Type 0
VEnds i = (3 ≤ i % 8) × (i % 8 < 5)

abbrev pub EOrder : ℕ → Type 0
EOrder i = 10 ≤ i % 12

abbrev pub EData : ℕ → Type 0
EData i = (3 ≤ i % 6) × (i % 12 < 10)

abbrev pub EThis : ℕ → Type 0
EThis i = i % 6 ≡ 2

abbrev pub ELinks : ℕ → Type 0
ELinks i = i % 6 < 2

-- ---- what each part reads

module _ (t t' : List ℕ) where
  pub keep_vseq : Keeps VOrder t t' → length t' ≡ length t → (e : Ends) (l : List ℕ) → Held vertex_links t e l → Held vertex_links t' e l
  keep_vseq k len e l h = held_agree vertex_links t t' e same len l h
    where
      same : (s : Direction) (x : ℕ) → HasAddress vertex_links x → get_or t' (link_address s vertex_links x) 0 ≡ get_or t (link_address s vertex_links x) 0
      same backward x st = k (link_address backward vertex_links x) (omega arith)
      same forward x st = k (link_address forward vertex_links x) (omega arith)

  pub keep_eseq : Keeps EOrder t t' → length t' ≡ length t → (e : Ends) (l : List ℕ) → Held edge_links t e l → Held edge_links t' e l
  keep_eseq k len e l h = held_agree edge_links t t' e same len l h
    where
      same : (s : Direction) (x : ℕ) → HasAddress edge_links x → get_or t' (link_address s edge_links x) 0 ≡ get_or t (link_address s edge_links x) 0
      same backward x st = k (link_address backward edge_links x) (omega arith)
      same forward x st = k (link_address forward edge_links x) (omega arith)

  pub keep_list : Keeps ELinks t t' → length t' ≡ length t → (e : Ends) (l : List ℕ) → Held incidence_links t e l → Held incidence_links t' e l
  keep_list k len e l h = held_agree incidence_links t t' e same len l h
    where
      same : (s : Direction) (x : ℕ) → HasAddress incidence_links x → get_or t' (link_address s incidence_links x) 0 ≡ get_or t (link_address s incidence_links x) 0
      same backward x st = k (link_address backward incidence_links x) (omega arith)
      same forward x st = k (link_address forward incidence_links x) (omega arith)

  pub keep_vrows : Keeps VData t t' → (vs : List Vertex) → VRows t vs → VRows t' vs
  keep_vrows k vs h v r =
      let o = h v r in
      record { live = k (vertex_place 0 v) (omega arith) ∙ o.live; type = k (vertex_place 1 v) (omega arith) ∙ o.type; value = k (vertex_place 2 v) (omega arith) ∙ o.value }

  pub keep_erows : Keeps EData t t' → (es : List Edge) → ERows t es → ERows t' es
  keep_erows k es h e r =
      let o = h e r in
      record {
        live = k (edge_place 3 e) (omega arith, omega arith) ∙ o.live;
        type = k (edge_place 4 e) (omega arith, omega arith) ∙ o.type;
        kind = k (edge_place 5 e) (omega arith, omega arith) ∙ o.kind;
        decimetres = k (edge_place 9 e) (omega arith, omega arith) ∙ o.decimetres;
      }

  pub keep_this : Keeps EThis t t' → (es : List Edge) → ThisEntries t es → ThisEntries t' es
  keep_this k es h w r = k (half_place 2 w) (omega arith) ∙ h w r

  pub keep_ends : Keeps VEnds t t' → (v : ℕ) → 1 ≤ v → vertex_ends t' v ≡ vertex_ends t v
  keep_ends k v r i = record { first = k (vertex_place 3 v) (omega arith, omega arith) i; last = k (vertex_place 4 v) (omega arith, omega arith) i }

pub keep_lists : (vertices vertices' edges edges' : List ℕ) → Keeps VEnds vertices vertices' → Keeps ELinks edges edges' → length edges' ≡ length edges → (vs : List Vertex)
    → Lists vertices edges vs → Lists vertices' edges' vs
keep_lists vertices vertices' edges edges' k i len vs h v r = rw (keep_ends vertices vertices' k v r) (keep_list edges edges' i len (vertex_ends vertices v) (list_in vs v) (h v r))

-- ---- what each step keeps

off_v : (i : ℕ) → i % 8 < 6 → (s : Direction) (k : ℕ) → HasAddress vertex_links k → i ≡ link_address s vertex_links k → ⊥
off_v i h backward k st q = omega arith
off_v i h forward k st q = omega arith

off_e : (i : ℕ) → i % 12 < 10 → (s : Direction) (k : ℕ) → HasAddress edge_links k → i ≡ link_address s edge_links k → ⊥
off_e i h backward k st q = omega arith
off_e i h forward k st q = omega arith

off_i : (i : ℕ) → 2 ≤ i % 6 → (s : Direction) (k : ℕ) → HasAddress incidence_links k → i ≡ link_address s incidence_links k → ⊥
off_i i h backward k st q = omega arith
off_i i h forward k st q = omega arith

module _ (t : List ℕ) (e : Ends) (x : ℕ) where
  pub unlink_v : Keeps (λ i. i % 8 < 6) t (table_unlink vertex_links t e x)
  unlink_v i h = unlink_word vertex_links t e x i (off_v i h)

  pub unlink_e : Keeps (λ i. i % 12 < 10) t (table_unlink edge_links t e x)
  unlink_e i h = unlink_word edge_links t e x i (off_e i h)

  pub unlink_i : Keeps (λ i. 2 ≤ i % 6) t (table_unlink incidence_links t e x)
  unlink_i i h = unlink_word incidence_links t e x i (off_i i h)

  pub insert_v : (p : ℕ) → Keeps (λ i. i % 8 < 6) t (table_insert vertex_links t e p x)
  insert_v p i h = insert_word vertex_links t e p x i (off_v i h)

  pub insert_e : (p : ℕ) → Keeps (λ i. i % 12 < 10) t (table_insert edge_links t e p x)
  insert_e p i h = insert_word edge_links t e p x i (off_e i h)

  pub insert_i : (p : ℕ) → Keeps (λ i. 2 ≤ i % 6) t (table_insert incidence_links t e p x)
  insert_i p i h = insert_word incidence_links t e p x i (off_i i h)

  pub unlink_len : (layout : LinkLayout) → length (table_unlink layout t e x) ≡ length t
  unlink_len layout = simp length_join

  pub insert_len : (layout : LinkLayout) (p : ℕ) → length (table_insert layout t e p x) ≡ length t
  insert_len layout p = simp length_join

-- a store keeps every other-word place
pub set_keeps : (P : ℕ → Type 0) (t : List ℕ) (j x : ℕ) → (P j → ⊥) → Keeps P t (set t j x)
set_keeps P t j x n i h = get_or-set_other t j i x 0 (λ q. n (rw q at h))

module _ (v : ℕ) (e : Ends) (vertices : List ℕ) where
  pub ends_len : length (put_ends v e vertices) ≡ length vertices
  unfolding put_ends
  ends_len = simp length-set

  pub ends_keep : (P : ℕ → Type 0) → (P (vertex_place 3 v) → ⊥) → (P (vertex_place 4 v) → ⊥) → Keeps P vertices (put_ends v e vertices)
  unfolding put_ends
  ends_keep P a b i h = set_keeps P (set vertices (vertex_place 3 v) e.first) (vertex_place 4 v) e.last b i h ∙ set_keeps P vertices (vertex_place 3 v) e.first a i h

  pub ends_same : VertexRowIn vertices v → vertex_ends (put_ends v e vertices) v ≡ e
  unfolding put_ends
  ends_same h i = record {
    first = (get_or-set_other (set vertices (vertex_place 3 v) e.first) (vertex_place 4 v) (vertex_place 3 v) e.last 0 (λ q. omega arith)
        ∙ get_or-set_same vertices (vertex_place 3 v) e.first 0 (omega arith)) i;
    last = get_or-set_same (set vertices (vertex_place 3 v) e.first) (vertex_place 4 v) e.last 0 (simp length-set (omega arith)) i;
  }

  pub ends_other : (u : ℕ) → 1 ≤ v → 1 ≤ u → v ≢ u → vertex_ends (put_ends v e vertices) u ≡ vertex_ends vertices u
  unfolding put_ends
  ends_other u a b n i = record {
    first = (get_or-set_other (set vertices (vertex_place 3 v) e.first) (vertex_place 4 v) (vertex_place 3 u) e.last 0 (λ q. omega arith)
        ∙ get_or-set_other vertices (vertex_place 3 v) (vertex_place 3 u) e.first 0 (λ q. omega arith)) i;
    last = (get_or-set_other (set vertices (vertex_place 3 v) e.first) (vertex_place 4 v) (vertex_place 4 u) e.last 0 (λ q. omega arith)
        ∙ get_or-set_other vertices (vertex_place 3 v) (vertex_place 4 u) e.first 0 (λ q. omega arith)) i;
  }

-- ---- a number that stands in the graph has its row in the table

count_fresh : (x : ℕ) (l : List ℕ) → Fresh x l → count_by_key itself x l ≡ 0
count_fresh x [] h = refl
count_fresh x (y ∷ l) h = omega (arith, count_fresh x l h.1, is_no y x (λ q. h.0 (sym q)))

module _ {A : Type 0} (key : A → ℕ) (layout : LinkLayout) (t : List ℕ) (e : Ends) (xs : List A) (valid : ValidLayout layout) (h : Held layout t e (map key xs)) (n : ℕ)
    (c : 1 ≤ count_by_key key n xs) where
  pub real : 1 ≤ n
  real = nonzero n (keys_count key n xs)
    where
      nonzero : (m : ℕ) → count_by_key itself m (map key xs) ≡ count_by_key key n xs → 1 ≤ m
      nonzero zero q = absurd (omega (arith, count_fresh 0 (map key xs) h.distinct.0))
      nonzero (suc m) q = omega arith

  pub in_layout : Inside layout (length t) n
  in_layout = inside_is layout t e (map key xs) valid h n (omega (arith, keys_count key n xs))

pub row_v : (vertices : List ℕ) (e : Ends) (vs : List Vertex) → Held vertex_links vertices e (map vertex_number vs) → (v : ℕ) → 1 ≤ count_by_key vertex_number v vs → VertexRowIn vertices v
row_v vertices e vs h v c =
    let r = real vertex_number vertex_links vertices e vs valid_v h v c in
    (r, omega (arith, in_layout vertex_number vertex_links vertices e vs valid_v h v c (λ q. omega arith)))

pub row_e : (edges : List ℕ) (e : Ends) (es : List Edge) → Held edge_links edges e (map edge_number es) → (n : ℕ) → 1 ≤ count_by_key edge_number n es → EdgeRowIn edges n
row_e edges e es h n c =
    let r = real edge_number edge_links edges e es valid_e h n c in
    (r, omega (arith, in_layout edge_number edge_links edges e es valid_e h n c (λ q. omega arith)))

-- The codes of the words are the codes of the graph that they hold.
use Rattle.std.specs.Prelude.{◌==◌}
use Prim.Native.Nat.{ℕ, ◌-◌, ◌*◌, ◌/◌, ◌≤◌}
use mathlib.Core.Path.{◌≡◌, refl, ap, ◌∙◌}
use mathlib.Core.Bool.{Bool, true, false, not, ◌||◌}
use mathlib.Core.List.{List}
use native.Mathlib.Omega.{arith}
use lib.Dec.{leb}
use lib.ListN.{length}
use borrow.Author.Tests.{eq-eqb, ne_eqb}
use Rattle.lists.specs.Choice.{◌⇒◌else◌, within}
use Rattle.graph.specs.Graph.{Graph, has_vertex, has_edge, edge_of, this}
use Rattle.graph_tables.specs.declared.Lookup.{Lookup}
use Rattle.graph_tables.specs.declared.Lookup.TheVariants.{Found, Missing}
use Rattle.graph_tables.specs.Tables.{lookup_vertex, lookup_edge, vertex_code, edge_code, wthis, HalfRowIn}
use Rattle.machine.specs.Codes.{lacks_vertex, lacks_edge}
use Rattle.graph_tables.specs.Holds.{HoldsV, HoldsE, HoldsVE}
use Rattle.machine.specs.Rules.{first_code}
use Rattle.change_codes.specs.Refusals.{number_code, used_code, type_code, vertices_code, edges_code, words_code}
use Rattle.graph_tables.proofs.LookedUp.{vertex_looked, edge_looked, word_in}

-- a code, and then the rest
pub then_code : (s : Bool) (k c d e : ℕ) → 1 ≤ k → c ≡ (s ⇒ k else 0) → d ≡ e → first_code c d ≡ (s ⇒ k else e)
then_code true k c d e p i j = rw (ne_eqb c 0 (λ z. omega arith)) i
then_code false k c d e p i j = rw (eq-eqb c 0 i) j

-- two tests with one code
either_code : (s t : Bool) (k c d : ℕ) → 1 ≤ k → c ≡ (s ⇒ k else 0) → d ≡ (t ⇒ k else 0) → first_code c d ≡ ((s || t) ⇒ k else 0)
either_code true t k c d p i j = rw (ne_eqb c 0 (λ z. omega arith)) i
either_code false t k c d p i j = rw (eq-eqb c 0 i) j

-- a rest behind two codes, where the second is only asked when the first does not apply
then_both : (s t : Bool) (k l c e : ℕ) → c ≡ (s ⇒ k else t ⇒ l else 0) → 1 ≤ k → 1 ≤ l → first_code c e ≡ (s ⇒ k else t ⇒ l else e)
then_both true t k l c e i p q = rw (ne_eqb c 0 (λ z. omega arith)) i
then_both false true k l c e i p q = rw (ne_eqb c 0 (λ z. omega arith)) i
then_both false false k l c e i p q = rw (eq-eqb c 0 i)

-- ---- names

used_is : (i : ℕ) (b : Bool) → used_code (b ⇒ Found i else Missing) ≡ (b ⇒ 3 else 0)
used_is i true = refl
used_is i false = refl

module _ (vertices : List ℕ) (g : Graph) (h : HoldsV vertices g) where
  pub vertex_means : (n : ℕ) → vertex_code (lookup_vertex vertices n) ≡ (lacks_vertex g n ⇒ 4 else 0)
  vertex_means n = rw (vertex_looked vertices g n h) (go (has_vertex g n))
    where
      go : (b : Bool) → vertex_code (b ⇒ Found (8 * n - 8) else Missing) ≡ (not b ⇒ 4 else 0)
      go true = refl
      go false = refl

  pub vertex_used : (n : ℕ) → used_code (lookup_vertex vertices n) ≡ (has_vertex g n ⇒ 3 else 0)
  vertex_used n = rw (vertex_looked vertices g n h) (used_is (8 * n - 8) (has_vertex g n))

  pub vertices_mean : (a b : ℕ) → vertices_code vertices a b ≡ ((lacks_vertex g a || lacks_vertex g b) ⇒ 4 else 0)
  vertices_mean a b =
      either_code (lacks_vertex g a) (lacks_vertex g b) 4 (vertex_code (lookup_vertex vertices a)) (vertex_code (lookup_vertex vertices b)) (omega arith) (vertex_means a) (vertex_means b)

module _ (edges : List ℕ) (g : Graph) (h : HoldsE edges g) where
  pub edge_means : (n : ℕ) → edge_code (lookup_edge edges n) ≡ (lacks_edge g n ⇒ 5 else 0)
  edge_means n = rw (edge_looked edges g n h) (go (has_edge g n))
    where
      go : (b : Bool) → edge_code (b ⇒ Found (12 * n - 12) else Missing) ≡ (not b ⇒ 5 else 0)
      go true = refl
      go false = refl

  pub edge_used : (n : ℕ) → used_code (lookup_edge edges n) ≡ (has_edge g n ⇒ 3 else 0)
  edge_used n = rw (edge_looked edges g n h) (used_is (12 * n - 12) (has_edge g n))

  pub edges_mean : (a b : ℕ) → edges_code edges a b ≡ ((lacks_edge g a || lacks_edge g b) ⇒ 5 else 0)
  edges_mean a b =
      either_code (lacks_edge g a) (lacks_edge g b) 5 (edge_code (lookup_edge edges a)) (edge_code (lookup_edge edges b)) (omega arith) (edge_means a) (edge_means b)

  -- seen from one vertex by the words, and in the graph, where both edges are there
  words_mean : (a b : ℕ) → words_code edges a b ≡ ((lacks_edge g (edge_of a) || lacks_edge g (edge_of b)) ⇒ 5 else not (this g a == this g b) ⇒ 8 else 0)
  words_mean a b = go (has_edge g (edge_of a)) (has_edge g (edge_of b)) refl refl
    where
      seen : (w : ℕ) → has_edge g (edge_of w) ≡ true → wthis edges w ≡ this g w
      seen w e =
          let f : lookup_edge edges (w / 2) ≡ Found (12 * (w / 2) - 12) = edge_looked edges g (edge_of w) h ∙ rw e in
          h.1.1.core.this w (word_in edges w (lookup_edge edges (w / 2)) (12 * (w / 2) - 12) refl f).0

      go : (s t : Bool) → has_edge g (edge_of a) ≡ s → has_edge g (edge_of b) ≡ t → words_code edges a b ≡ ((not s || not t) ⇒ 5 else not (this g a == this g b) ⇒ 8 else 0)
      go true true i j = rw (edge_means (edge_of a), edge_means (edge_of b), i, j, seen a i, seen b j)
      go true false i j = rw (edge_means (edge_of a), edge_means (edge_of b), i, j)
      go false t i j = rw (edge_means (edge_of a), i)

-- two words of edges that are named have their halves in the table
pub words_in : (edges : List ℕ) (x y : ℕ) → 0 ≡ edges_code edges (x / 2) (y / 2) → HalfRowIn edges x × HalfRowIn edges y
words_in edges x y = go (lookup_edge edges (x / 2)) (lookup_edge edges (y / 2)) refl refl
  where
    go : (e f : Lookup) → e ≡ lookup_edge edges (x / 2) → f ≡ lookup_edge edges (y / 2) → 0 ≡ first_code (edge_code e) (edge_code f) → HalfRowIn edges x × HalfRowIn edges y
    go (Found i) (Found j) s t z = (word_in edges x (Found i) i s refl, word_in edges y (Found j) j t refl)
    go (Found i) Missing s t z = omega (arith, z)
    go Missing f s t z = omega (arith, z)

-- ---- the kinds

module _ (vertices : List ℕ) (g : Graph) (h : HoldsV vertices g) where
  pub create_vertex_means : (types n t : ℕ) →
      first_code (number_code (length vertices / 8) n) (first_code (used_code (lookup_vertex vertices n)) (type_code types t))
      ≡ (not (within 1 (length vertices / 8) n) ⇒ 2 else has_vertex g n ⇒ 3 else leb types t ⇒ 6 else 0)
  create_vertex_means types n t =
      then_code (not (within 1 (length vertices / 8) n)) 2 (number_code (length vertices / 8) n) _ _ (omega arith) refl
      (then_code (has_vertex g n) 3 (used_code (lookup_vertex vertices n)) (type_code types t) _ (omega arith) (vertex_used vertices g h n) refl)

  pub vertex_then : (n rest : ℕ) → first_code (vertex_code (lookup_vertex vertices n)) rest ≡ (lacks_vertex g n ⇒ 4 else rest)
  vertex_then n rest = then_code (lacks_vertex g n) 4 (vertex_code (lookup_vertex vertices n)) rest rest (omega arith) (vertex_means vertices g h n) refl

  pub vertices_then : (a b rest : ℕ) → first_code (vertices_code vertices a b) rest ≡ ((lacks_vertex g a || lacks_vertex g b) ⇒ 4 else rest)
  vertices_then a b rest =
      then_code (lacks_vertex g a || lacks_vertex g b) 4 (vertices_code vertices a b) rest rest (omega arith) (vertices_mean vertices g h a b) refl

module _ (edges : List ℕ) (g : Graph) (h : HoldsE edges g) where
  pub edge_then : (n rest : ℕ) → first_code (edge_code (lookup_edge edges n)) rest ≡ (lacks_edge g n ⇒ 5 else rest)
  edge_then n rest = then_code (lacks_edge g n) 5 (edge_code (lookup_edge edges n)) rest rest (omega arith) (edge_means edges g h n) refl

  pub edges_then : (a b rest : ℕ) → first_code (edges_code edges a b) rest ≡ ((lacks_edge g a || lacks_edge g b) ⇒ 5 else rest)
  edges_then a b rest =
      then_code (lacks_edge g a || lacks_edge g b) 5 (edges_code edges a b) rest rest (omega arith) (edges_mean edges g h a b) refl

  pub words_then : (a b rest : ℕ) →
      first_code (words_code edges a b) rest ≡ ((lacks_edge g (edge_of a) || lacks_edge g (edge_of b)) ⇒ 5 else not (this g a == this g b) ⇒ 8 else rest)
  words_then a b rest =
      then_both (lacks_edge g (edge_of a) || lacks_edge g (edge_of b)) (not (this g a == this g b)) 5 8 (words_code edges a b) rest (words_mean edges g h a b) (omega arith) (omega arith)

module _ (vertices edges : List ℕ) (g : Graph) (h : HoldsVE vertices edges g) where
  pub create_edge_means : (types n x y t : ℕ) →
      first_code (number_code (length edges / 12) n) (first_code (used_code (lookup_edge edges n)) (first_code (vertices_code vertices x y) (type_code types t)))
      ≡ (not (within 1 (length edges / 12) n) ⇒ 2 else has_edge g n ⇒ 3 else (lacks_vertex g x || lacks_vertex g y) ⇒ 4 else leb types t ⇒ 6 else 0)
  create_edge_means types n x y t =
      then_code (not (within 1 (length edges / 12) n)) 2 (number_code (length edges / 12) n) _ _ (omega arith) refl
      (then_code (has_edge g n) 3 (used_code (lookup_edge edges n)) _ _ (omega arith) (edge_used edges g (vertices, h) n)
      (vertices_then vertices g (edges, h) x y (type_code types t)))

  pub set_end_means : (n v : ℕ) → first_code (vertex_code (lookup_vertex vertices v)) (edge_code (lookup_edge edges n)) ≡ (lacks_vertex g v ⇒ 4 else lacks_edge g n ⇒ 5 else 0)
  set_end_means n v =
      vertex_then vertices g (edges, h) v (edge_code (lookup_edge edges n)) ∙ ap (λ (k : ℕ). lacks_vertex g v ⇒ 4 else k) (edge_means edges g (vertices, h) n)

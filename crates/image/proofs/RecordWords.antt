-- Words of records, and records back from their words.
use Prim.Native.Nat.{ℕ, ◌*◌}
use mathlib.Core.Path.{◌≡◌, refl, ap₂}
use mathlib.Core.List.{List, [], ◌∷◌}
use native.Mathlib.Omega.{arith}
use lib.ListN.{length, length-append}
use lib.Seq.{take_at, drop_at}
use Rattle.lists.specs.Lists.{concat_map}
use Rattle.graph.specs.Graph.{Vertex, Edge}
use Rattle.graph.specs.WellFormed.{words_at}
use Rattle.image.specs.Image.{vertex_record, edge_size, edge_record, incidences_of, edges_from, vertices_from}
use Rattle.graph.proofs.Readings.{reading_back}
use Rattle.image.proofs.Sizes.{Size, degree_length}

pub record_length : (size : ℕ) → Size size → (v : Vertex) → length (vertex_record size v) ≡ size
record_length size z v = omega (arith, degree_length size z (length v.incidences))

pub vertices_length : (size : ℕ) → Size size → (vs : List Vertex) → length (concat_map (vertex_record size) vs) ≡ size * length vs
vertices_length size z [] = omega arith
vertices_length size z (v ∷ vs) =
    omega (arith, length-append (vertex_record size v) (concat_map (vertex_record size) vs), record_length size z v, vertices_length size z vs)

pub edges_length : (es : List Edge) → length (concat_map edge_record es) ≡ edge_size * length es
edges_length [] = refl
edges_length (e ∷ es) = omega (arith, edges_length es)

pub edges_back : (es : List Edge) → edges_from (length es) (concat_map edge_record es) ≡ es
unfolding edges_from
edges_back [] = refl
edges_back (e ∷ es) =
    ap₂ ◌∷◌
    (λ i. record { number = e.number; alpha = e.alpha; omega = e.omega; type = e.type; reading = reading_back e.reading i })
    (edges_back es)

-- each list is as long as the edges have ends at its vertex
unfoldable pub Fits : List Edge → List Vertex → Type 0
Fits es [] = Unit {0}
Fits es (v ∷ vs) = (length v.incidences ≡ length (words_at es v.number)) × Fits es vs

pub vertices_back : (size : ℕ) → Size size → (es : List Edge) (vs : List Vertex) → Fits es vs →
    vertices_from size es (length vs) (concat_map (vertex_record size) vs) (concat_map incidences_of vs) ≡ vs
unfolding vertices_from Fits
vertices_back size z es [] f = refl
vertices_back size z es (v ∷ vs) f =
    rw (
      drop_at (vertex_record size v) (concat_map (vertex_record size) vs) size (record_length size z v),
      take_at v.incidences (concat_map incidences_of vs) _ f.0,
      drop_at v.incidences (concat_map incidences_of vs) _ f.0,
      vertices_back size z es vs f.1,
    )

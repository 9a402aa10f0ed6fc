-- What a well-formed graph is made of, as facts.
use Prim.Native.Nat.{◌^◌}
use mathlib.Core.Path.{◌≡◌}
use mathlib.Core.Bool.{true, ◌&&◌}
use lib.Dec.{ltb}
use Rattle.lists.specs.Choice.{within}
use Rattle.lists.specs.Lists.{all, distinct}
use Rattle.lists.proofs.Bools.{and_true}
use Rattle.lists.proofs.Sums.{Alike, same_alike}
use Rattle.graph.specs.Graph.{Vertex, Edge, Graph, has_vertex, vertex_numbers, edge_numbers, reading_kind, decimetres, is_reading}
use Rattle.graph.specs.WellFormed.{Bounds, words_at, same_words, sound_vertex, sound_edge, well_formed}

pub record Formed (b : Bounds) (g : Graph) : Type 0 where
  pub distinct_vertex_numbers : distinct (vertex_numbers g) ≡ true
  pub distinct_edge_numbers : distinct (edge_numbers g) ≡ true
  pub vertices_sound : all (sound_vertex b g) g.vseq ≡ true
  pub edges_sound : all (sound_edge b g) g.eseq ≡ true

pub formed : (b : Bounds) (g : Graph) → well_formed b g ≡ true → Formed b g
unfolding well_formed
formed b g h =
    let a = and_true (distinct (vertex_numbers g) && distinct (edge_numbers g) && all (sound_vertex b g) g.vseq) (all (sound_edge b g) g.eseq) h in
    let c = and_true (distinct (vertex_numbers g) && distinct (edge_numbers g)) (all (sound_vertex b g) g.vseq) a.0 in
    let d = and_true (distinct (vertex_numbers g)) (distinct (edge_numbers g)) c.0 in
    record { distinct_vertex_numbers = d.0; distinct_edge_numbers = d.1; vertices_sound = c.1; edges_sound = a.1 }

pub record VertexFacts (b : Bounds) (g : Graph) (v : Vertex) : Type 0 where
  pub number : within 1 b.vertices v.number ≡ true
  pub type : ltb v.type b.types ≡ true
  pub value : ltb v.value (2 ^ 32) ≡ true
  pub words : Alike v.incidences (words_at g.eseq v.number)

pub vertex_facts : (b : Bounds) (g : Graph) (v : Vertex) → sound_vertex b g v ≡ true → VertexFacts b g v
vertex_facts b g v h =
    let a = and_true (within 1 b.vertices v.number && ltb v.type b.types && ltb v.value (2 ^ 32)) (same_words v.incidences (words_at g.eseq v.number)) h in
    let c = and_true (within 1 b.vertices v.number && ltb v.type b.types) (ltb v.value (2 ^ 32)) a.0 in
    let d = and_true (within 1 b.vertices v.number) (ltb v.type b.types) c.0 in
    record { number = d.0; type = d.1; value = c.1; words = same_alike v.incidences (words_at g.eseq v.number) a.1 }

pub record EdgeFacts (b : Bounds) (g : Graph) (e : Edge) : Type 0 where
  pub number : within 1 b.edges e.number ≡ true
  pub starts : has_vertex g e.alpha ≡ true
  pub stops : has_vertex g e.omega ≡ true
  pub type : ltb e.type b.types ≡ true
  pub reading : is_reading (reading_kind e.reading) (decimetres e.reading) ≡ true

pub edge_facts : (b : Bounds) (g : Graph) (e : Edge) → sound_edge b g e ≡ true → EdgeFacts b g e
edge_facts b g e h =
    let a1 = and_true _ (is_reading (reading_kind e.reading) (decimetres e.reading)) h in
    let a2 = and_true _ (ltb e.type b.types) a1.0 in
    let a3 = and_true _ (has_vertex g e.omega) a2.0 in
    let a4 = and_true (within 1 b.edges e.number) (has_vertex g e.alpha) a3.0 in
    record { number = a4.0; starts = a4.1; stops = a3.1; type = a2.1; reading = a1.1 }

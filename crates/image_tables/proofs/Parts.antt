-- What loadable words say: a well-formed graph, and that each part is the words of its records.
use Prim.Native.Nat.{ℕ, ◌/◌, ◌≤◌}
use mathlib.Core.Path.{◌≡◌, sym, ap, ◌∙◌}
use mathlib.Core.Bool.{true}
use mathlib.Core.List.{List}
use native.Mathlib.Omega.{arith}
use lib.ListN.{length}
use Rattle.lists.specs.Lists.{concat_map}
use Rattle.graph.specs.Graph.{Graph}
use Rattle.graph.specs.WellFormed.{Bounds, WellFormed, Within}
use Rattle.graph.proofs.Facts.{to_facts}
use Rattle.image.specs.Image.{vertex_record, edge_record, incidences_of, record_size, vertex_part, edge_part, incidence_part, part, load, loadable}
use Rattle.image.proofs.Sizes.{record_size_lem}
use Rattle.image.proofs.Loads.{loaded, vertex_words, edge_words, incidence_words}
use Rattle.image.proofs.Parts.{part_1, part_2, part_3}
use Rattle.image.proofs.Room.{few_vertices_lem, few_edges_lem}
use Rattle.graph_tables.specs.declared.Head.{Head}
use Rattle.graph_tables.specs.Tables.{state, no_head}
use Rattle.graph_tables.specs.Capacities.{Sized}
use Rattle.image_tables.specs.Filling.{CanLoad}

pub record Source (b : Bounds) (words : List ℕ) (g : Graph) : Type 0 where
  pub formed : WellFormed g
  pub within : Within b g
  pub few_vertices : length g.vseq ≤ b.vertices
  pub few_edges : length g.eseq ≤ b.edges
  pub vertices : part 1 words ≡ concat_map (vertex_record (record_size words)) g.vseq
  pub edges : part 2 words ≡ concat_map edge_record g.eseq
  pub lists : part 3 words ≡ concat_map incidences_of g.vseq

pub source : (b : Bounds) (words : List ℕ) → loadable b words ≡ true → Source b words (load words)
source b words h =
    let l = loaded b words h in
    let f = to_facts b (load words) l.formed in
    let n = record_size words in
    let z = record_size_lem words in
    record {
      formed = f.0;
      within = f.1;
      few_vertices = few_vertices_lem b (load words) l.formed;
      few_edges = few_edges_lem b (load words) l.formed;
      vertices = part_1 words l.header ∙ ap (vertex_part n) (sym l.again) ∙ vertex_words n z (load words);
      edges = part_2 words l.header ∙ ap (edge_part n) (sym l.again) ∙ edge_words n z (load words);
      lists = part_3 words l.header ∙ ap (incidence_part n) (sym l.again) ∙ incidence_words n z (load words);
    }

-- in the words of what loading asks
module _ (words vertices edges : List ℕ) (k : CanLoad words vertices edges) where
  pub given : Source k.bounds words (load words)
  given = source k.bounds words k.sound

  pub most_vertices : length (load words).vseq ≤ 1000
  most_vertices = omega (arith, given.few_vertices, k.sized.few_vertices)

  pub most_edges : length (load words).eseq ≤ 4000
  most_edges = omega (arith, given.few_edges, k.sized.few_edges)

  -- tables of the same lengths have the same capacities
  pub sized_by : (h : Head) (vertices' edges' : List ℕ) → length vertices' ≡ length vertices → length edges' ≡ length edges → Sized k.bounds (state h vertices' edges')
  sized_by h vertices' edges' p q = record {
    vertices = k.sized.vertices ∙ ap (λ (n : ℕ). n / 8) (sym p);
    edges = k.sized.edges ∙ ap (λ (n : ℕ). n / 12) (sym q);
    few_vertices = k.sized.few_vertices;
    few_edges = k.sized.few_edges;
  }

  pub load_by : (vertices' edges' : List ℕ) → length vertices' ≡ length vertices → length edges' ≡ length edges → CanLoad words vertices' edges'
  load_by vertices' edges' p q = record { bounds = k.bounds; sized = sized_by no_head vertices' edges' p q; sound = k.sound }

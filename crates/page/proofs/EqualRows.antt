-- A page is read back as the edges that it shows, so equal rows are of equal edges, in the same order.
use mathlib.Core.Path.{◌≡◌, sym, ap, ap₂, ◌∙◌}
use mathlib.Core.Bool.{true}
use native.Mathlib.Omega.{arith}
use lib.ListN.{length}
use borrow.Author.Tests.{ltb-true}
use Rattle.lists.specs.Lists.{All}
use Rattle.lists.proofs.Bools.{within_range}
use Rattle.lists.proofs.Sums.{all_bool}
use Rattle.graph.specs.Graph.{Edge, Graph}
use Rattle.graph.specs.WellFormed.{sound_edge, well_formed}
use Rattle.graph.proofs.Readings.{reading_range}
use Rattle.image.proofs.Formed.{formed, edge_facts}
use Rattle.image.proofs.WordSize.{InRange, vertex_known}
use Rattle.page.specs.Rows.{rows_of}
use Rattle.page.specs.Page.{page_bounds}
use Rattle.page.proofs.RowLaws.{rows_length}
use Rattle.page.proofs.ReadBack.{Shown, read_rows, rows_back}

pub in_range : InRange page_bounds
in_range = record { vertices = omega arith; edges = omega arith; types = omega arith }

module _ (g : Graph) (h : well_formed page_bounds g ≡ true) where
  shown : (e : Edge) → sound_edge page_bounds g e ≡ true → Shown e
  shown e s =
      let f = edge_facts page_bounds g e s in
      record {
        number = omega (arith, (within_range 1 4000 e.number f.number).1);
        alpha = omega (arith, vertex_known page_bounds in_range g h e.alpha f.starts);
        omega = omega (arith, vertex_known page_bounds in_range g h e.omega f.stops);
        type = omega (arith, ltb-true e.type 64 f.type);
        reading = omega (arith, (reading_range e.reading f.reading).1);
      }

  pub all_shown : All Shown g.eseq
  all_shown = all_bool (sound_edge page_bounds g) shown g.eseq (formed page_bounds g h).edges_sound

  -- the page of a graph is read back as its edges
  pub page_back : read_rows (length g.eseq) (rows_of g) ≡ g.eseq
  unfolding rows_of
  page_back = rows_back g.eseq all_shown

-- an edge is its number, both ends, its type and its reading, so equal lists of edges say all of it
pub equal_rows : (g h : Graph) → well_formed page_bounds g ≡ true → well_formed page_bounds h ≡ true →
    rows_of g ≡ rows_of h → g.eseq ≡ h.eseq
equal_rows g h p q e =
    let n : length g.eseq ≡ length h.eseq = omega (arith, rows_length g, rows_length h, ap length e) in
    sym (page_back g p) ∙ ap₂ read_rows n e ∙ page_back h q

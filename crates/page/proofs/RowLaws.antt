-- A row has 25 bytes, and rows have 25 an edge.
use Prim.Native.Nat.{◌*◌}
use mathlib.Core.Path.{◌≡◌, refl}
use mathlib.Core.List.{List, [], ◌∷◌}
use native.Mathlib.Omega.{arith}
use lib.ListN.{length, length-append}
use Rattle.lists.specs.Lists.{concat_map}
use Rattle.graph.specs.Graph.{Edge, Graph}
use Rattle.page.specs.Rows.{row_of, row_bytes, rows_of}
use Rattle.page.proofs.Columns.{cell_length, reading_length}

-- no bound is asked: a column takes no more digits than it has bytes
pub row_length : (e : Edge) → length (row_of e) ≡ 25
unfolding row_of
row_length e = simp (length-append, cell_length, reading_length)

pub each_length : (es : List Edge) → length (concat_map row_of es) ≡ 25 * length es
each_length [] = refl
each_length (e ∷ es) = omega (arith, length-append (row_of e) (concat_map row_of es), row_length e, each_length es)

pub rows_length : (g : Graph) → length (rows_of g) ≡ row_bytes * length g.eseq
unfolding rows_of
rows_length g = each_length g.eseq

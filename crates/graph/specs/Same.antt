-- Whether two graphs are the same, and whether a change alters the graph (REFERENCE 3.11).
use Rattle.std.specs.Prelude.{Bool, true, false, not, ◌&&◌, ◌||◌, List, [], ◌∷◌, ◌==◌}
use Rattle.lists.specs.Lists.{equal_lists}
use Rattle.graph.specs.declared.Reading.{Reading}
use Rattle.graph.specs.declared.Change.{Change}
use Rattle.graph.specs.declared.SingleChange.{SingleChange}
use Rattle.graph.specs.declared.SingleChange.TheVariants.{
  CreateVertex,
  CreateEdge,
  DeleteEdge,
  RetypeVertex,
  RetypeEdge,
  SetValue,
  SetReading,
  SetAlpha,
  SetOmega,
  VertexBefore,
  VertexAfter,
  EdgeBefore,
  EdgeAfter,
  WordBefore,
  WordAfter,
}
use Rattle.graph.specs.declared.Change.TheVariants.{Single, DeleteVertex}
use Rattle.graph.specs.declared.Edit.{Edit}
use Rattle.graph.specs.declared.Edit.TheVariants.{
  InsertVertex,
  RemoveVertex,
  InsertEdge,
  RemoveEdge,
  SetVertex,
  SetEdge,
  MoveVertex,
  MoveEdge,
  MoveWord,
}
use Rattle.graph.specs.Graph.{Vertex, Edge, Graph, reading_kind, decimetres}
use Rattle.graph.specs.Changes.{changed}

abbrev pub same_reading : Reading → Reading → Bool
same_reading r s = (reading_kind r == reading_kind s) && (decimetres r == decimetres s)

abbrev pub same_vertex : Vertex → Vertex → Bool
same_vertex v u = (v.number == u.number)
    && ((v.type == u.type) && ((v.value == u.value) && equal_lists v.incidences u.incidences))

abbrev pub same_edge : Edge → Edge → Bool
same_edge e f =
    (e.number == f.number)
    && ((e.alpha == f.alpha)
    && ((e.omega == f.omega) && ((e.type == f.type) && same_reading e.reading f.reading)))

-- element by element
abbrev pub same_by : {A : Type 0} → (A → A → Bool) → List A → List A → Bool
same_by p [] [] = true
same_by p [] (y ∷ ys) = false
same_by p (x ∷ xs) [] = false
same_by p (x ∷ xs) (y ∷ ys) = p x y && same_by p xs ys

unfoldable pub same_graph : Graph → Graph → Bool
same_graph g h = same_by same_vertex g.vseq h.vseq && same_by same_edge g.eseq h.eseq

-- the graph after the change is another one
unfoldable pub differs : Change → Graph → Bool
unfolding same_graph changed
differs c g = not (same_graph (changed c g) g)

-- whether a change creates or deletes an element, so that a count is another one afterwards
abbrev pub resizes : SingleChange → Bool
resizes (CreateVertex n t x) = true
resizes (CreateEdge n a o t) = true
resizes (DeleteEdge a) = true
resizes (RetypeVertex a t) = false
resizes (RetypeEdge a t) = false
resizes (SetValue a x) = false
resizes (SetReading a k d) = false
resizes (SetAlpha e v) = false
resizes (SetOmega e v) = false
resizes (VertexBefore a b) = false
resizes (VertexAfter a b) = false
resizes (EdgeBefore a b) = false
resizes (EdgeAfter a b) = false
resizes (WordBefore a b) = false
resizes (WordAfter a b) = false

-- whether an accepted change alters the graph: where a count is another one afterwards, nothing is compared
unfoldable pub alters : Change → Graph → Bool
unfolding differs
alters (Single c) g = resizes c || differs (Single c) g
alters (DeleteVertex a) g = true

-- an edit whose old and new agree
abbrev pub idle : Edit → Bool
idle (InsertVertex n t v p) = false
idle (RemoveVertex n t v p) = false
idle (InsertEdge n a z t r p o i) = false
idle (RemoveEdge n a z t r p o i) = false
idle (SetVertex n t v t' v') = (t == t') && (v == v')
idle (SetEdge n t r t' r') = (t == t') && same_reading r r'
idle (MoveVertex n old new) = old == new
idle (MoveEdge n old new) = old == new
idle (MoveWord w v old u new) = (v == u) && (old == new)

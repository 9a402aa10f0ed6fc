-- Which edits each change is, read off the graph.
use Rattle.std.specs.Prelude.{List, [], ◌∷◌, ◌++◌, ℕ}
use Rattle.lists.specs.Keyed.{remove_by, prev_by, last_by}
use Rattle.graph.specs.declared.Reading.TheVariants.{Untested}
use Rattle.graph.specs.declared.Edit.{Edit}
use Rattle.graph.specs.declared.Edit.TheVariants.{
  InsertVertex,
  RemoveVertex,
  InsertEdge,
  RemoveEdge,
  SetVertex,
  SetEdge,
  MoveVertex,
  MoveEdge,
  MoveWord,
}
use Rattle.graph.specs.declared.Change.{Change}
use Rattle.graph.specs.declared.SingleChange.{SingleChange}
use Rattle.graph.specs.declared.SingleChange.TheVariants.{
  CreateVertex,
  CreateEdge,
  DeleteEdge,
  RetypeVertex,
  RetypeEdge,
  SetValue,
  SetReading,
  SetAlpha,
  SetOmega,
  VertexBefore,
  VertexAfter,
  EdgeBefore,
  EdgeAfter,
  WordBefore,
  WordAfter,
}
use Rattle.graph.specs.declared.Change.TheVariants.{Single, DeleteVertex}
use Rattle.graph.specs.Graph.{Graph, vertex_number, edge_number, itself, vertex, edge, list_in, list_of, this}
use Rattle.graph.specs.Graph.{out_word, in_word, reading_of}
use Rattle.graph.specs.Changes.{append, detach, edges_at}
use Rattle.graph.specs.Edits.{apply, Applies}

-- the edit that takes edge n out: the in word leaves first
unfoldable pub removal : ℕ → Graph → Edit
removal n g =
    let e = edge g n in
    RemoveEdge n e.alpha e.omega e.type e.reading (prev_by edge_number 0 n g.eseq)
    (prev_by itself 0 (out_word n) (list_in (detach g.vseq e.omega (in_word n)) e.alpha))
    (prev_by itself 0 (in_word n) (list_of g e.omega))

-- the edit that takes vertex a out, once no edge is at it
unfoldable pub vertex_removal : ℕ → Graph → Edit
vertex_removal a g = let v = vertex g a in RemoveVertex a v.type v.value (prev_by vertex_number 0 a g.vseq)

-- word w to the vertex u, directly after the word p
unfoldable pub word_move : ℕ → ℕ → ℕ → Graph → Edit
word_move w u p g = MoveWord w (this g w) (prev_by itself 0 w (list_of g (this g w))) u p

-- the list of u once word w has left its own
abbrev pub list_without : ℕ → ℕ → Graph → List ℕ
list_without w u g = list_in (detach g.vseq (this g w) w) u

abbrev pub move_last : ℕ → ℕ → Graph → Edit
move_last w u g = word_move w u (last_by itself 0 (list_without w u g)) g

-- the edit of a change of one edit
unfoldable pub plan : SingleChange → Graph → Edit
unfolding removal word_move
plan (CreateVertex n t x) g = InsertVertex n t x (last_by vertex_number 0 g.vseq)
plan (CreateEdge n a o t) g =
    InsertEdge n a o t Untested (last_by edge_number 0 g.eseq) (last_by itself 0 (list_of g a))
    (last_by itself 0 (list_in (append g.vseq a (out_word n)) o))
plan (DeleteEdge a) g = removal a g
plan (RetypeVertex a t) g = SetVertex a (vertex g a).type (vertex g a).value t (vertex g a).value
plan (RetypeEdge a t) g = SetEdge a (edge g a).type (edge g a).reading t (edge g a).reading
plan (SetValue a x) g = SetVertex a (vertex g a).type (vertex g a).value (vertex g a).type x
plan (SetReading a k d) g = SetEdge a (edge g a).type (edge g a).reading (edge g a).type (reading_of k d)
plan (SetAlpha e v) g = move_last (out_word e) v g
plan (SetOmega e v) g = move_last (in_word e) v g
plan (VertexBefore a b) g = MoveVertex a (prev_by vertex_number 0 a g.vseq) (prev_by vertex_number 0 b
    (remove_by vertex_number a g.vseq))
plan (VertexAfter a b) g = MoveVertex a (prev_by vertex_number 0 a g.vseq) b
plan (EdgeBefore a b) g = MoveEdge a (prev_by edge_number 0 a g.eseq) (prev_by edge_number 0 b (remove_by edge_number a
    g.eseq))
plan (EdgeAfter a b) g = MoveEdge a (prev_by edge_number 0 a g.eseq) b
plan (WordBefore a b) g = word_move a (this g a) (prev_by itself 0 b (list_without a (this g a) g)) g
plan (WordAfter a b) g = word_move a (this g a) b g

-- edits one after another
abbrev pub apply_all : List Edit → Graph → Graph
apply_all [] g = g
apply_all (e ∷ es) g = apply_all es (apply e g)

-- each edit applies to what the ones before it left
abbrev pub AppliesAll : List Edit → Graph → Type 0
AppliesAll [] g = Unit {0}
AppliesAll (e ∷ es) g = Applies e g × AppliesAll es (apply e g)

-- the removals of these edges, each on what the ones before it left
abbrev pub removals : List ℕ → Graph → List Edit
removals [] g = []
removals (n ∷ ns) g = removal n g ∷ removals ns (apply (removal n g) g)

-- the edits of a change, in their order: kind 2 first takes out the edges at the vertex
unfoldable pub edits_of : Change → Graph → List Edit
unfolding plan vertex_removal
edits_of (Single c) g = plan c g ∷ []
edits_of (DeleteVertex a) g =
    removals (edges_at g a) g ++ (vertex_removal a (apply_all (removals (edges_at g a) g) g) ∷ [])

-- A change of one edit: what it asks of the tables, its code, its cost, and the words that it leaves.
use Rattle.std.specs.Prelude.{ℕ, Bool, ◌≡◌, ◌==◌}
use Rattle.lists.specs.Choice.{◌⇒◌else◌}
use Rattle.graph.specs.declared.SingleChange.{SingleChange}
use Rattle.graph.specs.declared.SingleChange.TheVariants.{
  CreateVertex,
  CreateEdge,
  DeleteEdge,
  RetypeVertex,
  RetypeEdge,
  SetValue,
  SetReading,
  SetAlpha,
  SetOmega,
  VertexBefore,
  VertexAfter,
  EdgeBefore,
  EdgeAfter,
  WordBefore,
  WordAfter,
}
use Rattle.graph.specs.declared.Change.TheVariants.{Single}
use Rattle.graph.specs.Graph.{Graph, IsWords}
use Rattle.graph_tables.specs.Tables.{State, ekind, edecimetres}
use Rattle.graph_tables.specs.Holds.{Holds}
use Rattle.graph_tables.specs.Capacities.{Sized, bounds_of}
use Rattle.tried_edits.specs.Plans.{state_plan}
use Rattle.machine.specs.Codes.{change_code}
use Rattle.graph_tables.specs.Holds.{HoldsVE}
use Rattle.commands.specs.Fits.{SingleFits}
use Rattle.tried_edits.specs.Tried.{Attempt, Outcome, kept, tried}

-- the head and the tables hold a graph, within the limits
pub record HoldsGraph (s : State) : Type 0 where
  pub graph : Graph
  pub holds : Holds s graph
  pub sized : (types : ℕ) → Sized (bounds_of s.vertices s.edges types) s

-- the words of a reading that is read, and of one that is set
abbrev pub ReadingWords : SingleChange → State → Type 0
ReadingWords (CreateVertex n t x) s = Unit {0}
ReadingWords (CreateEdge n a o t) s = Unit {0}
ReadingWords (DeleteEdge a) s = IsWords (ekind s.edges a) (edecimetres s.edges a)
ReadingWords (RetypeVertex a t) s = Unit {0}
ReadingWords (RetypeEdge a t) s = IsWords (ekind s.edges a) (edecimetres s.edges a)
ReadingWords (SetValue a x) s = Unit {0}
ReadingWords (SetReading a k d) s = IsWords (ekind s.edges a) (edecimetres s.edges a) × IsWords k d
ReadingWords (SetAlpha e v) s = Unit {0}
ReadingWords (SetOmega e v) s = Unit {0}
ReadingWords (VertexBefore a b) s = Unit {0}
ReadingWords (VertexAfter a b) s = Unit {0}
ReadingWords (EdgeBefore a b) s = Unit {0}
ReadingWords (EdgeAfter a b) s = Unit {0}
ReadingWords (WordBefore a b) s = Unit {0}
ReadingWords (WordAfter a b) s = Unit {0}

-- refused with a code, or else r
abbrev pub unless_refused : ℕ → Attempt → Outcome → Outcome
unless_refused c a r = (c == 0) ⇒ r else kept c a

-- the lowest of codes 2 to 9 of a change on tables that hold g, or 0
abbrev pub code_on : SingleChange → ℕ → State → Graph → ℕ
code_on x types s g = change_code (bounds_of s.vertices s.edges types) g (Single x)

-- a change on tables that hold g: its code, or its edit tried
unfoldable pub attempted : SingleChange → ℕ → Attempt → Graph → Outcome
attempted x types a g = unless_refused (code_on x types a.state g) a (tried (state_plan x a.state) a)

pub record One (x : SingleChange) (types : ℕ) (a : Attempt) (o : Outcome) : Type 0 where
  -- whatever graph the tables hold: code, cost and all words after it
  pub comes : (g : Graph) → HoldsVE a.state.vertices a.state.edges g → o ≡ attempted x types a g
  -- a caller cannot know it: a match has to take the change apart
  pub fits : SingleFits x

-- of a change that names no type: whatever types there are
abbrev pub Untyped : SingleChange → Attempt → Outcome → Type 0
Untyped x a o = (types : ℕ) → One x types a o

-- kinds 9 and 10, 11 and 12, 13 and 14, 15 and 16 by their side
abbrev pub setting_end : Bool → ℕ → ℕ → SingleChange
setting_end omega e u = omega ⇒ SetOmega e u else SetAlpha e u

abbrev pub ordering_vertex : Bool → ℕ → ℕ → SingleChange
ordering_vertex after a b = after ⇒ VertexAfter a b else VertexBefore a b

abbrev pub ordering_edge : Bool → ℕ → ℕ → SingleChange
ordering_edge after a b = after ⇒ EdgeAfter a b else EdgeBefore a b

abbrev pub ordering_word : Bool → ℕ → ℕ → SingleChange
ordering_word after a b = after ⇒ WordAfter a b else WordBefore a b

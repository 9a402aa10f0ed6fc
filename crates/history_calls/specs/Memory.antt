-- The words that are lent to the calls of a list.
use Rattle.std.specs.Prelude.{ℕ, List}
use Rattle.graph_tables.specs.Tables.{State, state}
use Rattle.graph_tables.specs.declared.Tables.{Tables}
use Rattle.history_calls.specs.declared.Store.{Store}

-- both tables, the journal, and the words of the marks
pub record Memory : Type 0 where
  pub vertices : List ℕ
  pub edges : List ℕ
  pub journal : List ℕ
  pub marks : List ℕ

abbrev pub memory : List ℕ → List ℕ → List ℕ → List ℕ → Memory
memory vertices edges journal marks = record { vertices = vertices; edges = edges; journal = journal; marks = marks }

-- the same, of tables that are lent as one
abbrev pub memory_of : Tables → List ℕ → List ℕ → Memory
memory_of t journal marks = memory t.vertices.now t.edges.now journal marks

-- the tables with the ends and counts of the store
abbrev pub tables_of : Store → Memory → State
tables_of x mem = state x.current.head mem.vertices mem.edges

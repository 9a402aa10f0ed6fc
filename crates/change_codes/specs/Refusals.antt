-- Codes read off the tables, whatever words these have.
use Rattle.std.specs.Prelude.{ℕ, not, List, leb, ◌==◌}
use Rattle.lists.specs.Choice.{◌⇒◌else◌, within}
use Rattle.graph.specs.Graph.{edge_of, is_reading}
use Rattle.graph_tables.specs.declared.Lookup.{Lookup}
use Rattle.graph_tables.specs.declared.Lookup.TheVariants.{Found, Missing}
use Rattle.graph_tables.specs.Tables.{lookup_vertex, lookup_edge, vertex_code, edge_code, wthis}
use Rattle.machine.specs.Rules.{first_code}

-- REFERENCE 7.2: a number that is made, of a capacity
abbrev pub number_code : ℕ → ℕ → ℕ
number_code capacity n = not (within 1 capacity n) ⇒ 2 else 0

-- REFERENCE 7.3: a number that is made and is there already
abbrev pub used_code : Lookup → ℕ
used_code (Found at) = 3
used_code Missing = 0

-- REFERENCE 7.6
abbrev pub type_code : ℕ → ℕ → ℕ
type_code types t = leb types t ⇒ 6 else 0

-- REFERENCE 7.7
abbrev pub reading_code : ℕ → ℕ → ℕ
reading_code k d = not (is_reading k d) ⇒ 7 else 0

-- REFERENCE 7.9
abbrev pub twice_code : ℕ → ℕ → ℕ
twice_code a b = (a == b) ⇒ 9 else 0

-- two names
abbrev pub vertices_code : List ℕ → ℕ → ℕ → ℕ
vertices_code vertices a b = first_code (vertex_code (lookup_vertex vertices a)) (vertex_code (lookup_vertex vertices b))

abbrev pub edges_code : List ℕ → ℕ → ℕ → ℕ
edges_code edges a b = first_code (edge_code (lookup_edge edges a)) (edge_code (lookup_edge edges b))

-- two oriented words: 5 where an edge is missing, 8 where they are seen from different vertices
abbrev pub words_code : List ℕ → ℕ → ℕ → ℕ
words_code edges a b = first_code (edges_code edges (edge_of a) (edge_of b))
    (not (wthis edges a == wthis edges b) ⇒ 8 else 0)

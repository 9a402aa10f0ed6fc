-- What stays the same over a list of calls, and what a call names.
use Rattle.std.specs.Prelude.{ℕ, List, [], ◌∷◌, length, ◌==◌}
use Rattle.lists.specs.Choice.{◌⇒◌else◌}
use Rattle.lists.specs.Lists.{◌is◌}
use Rattle.graph.specs.Graph.{edge_of}
use Rattle.graph.specs.WellFormed.{Bounds}
use Rattle.commands.specs.Calls.{Call}

-- what stays the same over a list
pub record Parameters : Type 0 where
  pub rows : List ℕ
  pub vertices : ℕ
  pub edges : ℕ
  pub changes : ℕ

abbrev pub bounds_in : Parameters → Bounds
bounds_in w = record { vertices = w.vertices; edges = w.edges; types = length w.rows }

-- ---- what a call names

abbrev pub vertices_named : Call → List ℕ
vertices_named x =
    (x.kind is (2 ∷ 5 ∷ 7 ∷ 31 ∷ 34 ∷ 40 ∷ 42 ∷ 45 ∷ [])) ⇒ (x.a ∷ []) else
    (x.kind is (9 ∷ 10 ∷ [])) ⇒ (x.b ∷ []) else
    (x.kind is (11 ∷ 12 ∷ 46 ∷ 53 ∷ 54 ∷ [])) ⇒ (x.a ∷ x.b ∷ []) else
    (x.kind == 3) ⇒ (x.b ∷ x.c ∷ []) else
    []

-- REFERENCE 2.4: an oriented word names its edge
abbrev pub edges_named : Call → List ℕ
edges_named x =
    (x.kind is (4 ∷ 6 ∷ 8 ∷ 9 ∷ 10 ∷ 33 ∷ 36 ∷ 37 ∷ 41 ∷ 43 ∷ 44 ∷ [])) ⇒ (x.a ∷ []) else
    (x.kind is (13 ∷ 14 ∷ 47 ∷ [])) ⇒ (x.a ∷ x.b ∷ []) else
    (x.kind is (35 ∷ 38 ∷ 39 ∷ [])) ⇒ (edge_of x.a ∷ []) else
    (x.kind is (15 ∷ 16 ∷ 48 ∷ [])) ⇒ (edge_of x.a ∷ edge_of x.b ∷ []) else
    []

-- types and classes
abbrev pub types_named : Call → List ℕ
types_named x =
    (x.kind is (1 ∷ 5 ∷ 6 ∷ 45 ∷ [])) ⇒ (x.b ∷ []) else
    (x.kind == 3) ⇒ (x.d ∷ []) else
    (x.kind == 52) ⇒ (x.a ∷ x.b ∷ []) else
    []

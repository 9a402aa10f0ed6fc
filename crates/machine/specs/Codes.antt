-- The table of codes 1 to 20, of a call on its store: when each applies, and the lowest that does. A number of no
-- store has 21 before all of them (Stores).
use Rattle.std.specs.Prelude.{ℕ, Bool, false, not, ◌&&◌, List, [], ◌∷◌, ◌++◌, leb, ltb, ◌==◌}
use Rattle.lists.specs.Choice.{◌⇒◌else◌, within}
use Rattle.lists.specs.Lists.{◌is◌}
use Rattle.graph.specs.declared.Change.{Change}
use Rattle.graph.specs.Graph.{Graph, has_vertex, has_edge, this, is_reading}
use Rattle.graph.specs.WellFormed.{Bounds}
use Rattle.graph.specs.Same.{alters}
use Rattle.history.specs.Machine.{Machine, free_of, present}
use Rattle.machine.specs.HistoryCodes.{history_table, later_table}
use Rattle.prices.specs.Prices.{nothing_heard}
use Rattle.commands.specs.declared.Question.{Question}
use Rattle.commands.specs.declared.PriceCall.{PriceCall}
use Rattle.commands.specs.declared.Command.{Command}
use Rattle.commands.specs.Calls.{Call}
use Rattle.commands.specs.Kinds.{known}
use Rattle.commands.specs.Tables.{Row, row, lowest, some}
use Rattle.commands.specs.Commands.{change_of, change_call, question_call, price_call, call_of}
use Rattle.machine.specs.Calls.{Parameters, bounds_in, vertices_named, edges_named, types_named}

-- REFERENCE 4.4
unfoldable pub free : Parameters → Machine → ℕ
free w m = free_of w.changes m.line

-- ---- when each code applies, read on the call's words and the graph as it begins

-- REFERENCE 7.2
abbrev pub number_outside : Bounds → Call → Bool
number_outside b x =
    (x.kind == 1) ⇒ not (within 1 b.vertices x.a) else
    (x.kind == 3) ⇒ not (within 1 b.edges x.a) else
    false

-- REFERENCE 7.3
abbrev pub number_in_use : Graph → Call → Bool
number_in_use g x = (x.kind == 1) ⇒ has_vertex g x.a else (x.kind == 3) ⇒ has_edge g x.a else false

abbrev pub lacks_vertex : Graph → ℕ → Bool
lacks_vertex g v = not (has_vertex g v)

abbrev pub lacks_edge : Graph → ℕ → Bool
lacks_edge g e = not (has_edge g e)

-- REFERENCE 7.4
abbrev pub vertex_missing : Graph → Call → Bool
vertex_missing g x = some (lacks_vertex g) (vertices_named x)

-- REFERENCE 7.5
abbrev pub edge_missing : Graph → Call → Bool
edge_missing g x = some (lacks_edge g) (edges_named x)

-- REFERENCE 7.6
abbrev pub type_outside : Bounds → Call → Bool
type_outside b x = some (leb b.types) (types_named x)

-- REFERENCE 7.7
abbrev pub not_reading : Call → Bool
not_reading x = (x.kind == 8) && not (is_reading x.b x.c)

-- REFERENCE 7.8
abbrev pub this_differs : Graph → Call → Bool
this_differs g x = (x.kind is (15 ∷ 16 ∷ 48 ∷ [])) && not (this g x.a == this g x.b)

-- REFERENCE 7.9
abbrev pub same_twice : Call → Bool
same_twice x = within 11 16 x.kind && (x.a == x.b)

-- REFERENCE 7.15
abbrev pub side_outside : Call → Bool
side_outside x = (x.kind == 45) && ltb 2 x.c

-- REFERENCE 7.16
abbrev pub nothing_to_range : Graph → Call → Bool
nothing_to_range g x = (x.kind is (53 ∷ 54 ∷ [])) && nothing_heard g x.a x.b

-- 17: a grade by a price list that there is not
abbrev pub price_list_outside : Call → Bool
price_list_outside x = (x.kind == 54) && ltb 2 x.c

-- ---- the table

-- rows 1 to 9
abbrev pub chart_table : Bounds → Graph → Call → List Row
chart_table b g x =
    row 1 (not (known x.kind)) ∷
    row 2 (number_outside b x) ∷
    row 3 (number_in_use g x) ∷
    row 4 (vertex_missing g x) ∷
    row 5 (edge_missing g x) ∷
    row 6 (type_outside b x) ∷
    row 7 (not_reading x) ∷
    row 8 (this_differs g x) ∷
    row 9 (same_twice x) ∷
    []

-- rows 15 to 17
abbrev pub last_table : Graph → Call → List Row
last_table g x =
    row 15 (side_outside x) ∷
    row 16 (nothing_to_range g x) ∷
    row 17 (price_list_outside x) ∷
    []

-- 10 to 14 and 18 to 20 are the history's
unfoldable pub code_table : Parameters → Machine → Call → List Row
unfolding change_of alters nothing_heard
code_table w m x =
    chart_table (bounds_in w) (present m) x ++ (history_table w.changes m x
    ++ (last_table (present m) x ++ later_table m x))

-- the code of a command, 0 where it is accepted
unfoldable pub refusal : Parameters → Machine → Command → ℕ
unfolding code_table
refusal w m c = lowest (code_table w m (call_of c))

-- ---- what the layers below give of it

-- codes 2 to 9 of a change
abbrev pub change_code : Bounds → Graph → Change → ℕ
change_code b g c = lowest (chart_table b g (change_call c))

-- questions and prices read no capacity
abbrev pub only_types : ℕ → Bounds
only_types n = record { vertices = 0; edges = 0; types = n }

abbrev pub question_code : ℕ → Graph → Question → ℕ
question_code n g q = lowest (chart_table (only_types n) g (question_call q) ++ last_table g (question_call q))

abbrev pub price_code : Graph → PriceCall → ℕ
price_code g p = lowest (chart_table (only_types 0) g (price_call p) ++ last_table g (price_call p))

-- Rows 10 to 14 and 18 to 20 of the table of codes, read on a call's words and the machine as the call begins.
use Rattle.std.specs.Prelude.{ℕ, suc, Bool, false, not, ◌&&◌, ◌||◌, List, [], ◌∷◌, length, leb, ltb, ◌==◌}
use Rattle.lists.specs.Choice.{◌⇒◌else◌}
use Rattle.lists.specs.Lists.{◌is◌}
use Rattle.graph.specs.declared.Change.{Change}
use Rattle.graph.specs.Limits.{most_benches}
use Rattle.graph.specs.Changes.{cost}
use Rattle.graph.specs.Same.{alters}
use Rattle.commands.specs.Calls.{Call}
use Rattle.commands.specs.Kinds.{is_change}
use Rattle.commands.specs.Tables.{Row, row, some}
use Rattle.commands.specs.Commands.{change_of}
use Rattle.history.specs.Machine.{
  Machine,
  free_of,
  onward,
  stands,
  place_or,
  present,
  is_mark,
  name,
  is_name,
  holder_but,
  holder_of,
}

abbrev pub marks_named : Call → List ℕ
marks_named x =
    (x.kind is (17 ∷ 18 ∷ 21 ∷ 56 ∷ [])) ⇒ (x.a ∷ []) else
    (x.kind is (49 ∷ 59 ∷ [])) ⇒ (x.a ∷ x.b ∷ []) else
    []

-- a change that alters the graph costs more than is free (REFERENCE 7.10); the numbers are compared first, so that a
-- computed case compares graphs only where they decide
abbrev pub too_dear : ℕ → Machine → Change → Bool
too_dear capacity m c = ltb (free_of capacity m.line) (cost c (present m)) && alters c (present m)

-- the steps that going to place q redoes cost more than is free
abbrev pub too_far : ℕ → Machine → ℕ → Bool
too_far capacity m q = ltb (free_of capacity m.line) (onward q m.line)

-- where mark k is; p where it does not stand
abbrev pub place_of : Machine → ℕ → ℕ
place_of m k = place_or m.line.place (m.marks k)

-- REFERENCE 21.6: a redo, or a call to a mark or a name, leads too far. A store alone has room for all its steps
-- (proofs/CostsFit)
abbrev pub out_of_reach : ℕ → Machine → Call → Bool
out_of_reach capacity m x =
    (x.kind == 20) ⇒ too_far capacity m (suc m.line.place) else
    (x.kind == 21) ⇒ too_far capacity m (place_of m x.a) else
    (x.kind == 57) ⇒ too_far capacity m (place_of m (holder_of (name x.a x.b) m)) else
    false

-- REFERENCE 7.10
abbrev pub no_room : ℕ → Machine → Call → Bool
no_room capacity m x = is_change x.kind ⇒ too_dear capacity m (change_of x) else out_of_reach capacity m x

-- REFERENCE 7.11
abbrev pub mark_outside : Call → Bool
mark_outside x = some (λ n. not (is_mark n)) (marks_named x)

-- REFERENCE 7.12
abbrev pub mark_stands : Machine → Call → Bool
mark_stands m x = (x.kind == 17) && stands (m.marks x.a)

-- REFERENCE 7.13
abbrev pub mark_missing : Machine → Call → Bool
mark_missing m x = not (x.kind == 17) && some (λ n. not (stands (m.marks n))) (marks_named x)

-- REFERENCE 7.14
abbrev pub at_an_end : Machine → Call → Bool
at_an_end m x =
    (x.kind == 19) ⇒ (m.line.place == 0) else
    (x.kind == 20) ⇒ (m.line.place == length m.line.steps) else
    false

abbrev pub mark_table : Machine → Call → List Row
mark_table m x =
    row 11 (mark_outside x) ∷
    row 12 (mark_stands m x) ∷
    row 13 (mark_missing m x) ∷
    row 14 (at_an_end m x) ∷
    []

abbrev pub history_table : ℕ → Machine → Call → List Row
history_table capacity m x = row 10 (no_room capacity m x) ∷ mark_table m x

-- REFERENCE 7.18: zeros, or the name of another standing mark
abbrev pub name_taken : Machine → ℕ → ℕ → ℕ → Bool
name_taken m a b c = not (is_name (name b c)) || not (holder_but a (name b c) m == 0)

abbrev pub name_refused : Machine → Call → Bool
name_refused m x = (x.kind == 56) && name_taken m x.a x.b x.c

-- REFERENCE 7.19: no standing mark has the name
abbrev pub name_missing : Machine → Call → Bool
name_missing m x = (x.kind == 57) && (holder_of (name x.a x.b) m == 0)

abbrev pub no_bench : ℕ → Bool
no_bench b = leb most_benches b

-- REFERENCE 7.20
abbrev pub bench_outside : Call → Bool
bench_outside x = (x.kind == 58) ⇒ no_bench x.a else (x.kind == 59) ⇒ no_bench x.c else false

abbrev pub later_table : Machine → Call → List Row
later_table m x =
    row 18 (name_refused m x) ∷
    row 19 (name_missing m x) ∷
    row 20 (bench_outside x) ∷
    []

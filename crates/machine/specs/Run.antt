-- A run: what is lent, the refusals of a list, the result and the lent words after it.
use Rattle.std.specs.Prelude.{ℕ, ◌*◌, ◌/◌, ◌%◌, ◌≤◌, not, ◌&&◌, ◌||◌, List, [], ◌∷◌, length, ltb, ◌==◌}
use Rattle.lists.specs.Choice.{◌⇒◌else◌, within}
use Rattle.lists.specs.Lists.{overwritten}
use Rattle.type_rows.specs.Rows.{good_rows}
use Rattle.image.specs.Image.{image_length, save, load}
use Rattle.image_check.specs.Checks.{verdict, load_code, load_offset}
use Rattle.history.specs.Machine.{fresh, present}
use Rattle.commands.specs.Calls.{calls_of}
use Rattle.commands.specs.Tables.{Row, row, in_turn}
use Rattle.machine.specs.Calls.{Parameters, bounds_in}
use Rattle.commands.specs.declared.Answer.{Answer}
use Rattle.graph.specs.Limits.{most_vertices, most_edges, most_changes, most_types}
use Rattle.machine.specs.Machine.{answers, last}

-- REFERENCE 9.1. Of the tables only the lengths matter
pub record Lent : Type 0 where
  pub start : List ℕ
  pub rows : List ℕ
  pub calls : List ℕ
  pub vertex_table : ℕ
  pub edge_table : ℕ
  pub change_table : ℕ
  pub answers : List ℕ
  pub end : List ℕ

-- the result, a code, a number (the calls done) and the words of the end image, and the two lent slices that a run
-- writes, as it ends
pub record AfterRun : Type 0 where
  pub code : ℕ
  pub done : ℕ
  pub words : ℕ
  pub answers : List ℕ
  pub end : List ℕ

-- REFERENCE 9.2
abbrev pub parameters_of : Lent → Parameters
parameters_of l = record {
  rows = l.rows;
  vertices = l.vertex_table / 8;
  edges = l.edge_table / 12;
  changes = l.change_table / 12;
}

-- REFERENCE 12.1
pub record Limits (w : Parameters) : Type 0 where
  pub some_vertices : 1 ≤ w.vertices
  pub few_vertices : w.vertices ≤ most_vertices
  pub some_edges : 1 ≤ w.edges
  pub few_edges : w.edges ≤ most_edges
  pub some_changes : 1 ≤ w.changes
  pub few_changes : w.changes ≤ most_changes
  pub some_types : 1 ≤ length w.rows
  pub few_types : length w.rows ≤ most_types

-- The codes of a list in turn: 101 to 104, then what is bad in the start image, 105, 108 or 109, then 106, which asks
-- for as many words as an image with as many vertices and edges as the capacities.
unfoldable pub list_table : Lent → List Row
unfolding good_rows verdict
list_table l =
    row 101 (not (length l.calls % 5 == 0)) ∷
    row 102 (ltb (length l.answers) (2 * (length l.calls / 5))) ∷
    row 103 (not (within 1 most_vertices w.vertices && within 1 most_edges w.edges
    && within 1 most_changes w.changes)) ∷
    row 104 (not (good_rows l.rows)) ∷
    row 105 (start == 105) ∷
    row 108 (start == 108) ∷
    row 109 (start == 109) ∷
    row 106 (ltb (length l.end) (image_length w.vertices w.edges)) ∷
    []
  where
    w : Parameters
    w = parameters_of l

    start : ℕ
    start = load_code (bounds_in w) l.start

-- the first in turn that applies, 0 where none does
unfoldable pub list_refusal : Lent → ℕ
unfolding list_table
list_refusal l = in_turn (list_table l)

-- the number beside a code: with 108 and 109 the offset of the first bad word of the start image, else 0
abbrev pub number_beside : ℕ → ℕ → ℕ
number_beside code offset = ((code == 108) || (code == 109)) ⇒ offset else 0

unfoldable pub list_number : Lent → ℕ
unfolding list_refusal verdict
list_number l = number_beside (list_refusal l) (load_offset (bounds_in (parameters_of l)) l.start)

-- REFERENCE 9.6
abbrev pub answer_words : List Answer → List ℕ
answer_words [] = []
answer_words (x ∷ xs) = x.code ∷ x.number ∷ answer_words xs

-- REFERENCE 9.5 to 9.7
unfoldable pub accepted : Lent → AfterRun
unfolding load save answers last
accepted l =
    let m = fresh (load l.start) in
    let calls = calls_of l.calls in
    let image = save (present (last (parameters_of l) m calls)) in
    record {
      code = 0;
      done = length calls;
      words = length image;
      answers = overwritten (answer_words (answers (parameters_of l) m calls)) l.answers;
      end = overwritten image l.end;
    }

-- a refused list returns its code, the number beside it and 0, and writes nowhere
unfoldable pub refused : ℕ → ℕ → Lent → AfterRun
refused code number l = record { code = code; done = number; words = 0; answers = l.answers; end = l.end }

unfoldable pub run : Lent → AfterRun
unfolding list_refusal list_number accepted refused
run l = let r = list_refusal l in (r == 0) ⇒ accepted l else refused r (list_number l) l

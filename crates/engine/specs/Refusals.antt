-- The refusals of a list, from the start's words, the type rows and the lengths of all that is lent.
use Rattle.engine.specs.declared.run.RunResult.{RunResult}
use Rattle.std.specs.Prelude.{ℕ, ◌*◌, ◌/◌, ◌%◌, ◌≡◌, Bool, not, ◌&&◌, List, ltb, length, ◌==◌, ⊤, Result, Ok, Err}
use Rattle.lists.specs.Choice.{◌⇒◌else◌, within}
use Rattle.graph.specs.Limits.{most_vertices, most_edges, most_changes}
use Rattle.machine.specs.Run.{Lent}
use Rattle.image_check.specs.declared.BadImage.{BadImage}
use Rattle.image_check.specs.declared.BadImage.TheVariants.{Header, Record, Incidence}
use Rattle.engine.specs.declared.list_refusal.ListRefusal.{ListRefusal}
use Rattle.engine.specs.declared.list_refusal.ListRefusal.TheVariants.{
  BadCalls,
  ShortAnswers,
  BadCapacity,
  BadRows,
  BadStart,
  ShortImage,
  BadRecord,
  BadIncidence,
  ShortCopies,
  BadList,
  NoFailure,
}

-- REFERENCE 8
abbrev pub list_code : ListRefusal → ℕ
list_code BadCalls = 101
list_code ShortAnswers = 102
list_code BadCapacity = 103
list_code BadRows = 104
list_code BadStart = 105
list_code ShortImage = 106
list_code (BadRecord offset) = 108
list_code (BadIncidence offset) = 109
list_code ShortCopies = 113
list_code BadList = 114
list_code NoFailure = 115

-- the number beside the code: the offset of the first bad word, else 0
abbrev pub list_offset : ListRefusal → ℕ
list_offset BadCalls = 0
list_offset ShortAnswers = 0
list_offset BadCapacity = 0
list_offset BadRows = 0
list_offset BadStart = 0
list_offset ShortImage = 0
list_offset (BadRecord offset) = offset
list_offset (BadIncidence offset) = offset
list_offset ShortCopies = 0
list_offset BadList = 0
list_offset NoFailure = 0

-- of what is tried: 0 where it is not refused
abbrev pub code_if_refused : Result ⊤ ListRefusal → ℕ
code_if_refused (Ok _) = 0
code_if_refused (Err r) = list_code r

abbrev pub number_if_refused : Result ⊤ ListRefusal → ℕ
number_if_refused (Ok _) = 0
number_if_refused (Err r) = list_offset r

-- a start image that is bad
abbrev pub of_image : BadImage → ListRefusal
of_image Header = BadStart
of_image (Record offset) = BadRecord offset
of_image (Incidence offset) = BadIncidence offset

-- REFERENCE 12.1
abbrev pub in_limits : ℕ → ℕ → ℕ → Bool
in_limits vertices edges changes =
    within 1 most_vertices vertices && within 1 most_edges edges && within 1 most_changes changes

-- 101 to 103, which go by lengths alone
abbrev pub lengths_code : ℕ → ℕ → ℕ → ℕ → ℕ → ℕ
lengths_code calls answers vertices edges journal =
    not (calls % 5 == 0) ⇒ 101 else
    ltb answers (2 * (calls / 5)) ⇒ 102 else
    not (in_limits (vertices / 8) (edges / 12) (journal / 12)) ⇒ 103 else
    0

-- what is lent has this start, these rows and these lengths
pub record Lends (l : Lent) (start rows : List ℕ) (calls vertices edges journal answers image : ℕ) : Type 0 where
  pub start_is : l.start ≡ start
  pub rows_are : l.rows ≡ rows
  pub calls_are : length l.calls ≡ calls
  pub vertices_are : l.vertex_table ≡ vertices
  pub edges_are : l.edge_table ≡ edges
  pub journal_is : l.change_table ≡ journal
  pub answers_are : length l.answers ≡ answers
  pub image_is : length l.end ≡ image

-- what a refused list returns
abbrev pub refused_result : ListRefusal → RunResult
refused_result r = record { code = list_code r; done = list_offset r; words = 0 }

-- The programs chartrun and chartresume, from the bytes that they read to the bytes that they write.
use Rattle.std.specs.Prelude.{ℕ, ◌*◌, List, [], ◌∷◌, take, ◌==◌}
use Rattle.lists.specs.Choice.{◌⇒◌else◌}
use Rattle.graph.specs.Graph.{empty}
use Rattle.graph.specs.WellFormed.{Bounds}
use Rattle.image.specs.Image.{save, load}
use Rattle.image_check.specs.Checks.{load_code, load_offset}
use Rattle.history.specs.Machine.{Machine, fresh, present}
use Rattle.machine.specs.Calls.{Parameters, bounds_in}
use Rattle.commands.specs.Calls.{calls_of}
use Rattle.machine.specs.Machine.{answers, last}
use Rattle.machine.specs.Run.{answer_words}
use Rattle.text.specs.Reading.{Verdict, calls, unreadable, read_text}
use Rattle.text.specs.Writing.{write_text, unreadable_text, refused_line}
use Rattle.resume_text.specs.Input.{Input, saved, bad_line, read_input}

-- REFERENCE 11.1
abbrev pub program_parameters : Parameters
program_parameters = record { rows = 0 ∷ 0 ∷ 2 ∷ 2 ∷ 0 ∷ []; vertices = 200; edges = 800; changes = 1000 }

-- nothing at the start
abbrev pub begin : Machine
begin = fresh empty

-- REFERENCE 11.4, for input that can be read: the answers to the calls on a machine, and the image of its last graph
unfoldable pub reply_from : Machine → List ℕ → List ℕ
unfolding answers last save write_text
reply_from m words = write_text (answer_words (answers program_parameters m (calls_of words)))
    (save (present (last program_parameters m (calls_of words))))

abbrev pub reply : List ℕ → List ℕ
reply words = reply_from begin words

unfoldable pub reply_to : Verdict → List ℕ
unfolding reply_from unreadable_text
reply_to (calls words) = reply words
reply_to (unreadable n) = unreadable_text n

unfoldable pub transcript : List ℕ → List ℕ
unfolding read_text reply_to
transcript bytes = reply_to (read_text bytes)

-- ---- from a saved graph

abbrev pub program_bounds : Bounds
program_bounds = bounds_in program_parameters

-- REFERENCE 11.10: the reply from a start that loads; of another its code, and the offset where there is one
unfoldable pub response : List ℕ → List ℕ → List ℕ
unfolding reply_from refused_line
response start words =
    (load_code program_bounds start == 0) ⇒ reply_from (fresh (load start)) words
    else refused_line (load_code program_bounds start) (load_offset program_bounds start)

unfoldable pub response_to : Input → List ℕ
unfolding response unreadable_text
response_to (saved start words) = response start words
response_to (bad_line n) = unreadable_text n

unfoldable pub resumption : List ℕ → List ℕ
unfolding read_input response_to
resumption bytes = response_to (read_input bytes)

-- ---- as the code gives it

-- the text of what a run left: its answers and its image; of a refused list the code and the number beside it
unfoldable pub run_text : ℕ → ℕ → ℕ → List ℕ → List ℕ → List ℕ
unfolding write_text refused_line
run_text code done words answers image =
    (code == 0) ⇒ write_text (take (2 * done) answers) (take words image) else refused_line code done

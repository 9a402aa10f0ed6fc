-- Seven (REFERENCE 15.1) and its twelve cases.
use Rattle.std.specs.Prelude.{ℕ, List, [], ◌∷◌}
use Rattle.lists.specs.Choice.{to_bit}
use Rattle.graph.specs.declared.Reading.TheVariants.{Untested}
use Rattle.graph.specs.Graph.{Vertex, Edge, Graph, empty, list_of}
use Rattle.type_rows.specs.Types.{below}
use Rattle.graph.specs.Changes.{changed}
use Rattle.graph.specs.Questions as questions
use Rattle.image.specs.Image.{save}
use Rattle.history.specs.Machine.{Machine, stands, fresh, present}
use Rattle.graph.specs.Same.{alters}
use Rattle.history.specs.Machine.{step_of}
use Rattle.commands.specs.Calls.{Call}
use Rattle.commands.specs.Commands.{change_of, history_of, question_of, command_of}
use Rattle.machine.specs.Calls.{Parameters}
use Rattle.machine.specs.Codes.{refusal}
use Rattle.machine.specs.Machine.{answer_to, step_to, answers, last}
use Rattle.machine.specs.Run.{answer_words}

-- what the cases and the examples of codes are run with
abbrev pub parameters : Parameters
parameters = record { rows = 0 ∷ []; vertices = 10; edges = 10; changes = 20 }

abbrev pub call : ℕ → ℕ → ℕ → ℕ → ℕ → Call
call k a b c d = record { kind = k; a = a; b = b; c = c; d = d }

abbrev pub plain_vertex : ℕ → List ℕ → Vertex
plain_vertex n ws = record { number = n; type = 0; value = 0; incidences = ws }

abbrev pub untested : ℕ → ℕ → ℕ → Edge
untested n a o = record { number = n; alpha = a; omega = o; type = 0; reading = Untested }

-- as a literal
abbrev pub seven : Graph
seven = record {
  vseq =
      plain_vertex 1 (2 ∷ 3 ∷ 4 ∷ 6 ∷ 9 ∷ 11 ∷ []) ∷ plain_vertex 2 (5 ∷ 7 ∷ 8 ∷ 13 ∷ []) ∷
      plain_vertex 3 [] ∷ plain_vertex 4 (10 ∷ 12 ∷ 14 ∷ 15 ∷ []) ∷ [];
  eseq =
      untested 1 1 1 ∷ untested 2 1 2 ∷ untested 3 1 2 ∷ untested 4 2 1 ∷
      untested 5 4 1 ∷ untested 6 4 2 ∷ untested 7 4 4 ∷ [];
}

-- proofs/Cases shows that these calls make it from the empty graph
abbrev pub making : List Call
making =
    call 1 1 0 0 0 ∷ call 1 2 0 0 0 ∷ call 1 3 0 0 0 ∷ call 1 4 0 0 0 ∷
    call 3 1 1 1 0 ∷ call 3 2 1 2 0 ∷ call 3 3 1 2 0 ∷ call 3 4 2 1 0 ∷
    call 3 5 4 1 0 ∷ call 3 6 4 2 0 ∷ call 3 7 4 4 0 ∷ []

-- the list of v as the calls build it from the empty graph
unfoldable pub built_list : ℕ → List ℕ
unfolding last step_to command_of change_of history_of question_of alters refusal step_of changed
built_list v = list_of (present (last parameters (fresh empty) making)) v

-- each case starts anew: the machine after the calls, and the words of their answers
unfoldable pub then : List Call → Machine
unfolding last step_to command_of change_of history_of question_of alters refusal step_of changed
then xs = last parameters (fresh seven) xs

unfoldable pub answers_after : List Call → List ℕ
unfolding answers answer_to step_to command_of change_of history_of question_of alters refusal step_of changed below
    questions.degree
answers_after xs = answer_words (answers parameters (fresh seven) xs)

abbrev pub list_after : List Call → ℕ → List ℕ
list_after xs v = list_of (present (then xs)) v

-- deleting is kind 2 here
abbrev pub delete : ℕ → Call
delete v = call 2 v 0 0 0

abbrev pub ask_degree : ℕ → ℕ → Call
ask_degree v c = call 45 v 0 c 0

abbrev pub mark : ℕ → Call
mark k = call 17 k 0 0 0

abbrev pub goto : ℕ → Call
goto k = call 21 k 0 0 0

abbrev pub undo : Call
undo = call 19 0 0 0 0

abbrev pub redo : Call
redo = call 20 0 0 0 0

-- whether mark k stands, as a word
abbrev pub stands_after : List Call → ℕ → List ℕ
stands_after xs k = to_bit (stands ((then xs).marks k)) ∷ []

pub data Letter : Type 0 where
  A B C D E F G H I J K L : Letter

-- what the plain machine gives, and what REFERENCE 15.2 says
pub record Case : Type 0 where
  pub letter : Letter
  pub found : List ℕ
  pub said : List ℕ

abbrev pub case_row : Letter → List ℕ → List ℕ → Case
case_row l f s = record { letter = l; found = f; said = s }

-- REFERENCE 15.2; an answer is a code and a number
unfoldable pub twelve : List Case
unfolding built_list then answers_after save
twelve =
    case_row A (built_list 1) (2 ∷ 3 ∷ 4 ∷ 6 ∷ 9 ∷ 11 ∷ []) ∷
    case_row B (built_list 2) (5 ∷ 7 ∷ 8 ∷ 13 ∷ []) ∷
    case_row C (built_list 4) (10 ∷ 12 ∷ 14 ∷ 15 ∷ []) ∷
    case_row D (answers_after (ask_degree 3 0 ∷ [])) (0 ∷ 0 ∷ []) ∷
    case_row E (answers_after (ask_degree 1 0 ∷ ask_degree 1 1 ∷ ask_degree 1 2 ∷ [])) (0 ∷ 6 ∷ 0 ∷ 3 ∷ 0 ∷ 3 ∷ []) ∷
    case_row F (answers_after (delete 1 ∷ [])) (0 ∷ 6 ∷ []) ∷
    case_row F (list_after (delete 1 ∷ []) 4) (12 ∷ 14 ∷ 15 ∷ []) ∷
    case_row G (list_after (delete 1 ∷ undo ∷ []) 4) (10 ∷ 12 ∷ 14 ∷ 15 ∷ []) ∷
    case_row G (save (present (then (delete 1 ∷ undo ∷ [])))) (save seven) ∷
    case_row H (list_after (call 15 3 2 0 0 ∷ []) 1) (3 ∷ 2 ∷ 4 ∷ 6 ∷ 9 ∷ 11 ∷ []) ∷
    case_row I (list_after (call 10 2 2 0 0 ∷ []) 2) (7 ∷ 8 ∷ 13 ∷ 5 ∷ []) ∷
    case_row J (answers_after (mark 5 ∷ undo ∷ [])) (0 ∷ 0 ∷ 14 ∷ 0 ∷ []) ∷
    case_row J (stands_after (mark 5 ∷ undo ∷ []) 5) (1 ∷ []) ∷
    case_row K (answers_after (delete 3 ∷ mark 5 ∷ undo ∷ delete 4 ∷ [])) (0 ∷ 1 ∷ 0 ∷ 0 ∷ 0 ∷ 1 ∷ 0 ∷ 4 ∷ []) ∷
    case_row K (stands_after (delete 3 ∷ mark 5 ∷ undo ∷ delete 4 ∷ []) 5) (0 ∷ []) ∷
    case_row L (answers_after (mark 5 ∷ delete 3 ∷ undo ∷ redo ∷ goto 5 ∷ []))
    (0 ∷ 0 ∷ 0 ∷ 1 ∷ 0 ∷ 1 ∷ 0 ∷ 1 ∷ 0 ∷ 1 ∷ []) ∷
    []

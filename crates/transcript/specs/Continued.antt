-- What chartrun leaves behind a list, for the law that chartresume goes on from there (REFERENCE 11.12).
use Rattle.std.specs.Prelude.{ℕ, ◌≡◌, List, [], ◌∷◌, ◌++◌}
use Rattle.image.specs.Image.{save}
use Rattle.history.specs.Machine.{Machine, present}
use Rattle.commands.specs.Calls.{calls_of}
use Rattle.machine.specs.Machine.{answers, last}
use Rattle.machine.specs.Run.{answer_words}
use Rattle.text.specs.Writing.{image_word, line_of, answer_line, answer_lines}
use Rattle.transcript.specs.Transcript.{program_parameters, begin, transcript, resumption}

-- of a list of these words: the machine behind it, the lines of its answers, and the line of its image
abbrev pub ended : List ℕ → Machine
ended ws = last program_parameters begin (calls_of ws)

abbrev pub answers_to : List ℕ → List ℕ
answers_to ws = answer_lines (answer_words (answers program_parameters begin (calls_of ws)))

abbrev pub end_line : List ℕ → List ℕ
end_line ws = line_of image_word (save (present (ended ws)))

-- the lines 22 0 0 0 0, a commit, and 58 0 0 0 0, which sets bench 0
abbrev pub commit_line : List ℕ
commit_line = 50 ∷ 50 ∷ 32 ∷ 48 ∷ 32 ∷ 48 ∷ 32 ∷ 48 ∷ 32 ∷ 48 ∷ 10 ∷ []

abbrev pub bench_line : List ℕ
bench_line = 53 ∷ 56 ∷ 32 ∷ 48 ∷ 32 ∷ 48 ∷ 32 ∷ 48 ∷ 32 ∷ 48 ∷ 10 ∷ []

-- what a commit behind the list is answered by: done, and the place until then
abbrev pub commit_answer : List ℕ → List ℕ
commit_answer ws = answer_line 0 (ended ws).line.place

-- chartresume on the last line that chartrun writes for a first text, and a second text, writes what chartrun writes
-- for the first text, a commit and the second, from behind the answer to the commit on
pub record GoesOn (ws first second : List ℕ) : Type 0 where
  pub last_line : transcript first ≡ answers_to ws ++ end_line ws
  pub behind_commit : transcript (first ++ (commit_line ++ second))
      ≡ answers_to ws ++ (commit_answer ws ++ resumption (end_line ws ++ second))

-- the same with bench 0 set before the commit
pub record GoesOnAtBench0 (ws first second : List ℕ) : Type 0 where
  pub last_line : transcript first ≡ answers_to ws ++ end_line ws
  pub behind_commit : transcript (first ++ (bench_line ++ (commit_line ++ second)))
      ≡ answers_to ws ++ (answer_line 0 0 ++ (commit_answer ws ++ resumption (end_line ws ++ second)))

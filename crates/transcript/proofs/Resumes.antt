-- What chartresume writes for chartrun's last line and more calls is what chartrun writes behind a commit.
use Prim.Native.Nat.{ℕ, ◌+◌, ◌%◌, ◌≤◌}
use mathlib.Core.Path.{◌≡◌, refl, sym, ap, ◌∙◌}
use mathlib.Core.List.{List, [], ◌∷◌, ◌++◌, append_assoc}
use native.Mathlib.Omega.{arith}
use lib.ListN.{length, length-append}
use borrow.Author.Tests.{eq-eqb}
use Rattle.graph.specs.Graph.{Graph, empty}
use Rattle.graph.specs.WellFormed.{well_formed}
use Rattle.image.specs.Image.{save}
use Rattle.image_check.specs.Checks.{load_code}
use Rattle.image_check.proofs.LoadCodes.{code_loads}
use Rattle.image.proofs.Loads.{saved_same, saved_loads}
use Rattle.image.proofs.Room.{image_fits}
use Rattle.image.proofs.WordSize.{InRange, image_small}
use Rattle.history.specs.Machine.{Machine, fresh, fresh_at, present, with_bench}
use Rattle.commands.specs.Calls.{Call, five, calls_of}
use Rattle.commands.specs.Commands.{command_of}
use Rattle.machine.specs.Machine.{answer, answers, answer_to, step, step_to, last}
use Rattle.machine.specs.Codes.{refusal}
use Rattle.machine.specs.Run.{answer_words}
use Rattle.machine.proofs.AnswerBounds.{calls_fit}
use Rattle.machine.proofs.Graphs.{Formed, end_formed}
use Rattle.machine.proofs.Laws.{commit_made}
use Rattle.decimal.specs.Decimal.{value_of}
use Rattle.text.specs.Reading.{calls, pieces, on_first, good_number, good_line, line_count, first_bad, words_in, read_text}
use Rattle.text.specs.Writing.{image_word, line_of, answer_line, answer_lines, write_text}
use Rattle.text.proofs.Texts.{numbers_most}
use Rattle.text.proofs.Accepts.{five_a_line}
use Rattle.text.proofs.ImageLineBack.{image_length}
use Rattle.resume_text.proofs.Appended.{appended, read_fit, saved_appended}
use Rattle.transcript.specs.Transcript.{program_parameters, program_bounds, begin, reply_from, reply_to, transcript, response, response_to, resumption}
use Rattle.transcript.specs.Continued.{ended, answers_to, end_line, commit_line, bench_line, GoesOn, GoesOnAtBench0}

-- ---- a reply, call by call

-- the lines of the answers on a machine
abbrev answers_from : Machine → List ℕ → List ℕ
answers_from m ws = answer_lines (answer_words (answers program_parameters m (calls_of ws)))

-- the line of one answer
abbrev answer_on : Machine → Call → List ℕ
answer_on m x = answer_line (answer program_parameters m x).code (answer program_parameters m x).number

reply_call : (m : Machine) (k a b c d : ℕ) (vs : List ℕ) →
    reply_from m (k ∷ a ∷ b ∷ c ∷ d ∷ vs) ≡ answer_on m (five k a b c d) ++ reply_from (step program_parameters m (five k a b c d)) vs
unfolding reply_from answers last write_text answer_lines
reply_call m k a b c d vs =
    let n = step program_parameters m (five k a b c d) in
    append_assoc (answer_on m (five k a b c d)) (answers_from n vs) (line_of image_word (save (present (last program_parameters n (calls_of vs)))))

reply_append : (m : Machine) (ws vs : List ℕ) → length ws % 5 ≡ 0 →
    reply_from m (ws ++ vs) ≡ answers_from m ws ++ reply_from (last program_parameters m (calls_of ws)) vs
unfolding answers last answer_lines
reply_append m [] vs h = refl
reply_append m (k ∷ a ∷ b ∷ c ∷ d ∷ ws) vs h =
    let n = step program_parameters m (five k a b c d) in
    reply_call m k a b c d (ws ++ vs)
    ∙ ap (λ (l : List ℕ). answer_on m (five k a b c d) ++ l) (reply_append n ws vs (omega arith))
    ∙ sym (append_assoc (answer_on m (five k a b c d)) (answers_from n ws) (reply_from (last program_parameters n (calls_of ws)) vs))
reply_append m (k ∷ []) vs h = absurd (omega arith)
reply_append m (k ∷ a ∷ []) vs h = absurd (omega arith)
reply_append m (k ∷ a ∷ b ∷ []) vs h = absurd (omega arith)
reply_append m (k ∷ a ∷ b ∷ c ∷ []) vs h = absurd (omega arith)

reply_whole : (ws : List ℕ) → reply_from begin ws ≡ answers_to ws ++ end_line ws
unfolding reply_from write_text
reply_whole ws = refl

-- behind a commit the machine is as it begins, but for the bench
reply_commit : (m : Machine) (vs : List ℕ) → m.bench ≡ 0 →
    reply_from m (22 ∷ 0 ∷ 0 ∷ 0 ∷ 0 ∷ vs) ≡ answer_line 0 m.line.place ++ reply_from (fresh (present m)) vs
unfolding command_of
reply_commit m vs z =
    let c = commit_made program_parameters m in
    let a : answer program_parameters m (five 22 0 0 0 0) ≡ record { code = 0; number = m.line.place } = c.0 in
    let s : step program_parameters m (five 22 0 0 0 0) ≡ fresh (present m) = c.1 ∙ ap (λ (b : ℕ). fresh_at b (present m)) z in
    reply_call m 22 0 0 0 0 vs
    ∙ (λ i. answer_line (a i).code (a i).number ++ reply_from (s i) vs)

-- kind 58 with 0 sets bench 0, and nothing else
reply_bench : (m : Machine) (vs : List ℕ) →
    reply_from m (58 ∷ 0 ∷ 0 ∷ 0 ∷ 0 ∷ vs) ≡ answer_line 0 0 ++ reply_from (with_bench 0 m) vs
unfolding command_of answer_to step_to refusal
reply_bench m vs = reply_call m 58 0 0 0 0 vs

-- ---- from the words of a saved graph

empty_formed : Formed program_parameters empty
unfolding well_formed
empty_formed = refl

in_range : InRange program_bounds
in_range = record { vertices = omega arith; edges = omega arith; types = omega arith }

module _ (g : Graph) (h : Formed program_parameters g) where
  saved_response : (vs : List ℕ) → response (save g) vs ≡ reply_from (fresh g) vs
  unfolding response
  saved_response vs =
      rw (eq-eqb (load_code program_bounds (save g)) 0 ((code_loads program_bounds (save g)).1 (saved_loads program_bounds g h)))
      (ap (λ (x : Graph). reply_from (fresh x) vs) (saved_same program_bounds g h))

  line_short : length (line_of image_word (save g)) ≤ 400000
  line_short = omega (arith, image_length (save g), numbers_most (save g), image_fits program_bounds g h)

  pub saved_resumption : (second vs : List ℕ) → read_text second ≡ calls vs →
      resumption (line_of image_word (save g) ++ second) ≡ reply_from (fresh g) vs
  unfolding resumption response_to
  saved_resumption second vs e =
      ap response_to (saved_appended (save g) second vs (image_small program_bounds in_range g h) line_short e) ∙ saved_response vs

-- ---- the law

commit_read : read_text commit_line ≡ calls (22 ∷ 0 ∷ 0 ∷ 0 ∷ 0 ∷ [])
unfolding read_text pieces on_first line_count first_bad good_line good_number value_of words_in
commit_read = refl

bench_read : read_text bench_line ≡ calls (58 ∷ 0 ∷ 0 ∷ 0 ∷ 0 ∷ [])
unfolding read_text pieces on_first line_count first_bad good_line good_number value_of words_in
bench_read = refl

module _ (first second ws vs : List ℕ) (e : read_text first ≡ calls ws) (f : read_text second ≡ calls vs) where
  end_graph : Formed program_parameters (present (ended ws))
  end_graph = end_formed program_parameters empty (calls_of ws) empty_formed (calls_fit (read_fit first ws e))

  first_said : transcript first ≡ answers_to ws ++ end_line ws
  unfolding transcript reply_to
  first_said = ap reply_to e ∙ reply_whole ws

  -- behind the first list comes whatever its machine replies
  then_said : (more us : List ℕ) → read_text more ≡ calls us → length (first ++ more) ≤ 60000 → length ws + length us ≤ 5000 →
      transcript (first ++ more) ≡ answers_to ws ++ reply_from (ended ws) us
  unfolding transcript reply_to
  then_said more us g short few =
      ap reply_to (appended first more ws us e g short (omega (arith, length-append ws us)))
      ∙ reply_append begin ws us (omega (arith, five_a_line first ws e))

  commit_appended : length (commit_line ++ second) ≤ 60000 → length vs + 5 ≤ 5000 →
      read_text (commit_line ++ second) ≡ calls (22 ∷ 0 ∷ 0 ∷ 0 ∷ 0 ∷ vs)
  commit_appended short few = appended commit_line second (22 ∷ 0 ∷ 0 ∷ 0 ∷ 0 ∷ []) vs commit_read f short (omega arith)

  commit_said : (m : Machine) → m.bench ≡ 0 → present m ≡ present (ended ws) →
      reply_from m (22 ∷ 0 ∷ 0 ∷ 0 ∷ 0 ∷ vs) ≡ answer_line 0 m.line.place ++ resumption (end_line ws ++ second)
  commit_said m z p =
      reply_commit m vs z
      ∙ ap (λ (g : Graph). answer_line 0 m.line.place ++ reply_from (fresh g) vs) p
      ∙ ap (λ (l : List ℕ). answer_line 0 m.line.place ++ l) (sym (saved_resumption (present (ended ws)) end_graph second vs f))

  -- where bench 0 is set as the first list ends
  pub goes_on : length (first ++ (commit_line ++ second)) ≤ 60000 → length ws + 5 + length vs ≤ 5000 → (ended ws).bench ≡ 0 →
      GoesOn ws first second
  goes_on short few z =
      let n = length-append first (commit_line ++ second) in
      record {
        last_line = first_said;
        behind_commit = then_said (commit_line ++ second) (22 ∷ 0 ∷ 0 ∷ 0 ∷ 0 ∷ vs) (commit_appended (omega (arith, n)) (omega arith)) short (omega arith)
            ∙ ap (λ (l : List ℕ). answers_to ws ++ l) (commit_said (ended ws) z refl);
      }

  -- whatever bench is set
  pub goes_on_at_bench_0 : length (first ++ (bench_line ++ (commit_line ++ second))) ≤ 60000 → length ws + 10 + length vs ≤ 5000 →
      GoesOnAtBench0 ws first second
  goes_on_at_bench_0 short few =
      let n = length-append first (bench_line ++ (commit_line ++ second)) in
      let us : List ℕ = 22 ∷ 0 ∷ 0 ∷ 0 ∷ 0 ∷ vs in
      let r : read_text (bench_line ++ (commit_line ++ second)) ≡ calls (58 ∷ 0 ∷ 0 ∷ 0 ∷ 0 ∷ us) =
      appended bench_line (commit_line ++ second) (58 ∷ 0 ∷ 0 ∷ 0 ∷ 0 ∷ []) us bench_read (commit_appended (omega (arith, n)) (omega arith)) (omega (arith, n)) (omega arith) in
      record {
        last_line = first_said;
        behind_commit = then_said (bench_line ++ (commit_line ++ second)) (58 ∷ 0 ∷ 0 ∷ 0 ∷ 0 ∷ us) r short (omega arith)
            ∙ ap (λ (l : List ℕ). answers_to ws ++ l) (reply_bench (ended ws) us)
            ∙ ap (λ (l : List ℕ). answers_to ws ++ (answer_line 0 0 ++ l)) (commit_said (with_bench 0 (ended ws)) refl refl);
      }

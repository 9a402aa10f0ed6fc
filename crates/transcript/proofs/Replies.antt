-- The list that the programs run is refused for its start alone, and what the run leaves is what the response shows.
use Prim.Native.Nat.{ℕ, ◌*◌, ◌/◌, ◌%◌, ◌≤◌}
use mathlib.Core.Path.{◌≡◌, refl, sym, ap, ◌∙◌}
use mathlib.Core.List.{List, [], ◌∷◌}
use native.Mathlib.Omega.{arith}
use lib.ListN.{length, take}
use borrow.Author.Tests.{le-ltb, eq-eqb, ne_eqb}
use Rattle.lists.specs.Lists.{overwritten}
use Rattle.lists.proofs.Picks.{same, differ, same?}
use Rattle.image.specs.Image.{load, save}
use Rattle.image_check.specs.Checks.{code_of, offset_of, verdict, load_code, load_offset}
use Rattle.history.specs.Machine.{fresh, present}
use Rattle.commands.specs.Calls.{calls_of}
use Rattle.machine.specs.Machine.{answers, last}
use Rattle.machine.specs.Run.{Lent, AfterRun, list_refusal, list_number, number_beside, refused, run, answer_words}
use Rattle.machine.proofs.ListRows.{start_rows}
use Rattle.machine.proofs.BadStart.{record_number, incidence_number, no_number}
use Rattle.machine.proofs.Whole.{demand_3, answers_length}
use Rattle.decimal.proofs.Stores.{over_front, over_fits}
use Rattle.std.specs.Prelude.{Result, Ok, Err}
use Rattle.text.specs.declared.reading.Unreadable.{Unreadable}
use Rattle.text.specs.Reading.{read_text, call_words, verdict_of}
use Rattle.text.specs.Writing.{write_text, unreadable_text, refused_line}
use Rattle.text.proofs.Verdicts.{told_calls, told_unreadable}
use Rattle.text.proofs.Accepts.{five_a_line, words_most}
use Rattle.engine.specs.declared.run.RunResult.{RunResult}
use Rattle.engine.specs.Outcomes.{run_result}
use Rattle.engine.proofs.Demand.{leaves_refused}
use Rattle.transcript.specs.Transcript.{program_parameters, program_bounds, reply, reply_from, reply_to, transcript, response, run_text}
use Rattle.std.specs.Prelude.{Ok, Err}
use Rattle.image_check.specs.declared.BadImage.TheVariants.{Header, Record, Incidence}
use Rattle.image_check.specs.Checks.{Verdict}

-- what the programs lend beside start and calls
abbrev pub lends : List ℕ → List ℕ → List ℕ → List ℕ → Lent
lends start calls answers end = record {
  start = start;
  rows = program_parameters.rows;
  calls = calls;
  vertex_table = 1600;
  edge_table = 9600;
  change_table = 12000;
  answers = answers;
  end = end;
}

start_rows_lem : (v : Verdict) → start_rows v 0 ≡ code_of v
unfolding start_rows
start_rows_lem (Ok tt) = refl
start_rows_lem (Err Header) = refl
start_rows_lem (Err (Record at)) = refl
start_rows_lem (Err (Incidence at)) = refl

beside : (v : Verdict) → number_beside (code_of v) (offset_of v) ≡ offset_of v
beside (Ok tt) = refl
beside (Err Header) = refl
beside (Err (Record at)) = refl
beside (Err (Incidence at)) = refl

-- ---- the text of what a run left

module _ (code done words : ℕ) (slice end : List ℕ) where
  pub run_shown : code ≡ 0 → write_text (take (2 * done) slice) (take words end) ≡ run_text code done words slice end
  unfolding run_text
  run_shown e = rw (eq-eqb code 0 e)

  pub run_told : (code ≡ 0 → ⊥) → refused_line code done ≡ run_text code done words slice end
  unfolding run_text
  run_told n = rw (ne_eqb code 0 n)

-- of start and calls: code and number of the run, the words of the image, and the two slices that it wrote
pub record Shows (start ws : List ℕ) (code done words : ℕ) (slice end : List ℕ) : Type 0 where
  pub calls_fit : code ≡ 0 → 2 * done ≤ 2000
  pub words_fit : code ≡ 0 → words ≤ 7206
  pub number_fits : (code ≡ 0 → ⊥) → done ≤ length start
  pub text : run_text code done words slice end ≡ response start ws

module _ (start ws slice end : List ℕ) (whole : length ws % 5 ≡ 0) (few : length ws ≤ 5000) (a : length slice ≡ 2000) (b : length end ≡ 7206) where
  list_code : list_refusal (lends start ws slice end) ≡ load_code program_bounds start
  unfolding list_refusal start_rows
  list_code =
      let p : 2 * (length ws / 5) ≤ 2000 = omega arith in
      rw (whole, a, le-ltb _ _ p, b) (start_rows_lem (verdict program_bounds start))

  list_number_lem : list_number (lends start ws slice end) ≡ load_offset program_bounds start
  unfolding list_number
  list_number_lem = rw list_code (beside (verdict program_bounds start))

  number_inside : list_number (lends start ws slice end) ≤ length start
  number_inside =
      let l = lends start ws slice end in
      elim (same? (list_refusal l) 108) [
        | same e f ↦ omega (arith, (record_number l e).0.inside)
        | differ e f ↦
            elim (same? (list_refusal l) 109) [
              | same g h ↦ omega (arith, (incidence_number l g).0.inside)
              | differ g h ↦ omega (arith, no_number l e g)
            ]
      ]

  module _ (r : RunResult) (slice' end' : List ℕ) (p : length slice' ≡ 2000) (q : length end' ≡ 7206) (e : run_result r slice' end' ≡ run (lends start ws slice end)) where
    -- the run of a start that loads, cut to the calls done and the words of the image
    accepted_shows : load_code program_bounds start ≡ 0 → Shows start ws r.code r.done r.words slice' end'
    unfolding response reply_from run_text
    accepted_shows z =
        let d = demand_3 (lends start ws slice end) (list_code ∙ z) in
        let A = answer_words (answers program_parameters (fresh (load start)) (calls_of ws)) in
        let G = save (present (last program_parameters (fresh (load start)) (calls_of ws))) in
        let code : r.code ≡ 0 = ap (λ (x : AfterRun). x.code) e ∙ d.code in
        let done : 2 * r.done ≡ length A = ap (λ (n : ℕ). 2 * n) (ap (λ (x : AfterRun). x.done) e ∙ d.done) ∙ sym (answers_length program_parameters (fresh (load start)) (calls_of ws)) in
        let words : r.words ≡ length G = ap (λ (x : AfterRun). x.words) e ∙ d.words in
        let answered : slice' ≡ overwritten A slice = ap (λ (x : AfterRun). x.answers) e ∙ d.answered in
        let saved : end' ≡ overwritten G end = ap (λ (x : AfterRun). x.end) e ∙ d.saved in
        record {
          calls_fit = λ _. over_fits A slice slice' (2 * r.done) 2000 done answered p;
          words_fit = λ _. over_fits G end end' r.words 7206 words saved q;
          number_fits = λ n. absurd (n code);
          text = rw (eq-eqb r.code 0 code, eq-eqb (load_code program_bounds start) 0 z)
              (λ i. write_text (over_front A slice slice' (2 * r.done) done answered i) (over_front G end end' r.words words saved i));
        }

    refused_shows : (load_code program_bounds start ≡ 0 → ⊥) → Shows start ws r.code r.done r.words slice' end'
    unfolding response run_text refused
    refused_shows n =
        let l = lends start ws slice end in
        let f = leaves_refused l r slice' end' e (λ z. n (sym list_code ∙ z)) in
        let code : r.code ≡ load_code program_bounds start = ap (λ (x : AfterRun). x.code) f ∙ list_code in
        let number : r.done ≡ list_number l = ap (λ (x : AfterRun). x.done) f in
        record {
          calls_fit = λ z. absurd (n (sym code ∙ z));
          words_fit = λ z. absurd (n (sym code ∙ z));
          number_fits = λ _. omega (arith, number, number_inside);
          text = rw (code, number ∙ list_number_lem, ne_eqb (load_code program_bounds start) 0 n);
        }

    pub shows : Shows start ws r.code r.done r.words slice' end'
    shows = elim (same? (load_code program_bounds start) 0) [ same z y ↦ accepted_shows z | differ n y ↦ refused_shows n ]

-- ---- chartrun

-- the image of the graph with nothing in it
abbrev pub empty_words : List ℕ
empty_words = 0 ∷ 0 ∷ 6 ∷ 6 ∷ 6 ∷ 6 ∷ []

from_nothing : (ws : List ℕ) → response empty_words ws ≡ reply ws
unfolding response load verdict
from_nothing ws = refl

-- the calls read stand at the front of calls, n words of them
pub record CallsRead (bytes calls : List ℕ) (n : ℕ) : Type 0 where
  pub fit : n ≤ length calls
  pub whole : length (take n calls) % 5 ≡ 0
  pub few : length (take n calls) ≤ 5000
  pub text : response empty_words (take n calls) ≡ transcript bytes

module _ (bytes : List ℕ) (v : Result ℕ Unreadable) (read : v ≡ verdict_of (read_text bytes)) where
  pub calls_read : (n : ℕ) (slice slice' : List ℕ) → v ≡ Ok n → slice' ≡ overwritten (call_words (read_text bytes)) slice → CallsRead bytes slice' n
  unfolding transcript
  calls_read n slice slice' e f =
      let t = told_calls (read_text bytes) n (sym e ∙ read) in
      let ws = call_words (read_text bytes) in
      let p : take n slice' ≡ ws = over_front ws slice slice' n t.1 f in
      record {
        fit = over_fits ws slice slice' n (length slice') t.1 f refl;
        whole = omega (arith, ap length p, five_a_line bytes ws t.0);
        few = omega (arith, ap length p, words_most bytes ws t.0);
        text = from_nothing (take n slice') ∙ ap reply p ∙ sym (ap reply_to t.0);
      }

  pub unreadable_read : (u : Unreadable) → v ≡ Err u → unreadable_text u.0 ≡ transcript bytes
  unfolding transcript
  unreadable_read u e = sym (ap reply_to (told_unreadable (read_text bytes) u (sym e ∙ read)))

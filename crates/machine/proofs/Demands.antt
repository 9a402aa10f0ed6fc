-- Every list meets demands 1 and 2.
use Rattle.std.specs.Prelude.{◌==◌}
use Prim.Native.Nat.{ℕ, suc, ◌≤◌}
use mathlib.Core.Path.{◌≡◌, refl, sym, ap, ◌∙◌}
use mathlib.Core.Logic.{⊎_elim}
use mathlib.Core.Bool.{Bool, true, false}
use mathlib.Core.List.{List, [], ◌∷◌}
use native.Mathlib.Omega.{arith}
use borrow.Author.Tests.{eq-eqb, eqb-true, ne_eqb}
use Rattle.lists.specs.Lists.{All}
use Rattle.graph.specs.Graph.{Graph}
use Rattle.graph.specs.WellFormed.{well_formed}
use Rattle.image.specs.Image.{SavesAs}
use Rattle.image.proofs.Loads.{loads_back, saved_same, saved_loads, saves_loads, loads, loaded}
use Rattle.image_check.proofs.LoadCodes.{code_loads}
use Rattle.image.proofs.WordSize.{Word}
use Rattle.history.specs.Machine.{Machine}
use Rattle.commands.specs.declared.Command.{Command}
use Rattle.commands.specs.Calls.{Call, calls_of}
use Rattle.commands.specs.Commands.{command_of}
use Rattle.commands.specs.Tables.{NoneApplies}
use Rattle.machine.specs.Calls.{Parameters, bounds_in}
use Rattle.machine.specs.Codes.{code_table, refusal}
use Rattle.commands.specs.declared.Answer.{Answer}
use Rattle.machine.specs.Machine.{deed_of, answer_to, answer, answers, step}
use Rattle.machine.specs.Run.{Lent, parameters_of, list_table, list_refusal, list_number, accepted, refused, run}
use Rattle.machine.specs.Demand.{begins}
use Rattle.machine.specs.Demands.{Each, ByTable, Demand1, OfTheGraph, Demand2}
use Rattle.machine.proofs.Accepts.{refused_step}
use Rattle.machine.proofs.AnswerBounds.{calls_fit}
use Rattle.machine.proofs.Graphs.{end_formed}
use Rattle.machine.proofs.BadStart.{found}
use Rattle.machine.proofs.ListRows.{passed, start_formed}
use Rattle.machine.proofs.Lowest.{turn_to, turn_from, none_to, none_from, coded, list_code_given, list_either}
use Rattle.machine.proofs.OnWords.{on_words}
use Rattle.machine.proofs.Whole.{demand_3}

-- ---- one call

module _ (w : Parameters) (m : Machine) (x : Call) where
  pub by_table : ByTable w m x (answer w m x)
  unfolding answer_to
  by_table = record {
    refused_by = λ k. (λ e. turn_to k (code_table w m x) (on_words w m x ∙ e), λ h. sym (on_words w m x) ∙ turn_from k h);
    accepted = (λ e. none_to (code_table w m x) (coded w m x) (on_words w m x ∙ e), λ h. sym (on_words w m x) ∙ none_from h);
    number = λ n. rw (ne_eqb (refusal w m (command_of x)) 0 n);
    leaves = λ n. refused_step w m (command_of x) (ne_eqb (refusal w m (command_of x)) 0 n);
  }

  number_of : (c : Command) → command_of x ≡ c → (answer w m x).code ≡ 0 → (answer w m x).number ≡ (deed_of w c m).number
  unfolding answer_to
  number_of c e z = let t : (refusal w m (command_of x) == 0) ≡ true = eq-eqb _ 0 z in rw t (ap (λ (d : Command). (deed_of w d m).number) e)

  pub of_the_graph : OfTheGraph w m x (answer w m x)
  of_the_graph = record { question = λ q e z. number_of _ e z; price = λ p e z. number_of _ e z }

each : (P : Machine → Call → Answer → Type 0) (w : Parameters) → ((m : Machine) (x : Call) → P m x (answer w m x)) → (m : Machine) (xs : List Call) → Each P w m xs (answers w m xs)
unfolding answers
each P w f m [] = tt
each P w f m (x ∷ xs) = (f m x, each P w f (step w m x) xs)

-- ---- a list

not_refused : (l : Lent) → NoneApplies (list_table l) → list_refusal l ≡ 0
unfolding list_refusal
not_refused l h = none_from {rs = list_table l} h

pub refused_is : (l : Lent) (k : ℕ) → list_refusal l ≡ suc k → run l ≡ refused (suc k) (list_number l) l
unfolding run
refused_is l k e = rw (e, ne_eqb (suc k) 0 (omega arith))

code_is : (l : Lent) → (run l).code ≡ list_refusal l
unfolding run accepted refused
code_is l = go (list_refusal l == 0) refl
  where
    go : (t : Bool) → (list_refusal l == 0) ≡ t → (run l).code ≡ list_refusal l
    go true e = rw e (sym (eqb-true (list_refusal l) 0 e))
    go false e = rw e

-- a start that some graph saves as has none of its codes
unsaved : (l : Lent) (k : ℕ) → (run l).code ≡ k → 105 ≤ k → (106 ≡ k → ⊥) → (g : Graph) → well_formed (bounds_in (parameters_of l)) g ≡ true → SavesAs g l.start → ⊥
unsaved l k e c n g h s =
    let f = (found l k (sym (code_is l) ∙ e) c n).0 in
    let z = (code_loads (bounds_in (parameters_of l)) l.start).1 (saves_loads (bounds_in (parameters_of l)) g h l.start s) in
    omega (arith, f, z, c)

pub demand_1 : (l : Lent) (tables_stay : Type 0) → ((list_refusal l ≡ 0 → ⊥) → tables_stay) → Demand1 l (run l) tables_stay
demand_1 l T f = record {
  either = list_either l;
  refusal = λ k h. let e = (list_code_given l k).1 h in (refused_is l k e, f (λ z. omega (arith, e, z)));
  answered = λ h.
      let d = demand_3 l (not_refused l h) in (
        d.code,
        d.done,
        (
          answers (parameters_of l) (begins l) (calls_of l.calls),
          d.answered,
          each (ByTable (parameters_of l)) (parameters_of l) (by_table (parameters_of l)) (begins l)
              (calls_of l.calls),
        ),
      );
}

-- the words of the calls have 32 bits, as those of every slice that is lent
pub demand_2 : (l : Lent) → All Word l.calls → Demand2 l (run l)
demand_2 l fits = record {
  answered = λ h. (
    answers (parameters_of l) (begins l) (calls_of l.calls),
    (demand_3 l (not_refused l h)).answered,
    each (OfTheGraph (parameters_of l)) (parameters_of l) (of_the_graph (parameters_of l))
        (begins l) (calls_of l.calls),
  );
  starts = λ h. let d = loaded (bounds_in (parameters_of l)) l.start (passed l (not_refused l h)).start_loads in (d.formed, d.saves);
  refuses = λ o g h s.
      ⊎_elim (λ e. unsaved l 105 e (omega arith) (λ z. omega arith) g h s)
      (λ p. ⊎_elim (λ e. unsaved l 108 e (omega arith) (λ z. omega arith) g h s) (λ e. unsaved l 109 e (omega arith) (λ z. omega arith) g h s) p) o;
  loads = loads (bounds_in (parameters_of l));
  same = loads_back (bounds_in (parameters_of l));
  ends = λ h.
      let e = not_refused l h in
      let g = end_formed (parameters_of l) _ (calls_of l.calls) (start_formed l e) (calls_fit fits) in
      ((demand_3 l e).saved, saved_loads (bounds_in (parameters_of l)) _ g, saved_same (bounds_in (parameters_of l)) _ g);
}

-- The three demands of what `run` leaves, from its contract; and what a refused list leaves.
use mathlib.Core.Path.{◌≡◌, sym, subst}
use mathlib.Core.List.{List}
use Prim.Native.Nat.{ℕ, ◌^◌, ◌<◌}
use lib.ListN.{get_or}
use borrow.Author.Tests.{ne_eqb}
use Rattle.machine.specs.Run.{Lent, AfterRun, list_refusal, list_number, refused, run}
use Rattle.machine.specs.Demand.{Demand3}
use Rattle.machine.specs.Demands.{Demand1, Demand2}
use Rattle.machine.proofs.AnswerBounds.{all_fit}
use Rattle.machine.proofs.Demands.{demand_1, demand_2}
use Rattle.machine.proofs.Whole.{demand_3}
use Rattle.engine.specs.declared.run.RunResult.{RunResult}
use Rattle.engine.specs.Outcomes.{run_result}

module _ (l : Lent) (r : RunResult) (answers image : List ℕ) (h : run_result r answers image ≡ run l) where
  -- the tables stay by the contract's second clause
  pub meets_demand_1 : (tables_stay : Type 0) → ((list_refusal l ≡ 0 → ⊥) → tables_stay) → Demand1 l (run_result r answers image) tables_stay
  meets_demand_1 T f = subst (λ (x : AfterRun). Demand1 l x T) (sym h) (demand_1 l T f)

  -- the words of the calls have 32 bits, as a slice of such words that is lent has
  pub meets_demand_2 : ((i : ℕ) → get_or l.calls i 0 < 2 ^ 32) → Demand2 l (run_result r answers image)
  meets_demand_2 f = subst (λ (x : AfterRun). Demand2 l x) (sym h) (demand_2 l (all_fit l.calls f))

  -- every answer and the end image are the plain machine's, and the sentence on marks holds at every point of the list
  pub meets_demand_3 : list_refusal l ≡ 0 → Demand3 l (run_result r answers image)
  meets_demand_3 e = subst (λ (x : AfterRun). Demand3 l x) (sym h) (demand_3 l e)

  -- a refused list returns its code, the number beside it and 0, and writes nowhere (REFERENCE 9.8)
  pub leaves_refused : (list_refusal l ≡ 0 → ⊥) → run_result r answers image ≡ refused (list_refusal l) (list_number l) l
  unfolding run
  leaves_refused n = rw (ne_eqb (list_refusal l) 0 n) at h

use Prim.Native.Nat.{ℕ, ◌^◌, ◌<◌}
use mathlib.Core.Path.{◌≡◌, refl, sym, ap, subst, ◌∙◌}
use native.Mathlib.Omega.{arith}
use lib.ListN.{get_or}
use Rattle.machine.specs.Run.{AfterRun}
use Rattle.machine.specs.StoreRun.{LentStores, stores_refusal, run_in, Demand3In}
use Rattle.machine.specs.StoreDemands.{Demand1In, Demand2In}
use Rattle.machine.proofs.AnswerBounds.{all_fit}
use Rattle.machine.proofs.StoreDemands.{demand_1_in, demand_2_in}
use Rattle.machine.proofs.StoreWhole.{demand_3_in}
use Rattle.engine.specs.Outcomes.{lent}
use Rattle.engine.specs.Refusals.{code_if_refused}
use Rattle.engine.proofs.RefusalLaws.{code_positive}
use Rattle.engine.proofs.RunLaws.{lends}
use Rattle.stores.specs.Outcomes.{several}
use Rattle.stores.proofs.RunLaws.{run_refused, run_accepted}
use Rattle.stores.proofs.run.run.Goals as goal

-- the three demands of what is left
module _ (l : LentStores) (r : AfterRun) (h : r ≡ run_in l) where
  meets_1 : (T : Type 0) → ((stores_refusal l ≡ 0 → ⊥) → T) → Demand1In l r T
  meets_1 T f = subst (λ (x : AfterRun). Demand1In l x T) (sym h) (demand_1_in l T f)

  meets_2 : ((i : ℕ) → get_or l.lent.calls i 0 < 2 ^ 32) → Demand2In l r
  meets_2 f = subst (λ (x : AfterRun). Demand2In l x) (sym h) (demand_2_in l (all_fit l.lent.calls f))

  meets_3 : stores_refusal l ≡ 0 → Demand3In l r
  meets_3 e = subst (λ (x : AfterRun). Demand3In l x) (sym h) (demand_3_in l e)

pub returns-in-Err : goal.returns-in-Err
returns-in-Err c =
    let a = c.args in
    let l = several (lent a.start.now a.rows.now a.calls.now a.vertices.now a.edges.now a.journal.now a.answers.now a.image.now) a.stores a.limit in
    let t = rw c.in-Err.is at (c.refusal.ensures l (record { lends = lends _ _ _ _ _ _ _ _; count_is = refl })) in
    let n = code_positive c.in-Err.refused in
    let ran_as = run_refused l _ _ t.0 t.1 n in
    rw c.from.ensures record {
      image_value = ran_as;
      untouched_in = λ z. (refl, refl, refl);
      behind_stays = (refl, refl, refl);
      meets_demand1in = meets_1 l _ ran_as _ (λ z. (refl, refl, refl));
      demand2in = meets_2 l _ ran_as (λ i. omega (arith, c.type_inv.calls i));
      meets_demand3in = λ z. absurd (n z);
    }

pub accepted-requires : goal.accepted-requires
accepted-requires c = sym (c.refusal.ensures _ (record { lends = lends _ _ _ _ _ _ _ _; count_is = refl })).0 ∙ ap code_if_refused c.in_default.is

pub returns : goal.returns
returns c =
    let a = c.args in
    let l = several (lent a.start.now a.rows.now a.calls.now a.vertices.now a.edges.now a.journal.now a.answers.now a.image.now) a.stores a.limit in
    let e = sym (c.refusal.ensures l (record { lends = lends _ _ _ _ _ _ _ _; count_is = refl })).0 ∙ ap code_if_refused c.in_default.is in
    let ran_as = run_accepted l _ e c.accepted.ensures.image_after in record {
      image_value = ran_as;
      untouched_in = λ n. absurd (n e);
      behind_stays = c.accepted.ensures.behind_stays;
      meets_demand1in = meets_1 l _ ran_as _ (λ n. absurd (n e));
      demand2in = meets_2 l _ ran_as (λ i. omega (arith, c.type_inv.calls i));
      meets_demand3in = λ z. meets_3 l _ ran_as e;
    }

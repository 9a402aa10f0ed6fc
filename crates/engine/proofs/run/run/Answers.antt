use mathlib.Core.Path.{refl, sym, ap, ◌∙◌}
use native.Mathlib.Omega.{arith}
use Rattle.engine.specs.Refusals.{code_if_refused}
use Rattle.engine.specs.Outcomes.{lent}
use Rattle.engine.proofs.Demand.{meets_demand_1, meets_demand_2, meets_demand_3}
use Rattle.engine.proofs.RunLaws.{lends, run_refused, run_accepted}
use Rattle.engine.proofs.RefusalLaws.{code_positive}
use Rattle.engine.proofs.run.run.Goals as goal

pub returns-in-Err : goal.returns-in-Err
returns-in-Err c =
    let a = c.args in
    let l = lent a.start.now a.rows.now a.calls.now a.vertices.now a.edges.now a.journal.now a.answers.now a.image.now in
    let t = rw c.in-Err.is at (c.refusal.ensures.told l (lends _ _ _ _ _ _ _ _)) in
    let n = code_positive c.in-Err.refused in
    let ran_as = run_refused l _ _ t.0 t.1 n in
    rw c.from.ensures record {
      image_value = ran_as;
      untouched = λ z. (refl, refl, refl);
      meets_demand1 = meets_demand_1 l _ _ _ ran_as _ (λ z. (refl, refl, refl));
      demand2 = meets_demand_2 l _ _ _ ran_as (λ i. omega (arith, c.type_inv.calls i));
      meets_demand3 = λ z. absurd (n z);
    }

pub accepted-requires : goal.accepted-requires
accepted-requires c = sym (c.refusal.ensures.told _ (lends _ _ _ _ _ _ _ _)).0 ∙ ap code_if_refused c.in_default.is

pub returns : goal.returns
returns c =
    let a = c.args in
    let l = lent a.start.now a.rows.now a.calls.now a.vertices.now a.edges.now a.journal.now a.answers.now a.image.now in
    let e = sym (c.refusal.ensures.told l (lends _ _ _ _ _ _ _ _)).0 ∙ ap code_if_refused c.in_default.is in
    let ran_as = run_accepted l _ e c.accepted.ensures in record {
      image_value = ran_as;
      untouched = λ n. absurd (n e);
      meets_demand1 = meets_demand_1 l _ _ _ ran_as _ (λ n. absurd (n e));
      demand2 = meets_demand_2 l _ _ _ ran_as (λ i. omega (arith, c.type_inv.calls i));
      meets_demand3 = λ z. meets_demand_3 l _ _ _ ran_as e;
    }

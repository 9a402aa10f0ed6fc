use Prim.Native.Nat.{ℕ, ◌/◌}
use mathlib.Core.Path.{◌≡◌, refl, sym, ap, ◌∙◌}
use native.Mathlib.Omega.{arith}
use borrow.Author.Tests.{lt-ltb, le-ltb}
use lib.Dec.{ltb}
use lib.ListN.{length}
use Rattle.commands.specs.Calls.{calls_of}
use Rattle.machine.specs.Run.{Lent, list_refusal}
use Rattle.machine.proofs.ListRows.{passed}
use Rattle.engine.specs.Refusals.{code_if_refused}
use Rattle.engine.specs.Outcomes.{lent}
use Rattle.engine.proofs.RefusalLaws.{code_positive}
use Rattle.engine.proofs.RunLaws.{lends, run_refused, run_accepted}
use Rattle.engine.proofs.Demand.{meets_demand_1, meets_demand_2, meets_demand_3}
use Rattle.copies.specs.Copies.{changes_in, recorded}
use Rattle.recorder.specs.Outcomes.{made_in}
use Rattle.recorder.proofs.OutcomeLaws.{no_refusal, by_run, too_few, as_recorded, div_room}
use Rattle.recorder.proofs.record_run.Goals.{In_default}
use Rattle.recorder.proofs.record_run.Goals as goal

abbrev given : In_default → Lent
given c =
    let a = c.args in
    lent a.start.now a.rows.now a.calls.now a.vertices.now a.edges.now a.journal.now a.answers.now a.image.now

-- no run refuses it
accepted : (c : In_default) → list_refusal (given c) ≡ 0
accepted c = sym (c.refusal.ensures.told _ (lends _ _ _ _ _ _ _ _)).0 ∙ ap code_if_refused c.in_default.is

-- are there too few stretches, by the size and the number that are computed
too_few_by : (room : ℕ) {size size' changes changes' : ℕ} → size ≡ size' → changes ≡ changes' → ltb (room / size) changes ≡ ltb (room / size') changes'
too_few_by room e f = λ i. ltb (room / e i) (f i)

pub returns-in-Err : goal.returns-in-Err
returns-in-Err c =
    let a = c.args in
    let l = lent a.start.now a.rows.now a.calls.now a.vertices.now a.edges.now a.journal.now a.answers.now a.image.now in
    let t = rw c.in-Err.is at (c.refusal.ensures.told l (lends _ _ _ _ _ _ _ _)) in
    let n = code_positive c.in-Err.refused in
    let ran_as = run_refused l _ _ t.0 t.1 n in
    rw c.from.ensures record {
      copies_after = by_run l a.copies.now _ _ t.0 t.1 n;
      untouched = λ z. (refl, refl, refl);
      meets_demand1 = λ q. meets_demand_1 l _ _ _ ran_as _ (λ z. (refl, refl, refl));
      meets_demand2 = λ q. meets_demand_2 l _ _ _ ran_as (λ i. omega (arith, c.type_inv.calls i));
      meets_demand3 = λ z. absurd (n z);
    }

pub overflow_cast-vertices : goal.overflow_cast-vertices
overflow_cast-vertices c =
    let d = (goal.at.overflow_cast-vertices c).In_default in
    omega (arith, (passed (given d) (accepted d)).limits.few_vertices)

pub overflow_cast-edges : goal.overflow_cast-edges
overflow_cast-edges c =
    let d = (goal.at.overflow_cast-edges c).In_default in
    omega (arith, (passed (given d) (accepted d)).limits.few_edges)

pub returns-then-copies-size : goal.returns-then-copies-size
returns-then-copies-size c =
    let room = length c.args.copies.now in
    let d = (goal.at.returns-then-copies-size c).In_default in
    let t = sym (too_few_by room c.length-size.ensures c.changes_in.ensures) ∙ lt-ltb _ _ c.if-copies-size.true in
    rw c.from-then-copies-size.ensures record {
      copies_after = too_few (given d) c.args.copies.now (accepted d) t;
      untouched = λ z. (refl, refl, refl);
      meets_demand1 = λ q. absurd (q refl);
      meets_demand2 = λ q. absurd (q refl);
      meets_demand3 = λ z. absurd (omega (arith, z));
    }

pub accepted-requires : goal.accepted-requires
accepted-requires c =
    let size = c.length-size.result in
    let changes = changes_in (calls_of c.args.calls.now) in record {
      image_value = accepted (goal.at.accepted-requires c).In_default;
      size_value = (
        c.length-size.ensures,
        div_room (length c.args.copies.now) size changes (omega (arith, c.changes_in.ensures, c.if-copies-size.false)),
      );
    }

pub returns : goal.returns
returns c =
    let copies = c.args.copies.now in
    let room = length copies in
    let d = (goal.at.returns c).In_default in
    let l = given d in
    let e = accepted d in
    let t = sym (too_few_by room c.length-size.ensures c.changes_in.ensures) ∙ le-ltb _ _ c.if-copies-size.false in
    let r = c.accepted.ensures in
    let g = r.1 ∙ ap (λ (k : ℕ). recorded k (made_in l) copies) c.length-size.ensures in
    let ran_as = run_accepted l _ e r.0 in record {
      copies_after = as_recorded l copies e t _ _ r.0 g;
      untouched = λ n. absurd (n (no_refusal l copies e t));
      meets_demand1 = λ q. meets_demand_1 l _ _ _ ran_as _ (λ n. absurd (n e));
      meets_demand2 = λ q. meets_demand_2 l _ _ _ ran_as (λ i. omega (arith, c.type_inv.calls i));
      meets_demand3 = λ q. meets_demand_3 l _ _ _ ran_as e;
    }

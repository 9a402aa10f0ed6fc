use mathlib.Core.Path.{◌≡◌, refl, sym, ap, ◌∙◌}
use mathlib.Core.Logic.{⊎_elim}
use borrow.Author.Tests.{le-ltb}
use lib.ListN.{length}
use Prim.Native.Nat.{◌/◌}
use Rattle.machine.specs.Run.{Lent, list_refusal}
use Rattle.engine.specs.Refusals.{code_if_refused}
use Rattle.engine.specs.Outcomes.{lent}
use Rattle.engine.proofs.RunLaws.{lends}
use Rattle.engine.proofs.RefusalLaws.{code_positive}
use Rattle.reduction.specs.Outcomes.{AfterReduction}
use Rattle.reduction.proofs.OutcomeLaws.{by_run, too_long_lem, too_many, code_free, is_least}
use Rattle.reduction.proofs.reduce.Goals.{In_default}
use Rattle.reduction.proofs.reduce.Goals as goal

abbrev given : In_default → Lent
given c =
    let a = c.args in
    lent a.start.now a.rows.now a.calls.now a.vertices.now a.edges.now a.journal.now a.answers.now a.image.now

-- no run refuses it
accepted : (c : In_default) → list_refusal (given c) ≡ 0
accepted c = sym (c.refusal.ensures.told _ (lends _ _ _ _ _ _ _ _)).0 ∙ ap code_if_refused c.in_default.is

pub returns-in-Err : goal.returns-in-Err
returns-in-Err c =
    let a = c.args in
    let l = lent a.start.now a.rows.now a.calls.now a.vertices.now a.edges.now a.journal.now a.answers.now a.image.now in
    let t = rw c.in-Err.is at (c.refusal.ensures.told l (lends _ _ _ _ _ _ _ _)) in
    let e = by_run l a.list.now _ _ t.0 t.1 (code_positive c.in-Err.refused) in
    rw c.from.ensures record { list_after = e; untouched = λ z y. (refl, refl, refl, refl); least = is_least l _ _ _ e }

pub returns-then-calls-gt-MOST_CALLS : goal.returns-then-calls-gt-MOST_CALLS
returns-then-calls-gt-MOST_CALLS c =
    let d = (goal.at.returns-then-calls-gt-MOST_CALLS c).In_default in
    let e = too_long_lem (given d) c.args.list.now (accepted d) (too_many _ _ _ _ c.then-calls-gt-MOST_CALLS.either) in
    rw c.from-then-calls-gt-MOST_CALLS.ensures record { list_after = e; untouched = λ z y. (refl, refl, refl, refl); least = is_least (given d) _ _ _ e }

pub reduced-requires : goal.reduced-requires
reduced-requires c = record {
  image_value = accepted (goal.at.reduced-requires c).In_default;
  list_value = rw (le-ltb 20000 (length c.args.calls.now / 5) c.if-calls-gt-MOST_CALLS.false, le-ltb (length c.args.list.now) (length c.args.calls.now) c.if-list-calls.false);
}

pub returns : goal.returns
returns c =
    let d = (goal.at.returns c).In_default in
    let e = c.reduced.ensures in
    let f = ap (λ (r : AfterReduction). r.code) e in
    let k = code_free (given d) c.args.list.now (accepted d)
    (rw (le-ltb 20000 (length c.args.calls.now / 5) c.if-calls-gt-MOST_CALLS.false, le-ltb (length c.args.list.now) (length c.args.calls.now) c.if-list-calls.false)) in
    record { list_after = e; untouched = λ z y. absurd (⊎_elim (λ q. z (f ∙ q)) (λ q. y (f ∙ q)) k); least = is_least (given d) _ _ _ e }

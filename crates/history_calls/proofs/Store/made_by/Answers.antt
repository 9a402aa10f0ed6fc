use Rattle.std.proofs.Common.{◌≡◌, refl, ap, sym, ◌∙◌, Err, rules}
use Rattle.history.specs.Machine.{steps_between, made_by}
use Rattle.commands.specs.Refusals.{code_if_refused}
use Rattle.history_calls.specs.Memory.{memory}
use Rattle.history_calls.specs.Outcomes.{called}
use Rattle.history_calls.proofs.Following.{follows_by, refusal_not_0}
use Rattle.history_calls.proofs.Calls.{made_kept, made_behind, made_follows, behind_by_place}
use Rattle.history_calls.proofs.Store.made_by.Goals as goal

pub returns-in_err-check_made : goal.returns-in_err-check_made
returns-in_err-check_made c =
    let a = c.args in
    let r = c.in_err-check_made.field-0.0 in
    let e : c.from_residual.result ≡ Err r = search rules in
    let f = sym (ap code_if_refused c.in_err-check_made.was) ∙ c.check_made.ensures in
    λ vertices edges free b m n h y. follows_by _ m b _ (ap (called a.self) e)
    (made_kept b a.self (memory vertices edges a.journal.now a.marks.now) m h n a.a a.b a.bench _ f (refusal_not_0 r))

pub made_between-requires : goal.made_between-requires
made_between-requires c =
    let a = c.args in
    let p = c.requires in
    let m = p.2.1 in
    let e = sym (ap code_if_refused c.in_ok-check_made.was) ∙ c.check_made.ensures in
    let k = made_behind p.2.0 a.self (memory p.0 p.1 a.journal.now a.marks.now) m p.2.2 0 a.a a.b a.bench _ e refl in
    (m.line.start, m.line.steps, _, _, behind_by_place _ _ _ _ _ _ c.place_of-p.ensures k.0, behind_by_place _ _ _ _ _ _ c.place_of-q.ensures k.1)

pub returns : goal.returns
returns c =
    let a = c.args in
    let x = c.place_of-p.ensures in
    let y = c.place_of-q.ensures in
    let e = sym (ap code_if_refused c.in_ok-check_made.was) ∙ c.check_made.ensures in
    λ vertices edges free b m n h f.
    let s = memory vertices edges a.journal.now a.marks.now in
    let k = made_behind b a.self s m h n a.a a.b a.bench _ e refl in
    let v = c.made_between.ensures m.line.start m.line.steps _ _ (behind_by_place _ _ _ _ _ _ x k.0) (behind_by_place _ _ _ _ _ _ y k.1) in
    made_follows b a.self s m h n a.a a.b a.bench _ e refl _ (v ∙ (λ i. made_by a.bench (steps_between (x i) (y i) m.line.steps)))

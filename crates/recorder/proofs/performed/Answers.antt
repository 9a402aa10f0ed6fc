use mathlib.Core.Path.{refl, sym, ◌∙◌}
use native.Mathlib.Omega.{arith}
use Rattle.commands.specs.Calls.{call_at}
use Rattle.commands.specs.Commands.{command_of, history_call}
use Rattle.engine.proofs.CallLaws.{capacity_is, at_capacity, never_far}
use Rattle.engine.proofs.StepLaws.{recall_answers}
use Rattle.copies.proofs.RoleLaws.{moves}
use Rattle.recorder.proofs.CoverLaws.{answered_as}
use Rattle.recorder.proofs.performed.Goals as goal

pub go_by_copy-requires : goal.go_by_copy-requires
go_by_copy-requires c =
    let s = c in
    let p = s.requires.can_record in
    let k = moves (command_of (call_at s.args.call.now)) _ (sym s.requires.call_len.1 ∙ c.in-Move.is) in
    let l = p.5.setting in record { leads = (k.1, omega (arith, l.changes, l.limits.few_changes)); by_index = (p.0, p.1, p.2, p.3, p.4, p.5.represents, p.6, p.7) }

pub one-requires : goal.one-requires
one-requires c = let p = c.requires in record { runs = (p.can_record.0, p.can_record.1, p.can_record.5); call_len = p.call_len.0 }

pub returns-in-Move : goal.returns-in-Move
returns-in-Move c =
    let s = c in
    let k = moves (command_of (call_at s.args.call.now)) _ (sym s.requires.call_len.1 ∙ c.in-Move.is) in
    λ w m lent gs n r f e.
    answered_as w m _ _ _ _ _ _ k.0
    (recall_answers w m _ _ _ _ r w.changes _
    (never_far w m _ _ _ _ r _ refl (history_call c.in-Move.move_call)) _ _ refl
    (c.go_by_copy.ensures w m lent gs n r.represents f e w.changes))

pub returns-in_default : goal.returns-in_default
returns-in_default c = λ w m lent gs n r f e. at_capacity _ _ (capacity_is w m _ _ _ _ r _ refl) (c.one.ensures w m r)

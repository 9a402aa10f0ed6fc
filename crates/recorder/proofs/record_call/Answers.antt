use Prim.Native.Nat.{◌<◌}
use mathlib.Core.Path.{refl, ◌∙◌}
use native.Mathlib.Omega.{arith}
use lib.ListN.{length}
use Rattle.history.specs.Machine.{present}
use Rattle.commands.specs.Calls.{call_at}
use Rattle.commands.specs.Commands.{command_of}
use Rattle.machine.specs.Calls.{bounds_in}
use Rattle.machine.specs.Machine.{step_to}
use Rattle.history_calls.proofs.Present.{holds_present}
use Rattle.copies.specs.Recording.{count_after, copies_after, used_after, numbers_after}
use Rattle.recorder.proofs.CoverLaws.{covers_as, covers_next}
use Rattle.recorder.proofs.ListLaws.{few_places, can_take, room_for}
use Rattle.recorder.proofs.record_call.Goals as goal

pub performed-done-requires : goal.performed-done-requires
performed-done-requires c =
    let p = c.requires.can_add in
    record { call_len = (c.requires.call_len.0, c.role_of-role.ensures); can_record = (p.0, p.1, p.2, p.3, c.args.count, p.4, p.5, p.6) }

pub copies_after-count-requires : goal.copies_after-count-requires
copies_after-count-requires c =
    let a = c.args in
    let p = c.requires.can_add in
    let d = c.performed-done in
    let r = d.ensures p.0 p.1 p.2 p.3 a.count p.4 p.5 p.6 in
    let short : length a.copies.now < 18446744073709551615 = omega arith in (
      few_places p.0 a.store _ _ _ p.1 p.4,
      λ t. can_take p.0 d.result.store _ _ _ _ r.after a.call.now d.result.answer.number a.size a.count
          (length a.copies.now) p.6 short c.requires.call_len.1 (rw (← c.role_of-role.ensures) t),
    )

pub returns : goal.returns
returns c =
    let a = c.args in
    let d = c.performed-done in
    let g = c.copies_after-count in
    let role = c.role_of-role.ensures in
    let cmd = command_of (call_at a.call.now) in
    let k = d.result.answer.number in
    let q = d.result.store.current.position in
    λ w m lent gs r f e.
    let A = d.ensures w m lent gs a.count r f e in
    let G = present (step_to w m cmd) in (
      A,
      covers_as w a.start.now lent
          (g.ensures.3 G (holds_present (bounds_in w) _ _ _ A.after.represents) ∙ (λ i. copies_after (role i) k (e i) a.count G a.copies.now))
          (g.ensures.1 ∙ (λ i. numbers_after (role i) k a.store.current.position.place q.place a.count a.places.now.numbers))
          (g.ensures.2 ∙ (λ i. used_after (role i) k q.place q.used a.places.now.used))
          refl
          (g.ensures.0 ∙ (λ i. count_after (role i) k a.count))
          refl
          (covers_next w a.start.now lent a.copies.now a.places.now.numbers a.places.now.used gs a.count m a.store _ _ _ r f d.result _ cmd A
          (λ t. room_for w a.call.now k a.size a.count (length a.copies.now) e c.requires.call_len.1 t)),
    )

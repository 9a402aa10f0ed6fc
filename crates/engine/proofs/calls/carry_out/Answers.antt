use mathlib.Core.Path.{refl, ◌∙◌}
use native.Mathlib.Omega.{arith}
use lib.ListN.{take, length-set}
use Rattle.engine.specs.Running.{allowing}
use Rattle.engine.proofs.CallLaws.{used_is, last_within, next_at, command_near, after_calls_none, after_calls_more, after_calls_all}
use Rattle.engine.proofs.calls.carry_out.Goals as goal

pub loop-k-init : goal.loop-k-init
loop-k-init c = (
  omega arith,
  refl,
  refl,
  refl,
  refl,
  refl,
  λ w m xs h r f. after_calls_none w _ m _ _ _ _ _ c.args.answers.now
      h,
)

pub step-done-requires : goal.step-done-requires
step-done-requires c =
    let p = c.requires.running in
    let i = c.loop-k.invariant in
    let g = i.6 p.0 p.1 p.2 (rw c.same-present.ensures p.3) p.4 p.5 in
    let l = last_within (allowing c.args.capacity p.0) p.1
    (take c.loop-k.k p.2)
    (omega (
      arith,
      used_is p.0 p.1 _ _ _ _ p.3,
      c.requires.granted.0,
    )) in (
      (p.0, _, g.after),
      (
        omega (arith, used_is p.0 _ _ _ _ _ g.after, l),
        omega (arith, i.3, c.requires.granted.1),
      ),
    )

pub loop-k-preserved : goal.loop-k-preserved
loop-k-preserved c =
    let s = c.step-done in
    let l = c.loop-k in
    let a = c.args in (
      next_at l.k a.width l.at l.invariant.0,
      s.auto.vertices ∙ l.invariant.1,
      s.auto.edges ∙ l.invariant.2,
      s.auto.journal ∙ l.invariant.3,
      s.auto.marks ∙ l.invariant.4,
      simp length-set l.invariant.5,
      λ w m xs h reads near.
          let g = l.invariant.6 w m xs h reads near in
          rw c.same-present-in-loop-k.ensures
          (after_calls_more w a.capacity m _ _ _ _ _ _ reads l.k l.at _ s.result _ g
          (omega arith) l.invariant.0
          c.decode-command.ensures
          (s.ensures.answers_near w _ g.after
          (command_near (allowing a.capacity w) m reads l.k l.at _ near
          (omega arith) l.invariant.0
          c.decode-command.ensures)) (omega (
            arith,
            c.requires.count_in_bounds.0,
          ))),
    )

pub returns : goal.returns
returns c =
    let l = c.loop-k in
    λ w m xs h reads near. after_calls_all w _ m _ _ _ _ _ _ xs l.k (omega (arith, reads.many)) (l.invariant.6 w m xs (rw c.same-present.ensures h) reads near)

use mathlib.Core.Path.{refl}
use mathlib.Core.Bool.{false}
use native.Mathlib.Omega.{arith}
use Rattle.timeline.proofs.Going.{aims_start, aims_end}
use Rattle.timeline.proofs.rows_on.Goals as goal

pub next-ahead-requires : goal.next-ahead-requires
next-ahead-requires c =
    let a = c.args in
    let p = c.requires in
    let l = c.loop in (
      p.0,
      p.1,
      _,
      λ e z. omega (arith, z, l.invariant.0, c.loop-test.true),
      l.invariant.1 p.0 p.1 _ (aims_start a.journal.now p.0 p.1 false p.2 a.used a.steps p.3 p.4),
    )

pub returns : goal.returns
returns c =
    let a = c.args in
    let l = c.loop in
    λ g ss p k h.
    let y = l.invariant.1 g ss _ (aims_start a.journal.now g ss false p a.used a.steps k h) in
    (aims_end a.journal.now g ss false _ _ l.ahead y (omega (arith, l.invariant.0, c.loop-test.false)) refl _ refl).used

use Prim.Native.Nat.{◌+◌}
use mathlib.Core.Path.{◌≡◌, sym, ◌∙◌}
use native.Mathlib.Omega.{arith}
use Rattle.image_check.proofs.Turns.{list_miss, list_hit, list_owners_lem, list_over}
use Rattle.image_check.proofs.passes.list.Goals as goal

pub returns-then-get-v : goal.returns-then-get-v
returns-then-get-v c =
    let a = c.args in
    let l = c.loop-k in (
      omega (
        arith,
        list_miss a.v a.d l.k (a.at + l.k) l.own a.part.now (omega (arith, l.invariant.0)) (omega (arith, l.invariant.1))
            (λ y. c.if-get-v.true (c.get.ensures ∙ y)),
        l.invariant.3,
      ),
      λ e. absurd (omega (arith, l.invariant.0, e)),
    )

pub loop-k-preserved : goal.loop-k-preserved
loop-k-preserved c =
    let a = c.args in
    let l = c.loop-k in
    let p = c.put in
    let far : a.at + (l.k + 1) ≡ a.at + l.k + 1 = omega arith in
    let y = sym c.get.ensures ∙ c.if-get-v.false in
    let r = list_hit a.v a.d l.k (a.at + l.k) l.own a.part.now (omega (arith, l.invariant.0)) (omega (arith, l.invariant.1)) y in
    let o = list_owners_lem a.v a.d l.k (a.at + l.k) l.own a.part.now (omega (arith, l.invariant.0)) (omega (arith, l.invariant.1)) in (
      l.invariant.0,
      l.invariant.1,
      omega (arith, p.auto, l.invariant.2),
      rw (p.ensures, far) (omega (arith, r, l.invariant.3)),
      rw (p.ensures, far) (sym o ∙ l.invariant.4),
    )

pub returns : goal.returns
returns c =
    let a = c.args in
    let l = c.loop-k in
    let m = c.min-most in
    let e = list_over a.v a.d l.k (a.at + l.k) l.own a.part.now (omega (arith, l.invariant.0))
    (λ h. omega (arith, m.ensures, h)) in
    (omega (arith, e.0, l.invariant.3), λ q. sym (e.1 (omega (arith, q))) ∙ l.invariant.4)

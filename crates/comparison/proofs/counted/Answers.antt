use Prim.Native.Nat.{ℕ, ◌*◌, ◌≤◌}
use mathlib.Core.Path.{◌≡◌, ap, ◌∙◌}
use native.Mathlib.Omega.{arith}
use mathlib.Core.Bool.{Bool, true, false}
use mir.Val.{bool_byte}
use lib.ListN.{get_or}
use Rattle.std.proofs.Common.{rules}
use Rattle.lists.specs.Choice.{to_bit}
use Rattle.comparison.specs.Comparison.{matches, alike}
use Rattle.comparison.specs.Walks.{edge_at}
use Rattle.image_check.proofs.Turns.{piece_of, parted, none_left}
use Rattle.comparison.proofs.Turns.{count_go, count_end}
use Rattle.comparison.proofs.counted.Goals as goal

-- the number of a test
bit : (b : Bool) (r : ℕ) → r ≡ bool_byte b → (r ≡ to_bit b) × (r ≤ 1)
bit true r e = (e, omega (arith, e))
bit false r e = (e, omega (arith, e))

pub loop-record-preserved : goal.loop-record-preserved
loop-record-preserved c =
    let a = c.args in
    let l = c.loop-record in
    let st = c.in-Some.ensures.steps in
    let cut = st.1.0 in
    let long = st.1.1 ∙ l.invariant.2 in
    let x = c.in-Some.record.now in
    let rest = c.next.new.self.rest.now in
    let p = parted x rest l.record-iterator.rest.now 6 cut long in
    let f = bit c.is_match.result _ c.from-matched.ensures in
    let g = bit c.is_alike.result _ c.from-agreeing.ensures in
    let place : 6 * c.get.result ≡ 6 * get_or a.places.now (get_or x 0 0) 0 = ap (λ (k : ℕ). 6 * k) c.get.ensures in
    let m = f.0 ∙ ap to_bit (c.is_match.ensures ∙ ap (λ (j : ℕ). matches (edge_at x 0) (edge_at a.b.now j)) place) in
    let k = g.0 ∙ ap to_bit (c.is_alike.ensures ∙ ap (λ (j : ℕ). alike a.tolerance (edge_at x 0) (edge_at a.b.now j)) place) in (
      search rules,
      search rules,
      st.0 ∙ l.invariant.2,
      omega (arith, p, f.1, l.invariant.3),
      omega (arith, p, g.1, l.invariant.4),
      λ count e.
          let v = l.invariant.5 count e in
          let t = piece_of 6 v.0 _ _ _ (omega arith) cut long v.1 in (
            t.0,
            t.2,
            omega (arith, count_go v.0 t.0 _ _ _ t.1 cut long matches a.places.now a.b.now _ m, v.2),
            omega (arith, count_go v.0 t.0 _ _ _ t.1 cut long (alike a.tolerance) a.places.now a.b.now _ k, v.3),
          ),
    )

pub returns-clause-matched : goal.returns-clause-matched
returns-clause-matched c = λ count e.
    let a = c.args in
    let l = c.loop-record in
    let v = l.invariant.5 count e in
    let z = none_left 6 v.0 _ v.1 (omega (arith, c.in-None.ensures.steps.1.0, l.invariant.2)) in
    omega (arith, v.2, count_end v.0 z l.record-iterator.rest.now matches a.places.now a.b.now)

pub returns-clause-agreeing : goal.returns-clause-agreeing
returns-clause-agreeing c = λ count e.
    let a = c.args in
    let l = c.loop-record in
    let v = l.invariant.5 count e in
    let z = none_left 6 v.0 _ v.1 (omega (arith, c.in-None.ensures.steps.1.0, l.invariant.2)) in
    omega (arith, v.3, count_end v.0 z l.record-iterator.rest.now (alike a.tolerance) a.places.now a.b.now)

use Prim.Native.Nat.{◌*◌}
use mathlib.Core.Path.{◌≡◌, refl, sym, ap, ◌∙◌}
use native.Mathlib.Omega.{arith}
use lib.ListN.{length, get_or}
use Rattle.std.proofs.lemmas.Result.{err_from_is_err_and}
use Rattle.image_check.specs.Checks.{saved_bounds, load_code, code_of}
use Rattle.image_check.proofs.Verdicts.{code_not_zero}
use Rattle.comparison.proofs.Mapped.{mapped_err, mapped_ok, other_err, other_ok}
use Rattle.comparison.proofs.Outcomes.{first_refused, second_refused, few, edges_of, under_first, under_second, counted_all}
use Rattle.comparison.proofs.compare.Goals as goal
use Rattle.comparison.proofs.compare.Goals.{After-within-2}

pub returns-in_err-map_err : goal.returns-in_err-map_err
returns-in_err-map_err c =
    let a = c.args in
    let p = err_from_is_err_and c.from_residual.result c.from_residual.ensures.1 in
    let m = mapped_err _ c.check_saved.result c.map_err.result c.map_err.ensures.cases _ c.in_err-map_err.was in
    rw (p.1, p.2, m.2)
    (first_refused a.first.now a.second.now a.tolerance _ (ap code_of (sym m.1 ∙ c.check_saved.ensures)) (code_not_zero _))

pub returns-in_err-or : goal.returns-in_err-or
returns-in_err-or c =
    let a = c.args in
    let p = err_from_is_err_and c.from_residual-in_err-or.result c.from_residual-in_err-or.ensures.1 in
    let k = mapped_ok _ c.check_saved.result c.map_err.result c.map_err.ensures.cases c.in_ok-map_err.was in
    let m = other_err c.check_saved-2.result c.or.result _ _ c.or.ensures c.in_err-or.was in
    rw (p.1, p.2, m.0)
    (second_refused a.first.now a.second.now a.tolerance (ap code_of (sym c.check_saved.ensures ∙ k))
    (λ z. code_not_zero _ (ap code_of (sym m.1.1 ∙ c.check_saved-2.ensures) ∙ z)))

-- past the two tests both images load
loads : (c : After-within-2) → (load_code saved_bounds c.args.first.now ≡ 0) × (load_code saved_bounds c.args.second.now ≡ 0)
loads c =
    let k = mapped_ok _ c.check_saved.result c.map_err.result c.map_err.ensures.cases c.in_ok-map_err.was in
    let l = other_ok c.check_saved-2.result c.or.result _ c.or.ensures c.in_ok-or.was in
    (ap code_of (sym c.check_saved.ensures ∙ k), ap code_of (sym c.check_saved-2.ensures ∙ l))

-- the records of the two edge parts are as many as the headers say
counts : (c : After-within-2) →
    (6 * get_or c.args.first.now 1 0 ≡ length c.within.result.now) × (6 * get_or c.args.second.now 1 0 ≡ length c.within-2.result.now)
counts c =
    let a = c.args in
    let h = loads c in
    (edges_of a.first.now h.0 _ refl _ c.within.ensures.0, edges_of a.second.now h.1 _ refl _ c.within-2.ensures.0)

pub walked-c-requires-clause-first : goal.walked-c-requires-clause-first
walked-c-requires-clause-first c =
    let d = (goal.at.walked-c-requires-clause-first c).After-within-2 in
    omega (arith, few c.args.first.now (loads d).0, (counts d).0)

pub walked-c-requires-clause-second : goal.walked-c-requires-clause-second
walked-c-requires-clause-second c =
    let d = (goal.at.walked-c-requires-clause-second c).After-within-2 in
    omega (arith, few c.args.second.now (loads d).1, (counts d).1)

-- no more matched than either image has
pub overflow_sub-result : goal.overflow_sub-result
overflow_sub-result c =
    let a = c.args in
    let d = (goal.at.overflow_sub-result c).After-within-2 in
    let h = loads d in
    let e = counts d in
    let r = c.walked-c.ensures in
    omega (
      arith,
      c.get.ensures,
      under_first a.first.now a.second.now a.tolerance h.0 h.1 _ _ refl refl _ _ c.within.ensures.0 c.within-2.ensures.0 _ _
          (r.matched _ _ e.0 e.1) (r.agreeing _ _ e.0 e.1),
    )

pub overflow_sub-result-2 : goal.overflow_sub-result-2
overflow_sub-result-2 c =
    let a = c.args in
    let d = (goal.at.overflow_sub-result-2 c).After-within-2 in
    let h = loads d in
    let e = counts d in
    let r = c.walked-c.ensures in
    omega (
      arith,
      c.get-2.ensures,
      under_second a.first.now a.second.now a.tolerance h.0 h.1 _ _ refl refl _ _ c.within.ensures.0 c.within-2.ensures.0 _ _
          (r.matched _ _ e.0 e.1) (r.agreeing _ _ e.0 e.1),
    )

pub returns : goal.returns
returns c =
    let a = c.args in
    let d = (goal.at.returns c).After-within-2 in
    let h = loads d in
    let e = counts d in
    let r = c.walked-c.ensures in
    rw (c.get.ensures, c.get-2.ensures)
    (counted_all a.first.now a.second.now a.tolerance h.0 h.1 _ _ refl refl _ _
    c.within.ensures.0 c.within-2.ensures.0 _ _ (r.matched _ _ e.0 e.1) (r.agreeing _ _ e.0 e.1))

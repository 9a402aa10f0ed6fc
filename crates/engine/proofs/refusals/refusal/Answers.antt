use mathlib.Core.Path.{◌≡◌, refl, sym, ap, ◌∙◌}
use Prim.Native.Nat.{ℕ, ◌/◌}
use mathlib.Core.List.{List}
use native.Mathlib.Omega.{arith}
use lib.ListN.{length}
use Rattle.std.proofs.Common.{rules}
use Rattle.std.proofs.lemmas.Result.{err_from_is_err_and}
use Rattle.type_rows.proofs.RowLaws.{good_facts}
use Rattle.graph.specs.WellFormed.{Bounds}
use Rattle.image_check.specs.Checks.{Verdict, bounds, checked, verdict}
use Rattle.image_check.proofs.Capacity.{checked_same}
use Rattle.image_check.proofs.Verdicts.{code_not_zero}
use Rattle.engine.specs.Refusals.{lengths_code, code_if_refused}
use Rattle.engine.proofs.RefusalLaws.{code_positive, of_image_tells, capacities, lengths_refused, rows_refused, start_refused, image_refused, none_refused}
use Rattle.engine.proofs.refusals.refusal.Goals as goal

-- capacities that 103 lets pass are checked as they are
found : (calls answers vertices edges journal types : ℕ) (start : List ℕ) {v : Verdict} → lengths_code calls answers vertices edges journal ≡ 0
    → v ≡ verdict (checked (vertices / 8) (edges / 12) types) start → v ≡ verdict (bounds (vertices / 8) (edges / 12) types) start
found calls answers vertices edges journal types start z e =
    let l = capacities calls answers vertices edges journal z in
    e ∙ ap (λ (b : Bounds). verdict b start) (checked_same (vertices / 8) (edges / 12) types l.0 l.1)

pub returns-in_err-check_lengths-clause-told : goal.returns-in_err-check_lengths-clause-told
returns-in_err-check_lengths-clause-told c =
    let p = err_from_is_err_and c.from_residual.result c.from_residual.ensures.1 in
    let s = rw c.in_err-check_lengths.was at c.check_lengths.ensures in
    rw (p.1, p.2) λ l h. let r = lengths_refused l _ _ _ _ _ _ _ _ h _ s.0 (code_positive _) in (r.0, s.1 ∙ r.1)

pub returns-then-not-are_good-clause-told : goal.returns-then-not-are_good-clause-told
returns-then-not-are_good-clause-told c =
    let z = sym c.check_lengths.ensures.0 ∙ ap code_if_refused c.in_ok-check_lengths.was in
    λ l h. rows_refused l _ _ _ _ _ _ _ _ h z (search rules)

pub overflow_cast-rows : goal.overflow_cast-rows
overflow_cast-rows c = omega (arith, (good_facts c.args.rows.now (search rules)).few)

pub returns-in_err-check-clause-told : goal.returns-in_err-check-clause-told
returns-in_err-check-clause-told c =
    let a = c.args in
    let z = sym c.check_lengths.ensures.0 ∙ ap code_if_refused c.in_ok-check_lengths.was in
    let f = found a.calls a.answers a.vertices a.edges a.journal (length a.rows.now) a.start.now z (sym c.in_err-check.was ∙ c.check.ensures) in
    let p = err_from_is_err_and c.from_residual-in_err-check.result c.from_residual-in_err-check.ensures.1 in
    let o = of_image_tells c.in_err-check.field-0.0 in
    rw (p.1, p.2) λ l h.
    let r = start_refused l _ _ _ _ _ _ _ _ h z (search rules) _ f (code_not_zero _) in
    (o.0 ∙ r.0, o.1 ∙ r.1)

pub returns-then-image-length-clause-told : goal.returns-then-image-length-clause-told
returns-then-image-length-clause-told c =
    let a = c.args in
    let z = sym c.check_lengths.ensures.0 ∙ ap code_if_refused c.in_ok-check_lengths.was in
    let f = found a.calls a.answers a.vertices a.edges a.journal (length a.rows.now) a.start.now z (sym c.in_ok-check.was ∙ c.check.ensures) in
    λ l h. image_refused l _ _ _ _ _ _ _ _ h z (search rules) _ f refl (omega (arith, c.if-image-length.true, c.length.ensures))

pub returns-clause-told : goal.returns-clause-told
returns-clause-told c =
    let a = c.args in
    let z = sym c.check_lengths.ensures.0 ∙ ap code_if_refused c.in_ok-check_lengths.was in
    let f = found a.calls a.answers a.vertices a.edges a.journal (length a.rows.now) a.start.now z (sym c.in_ok-check.was ∙ c.check.ensures) in
    λ l h. none_refused l _ _ _ _ _ _ _ _ h z (search rules) _ f refl (omega (arith, c.if-image-length.false, c.length.ensures))

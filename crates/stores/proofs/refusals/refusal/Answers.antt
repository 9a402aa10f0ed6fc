use mathlib.Core.Path.{sym, ap, ◌∙◌}
use native.Mathlib.Omega.{arith}
use Rattle.std.proofs.Common.{rules}
use Rattle.std.proofs.lemmas.Result.{err_from_is_err_and}
use Rattle.type_rows.proofs.RowLaws.{good_facts}
use Rattle.engine.specs.Refusals.{code_if_refused}
use Rattle.engine.proofs.RefusalLaws.{code_positive}
use Rattle.stores.proofs.RefusalLaws.{capacities, lengths_refused, rows_refused, start_refused, image_refused, none_refused}
use Rattle.stores.proofs.refusals.refusal.Goals as goal

pub returns-in_err-check_lengths : goal.returns-in_err-check_lengths
returns-in_err-check_lengths c =
    let p = err_from_is_err_and c.from_residual.result c.from_residual.ensures.1 in
    let s = rw c.in_err-check_lengths.was at c.check_lengths.ensures in
    rw (p.1, p.2) λ l h. let r = lengths_refused l _ _ _ _ _ _ _ _ _ h _ s.0 (code_positive _) in (r.0, s.1 ∙ r.1)

pub returns-then-not-are_good : goal.returns-then-not-are_good
returns-then-not-are_good c =
    let z = sym c.check_lengths.ensures.0 ∙ ap code_if_refused c.in_ok-check_lengths.was in
    λ l h. rows_refused l _ _ _ _ _ _ _ _ _ h z (search rules)

pub overflow_cast-rows : goal.overflow_cast-rows
overflow_cast-rows c = omega (arith, (good_facts c.args.rows.now (search rules)).few)

pub check_starts-requires : goal.check_starts-requires
check_starts-requires c =
    let a = c.args in
    let z = sym c.check_lengths.ensures.0 ∙ ap code_if_refused c.in_ok-check_lengths.was in
    let k = capacities a.calls a.answers a.vertices a.edges a.journal a.stores z in
    (k.1, k.2)

pub returns-in_err-check_starts : goal.returns-in_err-check_starts
returns-in_err-check_starts c =
    let z = sym c.check_lengths.ensures.0 ∙ ap code_if_refused c.in_ok-check_lengths.was in
    let p = err_from_is_err_and c.from_residual-in_err-check_starts.result c.from_residual-in_err-check_starts.ensures.1 in
    let s = rw c.in_err-check_starts.was at c.check_starts.ensures in
    rw (p.1, p.2) λ l h. start_refused l _ _ _ _ _ _ _ _ _ h z (search rules) _ _ s.code_value s.number_value (code_positive _)

pub returns-then-image-stores : goal.returns-then-image-stores
returns-then-image-stores c =
    let z = sym c.check_lengths.ensures.0 ∙ ap code_if_refused c.in_ok-check_lengths.was in
    let f = sym c.check_starts.ensures.code_value ∙ ap code_if_refused c.in_ok-check_starts.was in
    λ l h. image_refused l _ _ _ _ _ _ _ _ _ h z (search rules) f (omega (arith, c.if-image-stores.true, c.length.ensures))

pub returns : goal.returns
returns c =
    let z = sym c.check_lengths.ensures.0 ∙ ap code_if_refused c.in_ok-check_lengths.was in
    let f = sym c.check_starts.ensures.code_value ∙ ap code_if_refused c.in_ok-check_starts.was in
    λ l h. none_refused l _ _ _ _ _ _ _ _ _ h z (search rules) f (omega (arith, c.if-image-stores.false, c.length.ensures))

use mathlib.Core.Path.{refl, sym, ◌∙◌}
use native.Mathlib.Omega.{arith}
use Rattle.std.proofs.Common.{rules}
use borrow.Author.Tests.{ne_eqb}
use Rattle.text.proofs.Verdicts.{told_unreadable}
use Rattle.resume_text.specs.Input.{line_of_all}
use Rattle.resume_text.proofs.Inputs.{line_most}
use Rattle.resume_text.proofs.read_behind.Goals as goal

pub overflow_add-result : goal.overflow_add-result
overflow_add-result c =
    omega (arith, line_most c.args.bytes.now c.in-Err.field-0.0 (told_unreadable _ c.in-Err.field-0 (sym c.in-Err.is ∙ c.read.ensures.verdict)))

pub returns-in-Err-clause-verdict : goal.returns-in-Err-clause-verdict
unfolding line_of_all
returns-in-Err-clause-verdict c =
    rw (told_unreadable _ c.in-Err.field-0 (sym c.in-Err.is ∙ c.read.ensures.verdict), ne_eqb _ _ c.if-line-ne0.true) refl

pub returns-in_default-clause-verdict : goal.returns-in_default-clause-verdict
unfolding line_of_all
returns-in_default-clause-verdict c = rw (told_unreadable _ c.in-Err.field-0 (sym c.in-Err.is ∙ c.read.ensures.verdict)) (simp c.if-line-ne0.false (search rules))

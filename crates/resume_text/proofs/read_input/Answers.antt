use mathlib.Core.Path.{◌≡◌, sym, ap, ◌∙◌}
use Rattle.std.proofs.Common.{rules}
use Rattle.std.specs.Prelude.{Err}
use Rattle.text.specs.ImageLine.{line_verdict}
use Rattle.resume_text.specs.Input.{calls_verdict}
use Rattle.resume_text.proofs.Inputs.{first_cut, later_cut, none_read, bad_read, both_read}
use Rattle.resume_text.proofs.read_input.Goals as goal

pub returns-in_err-image-clause-verdict : goal.returns-in_err-image-clause-verdict
returns-in_err-image-clause-verdict c =
    let bytes = c.args.bytes.now in
    let b = c.in_err-image.ensures in
    let n = none_read bytes (sym b.ok_part ∙ c.read_image.ensures.verdict ∙ ap line_verdict (first_cut bytes _ c.first_length-end.ensures.value)) in
    let v = b.value in
    let k = simp b.ok_part at v in
    let e : c.from_residual.result ≡ Err (record { 0 = 1 }) = search rules in
    e ∙ n.0

pub returns-in_err-calls-clause-verdict : goal.returns-in_err-calls-clause-verdict
returns-in_err-calls-clause-verdict c =
    let bytes = c.args.bytes.now in
    let f = c.first_length-end in
    let i = sym c.in_ok-image.ensures.ok_part ∙ c.read_image.ensures.verdict ∙ ap line_verdict (first_cut bytes _ f.ensures.value) in
    let v = c.in_err-calls.ensures.verdict ∙ ap calls_verdict (later_cut bytes _ f.ensures.value) in
    let e : c.from_residual-in_err-calls.result ≡ Err c.in_err-calls.field-0.0 = search rules in
    e ∙ (bad_read bytes c.in_ok-image.image c.in_err-calls.field-0.0 i v).0

pub returns-clause-verdict : goal.returns-clause-verdict
returns-clause-verdict c =
    let bytes = c.args.bytes.now in
    let f = c.first_length-end in
    let i = sym c.in_ok-image.ensures.ok_part ∙ c.read_image.ensures.verdict ∙ ap line_verdict (first_cut bytes _ f.ensures.value) in
    let v = c.in_ok-calls.ensures.verdict ∙ ap calls_verdict (later_cut bytes _ f.ensures.value) in
    (both_read bytes _ _ i v).0

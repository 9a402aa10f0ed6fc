use mathlib.Core.List.{[], ◌∷◌}
use native.Mathlib.Omega.{arith}
use Rattle.decimal.proofs.Stores.{stored_over, written_as}
use Rattle.text.specs.Writing.{refused_word}
use Rattle.text.proofs.Texts.{line_most, refused_alone, refused_offset}
use Rattle.text.proofs.writing.write_refused.Goals as goal

pub line-requires : goal.line-requires
line-requires c = omega (arith, line_most refused_word (c.args.code ∷ []))

pub line-requires-else-code-eq105 : goal.line-requires-else-code-eq105
line-requires-else-code-eq105 c = omega (arith, line_most refused_word (c.args.code ∷ c.args.offset ∷ []))

pub returns-then-code-eq105 : goal.returns-then-code-eq105
returns-then-code-eq105 c =
    let a = c.args in
    let l = c.line in
    written_as _ _ l.result _ _ (refused_alone a.code a.offset c.if-code-eq105.true)
    (stored_over (omega (arith, line_most refused_word (a.code ∷ []))) l.ensures)

pub returns-else-code-eq105 : goal.returns-else-code-eq105
returns-else-code-eq105 c =
    let a = c.args in
    let l = c.line-else-code-eq105 in
    written_as _ _ l.result _ _ (refused_offset a.code a.offset c.if-code-eq105.false)
    (stored_over (omega (arith, line_most refused_word (a.code ∷ a.offset ∷ []))) l.ensures)

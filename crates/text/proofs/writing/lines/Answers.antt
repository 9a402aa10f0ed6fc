use native.Mathlib.Omega.{arith}
use Rattle.decimal.proofs.Stores.{stored_then, stored_as, stored_over}
use Rattle.text.specs.Writing.{image_word}
use Rattle.text.proofs.Texts.{answers_most, line_most, write_most, write_parts}
use Rattle.text.proofs.writing.lines.Goals as goal

pub answers-p-requires : goal.answers-p-requires
answers-p-requires c = let a = c in omega (arith, answers_most a.args.codes.now, a.requires)

pub line-requires : goal.line-requires
line-requires c =
    let a = c in
    let b = c.answers-p in
    omega (arith, answers_most a.args.codes.now, line_most image_word a.args.image.now, a.requires, b.ensures.place, b.auto.out)

pub returns : goal.returns
returns c =
    let a = c in
    stored_over
    (omega (arith, write_most a.args.codes.now a.args.image.now, a.requires))
    (stored_as
    (write_parts a.args.codes.now a.args.image.now)
    (stored_then c.answers-p.ensures c.line.ensures))

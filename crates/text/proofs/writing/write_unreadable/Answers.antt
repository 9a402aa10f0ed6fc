use native.Mathlib.Omega.{arith}
use Rattle.text.specs.Writing.{unreadable_text}
use Rattle.decimal.proofs.Stores.{stored_over}
use Rattle.text.proofs.Texts.{unreadable_most}
use Rattle.text.proofs.writing.write_unreadable.Goals as goal

pub line-requires : goal.line-requires
unfolding unreadable_text
line-requires c = let a = c in omega (arith, unreadable_most a.args.n)

pub returns : goal.returns
unfolding unreadable_text
returns c = let a = c in stored_over (omega (arith, unreadable_most a.args.n)) c.line.ensures

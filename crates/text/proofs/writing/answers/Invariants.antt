use mathlib.Core.Path.{◌≡◌}
use lib.ListN.{length}
use lib.Seq.{sets}
use Prim.Native.Nat.{◌+◌}
use Rattle.text.specs.Writing.{answer_lines}
use Rattle.text.proofs.writing.answers.Given as goal

abbrev pub invariant-loop-pair : goal.invariant-loop-pair
invariant-loop-pair l = (l.pair-iterator.size ≡ 2) × (length l.out ≡ length l.initial.out)
    × (l.at + length (answer_lines l.pair-iterator.rest.now) ≡ length (answer_lines l.words))
    × (sets l.out l.at (answer_lines l.pair-iterator.rest.now) ≡ sets l.initial.out l.initial.at (answer_lines l.words))

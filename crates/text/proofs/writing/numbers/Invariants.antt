use mathlib.Core.Path.{◌≡◌}
use lib.ListN.{length, drop}
use lib.Seq.{sets}
use Prim.Native.Nat.{◌+◌}
use Rattle.lists.specs.Lists.{concat_map}
use Rattle.text.specs.Writing.{spaced}
use Rattle.text.proofs.writing.numbers.Given as goal

abbrev pub invariant-loop-n : goal.invariant-loop-n
invariant-loop-n l = (length l.out ≡ length l.initial.out)
    × (l.p + length (concat_map spaced (drop l.n-index l.words)) ≡ l.at + length (concat_map spaced l.words))
    × (sets l.out l.p (concat_map spaced (drop l.n-index l.words)) ≡ sets l.initial.out l.at (concat_map spaced l.words))

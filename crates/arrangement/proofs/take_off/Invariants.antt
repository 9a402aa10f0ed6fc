use mathlib.Core.Path.{◌≡◌}
use lib.ListN.{drop}
use Rattle.arrangement.specs.Scratch.{taken}
use Rattle.arrangement.proofs.take_off.Given as goal

abbrev pub invariant-loop-number : goal.invariant-loop-number
invariant-loop-number l = taken (drop l.number-index l.wanted) l.items ≡ taken l.wanted l.initial.items

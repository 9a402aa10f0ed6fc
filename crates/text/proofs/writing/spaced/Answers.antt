use mathlib.Core.Path.{refl}
use native.Mathlib.Omega.{arith}
use lib.ListN.{length-set}
use Prim.Native.Nat.{◌+◌}
use Rattle.text.specs.Writing.{spaced}
use Rattle.decimal.proofs.Stores.{stored_byte, stored_then}
use Rattle.text.proofs.writing.spaced.Goals as goal

pub bounds-out-at : goal.bounds-out-at
unfolding spaced
bounds-out-at c = omega (arith, c.requires)

pub digits-requires : goal.digits-requires
unfolding spaced
digits-requires c = simp length-set (omega (arith, c.requires))

pub returns : goal.returns
unfolding spaced
returns c = let a = c.args in stored_then (stored_byte a.out.now _ a.at 32 (a.at + 1) refl refl) c.digits.ensures

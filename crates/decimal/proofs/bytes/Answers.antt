-- `decimal::bytes` meets its contract.
use mathlib.Core.Path.{refl}
use native.Mathlib.Omega.{arith}
use Rattle.decimal.proofs.Stores.{stored_outside, stored_short, stored_fitting, stored_part}
use Rattle.decimal.proofs.bytes.Goals.{then-out-at-via-then-out-at, then-out-at-via-else-out-at+then-out-at-2}
use Rattle.decimal.proofs.bytes.Goals as goal

pub returns-then-out-at : goal.returns-then-out-at
returns-then-out-at c = elim c.then-out-at.branch [
  | then-out-at-via-then-out-at w ↦ stored_outside _ _ _ w.if-out-at.true
  | then-out-at-via-else-out-at+then-out-at-2 w ↦ stored_short _ _ _ w.if-out-at-2.true
]

pub returns : goal.returns
returns c =
    let a = c.args in
    rw c.copy_from_slice.ensures.after
    (stored_fitting a.word.now (omega arith) (stored_part a.out.now a.word.now a.at _ _ (omega arith) refl (omega arith)))

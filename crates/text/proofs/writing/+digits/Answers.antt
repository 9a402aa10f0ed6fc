use mathlib.Core.Path.{refl, sym, ap}
use native.Mathlib.Omega.{arith}
use lib.ListN.{length}
use Rattle.decimal.proofs.Stores.{stored_byte, stored_then, stored_as}
use Rattle.decimal.proofs.Digits.{one_digit, more_digits, more_length}
use Prim.Native.Nat.{◌+◌, ◌%◌}
use Rattle.text.proofs.writing.+digits.Goals as goal

pub bounds-out-at : goal.bounds-out-at
bounds-out-at t c = omega (arith, ap length (one_digit c.args.n c.if-n-lt10.true), c.requires)

pub returns-then-n-lt10 : goal.returns-then-n-lt10
returns-then-n-lt10 t c =
    let a = c.args in
    stored_as (sym (one_digit a.n c.if-n-lt10.true)) (stored_byte a.out.now _ a.at (48 + a.n) (a.at + 1) refl refl)

pub digits-p-requires : goal.digits-p-requires
digits-p-requires t c =
    let a = c in
    (omega (arith, a.decreases), omega (arith, more_length a.args.n c.if-n-lt10.false a.ranges.n.fits, a.requires))

pub bounds-out-p : goal.bounds-out-p
bounds-out-p t c =
    let a = c in let d = c.digits-p in
    omega (arith, more_length a.args.n c.if-n-lt10.false a.ranges.n.fits, a.requires, d.ensures.place, d.auto.out)

pub overflow_add-result-2 : goal.overflow_add-result-2
overflow_add-result-2 t c =
    let a = c in let d = c.digits-p in
    omega (arith, more_length a.args.n c.if-n-lt10.false a.ranges.n.fits, a.requires, d.ensures.place, a.well_formed.0.0)

pub returns : goal.returns
returns t c =
    let a = c in let d = c.digits-p in
    stored_as (sym (more_digits a.args.n c.if-n-lt10.false a.ranges.n.fits))
    (stored_then d.ensures (stored_byte d.new.out _ d.result (48 + a.args.n % 10) (d.result + 1) refl refl))

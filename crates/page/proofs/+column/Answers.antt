use mathlib.Core.Path.{refl}
use native.Mathlib.Omega.{arith}
use Rattle.decimal.proofs.Stores.{stored_byte, stored_then, stored_as}
use Rattle.page.proofs.Columns.{column_length, stored_none, column_single, column_tens}
use Prim.Native.Nat.{◌+◌, ◌-◌, ◌/◌, ◌%◌}
use Rattle.page.proofs.+column.Goals as goal

pub returns-then-width-eq0 : goal.returns-then-width-eq0
returns-then-width-eq0 t c = let a = c.args in stored_none a.width a.n a.at a.out.now c.if-width-eq0.true

pub returns-then-n-lt10 : goal.returns-then-n-lt10
returns-then-n-lt10 t c =
    let a = c.args in let d = c.spaces-q in
    stored_as (column_single a.width a.n c.if-width-eq0.false c.if-n-lt10.true)
    (stored_then d.ensures (stored_byte d.new.out _ d.result (48 + a.n) (d.result + 1) refl refl))

pub bounds-out-p : goal.bounds-out-p
bounds-out-p t c =
    let a = c in let d = c.column-p in
    omega (arith, a.requires, d.ensures.place, d.auto.out, column_length (a.args.width - 1) (a.args.n / 10))

pub overflow_add-result-2 : goal.overflow_add-result-2
overflow_add-result-2 t c =
    let a = c in let d = c.column-p in
    omega (arith, a.requires, d.ensures.place, column_length (a.args.width - 1) (a.args.n / 10), a.well_formed.0.0)

pub returns : goal.returns
returns t c =
    let a = c.args in let d = c.column-p in
    stored_as (column_tens a.width a.n c.if-width-eq0.false c.if-n-lt10.false)
    (stored_then d.ensures (stored_byte d.new.out _ d.result (48 + a.n % 10) (d.result + 1) refl refl))

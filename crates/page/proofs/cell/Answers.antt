use mathlib.Core.Path.{refl}
use native.Mathlib.Omega.{arith}
use Prim.Native.Nat.{◌+◌}
use Rattle.decimal.proofs.Stores.{stored_byte, stored_then}
use Rattle.page.specs.Rows.{cell}
use Rattle.page.proofs.Columns.{column_length}
use Rattle.page.proofs.cell.Goals as goal

pub bounds-out-p : goal.bounds-out-p
bounds-out-p c =
    let a = c in let d =
    c.column-p in omega (arith, a.requires, d.ensures.place, d.auto.out, column_length a.args.width a.args.n)

pub overflow_add-result : goal.overflow_add-result
overflow_add-result c =
    let a = c in let d =
    c.column-p in omega (arith, a.requires, d.ensures.place, column_length a.args.width a.args.n, a.well_formed.0.0)

pub returns : goal.returns
unfolding cell
returns c = let d = c.column-p in stored_then d.ensures (stored_byte d.new.out _ d.result 32 (d.result + 1) refl refl)

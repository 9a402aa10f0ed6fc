use mathlib.Core.Path.{refl, ap}
use native.Mathlib.Omega.{arith}
use Prim.Native.Nat.{◌+◌}
use Rattle.decimal.proofs.Stores.{stored_as, stored_byte, stored_then}
use Rattle.page.specs.Rows.{reading_column, row_of}
use Rattle.page.proofs.Columns.{cell_length, reading_length}
use Rattle.page.proofs.row.Goals as goal

pub cell-b-requires : goal.cell-b-requires
cell-b-requires c = omega (arith, cell_length, c.cell-a.ensures.place, c.cell-a.auto.out, c.requires.room)

pub cell-c-requires : goal.cell-c-requires
cell-c-requires c =
    omega (arith, cell_length, c.cell-a.ensures.place, c.cell-a.auto.out, c.cell-b.ensures.place, c.cell-b.auto.out, c.requires.room)

pub cell-d-requires : goal.cell-d-requires
cell-d-requires c =
    omega (
      arith,
      cell_length,
      c.cell-a.ensures.place,
      c.cell-a.auto.out,
      c.cell-b.ensures.place,
      c.cell-b.auto.out,
      c.cell-c.ensures.place,
      c.cell-c.auto.out,
      c.requires.room,
    )

pub reading-e-requires : goal.reading-e-requires
reading-e-requires c =
    omega (
      arith,
      cell_length,
      c.cell-a.ensures.place,
      c.cell-a.auto.out,
      c.cell-b.ensures.place,
      c.cell-b.auto.out,
      c.cell-c.ensures.place,
      c.cell-c.auto.out,
      c.cell-d.ensures.place,
      c.cell-d.auto.out,
      c.requires.room,
    )

pub bounds-out-e : goal.bounds-out-e
bounds-out-e c =
    omega (
      arith,
      cell_length,
      reading_length,
      c.cell-a.ensures.place,
      c.cell-a.auto.out,
      c.cell-b.ensures.place,
      c.cell-b.auto.out,
      c.cell-c.ensures.place,
      c.cell-c.auto.out,
      c.cell-d.ensures.place,
      c.cell-d.auto.out,
      c.reading-e.ensures.place,
      c.reading-e.auto.out,
      c.requires.room,
    )

pub overflow_add-result : goal.overflow_add-result
overflow_add-result c =
    omega (
      arith,
      cell_length,
      reading_length,
      c.cell-a.ensures.place,
      c.cell-b.ensures.place,
      c.cell-c.ensures.place,
      c.cell-d.ensures.place,
      c.reading-e.ensures.place,
      c.requires.room,
      c.well_formed.0.0,
    )

pub returns : goal.returns
unfolding row_of
returns c =
    let r = c.reading-e in
    stored_then c.cell-a.ensures
    (stored_then c.cell-b.ensures
    (stored_then c.cell-c.ensures
    (stored_then c.cell-d.ensures
    (stored_then (stored_as (ap reading_column c.from_words.ensures) r.ensures) (stored_byte r.new.out _ r.result 10 (r.result + 1) refl refl)))))

use mathlib.Core.Path.{refl}
use native.Mathlib.Omega.{arith}
use Rattle.decimal.proofs.Stores.{stored_as, stored_whole}
use Rattle.page.proofs.Columns.{reading_hyphen, reading_silent, reading_number}
use Rattle.page.proofs.reading.Goals as goal

pub returns-in-Untested : goal.returns-in-Untested
returns-in-Untested c = rw c.in-Untested.is (stored_as (reading_hyphen 0 0 refl) (stored_whole _ (omega arith) c.bytes.ensures))

pub returns-in-Silent : goal.returns-in-Silent
returns-in-Silent c = rw c.in-Silent.is (stored_as (reading_silent 1 0 (λ z. omega (arith, z)) refl) (stored_whole _ (omega arith) c.bytes-in-Silent.ensures))

pub returns-in-Heard : goal.returns-in-Heard
returns-in-Heard c = rw c.in-Heard.is (stored_as (reading_number 2 c.in-Heard.decimetres (λ z. omega (arith, z)) (λ z. omega (arith, z))) c.column.ensures)

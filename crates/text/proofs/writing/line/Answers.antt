use mathlib.Core.Path.{refl}
use native.Mathlib.Omega.{arith}
use Prim.Native.Nat.{◌+◌}
use Rattle.decimal.proofs.Stores.{stored_byte, stored_then, stored_as, stored_whole}
use Rattle.text.proofs.Texts.{line_parts, line_length}
use Rattle.text.proofs.writing.line.Goals as goal

pub numbers-q-requires : goal.numbers-q-requires
numbers-q-requires c =
    let a = c in
    let b = c.bytes-p in
    let h = line_length a.args.word.now a.args.ns.now in
    let w = stored_whole a.args.word.now (omega (arith, a.requires)) b.ensures in
    omega (arith, a.requires, b.auto.out)

pub bounds-out-q : goal.bounds-out-q
bounds-out-q c =
    let a = c in
    let b = c.bytes-p in
    let d = c.numbers-q in
    let h = line_length a.args.word.now a.args.ns.now in
    let w = stored_whole a.args.word.now (omega (arith, a.requires)) b.ensures in
    omega (arith, a.requires, b.auto.out, d.ensures.place, d.auto.out)

pub overflow_add-result : goal.overflow_add-result
overflow_add-result c =
    let a = c in
    let h = line_length a.args.word.now a.args.ns.now in
    let w = stored_whole a.args.word.now (omega (arith, a.requires)) c.bytes-p.ensures in
    omega (arith, a.requires, c.numbers-q.ensures.place, a.well_formed.0.0)

pub returns : goal.returns
returns c =
    let s = c in
    let a = s.args in
    let d = c.numbers-q in
    let h = line_length a.word.now a.ns.now in
    let w = stored_whole a.word.now (omega (arith, s.requires)) c.bytes-p.ensures in
    stored_as (line_parts a.word.now a.ns.now) (stored_then w (stored_then d.ensures (stored_byte d.new.out _ d.result 10 (d.result + 1) refl refl)))

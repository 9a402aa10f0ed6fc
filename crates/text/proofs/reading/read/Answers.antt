use native.Mathlib.Omega.{arith}
use mathlib.Core.Path.{refl, ap}
use Rattle.std.specs.Prelude.{Ok}
use Rattle.text.proofs.Verdicts.{long, many, bad_line, readable, room}
use Rattle.text.proofs.reading.read.Goals as goal

pub returns-then-bytes-gt-MOST_BYTES : goal.returns-then-bytes-gt-MOST_BYTES
returns-then-bytes-gt-MOST_BYTES c =
    let e = long c.args.bytes.now c.if-bytes-gt-MOST_BYTES.true in
    record { verdict = rw e refl; calls_after = rw e refl }

pub returns-then-lines-gt-MOST_LINES : goal.returns-then-lines-gt-MOST_LINES
returns-then-lines-gt-MOST_LINES c =
    let s = c.of-lines in
    let e = many c.args.bytes.now s.result c.if-bytes-gt-MOST_BYTES.false s.ensures c.if-lines-gt-MOST_LINES.true in
    record { verdict = rw e refl; calls_after = rw e refl }

pub returns-then-lines-ne0 : goal.returns-then-lines-ne0
returns-then-lines-ne0 c =
    let s = c.of-lines in
    let e = bad_line c.args.bytes.now s.result c.if-bytes-gt-MOST_BYTES.false s.ensures c.if-lines-gt-MOST_LINES.false c.if-lines-ne0.true in
    record { verdict = rw e refl; calls_after = rw e refl }

pub words-requires : goal.words-requires
words-requires c =
    let s = c.of-lines in
    omega (arith, room c.args.bytes.now s.result c.if-bytes-gt-MOST_BYTES.false s.ensures c.if-lines-gt-MOST_LINES.false c.if-lines-ne0.false)

pub returns : goal.returns
returns c =
    let s = c.of-lines in
    let w = c.words in
    let e = readable c.args.bytes.now s.result c.if-bytes-gt-MOST_BYTES.false s.ensures c.if-lines-gt-MOST_LINES.false c.if-lines-ne0.false in
    record { verdict = rw e (ap Ok w.ensures.count); calls_after = rw e w.ensures.calls_after }

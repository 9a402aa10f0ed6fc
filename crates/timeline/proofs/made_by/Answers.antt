use Rattle.std.specs.Prelude.{◌==◌}
use Prim.Native.Nat.{ℕ}
use mathlib.Core.Path.{ap, ◌∙◌}
use mathlib.Core.Bool.{◌&&◌}
use native.Mathlib.Omega.{arith}
use lib.Dec.{leb}
use Rattle.lists.specs.Choice.{to_bit}
use Rattle.lists.proofs.Sums.{bit_le}
use Rattle.timeline.proofs.Counting.{count_next, count_on, count_le}
use Rattle.timeline.proofs.made_by.Goals as goal

pub bench_at-made-requires : goal.bench_at-made-requires
bench_at-made-requires c =
    let s = c in
    let a = s.args in
    let p = s.requires in
    let l = c.loop-p in
    (count_next a.journal.now p.0 p.1 a.low a.high a.bench l.p l.row l.count (l.invariant p.0 p.1 p.2 p.3) p.3.inside c.loop-p-test.true).room

pub cost_at-row-requires : goal.cost_at-row-requires
cost_at-row-requires c =
    let s = c in
    let a = s.args in
    let p = s.requires in
    let l = c.loop-p in
    (count_next a.journal.now p.0 p.1 a.low a.high a.bench l.p l.row l.count (l.invariant p.0 p.1 p.2 p.3) p.3.inside c.loop-p-test.true).room

pub overflow_add-count : goal.overflow_add-count
overflow_add-count c =
    let s = c in
    let p = s.requires in
    let l = c.loop-p in
    omega (
      arith,
      count_le s.args.journal.now p.0 p.1 s.args.low s.args.high s.args.bench l.p l.row l.count (l.invariant p.0 p.1 p.2 p.3),
      c.loop-p-test.true,
      s.ranges.high.fits,
      c.from-count.ensures ∙ ap to_bit c.counted.ensures,
      bit_le (leb s.args.low l.p && (c.bench_at-made.result == s.args.bench)),
    )

pub overflow_add-row : goal.overflow_add-row
overflow_add-row c =
    let s = c in
    let a = s.args in
    let p = s.requires in
    let l = c.loop-p in
    let k = count_next a.journal.now p.0 p.1 a.low a.high a.bench l.p l.row l.count (l.invariant p.0 p.1 p.2 p.3) p.3.inside
    c.loop-p-test.true in
    omega (arith, k.reach, k.word, c.cost_at-row.ensures)

pub loop-p-preserved : goal.loop-p-preserved
loop-p-preserved c =
    let s = c in
    let a = s.args in
    let l = c.loop-p in
    let b = c.bench_at-made.ensures in
    λ g ss u k.
    count_on a.journal.now g ss a.low a.high a.bench l.p l.row l.count (l.invariant g ss u k) k.inside c.loop-p-test.true _ _ c.cost_at-row.ensures
    (c.from-count.ensures ∙ ap to_bit c.counted.ensures ∙ ap (λ (i : ℕ). to_bit (leb a.low l.p && (i == a.bench))) b)

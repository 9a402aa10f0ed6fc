use Rattle.text.specs.declared.number.Number.TheVariants.{Empty}
use Prim.Native.Nat.{◌<◌}
use native.Mathlib.Omega.{arith}
use mathlib.Core.Path.{refl, sym, ap, ◌∙◌}
use lib.ListN.{length}
use lib.Seq.{sets}
use Rattle.text.proofs.Walks.{words_length, words_stores, words_end}
use Rattle.lists.proofs.Stores.{sets_over}
use Rattle.text.specs.Scan.{words_from}
use Rattle.text.proofs.reading.words.Goals as goal

pub word_at-count-requires : goal.word_at-count-requires
word_at-count-requires c =
    let l = c.loop-byte in
    let bytes = c.args.bytes.now in
    omega (arith, words_length bytes l.byte-index l.number _ (omega arith) refl, l.invariant.0, l.invariant.1, c.requires)

pub loop-byte-preserved : goal.loop-byte-preserved
loop-byte-preserved c =
    let l = c.loop-byte in
    let bytes = c.args.bytes.now in
    let w = c.word_at-count in
    let n = c.after-number in
    let h : l.byte-index < length bytes = omega arith in (
      w.auto.calls ∙ l.invariant.0,
      omega (arith, w.ensures.place, words_length bytes l.byte-index l.number n.result h n.ensures, l.invariant.1),
      words_stores bytes l.byte-index l.number l.calls w.new.calls l.count w.result n.result h n.ensures w.ensures.place w.ensures.calls_after ∙ l.invariant.2,
    )

pub returns : goal.returns
returns c =
    let l = c.loop-byte in
    let bytes = c.args.bytes.now in
    let e = words_end bytes l.byte-index l.number (omega arith) in
    record {
      count = omega (arith, ap length e, l.invariant.1);
      calls_after = sym (ap (sets l.calls l.count) e) ∙ l.invariant.2 ∙ sets_over (words_from Empty bytes) c.args.calls.now c.requires;
    }

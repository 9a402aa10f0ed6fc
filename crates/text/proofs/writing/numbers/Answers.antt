use mathlib.Core.Path.{◌∙◌}
use native.Mathlib.Omega.{arith}
use lib.ListN.{length, drop}
use Prim.Native.Nat.{◌+◌, ◌<◌}
use Rattle.lists.specs.Lists.{concat_map}
use Rattle.text.specs.Writing.{spaced}
use Rattle.decimal.proofs.Stores.{stored_left}
use Rattle.text.proofs.Texts.{numbers_length, numbers_turn}
use Rattle.text.proofs.writing.numbers.Goals as goal

pub loop-n-preserved : goal.loop-n-preserved
loop-n-preserved c =
    let l = c.loop-n in
    let ws = c.args.words.now in
    let d = c.spaced-p in
    let h : l.n-index < length ws = omega arith in (
      d.auto.out ∙ l.invariant.0,
      omega (arith, d.ensures.place, numbers_length ws l.n-index h, l.invariant.1),
      stored_left (concat_map spaced (drop (l.n-index + 1) ws)) (concat_map spaced (drop l.n-index ws)) d.ensures (numbers_turn ws l.n-index h) ∙ l.invariant.2,
    )

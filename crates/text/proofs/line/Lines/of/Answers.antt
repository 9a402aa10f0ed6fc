use lib.ListN.{length, get_or}
use native.Mathlib.Omega.{arith}
use mathlib.Core.Path.{ap, ◌∙◌}
use Prim.Native.Nat.{◌<◌}
use Rattle.text.specs.declared.line.Lines.{Lines}
use Rattle.text.proofs.Walks.{run_turn, ended_most}
use Rattle.text.specs.Scan.{byte_in}
use Rattle.text.proofs.line.Lines.of.Goals as goal

pub loop-byte-preserved : goal.loop-byte-preserved
loop-byte-preserved c =
    let l = c.loop-byte in
    let bytes = c.args.bytes.now in
    let h : l.byte-index < length bytes = omega arith in (
      omega (arith, ap (λ (t : Lines). t.ended) c.push.ensures, ended_most l.lines (get_or bytes l.byte-index 0)),
      run_turn byte_in bytes l.byte-index l.lines c.push.new.self h c.push.ensures ∙ l.invariant.1,
    )

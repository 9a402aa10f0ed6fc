use Prim.Native.Nat.{◌+◌}
use mathlib.Core.Path.{◌≡◌}
use lib.ListN.{length, drop}
use lib.Seq.{sets}
use Rattle.text.specs.Scan.{words_from}
use Rattle.text.proofs.reading.words.Given as goal

abbrev pub invariant-loop-byte : goal.invariant-loop-byte
invariant-loop-byte l = (length l.calls ≡ length l.initial.calls)
    × (l.count + length (words_from l.number (drop l.byte-index l.bytes)) ≡ length (words_from l.initial.number l.bytes))
    × (sets l.calls l.count (words_from l.number (drop l.byte-index l.bytes)) ≡ sets l.initial.calls l.initial.count (words_from l.initial.number l.bytes))

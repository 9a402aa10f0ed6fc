use Prim.Native.Nat.{◌+◌, ◌*◌}
use mathlib.Core.Path.{◌≡◌}
use lib.ListN.{length, drop}
use lib.Seq.{sets}
use Rattle.arrangement.specs.Orders.{kind_number, words_from, call_words}
use Rattle.arrangement.proofs.write_calls.Given as goal

abbrev pub invariant-loop-k : goal.invariant-loop-k
invariant-loop-k l =
    (length l.wanted ≡ 1 + length l.behind)
    × (length l.list ≡ length l.initial.list)
    × (sets l.list (5 * l.k) (words_from (kind_number l.kind) l.before (drop l.k l.behind)) ≡ sets l.initial.list 0 (call_words (kind_number l.kind) l.wanted))

-- The lines so far and those that are left are all of them.
use Rattle.std.proofs.Common.{◌≡◌, ◌+◌, ◌≤◌, drop}
use Rattle.lists.specs.Lists.{count}
use Rattle.vectors.proofs.running.cases.lines.Given as goal

abbrev pub invariant-loop-i : goal.invariant-loop-i
invariant-loop-i g l =
    (l.from ≤ l.i)
    × (l.count ≤ l.i)
    × (l.count + count 10 (drop l.i l.bytes) ≡ count 10 l.bytes)

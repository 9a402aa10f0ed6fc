use Prim.Native.Nat.{◌+◌, ◌-◌, ◌≤◌}
use mathlib.Core.Path.{◌≡◌}
use lib.ListN.{length, drop}
use Rattle.image_check.specs.Scratch.{list_run, list_owners}
use Rattle.image_check.proofs.passes.list.Given as goal

abbrev pub invariant-loop-k : goal.invariant-loop-k
invariant-loop-k l =
    (l.most ≤ l.d) × (l.at + l.most ≤ length l.part) × (length l.own ≡ length l.initial.own)
    × (l.k + list_run l.v (l.d - l.k) l.own (drop (l.at + l.k) l.part) ≡ list_run l.v l.d l.initial.own (drop l.at l.part))
    × (list_owners (l.d - l.k) l.own (drop (l.at + l.k) l.part) ≡ list_owners l.d l.initial.own (drop l.at l.part))

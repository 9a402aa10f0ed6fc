use Prim.Native.Nat.{◌+◌, ◌-◌, ◌*◌, ◌≤◌}
use mathlib.Core.Path.{◌≡◌}
use lib.ListN.{length, take}
use Rattle.image.specs.Image.{load}
use Rattle.machine.specs.Calls.{Parameters}
use Rattle.reduction.specs.Reduction.{reduced}
use Rattle.reduction.specs.Trials.{last_code, calls_at, Numbered, Ready}
use Rattle.reduction.proofs.ReductionLaws.{searching}
use Rattle.reduction.proofs.search.Given as goal

abbrev pub invariant-loop-s : goal.invariant-loop-s
invariant-loop-s l = record {
  inside : l.s.at ≤ l.s.count - 1;
  fewer : l.s.count ≤ length l.initial.kept;
  numbered : Numbered l.calls l.kept l.s.count;
  runs : l.runs + (20001 * l.s.count - l.s.at) ≤ 20001 * 20000 + 1;
  searched : (w : Parameters) → Ready w l.start l.initial.vertices l.initial.edges l.initial.journal l.closed l.types
      → l.wanted ≡ last_code w (load l.start) (calls_at l.calls l.initial.kept)
      → searching (last_code w (load l.start)) l.wanted l.s.at (calls_at l.calls (take l.s.count l.kept)) l.runs
      ≡ reduced (last_code w (load l.start)) (calls_at l.calls l.initial.kept);
}

abbrev pub decreases-loop-s : goal.decreases-loop-s
decreases-loop-s l = 20001 * l.s.count - l.s.at

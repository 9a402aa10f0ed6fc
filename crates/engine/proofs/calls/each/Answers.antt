use mathlib.Core.Path.{refl}
use native.Mathlib.Omega.{arith}
use Rattle.commands.specs.Calls.{calls_of}
use Rattle.engine.proofs.CallLaws.{used_fits, capacity_is, reads_five, own_calls, after_at}
use Rattle.engine.proofs.calls.each.Goals as goal

pub carry_out-requires : goal.carry_out-requires
carry_out-requires c =
    let s = c in
    let p = s.requires.runs in record {
      running = (p.0, p.1, calls_of s.args.calls.now, p.2, reads_five s.args.calls.now, own_calls p.0 p.1 _ _ _ _ p.2 _ refl (calls_of s.args.calls.now));
      granted = (used_fits p.0 p.1 _ _ _ _ p.2 _ refl, omega arith);
      count_in_bounds = (s.requires.calls_in_bounds, omega arith);
    }

pub returns : goal.returns
returns c =
    let a = c.args in
    λ w m h. after_at _ _ (capacity_is w m _ _ _ _ h _ refl)
    (c.carry_out.ensures w m (calls_of a.calls.now) h (reads_five a.calls.now)
    (own_calls w m _ _ _ _ h _ refl (calls_of a.calls.now)))

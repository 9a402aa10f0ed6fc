use Prim.Native.Nat.{◌+◌, ◌*◌, ◌/◌, ◌≤◌, ◌<◌}
use mathlib.Core.Path.{◌≡◌, refl, ap, ◌∙◌}
use mathlib.Core.List.{List}
use native.Mathlib.Omega.{arith}
use lib.ListN.{length, take}
use lib.Seq.{take_all}
use Rattle.commands.specs.Calls.{Call, calls_of}
use Rattle.machine.specs.Machine.{last}
use Rattle.machine.proofs.Whole.{calls_length}
use Rattle.engine.proofs.CallLaws.{reads_five, after_calls_none, after_calls_more, after_calls_all}
use Rattle.copies.specs.Copies.{step_graphs, stretch, recorded}
use Rattle.copies.proofs.MadeLaws.{part_five}
use Rattle.recorder.proofs.ListLaws.{stretch_left, covers_more, covers_none}
use Rattle.recorder.proofs.record_all.Goals as goal

pub loop-k-init : goal.loop-k-init
loop-k-init c =
    λ w m h f e. (after_calls_none w w.changes m _ _ _ _ _ c.args.answers.now h, covers_none w m _ _ _ _ _ _ f)

pub record_call-made-requires : goal.record_call-made-requires
record_call-made-requires c =
    let calls = c.args.calls.now in
    let p = c.requires.can_begin in
    let l = c.loop-k in
    let g = l.invariant p.0 p.1 p.2 p.3 p.4 in
    let fits : 5 * l.k + 5 ≤ length calls = omega (arith, c.loop-k-test.true) in record {
      call_len = (
        part_five calls l.k fits,
        stretch_left calls l.k fits p.0 p.1 l.count c.args.size (length l.copies) g.1.copied.count
            (omega (arith, c.requires.calls_in_bounds.1, l.auto.copies)),
      );
      can_add = (p.0, _, _, _, g.0.after, g.1, p.4);
    }

pub loop-k-preserved : goal.loop-k-preserved
loop-k-preserved c =
    let a = c.args in
    let l = c.loop-k in
    let t : l.k < length a.calls.now / 5 = c.loop-k-test.true in
    let fits : 5 * l.k + 5 ≤ length a.calls.now = omega (arith, t) in
    λ w m h f e.
    let g = l.invariant w m h f e in
    let d = c.record_call-made.ensures w (last w m (take l.k (calls_of a.calls.now))) a.copies.now (step_graphs w m (take l.k (calls_of a.calls.now))) g.0.after g.1 e in (
      after_calls_more w w.changes m _ _ _ _ _ _ (reads_five a.calls.now) l.k (5 * l.k) _ _ _ g.0 (omega (arith, t)) (omega arith) refl d.0 (omega (arith, t, c.requires.calls_in_bounds.0)),
      covers_more a.calls.now l.k fits w m _ _ _ _ _ _ d.1,
    )

pub returns : goal.returns
returns c =
    let l = c.loop-k in
    let calls = c.args.calls.now in
    let many = calls_length (length calls / 5) calls (omega arith) (omega arith) in
    let all : take l.k (calls_of calls) ≡ calls_of calls = take_all l.k (calls_of calls) (omega arith) in
    λ w m h f e.
    let g = l.invariant w m h f e in (
      after_calls_all w w.changes m _ _ _ _ _ _ (calls_of calls) l.k (omega (arith, many)) g.0,
      g.1.copied.kept ∙ ap (λ (xs : List Call). recorded (stretch w) (step_graphs w m xs) c.args.copies.now) all,
    )

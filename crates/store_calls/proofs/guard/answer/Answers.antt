use Prim.Native.Nat.{ℕ, ◌-◌}
use mathlib.Core.Path.{◌≡◌, refl, sym, ap, ◌∙◌}
use native.Mathlib.Omega.{arith}
use lib.ListN.{take}
use borrow.Author.Tests.{not-true, not-false}
use Rattle.history.specs.Machine.{Machine}
use Rattle.machine.specs.Calls.{Parameters, bounds_in}
use Rattle.machine.specs.HistoryCodes.{out_of_reach}
use Rattle.machine.specs.Stores.{store_calls_of}
use Rattle.commands.specs.Calls.{call_at}
use Rattle.history_calls.specs.Memory.{memory}
use Rattle.engine.specs.Running.{Running}
use Rattle.engine.proofs.CallLaws.{used_is}
use Rattle.store_calls.specs.Guard.{calls_in}
use Rattle.store_calls.proofs.CallsIn.{reads_six}
use Rattle.store_calls.proofs.GuardLaws.{alike, one_alike, stretch_near, absent_taken, there_taken, far_taken}
use Rattle.store_calls.proofs.guard.answer.Goals as goal

-- whether the first call leads too far
far : (c : goal.After-slice_known-then-beyond-1) (w : Parameters) (m : Machine) → Running w c.args.store
    (memory c.args.vertices.now
    c.args.edges.now
    c.args.journal.now
    c.args.marks.now)
    c.args.closed.now
    c.args.types m
    → c.beyond.result ≡ out_of_reach c.args.capacity m
    (call_at (take 5 (lib.ListN.drop 1 c.args.calls.now)))
far c w m h =
    c.beyond.ensures c.args.vertices.now
    c.args.edges.now (bounds_in w) m
    c.args.capacity h.represents
    (ap (λ (u : ℕ). c.args.capacity - u) (used_is w m _ _ _ _ h))

far_at_After_carry_out_arg_6_1 : (c : goal.After-carry_out-arg-6-1) (w : Parameters) (m : Machine) → Running w c.args.store
    (memory c.args.vertices.now
    c.args.edges.now
    c.args.journal.now
    c.args.marks.now)
    c.args.closed.now
    c.args.types m
    → c.beyond.result ≡ out_of_reach c.args.capacity m
    (call_at (take 5 (lib.ListN.drop 1 c.args.calls.now)))
far_at_After_carry_out_arg_6_1 c w m h =
    c.beyond.ensures c.args.vertices.now
    c.args.edges.now (bounds_in w) m
    c.args.capacity h.represents
    (ap (λ (u : ℕ). c.args.capacity - u) (used_is w m _ _ _ _ h))

far_at_After_slice_known_10_1 : (c : goal.After-slice_known-10-1) (w : Parameters) (m : Machine) → Running w c.args.store
    (memory c.args.vertices.now
    c.args.edges.now
    c.args.journal.now
    c.args.marks.now)
    c.args.closed.now
    c.args.types m
    → c.beyond.result ≡ out_of_reach c.args.capacity m
    (call_at (take 5 (lib.ListN.drop 1 c.args.calls.now)))
far_at_After_slice_known_10_1 c w m h =
    c.beyond.ensures c.args.vertices.now
    c.args.edges.now (bounds_in w) m
    c.args.capacity h.represents
    (ap (λ (u : ℕ). c.args.capacity - u) (used_is w m _ _ _ _ h))

pub refuse-requires : goal.refuse-requires
refuse-requires c = omega (arith, c.requires.in_bounds, c.requires.calls_in_bounds)

pub refuse-requires-then-beyond : goal.refuse-requires-then-beyond
refuse-requires-then-beyond c =
    omega (
      arith,
      c.requires.in_bounds,
      c.requires.calls_in_bounds,
    )

pub returns-then-not-there : goal.returns-then-not-there
returns-then-not-there c =
    let a = c.args in
    let l = c.requires.in_bounds in record {
      alike = one_alike a.calls.now l;
      takes = λ w m h. absent_taken w m _ _ _ _ a.capacity h a.there a.calls.now a.answers.now _ l
          (not-true _ c.if-not-there.true-raw) c.refuse.ensures;
    }

pub beyond-requires : goal.beyond-requires
beyond-requires c =
    let p = c.requires.runs.0 in (
      c.args.vertices.now,
      c.args.edges.now,
      (bounds_in p.0, p.1, p.2.represents),
    )

pub returns-then-beyond : goal.returns-then-beyond
returns-then-beyond c =
    let a = c.args in
    let l = c.requires.in_bounds in record {
      alike = one_alike a.calls.now l;
      takes = λ w m h.
          far_taken w m _ _ _ _ a.capacity h a.there a.calls.now a.answers.now _ l
          (not-false _ c.if-not-there.false-raw) _ refl
          (sym (far c w m h) ∙ c.if-beyond.true) c.refuse-then-beyond.ensures;
    }

pub stretch_length-count-requires : goal.stretch_length-count-requires
stretch_length-count-requires c = c.requires.in_bounds

-- the calls taken, and what the loop asks of them
pub carry_out-after-requires : goal.carry_out-after-requires
carry_out-after-requires c =
    let a = c.args in
    let p = c.requires.runs.0 in
    let t = c.stretch_length-count.ensures in record {
      running = (
        p.0,
        p.1,
        calls_in (take c.stretch_length-count.result (store_calls_of a.calls.now)),
        p.2,
        reads_six c.stretch_length-count.result a.calls.now t.some t.there,
        stretch_near p.0 p.1 _ _ _ _ a.capacity p.2 _ c.stretch_length-count.result a.calls.now t
            c.requires.runs.1.1
            refl _ refl (sym (far_at_After_carry_out_arg_6_1 c p.0 p.1 p.2)
            ∙ c.if-beyond.false),
      );
      granted = c.requires.runs.1;
      count_in_bounds = (omega (arith, t.there, c.requires.calls_in_bounds), omega arith);
    }

pub returns : goal.returns
returns c =
    let a = c.args in
    let n = c.stretch_length-count.result in
    let t = c.stretch_length-count.ensures in record {
      alike = alike _ n a.calls.now t;
      takes = λ w m h.
          there_taken w m _ _ _ _ a.capacity h a.there a.calls.now a.answers.now _ n
          (not-false _
          c.if-not-there.false-raw)
          (c.carry_out-after.ensures w m (calls_in (take n (store_calls_of a.calls.now))) h
          (reads_six n a.calls.now t.some t.there)
          (stretch_near w m _ _ _ _ a.capacity h _ n a.calls.now t
          c.requires.runs.1.1 refl _ refl (sym
          (far_at_After_slice_known_10_1 c w m h)
          ∙ c.if-beyond.false)));
    }

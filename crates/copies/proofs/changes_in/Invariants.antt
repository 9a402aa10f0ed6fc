use Rattle.std.proofs.Common.{◌≡◌, ◌≤◌, ◌+◌, length}
use Rattle.commands.specs.Calls.{calls_of}
use Rattle.copies.specs.Copies.{changes_in}
use Rattle.copies.proofs.changes_in.Given as goal

abbrev pub invariant-loop-call : goal.invariant-loop-call
invariant-loop-call l = record {
  next : (goal.iterator-loop-call).can_next l.call-iterator × (goal.iterator-loop-call).is_finite l.call-iterator;
  five : l.call-iterator.size ≡ 5;
  short : l.count + length l.call-iterator.rest.now ≤ length l.calls;
  counted : l.count + changes_in (calls_of l.call-iterator.rest.now) ≡ changes_in (calls_of l.calls);
}

use mathlib.Core.Path.{◌≡◌, ◌∙◌}
use mathlib.Core.Bool.{false}
use native.Mathlib.Omega.{arith}
use Rattle.std.proofs.Common.{rules, nat_lt}
use Rattle.commands.specs.Calls.{call_at}
use Rattle.store_calls.proofs.GuardLaws.{no_farther, reach_ahead, counted_ahead}
use Rattle.store_calls.proofs.guard.beyond.Goals as goal

pub too_far-requires-clause-steps_bound : goal.too_far-requires-clause-steps_bound
too_far-requires-clause-steps_bound c =
    let p = c.requires in
    reach_ahead p.2.0 _ _ p.2.1 p.2.2 0 (call_at c.args.call.now) _ (c.unwrap_or-ahead.ensures ∙ c.place_ahead.ensures) (omega arith)

pub returns-then-position-ahead : goal.returns-then-position-ahead
returns-then-position-ahead c =
    λ vertices edges b m capacity h f. counted_ahead b _ _ m h capacity (call_at c.args.call.now) _
    (c.unwrap_or-ahead.ensures ∙ c.place_ahead.ensures) (omega arith) _ f _ (c.too_far.ensures b _ m.line h.journal)

pub returns-else-position-ahead : goal.returns-else-position-ahead
returns-else-position-ahead c =
    let e : nat_lt c.args.store.current.position.place c.unwrap_or-ahead.result ≡ false = search rules in
    λ vertices edges b m capacity h f. e ∙ no_farther b _ _ m h capacity (call_at c.args.call.now) _
    (c.unwrap_or-ahead.ensures ∙ c.place_ahead.ensures) (omega arith)

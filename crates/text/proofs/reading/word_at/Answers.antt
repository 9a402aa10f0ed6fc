use Rattle.std.proofs.Common.{rules}
use Rattle.text.specs.Scan.{word_at}
use Rattle.text.proofs.reading.word_at.Goals as goal

pub returns-then-not-ends_field-clause-place : goal.returns-then-not-ends_field-clause-place
unfolding word_at
returns-then-not-ends_field-clause-place c = search rules

pub returns-then-not-ends_field-clause-calls_after : goal.returns-then-not-ends_field-clause-calls_after
unfolding word_at
returns-then-not-ends_field-clause-calls_after c = search rules

pub bounds-calls-at : goal.bounds-calls-at
unfolding word_at
bounds-calls-at c = search rules

pub returns-clause-place : goal.returns-clause-place
unfolding word_at
returns-clause-place c = search rules

pub returns-clause-calls_after : goal.returns-clause-calls_after
unfolding word_at
returns-clause-calls_after c = search rules

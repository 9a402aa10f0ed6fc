use mathlib.Core.Path.{sym, ◌∙◌}
use borrow.Author.Rules.{rules}
use borrow.Author.Tests.{not-true, not-false}
use Rattle.image.specs.Parts.{part_bound}
use Rattle.image.proofs.part_bound.Goals as goal

pub returns-then-not-has_part : goal.returns-then-not-has_part
unfolding part_bound
returns-then-not-has_part c = (rw (sym c.has_part.ensures ∙ not-true c.has_part.result c.if-not-has_part.true-raw), search rules)

pub returns : goal.returns
unfolding part_bound
returns c =
    (rw (sym c.has_part.ensures ∙ not-false c.has_part.result c.if-not-has_part.false-raw) c.get.ensures, search rules)

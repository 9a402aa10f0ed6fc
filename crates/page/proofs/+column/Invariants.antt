use Rattle.page.proofs.+column.Given as goal

abbrev pub decreases-column : goal.decreases-column
decreases-column l = l.width

use native.Mathlib.Omega.{arith}
use Rattle.question_calls.proofs.Rows.{edge_row_end}
use Rattle.question_calls.proofs.edge_word.Goals as goal

pub overflow_add-result : goal.overflow_add-result
overflow_add-result c = omega (arith, edge_row_end _ _ _ c.edge_row.ensures _ c.in_ok-at.was)

pub offset_bounds-tables-at : goal.offset_bounds-tables-at
offset_bounds-tables-at c = omega (arith, edge_row_end _ _ _ c.edge_row.ensures _ c.in_ok-at.was)

pub bounds-tables-at : goal.bounds-tables-at
bounds-tables-at c = omega (arith, edge_row_end _ _ _ c.edge_row.ensures _ c.in_ok-at.was)

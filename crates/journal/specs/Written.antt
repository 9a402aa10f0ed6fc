-- An edit that is written down and carried out.
use Rattle.std.specs.Prelude.{ℕ, ◌≡◌, List}
use Rattle.graph.specs.declared.Edit.{Edit}
use Rattle.graph_tables.specs.Tables.{State}
use Rattle.graph_tables.specs.Edits.{state_apply}
use Rattle.journal.specs.Rows.{RowStep, rowed}

-- the edit is row i, which says this of its step, and the tables have it behind them
pub record Written (e : Edit) (x : RowStep) (i : ℕ) (s : State) (t : List ℕ) (s' : State) (t' : List ℕ) : Type 0 where
  pub state : s' ≡ state_apply e s
  pub row : t' ≡ rowed i e x t

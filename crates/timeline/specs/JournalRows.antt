-- The rows of the journal as edits that lead from one graph to the next, and the tables somewhere on the way.
use Rattle.std.specs.Prelude.{ℕ, zero, suc, ◌+◌, ◌-◌, ◌*◌, ◌^◌, ◌≤◌, ◌<◌, Bool, true, false, List, length}
use Rattle.graph.specs.Graph.{Graph}
use Rattle.graph.specs.WellFormed.{Bounds, WellFormed, Within}
use Rattle.graph.specs.Edits.{Applies, EditIn, apply}
use Rattle.journal.specs.Rows.{row_at}
use Rattle.graph_tables.specs.Tables.{State}
use Rattle.graph_tables.specs.Holds.{Holds}
use Rattle.graph_tables.specs.Capacities.{Sized}

-- what the first i rows make of g
abbrev pub graph_after : List ℕ → Graph → ℕ → Graph
graph_after t g zero = g
graph_after t g (suc i) = apply (row_at t i) (graph_after t g i)

-- n rows that lead on from g, each within the bounds, of which the tables have u behind them
pub record JournalRows (b : Bounds) (t : List ℕ) (g : Graph) (n : ℕ) (s : State) (u : ℕ) : Type 0 where
  pub sized : Sized b s
  pub sound : WellFormed g
  pub bounded : Within b g
  pub applies : (i : ℕ) → i < n → Applies (row_at t i) (graph_after t g i)
  pub inside : (i : ℕ) → i < n → EditIn b (row_at t i)
  pub within : 12 * n ≤ length t
  pub short : length t < 2 ^ 32
  pub upto : u ≤ n
  pub holds : Holds s (graph_after t g u)

-- ---- the ways back and on

-- the number n before u, or n after it
abbrev pub shifted : Bool → ℕ → ℕ → ℕ
shifted true n u = u - n
shifted false n u = u + n

-- from u there are n back, down to 0, or n on, up to m
abbrev pub Reach : Bool → ℕ → ℕ → ℕ → Type 0
Reach true n u m = n ≤ u
Reach false n u m = u + n ≤ m

-- the row between u rows behind and one less, or one more
abbrev pub crossed : Bool → ℕ → ℕ
crossed true u = u - 1
crossed false u = u

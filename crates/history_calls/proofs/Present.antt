-- For callers: what the relation says of the present graph and the tables.
use Rattle.graph.specs.WellFormed.{Bounds, Within}
use Rattle.history.specs.Machine.{Machine, present}
use Rattle.graph_tables.specs.Holds.{Holds}
use Rattle.graph_tables.specs.Capacities.{Sized}
use Rattle.timeline.proofs.Steps.{holds_current, within_current}
use Rattle.history_calls.specs.declared.Store.{Store}
use Rattle.history_calls.specs.Memory.{Memory, tables_of}
use Rattle.history_calls.specs.Represents.{Represents}

module _ (b : Bounds) (x : Store) (mem : Memory) (m : Machine) (h : Represents b x mem m) where
  -- the tables hold Gp
  pub holds_present : Holds (tables_of x mem) (present m)
  holds_present = holds_current b x.current.position (tables_of x mem) mem.journal m.line h.journal

  pub within_present : Within b (present m)
  within_present = within_current b x.current.position (tables_of x mem) mem.journal m.line h.journal

  pub sized_present : Sized b (tables_of x mem)
  sized_present = h.journal.rows.sized

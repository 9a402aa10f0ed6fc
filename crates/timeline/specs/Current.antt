-- The record of ends, counts and position after a step, and at another place.
use Rattle.std.specs.Prelude.{ℕ, ◌+◌}
use Rattle.graph_tables.specs.declared.Head.{Head}
use Rattle.timeline.specs.declared.Position.{Position}
use Rattle.timeline.specs.declared.Current.{Current}

-- a step of so many rows: p grows by 1, and it is the last step
abbrev pub after_step : Position → Head → ℕ → Current
after_step p h rows = record {
  head = h;
  position = record { place = p.place + 1; steps = p.place + 1; used = p.used + rows };
}

-- at a place with so many rows before it: the steps stay
abbrev pub at_place : Position → Head → ℕ → ℕ → Current
at_place p h place used = record { head = h; position = record { place = place; steps = p.steps; used = used } }

-- before the first step
abbrev pub no_steps : Position
no_steps = record { place = 0; steps = 0; used = 0 }

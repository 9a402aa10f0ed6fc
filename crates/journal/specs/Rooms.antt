-- The room for the next row.
use Rattle.std.specs.Prelude.{◌≡◌, length}
use Rattle.journal.specs.declared.room.Room.{Room}

-- the same loan, of the same length, and the same row of it: what is written by the one is read by who lent the other
pub record SameRoom (old new : Room) : Type 0 where
  pub journal : new.journal.ghost_name ≡ old.journal.ghost_name
  pub length : length new.journal.now ≡ length old.journal.now
  pub row : new.row ≡ old.row
  pub free : new.free ≡ old.free

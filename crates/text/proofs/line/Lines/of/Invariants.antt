use lib.ListN.{drop}
use mathlib.Core.Path.{◌≡◌}
use Prim.Native.Nat.{◌≤◌}
use Rattle.text.specs.Scan.{scan, byte_in}
use Rattle.text.proofs.line.Lines.of.Given as goal

abbrev pub invariant-loop-byte : goal.invariant-loop-byte
invariant-loop-byte l = (l.lines.ended ≤ l.byte-index) × (scan byte_in l.lines (drop l.byte-index l.bytes) ≡ scan byte_in l.initial.lines l.bytes)

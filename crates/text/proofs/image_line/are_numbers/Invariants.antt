use mathlib.Core.Path.{◌≡◌}
use lib.ListN.{drop}
use Rattle.text.specs.Scan.{scan}
use Rattle.text.specs.ImageLine.{field_in}
use Rattle.text.proofs.image_line.are_numbers.Given as goal

abbrev pub invariant-loop-byte : goal.invariant-loop-byte
invariant-loop-byte l = scan field_in l.number (drop l.byte-index l.bytes) ≡ scan field_in l.initial.number l.bytes

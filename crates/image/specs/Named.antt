-- The parts by name.
use Rattle.std.specs.Prelude.{ℕ}
use Rattle.image.specs.declared.by_name.Part.{Part}
use Rattle.image.specs.declared.by_name.Part.TheVariants.{Vertices, Edges, Incidences}

-- the number that C has for a part
abbrev pub part_number : Part → ℕ
part_number Vertices = 1
part_number Edges = 2
part_number Incidences = 3

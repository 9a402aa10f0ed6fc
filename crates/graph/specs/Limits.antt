-- The most that a run is lent for (REFERENCE 12.1), types among it, and how many marks and benches there are.
use Rattle.std.specs.Prelude.{ℕ}

abbrev pub most_vertices : ℕ
most_vertices = 1000

abbrev pub most_edges : ℕ
most_edges = 4000

abbrev pub most_changes : ℕ
most_changes = 20000

abbrev pub most_types : ℕ
most_types = 64

abbrev pub most_marks : ℕ
most_marks = 64

-- numbered from 0
abbrev pub most_benches : ℕ
most_benches = 100

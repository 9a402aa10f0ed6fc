-- For the code: the second's records noted by number, and the first's looked up among them.
use Rattle.std.specs.Prelude.{ℕ, zero, suc, ◌+◌, ◌*◌, Bool, List, get_or, set, drop, replicate}
use Rattle.graph.specs.Graph.{Edge, reading_of}
use Rattle.graph.specs.Limits.{most_edges}
use Rattle.image.specs.Image.{edges_from}
use Rattle.comparison.specs.Comparison.{how_many}

-- the edge whose record stands at a place
abbrev pub edge_at : List ℕ → ℕ → Edge
edge_at ws at = record {
  number = get_or ws at 0;
  alpha = get_or ws (at + 1) 0;
  omega = get_or ws (at + 2) 0;
  type = get_or ws (at + 3) 0;
  reading = reading_of (get_or ws (at + 4) 0) (get_or ws (at + 5) 0);
}

-- k records, counted from i on, each noted under its number
unfoldable pub noted : List ℕ → ℕ → ℕ → List ℕ → List ℕ
noted places i zero ws = places
noted places i (suc k) ws = noted (set places (get_or ws 0 0) i) (i + 1) k (drop 6 ws)

-- the places of n records, none above the limit of a run
abbrev pub places_of : ℕ → List ℕ → List ℕ
places_of n ws = noted (replicate (most_edges + 1) 0) 0 n ws

-- the edge at the place noted for a number; the first where none is noted
abbrev pub partner : List ℕ → List ℕ → ℕ → Edge
partner places ws n = edge_at ws (6 * get_or places n 0)

-- how many of k records are paired with the one noted for their number
abbrev pub paired_from : (Edge → Edge → Bool) → List ℕ → List ℕ → ℕ → List ℕ → ℕ
paired_from q places ws k us = how_many (λ e. q e (partner places ws e.number)) (edges_from k us)

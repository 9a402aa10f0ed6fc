-- The first bad word of words that do not load. A check reads header and records first, but for the degrees of vertex
-- records, then the degrees, then the lists (Checks: parts_verdict).
use Rattle.std.specs.Prelude.{ℕ, ◌+◌, ◌-◌, ◌*◌, ◌%◌, ◌<◌, ◌≡◌, ◌⊎◌, Bool, true, false, ◌&&◌, List, leb, ltb, length, get_or, ◌==◌}
use Rattle.lists.specs.Choice.{◌⇒◌else◌}
use Rattle.graph.specs.WellFormed.{Bounds, words_at}
use Rattle.image.specs.Image.{vertex_size, vertex_offset, edge_offset, incidence_offset, vertex_count, edge_count}
use Rattle.image.specs.Image.{record_size, degree_of, loadable}
use Rattle.image_check.specs.Checks.{edges_of}

-- a degree stands at i: it is the last word of a record of four
unfoldable pub is_degree : List ℕ → ℕ → Bool
unfolding record_size
is_degree ws i =
    (record_size ws == vertex_size) && (leb vertex_offset i && ltb i (edge_offset vertex_size (vertex_count ws)))
    && ((i - vertex_offset) % vertex_size == 3)

-- the pass of a check that reads the word at i: records but for degrees, degrees, lists
unfoldable pub pass_of : List ℕ → ℕ → ℕ
unfolding is_degree
pass_of ws i =
    is_degree ws i ⇒ 1 else ltb i (incidence_offset (record_size ws) (vertex_count ws) (edge_count ws)) ⇒ 0 else 2

-- the word at i is read before the word at k
abbrev pub ReadBefore : List ℕ → ℕ → ℕ → Type 0
ReadBefore ws i k =
    (pass_of ws i < pass_of ws k) ⊎ ((pass_of ws i ≡ pass_of ws k) × (i < k))

-- us has the words of ws that are read before k
abbrev pub Begins : List ℕ → ℕ → List ℕ → Type 0
Begins ws k us = (i : ℕ) → ReadBefore ws i k → get_or us i 0 ≡ get_or ws i 0

-- the word at k cannot follow the words read before it, and these can be followed
pub record FirstBad (b : Bounds) (ws : List ℕ) (k : ℕ) : Type 0 where
  pub inside : k < length ws
  -- nothing that loads has these words and this one
  pub nothing : (us : List ℕ) → Begins ws k us → get_or us k 0 ≡ get_or ws k 0 → loadable b us ≡ false
  -- something that loads has these words
  pub something : List ℕ
  pub loads : loadable b something ≡ true
  pub begin : Begins ws k something

-- the ends that the edges have at the vertex of record i from 0
abbrev pub end_count : List ℕ → ℕ → ℕ
end_count ws i = length (words_at (edges_of vertex_size ws) (get_or ws (vertex_offset + vertex_size * i) 0))

-- the first degree that disagrees with the edges is that of record i
pub record FirstDegree (ws : List ℕ) (i : ℕ) : Type 0 where
  pub inside : i < vertex_count ws
  pub disagrees : degree_of ws i ≡ end_count ws i → ⊥
  pub before : (j : ℕ) → j < i → degree_of ws j ≡ end_count ws j

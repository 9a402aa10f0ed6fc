-- Two images of one path, compared (REFERENCE 17): how many edges they share, of how many of those the readings agree,
-- and how many only one of them has. For all words, also such as do not load.
use Rattle.std.specs.Prelude.{ℕ, ◌+◌, ◌-◌, Bool, true, false, not, ◌&&◌, List, leb, ◌==◌, Result, Ok, Err}
use Rattle.lists.specs.Choice.{◌⇒◌else◌, to_bit}
use Rattle.lists.specs.Lists.{any, sum_of}
use Rattle.graph.specs.Graph.{Edge}
use Rattle.graph.specs.declared.Reading.{Reading}
use Rattle.graph.specs.declared.Reading.TheVariants.{Untested, Silent, Heard}
use Rattle.image.specs.Image.{load}
use Rattle.image_check.specs.Checks.{saved_bounds, load_code, bad_code}
use Rattle.comparison.specs.declared.Compared.{Compared}
use Rattle.comparison.specs.declared.Counts.{Counts}
use Rattle.comparison.specs.declared.NotCompared.{NotCompared}
use Rattle.comparison.specs.declared.NotCompared.TheVariants.{First, Second}

-- ---- one edge beside another

-- the same edge in two graphs: number and both ends agree
abbrev pub matches : Edge → Edge → Bool
matches e f = (e.number == f.number) && ((e.alpha == f.alpha) && (e.omega == f.omega))

-- by how much two numbers differ
abbrev pub apart : ℕ → ℕ → ℕ
apart x y = (x - y) + (y - x)

-- both heard and at most the tolerance apart, or neither heard and of one kind
abbrev pub agrees : ℕ → Reading → Reading → Bool
agrees tolerance Untested Untested = true
agrees tolerance Untested Silent = false
agrees tolerance Untested (Heard y) = false
agrees tolerance Silent Untested = false
agrees tolerance Silent Silent = true
agrees tolerance Silent (Heard y) = false
agrees tolerance (Heard x) Untested = false
agrees tolerance (Heard x) Silent = false
agrees tolerance (Heard x) (Heard y) = leb (apart x y) tolerance

-- the same edge, and its two readings agree
abbrev pub alike : ℕ → Edge → Edge → Bool
alike tolerance e f = matches e f && agrees tolerance e.reading f.reading

-- ---- the edges of one graph beside those of another

-- how many elements pass
abbrev pub how_many : {A : Type 0} → (A → Bool) → List A → ℕ
how_many p xs = sum_of (λ x. to_bit (p x)) xs

-- how many edges of the first have one in the second that they are paired with
abbrev pub paired : (Edge → Edge → Bool) → List Edge → List Edge → ℕ
paired q es fs = how_many (λ e. any (q e) fs) es

-- how many edges of the first match none of the second
abbrev pub unmatched : List Edge → List Edge → ℕ
unmatched es fs = how_many (λ e. not (any (matches e) fs)) es

-- the five numbers for two graphs, by their edges
abbrev pub compared : ℕ → List Edge → List Edge → Compared
compared tolerance es fs = record {
  code = 0;
  matched = paired matches es fs;
  agreeing = paired (alike tolerance) es fs;
  first = unmatched es fs;
  second = unmatched fs es;
}

-- a code, and nothing counted
abbrev pub refused : ℕ → Compared
refused code = record { code = code; matched = 0; agreeing = 0; first = 0; second = 0 }

-- ---- two images, each loaded as for a page

-- the first's own code, else 110 where the second does not load, else what the two say
unfoldable pub comparison : List ℕ → List ℕ → ℕ → Compared
comparison first second tolerance =
    not (load_code saved_bounds first == 0) ⇒ refused (load_code saved_bounds first)
    else not (load_code saved_bounds second == 0) ⇒ refused 110
    else compared tolerance (load first).eseq (load second).eseq

-- ---- for the code

abbrev pub not_compared_code : NotCompared → ℕ
not_compared_code (First bad) = bad_code bad
not_compared_code Second = 110

-- what C is told of it
abbrev pub told : Result Counts NotCompared → Compared
told (Ok counts) = record {
  code = 0;
  matched = counts.matched;
  agreeing = counts.agreeing;
  first = counts.first;
  second = counts.second;
}
told (Err refusal) = refused (not_compared_code refusal)

-- Two worked examples (REFERENCE 11.5 and 8.5), by computation.
use mathlib.Core.Path.{◌≡◌, refl}
use mathlib.Core.Bool.{true, false}
use mathlib.Core.List.{[], ◌∷◌}
use Rattle.graph.specs.declared.Reading.TheVariants.{Heard}
use Rattle.graph.specs.Graph.{Graph}
use Rattle.graph.specs.WellFormed.{Bounds}
use Rattle.image.specs.Image.{save, save_old, loadable}

bounds : Bounds
bounds = record { vertices = 200; edges = 800; types = 5 }

-- the end of chartrun's example
graph : Graph
graph =
    record {
      vseq =
          record { number = 1; type = 0; value = 7; incidences = 2 ∷ [] }
          ∷ record { number = 2; type = 0; value = 9; incidences = 3 ∷ [] }
          ∷ [];
      eseq = record { number = 1; alpha = 1; omega = 2; type = 0; reading = Heard 450 } ∷ [];
    }

saved_chartrun :
    save graph ≡ 2 ∷ 1 ∷ 6 ∷ 14 ∷ 20 ∷ 22 ∷ 1 ∷ 0 ∷ 7 ∷ 1 ∷ 2 ∷ 0 ∷ 9 ∷ 1 ∷ 1 ∷ 1 ∷ 2 ∷ 0 ∷ 2 ∷ 450 ∷ 2 ∷ 3 ∷ []
unfolding save graph
saved_chartrun = refl

-- and as it was saved before
old_chartrun : save_old graph ≡ 2 ∷ 1 ∷ 6 ∷ 12 ∷ 18 ∷ 20 ∷ 1 ∷ 0 ∷ 7 ∷ 2 ∷ 0 ∷ 9 ∷ 1 ∷ 1 ∷ 2 ∷ 0 ∷ 2 ∷ 450 ∷ 2 ∷ 3 ∷ []
unfolding save_old graph
old_chartrun = refl

loads_chartrun : loadable bounds (save graph) ≡ true
unfolding loadable save graph bounds
loads_chartrun = refl

loads_old : loadable bounds (save_old graph) ≡ true
unfolding loadable save_old graph bounds
loads_old = refl

-- words that do not load
code_105 : loadable bounds (0 ∷ 0 ∷ 6 ∷ 6 ∷ 6 ∷ 7 ∷ []) ≡ false
unfolding loadable
code_105 = refl

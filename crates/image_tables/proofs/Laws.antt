-- For callers: what they show to save and to load, and what `save` ensures.
use Prim.Native.Nat.{ℕ, ◌≤◌}
use mathlib.Core.Path.{◌≡◌}
use mathlib.Core.Bool.{true}
use mathlib.Core.List.{List}
use native.Mathlib.Omega.{arith}
use lib.ListN.{length}
use Rattle.lists.specs.Lists.{overwritten}
use Rattle.graph.specs.Graph.{Graph}
use Rattle.graph.specs.WellFormed.{Bounds, Within, well_formed}
use Rattle.graph.proofs.Facts.{to_facts, from_facts}
use Rattle.image.specs.Image.{image_length, save, load, loadable}
use Rattle.image.proofs.Loads.{loaded}
use Rattle.image.proofs.Room.{few_vertices_lem, few_edges_lem}
use Rattle.graph_tables.specs.Tables.{State}
use Rattle.graph_tables.specs.Holds.{Holds}
use Rattle.graph_tables.specs.Capacities.{Sized}
use Rattle.image_tables.specs.Words.{CanSave}

-- ---- what the calls ask

-- what is loaded is within the bounds
pub within_loaded : (b : Bounds) (words : List ℕ) → loadable b words ≡ true → Within b (load words)
within_loaded b words h = (to_facts b (load words) (loaded b words h).formed).1

-- a slice that passed code 106 has room for any graph within the capacities
pub can_save : (b : Bounds) (s : State) (g : Graph) (size : ℕ) → Holds s g → Within b g → Sized b s → image_length b.vertices b.edges ≤ size → CanSave s size
can_save b s g size h i z r =
    let w : well_formed b g ≡ true = from_facts b g h.sound i in
    record {
      graph = g;
      bounds = b;
      holds = h;
      within = i;
      sized = z;
      room = omega (arith, h.core.vertices, h.core.edges, few_vertices_lem b g w, few_edges_lem b g w);
    }

-- ---- what the calls leave

-- what `save` ensures of the words that it leaves and of its result
abbrev pub Saved : State → List ℕ → List ℕ → ℕ → Type 0
Saved s out out' n = (g : Graph) → Holds s g → (out' ≡ overwritten (save g) out) × (n ≡ length (save g))

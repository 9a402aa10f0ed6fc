-- The end image has the room that 106 asks for.
use Prim.Native.Nat.{◌≤◌}
use mathlib.Core.Path.{◌≡◌}
use mathlib.Core.List.{List}
use native.Mathlib.Omega.{arith}
use lib.ListN.{length}
use Rattle.lists.specs.Lists.{All}
use Rattle.graph.specs.Graph.{Graph}
use Rattle.history.specs.Machine.{fresh, present}
use Rattle.image.specs.Image.{image_length, save, load}
use Rattle.image.proofs.Room.{image_fits}
use Rattle.image.proofs.WordSize.{Word}
use Rattle.commands.specs.Calls.{Call, calls_of}
use Rattle.machine.specs.Calls.{Parameters, bounds_in}
use Rattle.machine.specs.Machine.{last}
use Rattle.machine.specs.Run.{Lent, parameters_of, list_refusal}
use Rattle.machine.specs.Demand.{after}
use Rattle.commands.specs.Fits.{WordsFit}
use Rattle.machine.proofs.AnswerBounds.{calls_fit}
use Rattle.machine.proofs.Graphs.{Formed, end_formed}
use Rattle.machine.proofs.ListRows.{passed, start_formed}

module _ (w : Parameters) (g : Graph) (xs : List Call) (h : Formed w g) (f : All WordsFit xs) where
  pub end_fits : length (save (present (last w (fresh g) xs))) ≤ image_length w.vertices w.edges
  end_fits = image_fits (bounds_in w) (present (last w (fresh g) xs)) (end_formed w g xs h f)

-- after a list that is not refused
module _ (l : Lent) (e : list_refusal l ≡ 0) (f : All Word l.calls) where
  pub run_end_fits : length (save (present (after l (calls_of l.calls)))) ≤ length l.end
  run_end_fits = omega (arith, end_fits (parameters_of l) (load l.start) (calls_of l.calls) (start_formed l e) (calls_fit f), (passed l e).end_room)

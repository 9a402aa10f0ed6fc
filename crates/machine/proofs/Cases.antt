-- The twelve cases of Seven, together: one test that is computed over the table.
use mathlib.Core.Path.{◌≡◌, refl}
use mathlib.Core.Logic.{inl}
use mathlib.Core.Bool.{true}
use mathlib.Core.List.{List, [], ◌∷◌}
use Prim.Native.Nat.{ℕ}
use lib.ListN.{replicate}
use Rattle.lists.specs.Choice.{if_equal}
use Rattle.lists.specs.Lists.{all, All, equal_lists}
use Rattle.lists.proofs.Sums.{all_bool}
use Rattle.graph.specs.Graph.{Graph, empty}
use Rattle.graph.specs.WellFormed.{well_formed}
use Rattle.image.specs.Image.{save, save_old}
use Rattle.lists.proofs.Equality.{words_eq}
use Rattle.image.proofs.Loads.{one_graph}
use Rattle.history.specs.Machine.{fresh, present}
use Rattle.machine.specs.Calls.{bounds_in}
use Rattle.graph.specs.Same.{alters}
use Rattle.history.specs.Machine.{step_of}
use Rattle.commands.specs.Commands.{command_of}
use Rattle.machine.specs.Codes.{refusal}
use Rattle.machine.specs.Machine.{step_to, last}
use Rattle.machine.specs.Run.{Lent, list_refusal}
use Rattle.machine.specs.Seven.{parameters, seven, making, then, delete, undo, Case, twelve}

computed : all (λ (c : Case). equal_lists c.found c.said) twelve ≡ true
unfolding twelve if_equal
computed = refl

pub cases_hold : All (λ (c : Case). c.found ≡ c.said) twelve
cases_hold = all_bool (λ (c : Case). equal_lists c.found c.said) (λ c e. words_eq c.found c.said e) twelve computed

formed : well_formed (bounds_in parameters) seven ≡ true
unfolding well_formed if_equal
formed = refl

-- graphs that save as the same words are the same
same_graph : (g : Graph) → well_formed (bounds_in parameters) g ≡ true → equal_lists (save g) (save seven) ≡ true → g ≡ seven
same_graph g f e = one_graph (bounds_in parameters) (bounds_in parameters) g seven f formed (inl (words_eq (save g) (save seven) e)) (inl refl)

-- the calls that make Seven
pub made : present (last parameters (fresh empty) making) ≡ seven
unfolding last step_to command_of alters refusal step_of save well_formed if_equal
made = same_graph _ refl refl

-- case G compares the words of the two graphs, so the graphs are the same
pub case_g : present (then (delete 1 ∷ undo ∷ [])) ≡ seven
unfolding then save well_formed if_equal
case_g = same_graph _ refl refl

-- a list of no calls, from a start image, at capacities 10, 10, 20
abbrev idle : List ℕ → ℕ → Lent
idle start room = record {
  start = start;
  rows = parameters.rows;
  calls = [];
  vertex_table = 80;
  edge_table = 120;
  change_table = 240;
  answers = [];
  end = replicate room 0;
}

-- lists are accepted: Seven by its new and its old words; the end image asks for 126 words
pub accepted_one : list_refusal (idle (save seven) 126) ≡ 0
unfolding list_refusal save well_formed if_equal
accepted_one = refl

pub accepted_old : list_refusal (idle (save_old seven) 126) ≡ 0
unfolding list_refusal save_old well_formed if_equal
accepted_old = refl

pub no_room : list_refusal (idle (save seven) 125) ≡ 106
unfolding list_refusal save well_formed if_equal
no_room = refl

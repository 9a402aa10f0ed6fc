-- Several stores, worked out: calls of two stores with one limit, Seven and the empty graph; lists with the start images
-- one after another, K and the parts; and a whole run.
use Rattle.std.specs.Prelude.{◌==◌}
use Prim.Native.Nat.{ℕ, ◌*◌}
use mathlib.Core.Path.{◌≡◌, refl}
use mathlib.Core.List.{List, [], ◌∷◌, ◌++◌}
use lib.ListN.{replicate}
use Rattle.lists.specs.Choice.{◌⇒◌else◌, if_equal}
use Rattle.type_rows.specs.Types.{below}
use Rattle.graph.specs.Graph.{empty}
use Rattle.graph.specs.WellFormed.{well_formed}
use Rattle.graph.specs.Changes.{changed}
use Rattle.graph.specs.Same.{alters}
use Rattle.image.specs.Image.{save, save_old, load}
use Rattle.image_check.specs.Checks.{verdict}
use Rattle.history.specs.Machine.{fresh, step_of, seek, holder_but}
use Rattle.commands.specs.Calls.{five}
use Rattle.commands.specs.Commands.{change_of, history_of, question_of, command_of}
use Rattle.machine.specs.Codes.{refusal}
use Rattle.machine.specs.Machine.{answer_to, step_to}
use Rattle.machine.specs.Run.{answer_words, Lent, list_refusal}
use Rattle.machine.specs.Seven.{parameters, seven}
use Rattle.machine.specs.Stores.{Stores, StoreCall, joint_room, answer_in, step_in, answers_in}
use Rattle.machine.specs.StoreRun.{LentStores, stores_refusal, stores_number, run_in, as_one}

-- ---- calls

abbrev two : ℕ → Stores
two limit = record { count = 2; limit = limit; machine = λ n. fresh ((n == 1) ⇒ seven else empty) }

abbrev to : ℕ → ℕ → ℕ → ℕ → ℕ → StoreCall
to s k a b c = record { store = s; call = five k a b c 0 }

answers_of : ℕ → List StoreCall → List ℕ
unfolding holder_but seek answers_in answer_in step_in joint_room answer_to step_to command_of change_of history_of question_of alters refusal step_of changed below if_equal
answers_of limit xs = answer_words (answers_in parameters (two limit) xs)

-- a mark ahead stands, and can be gone to when there is room again
ahead : answers_of 3 (to 1 7 1 1 0 ∷ to 1 7 1 2 0 ∷ to 1 17 5 0 0 ∷ to 1 19 0 0 0 ∷ to 1 19 0 0 0 ∷ to 2 1 1 0 0 ∷ to 2 1 2 0 0 ∷ to 1 21 5 0 0 ∷
    to 1 20 0 0 0 ∷ to 1 21 5 0 0 ∷ to 2 19 0 0 0 ∷ to 1 51 0 0 0 ∷ to 1 21 5 0 0 ∷ to 2 21 5 0 0 ∷ [])
    ≡ 0 ∷ 1 ∷ 0 ∷ 1 ∷ 0 ∷ 0 ∷ 0 ∷ 1 ∷ 0 ∷ 1 ∷ 0 ∷ 1 ∷ 0 ∷ 1 ∷ 10 ∷ 0 ∷ 0 ∷ 1 ∷ 10 ∷ 0 ∷ 0 ∷ 1 ∷ 0 ∷ 1 ∷ 0 ∷ 1 ∷ 13 ∷ 0 ∷ []
unfolding answers_of
ahead = refl

-- kind 2 costs 6, which is more than 5; what alters nothing needs no room
dear : answers_of 5 (to 1 2 1 0 0 ∷ to 1 51 0 0 0 ∷ to 1 7 1 0 0 ∷ to 1 7 1 1 0 ∷ []) ≡ 10 ∷ 0 ∷ 0 ∷ 5 ∷ 0 ∷ 0 ∷ 0 ∷ 1 ∷ []
unfolding answers_of
dear = refl

-- two stores may use one name; by it, too, each goes on only where there is room
named : answers_of 2 (to 1 7 1 1 0 ∷ to 1 17 5 0 0 ∷ to 1 56 5 7 8 ∷ to 2 17 5 0 0 ∷ to 2 56 5 7 8 ∷ to 1 19 0 0 0 ∷ to 2 1 1 0 0 ∷ to 2 1 2 0 0 ∷ to 1 57 7 8 0 ∷
    to 2 57 7 8 0 ∷ to 1 57 7 8 0 ∷ to 1 57 8 7 0 ∷ to 1 58 9 0 0 ∷ to 2 1 3 0 0 ∷ to 2 17 6 0 0 ∷ to 2 59 5 6 0 ∷ [])
    ≡ 0 ∷ 1 ∷ 0 ∷ 0 ∷ 0 ∷ 0 ∷ 0 ∷ 0 ∷ 0 ∷ 0 ∷ 0 ∷ 1 ∷ 0 ∷ 1 ∷ 0 ∷ 1 ∷ 10 ∷ 0 ∷ 0 ∷ 2 ∷ 0 ∷ 1 ∷ 19 ∷ 0 ∷ 0 ∷ 0 ∷ 0 ∷ 1 ∷ 0 ∷ 0 ∷ 0 ∷ 1 ∷ []
unfolding answers_of
named = refl

-- ---- lists

-- for k stores at capacities 10, 10, 20 each and a limit of 3, with so many words for the end images
abbrev lent_to : ℕ → List ℕ → List ℕ → ℕ → Lent
lent_to k start calls room = record {
  start = start;
  rows = 0 ∷ [];
  calls = calls;
  vertex_table = 80 * k;
  edge_table = 120 * k;
  change_table = 240 * k;
  answers = replicate 30 0;
  end = replicate room 0;
}

abbrev idle : ℕ → List ℕ → ℕ → LentStores
idle k start room = record { lent = lent_to k start [] room; count = k; limit = 3 }

-- one vertex with the number 0, which no vertex has, in old words: bad at 6
abbrev bad : List ℕ
bad = 1 ∷ 0 ∷ 6 ∷ 9 ∷ 9 ∷ 9 ∷ 0 ∷ 0 ∷ 0 ∷ []

-- Seven in old words and the empty graph
both : stores_refusal (idle 2 (save_old seven ++ save empty) 252) ≡ 0
unfolding stores_refusal verdict save save_old well_formed if_equal
both = refl

-- the offset of a bad word counts from the first word of all
second_bad : stores_refusal (idle 2 (save_old seven ++ bad) 252) ≡ 108
unfolding stores_refusal verdict save_old well_formed if_equal
second_bad = refl

second_at : stores_number (idle 2 (save_old seven ++ bad) 252) ≡ 80
unfolding stores_number verdict save_old well_formed if_equal
second_at = refl

third_at : stores_number (idle 3 (save_old seven ++ (save empty ++ bad)) 378) ≡ 86
unfolding stores_number verdict save save_old well_formed if_equal
third_at = refl

-- words left over behind images that load; too few words for the second
left_over : stores_refusal (idle 2 (save_old seven ++ (save empty ++ (7 ∷ []))) 252) ≡ 105
unfolding stores_refusal verdict save save_old well_formed if_equal
left_over = refl

second_short : stores_refusal (idle 2 (save_old seven ++ (1 ∷ 0 ∷ [])) 252) ≡ 105
unfolding stores_refusal verdict save_old well_formed if_equal
second_short = refl

-- K from 1 to 8
no_store : stores_refusal (idle 0 [] 252) ≡ 103
unfolding stores_refusal
no_store = refl

nine_stores : stores_refusal (idle 9 [] 1134) ≡ 103
unfolding stores_refusal
nine_stores = refl

-- a part of 125 words has not the 126 that 106 asks
short_part : stores_refusal (idle 2 (save_old seven ++ save empty) 251) ≡ 106
unfolding stores_refusal verdict save save_old well_formed if_equal
short_part = refl

-- K = 1 with a word behind a bad image: 108 at 6, and 105 of the run of one store
behind_several : stores_refusal (as_one (lent_to 1 (bad ++ (7 ∷ [])) [] 126)) ≡ 108
unfolding stores_refusal verdict
behind_several = refl

behind_at : stores_number (as_one (lent_to 1 (bad ++ (7 ∷ [])) [] 126)) ≡ 6
unfolding stores_number verdict
behind_at = refl

behind_one : list_refusal (lent_to 1 (bad ++ (7 ∷ [])) [] 126) ≡ 105
unfolding list_refusal
behind_one = refl

-- REFERENCE 21.11, from its words to its result
abbrev example : LentStores
example = record {
  lent = lent_to 2 (save_old seven ++ save empty)
      (1 ∷ 7 ∷ 1 ∷ 1 ∷ 0 ∷ 0 ∷ 2 ∷ 1 ∷ 1 ∷ 0 ∷ 5 ∷ 0 ∷ 1 ∷ 51 ∷ 0 ∷ 0 ∷ 0 ∷ 0 ∷ 1 ∷ 7 ∷ 1 ∷ 2 ∷ 0 ∷ 0 ∷ 2 ∷ 51 ∷ 0 ∷ 0 ∷ 0 ∷ 0 ∷
      2 ∷ 1 ∷ 2 ∷ 0 ∷ 0 ∷ 0 ∷ 1 ∷ 19 ∷ 0 ∷ 0 ∷ 0 ∷ 0 ∷ 2 ∷ 1 ∷ 2 ∷ 0 ∷ 0 ∷ 0 ∷ 1 ∷ 20 ∷ 0 ∷ 0 ∷ 0 ∷ 0 ∷ 1 ∷ 51 ∷ 0 ∷ 0 ∷ 0 ∷ 0 ∷
      2 ∷ 19 ∷ 0 ∷ 0 ∷ 0 ∷ 0 ∷ 1 ∷ 20 ∷ 0 ∷ 0 ∷ 0 ∷ 0 ∷ 3 ∷ 51 ∷ 0 ∷ 0 ∷ 0 ∷ 0 ∷ 0 ∷ 99 ∷ 0 ∷ 0 ∷ 0 ∷ 0 ∷ 1 ∷ 99 ∷ 0 ∷ 0 ∷ 0 ∷ 0 ∷ []) 252;
  count = 2;
  limit = 3;
}

example_words : (run_in example).words ≡ 88
unfolding run_in verdict save save_old load well_formed joint_room answer_in step_in answer_to step_to command_of change_of history_of question_of alters refusal step_of changed below if_equal
example_words = refl

-- a change, a redo and kind 51 at the joint room; 21 before code 1
shared : (run_in example).answers
    ≡ 0 ∷ 1 ∷ 0 ∷ 1 ∷ 0 ∷ 1 ∷ 0 ∷ 1 ∷ 0 ∷ 0 ∷ 10 ∷ 0 ∷ 0 ∷ 1 ∷ 0 ∷ 1 ∷ 10 ∷ 0 ∷ 0 ∷ 0 ∷ 0 ∷ 1 ∷ 0 ∷ 1 ∷ 21 ∷ 0 ∷ 21 ∷ 0 ∷ 1 ∷ 0 ∷ []
unfolding run_in verdict save save_old load well_formed joint_room answer_in step_in answer_to step_to command_of change_of history_of question_of alters refusal step_of changed below if_equal
shared = refl

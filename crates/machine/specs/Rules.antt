-- What an accepted change and an accepted history call do, and the rule of each: its code, its number and the state
-- after it.
use Rattle.std.specs.Prelude.{ℕ, suc, ◌-◌, ◌++◌, ◌==◌}
use Rattle.lists.specs.Choice.{◌⇒◌else◌}
use Rattle.graph.specs.declared.Change.{Change}
use Rattle.graph.specs.WellFormed.{Bounds}
use Rattle.graph.specs.Changes.{cost}
use Rattle.graph.specs.Same.{alters}
use Rattle.commands.specs.declared.HistoryCall.{HistoryCall}
use Rattle.commands.specs.declared.HistoryCall.TheVariants.{
  SetMark,
  DropMark,
  Undo,
  Redo,
  GoTo,
  Commit,
  Between,
  Standing,
  Free,
  NameMark,
  GoToName,
  SetBench,
  MadeBy,
}
use Rattle.commands.specs.declared.Answer.{Answer}
use Rattle.commands.specs.Answers.{answer_of}
use Rattle.commands.specs.Tables.{lowest}
use Rattle.commands.specs.Commands.{history_call}
use Rattle.history.specs.Machine.{
  Step,
  step_of,
  Name,
  name,
  Machine,
  free_of,
  distance,
  place_or,
  count_standing,
  present,
  after_change,
  moved_to,
  with_mark_set,
  with_mark_dropped,
  with_name,
  with_bench,
  steps_between,
  made_by,
  after_commit,
  holder_of,
}
use Rattle.machine.specs.HistoryCodes.{too_dear, mark_table, later_table}
use Rattle.machine.specs.Codes.{change_code}

-- what an accepted call does: a step, a mark set, dropped or named, another place, another bench, a commit,
-- or nothing
pub data Effect : Type 0 where
  steps : Step → Effect
  marks unmarks goes : ℕ → Effect
  names : ℕ → Name → Effect
  benches : ℕ → Effect
  clears nothing : Effect

abbrev pub effected : Effect → Machine → Machine
effected (steps s) m = after_change s m
effected (marks n) m = with_mark_set n m
effected (unmarks n) m = with_mark_dropped n m
effected (goes p) m = moved_to p m
effected (names k n) m = with_name k n m
effected (benches b) m = with_bench b m
effected clears m = after_commit m
effected nothing m = m

-- the number that an accepted call answers, and what it does
pub record Deed : Type 0 where
  pub number : ℕ
  pub effect : Effect

abbrev pub deed : ℕ → Effect → Deed
deed n e = record { number = n; effect = e }

-- a change that alters the graph answers its cost and is a step; any other answers 0 and is none (REFERENCE 3.10, 3.11)
abbrev pub change_deed : Change → Machine → Deed
change_deed c m =
    alters c (present m) ⇒ deed (cost c (present m)) (steps (step_of m.bench c (present m))) else deed 0 nothing

-- to the place of mark k
abbrev pub going_to : ℕ → Machine → Deed
going_to k m =
    deed (distance m.line.place (place_or m.line.place (m.marks k)))
    (goes (place_or m.line.place (m.marks k)))

-- REFERENCE 4.5 to 4.10
abbrev pub history_deed : ℕ → HistoryCall → Machine → Deed
history_deed capacity (SetMark k) m = deed 0 (marks k)
history_deed capacity (DropMark k) m = deed 0 (unmarks k)
history_deed capacity Undo m = deed 1 (goes (m.line.place - 1))
history_deed capacity Redo m = deed 1 (goes (suc m.line.place))
history_deed capacity (GoTo k) m = going_to k m
history_deed capacity Commit m = deed m.line.place clears
history_deed capacity (Between j k) m = deed (distance (place_or 0 (m.marks j)) (place_or 0 (m.marks k))) nothing
history_deed capacity Standing m = deed (count_standing m.marks) nothing
history_deed capacity Free m = deed (free_of capacity m.line) nothing
history_deed capacity (NameMark k b c) m = deed 0 (names k (name b c))
history_deed capacity (GoToName b c) m = going_to (holder_of (name b c) m) m
history_deed capacity (SetBench b) m = deed 0 (benches b)
history_deed capacity (MadeBy j k b) m =
    deed (made_by b (steps_between (place_or 0 (m.marks j)) (place_or 0 (m.marks k)) m.line.steps)) nothing

-- ---- rules

-- the code, 0 where the call is accepted, and the deed of an accepted call
pub record Rule : Type 0 where
  pub code : Machine → ℕ
  pub deed : Machine → Deed

-- REFERENCE 2.2
abbrev pub answered : Rule → Machine → Answer
answered r m = answer_of (r.code m) (r.deed m).number

-- a refused call changes nothing
abbrev pub followed : Rule → Machine → Machine
followed r m = (r.code m == 0) ⇒ effected (r.deed m).effect m else m

-- the first of two codes that is not 0
abbrev pub first_code : ℕ → ℕ → ℕ
first_code r s = (r == 0) ⇒ s else r

-- a change: the lowest of 2 to 9 that applies, else 10 where it is too dear
abbrev pub change_rule : Bounds → ℕ → Change → Rule
change_rule b capacity c = record {
  code = λ m. first_code (change_code b (present m) c) (too_dear capacity m c ⇒ 10 else 0);
  deed = change_deed c;
}

-- a history call that is within reach: the lowest of 11 to 14 and 18 to 20. One out of reach is refused with 10
-- (HistoryCodes): its mark stands or its step is there, so none of these applies
abbrev pub history_rule : ℕ → HistoryCall → Rule
history_rule capacity h = record {
  code = λ m. lowest (mark_table m (history_call h) ++ later_table m (history_call h));
  deed = history_deed capacity h;
}

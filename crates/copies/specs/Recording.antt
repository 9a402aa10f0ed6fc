-- What the copies, and the places of the steps among them, have to do with the plain machine.
use Rattle.std.specs.Prelude.{ℕ, zero, suc, ◌+◌, ◌-◌, ◌*◌, ◌≤◌, ◌<◌, ◌≡◌, Bool, true, false, not, ◌≢◌, List, length, get_or, take, drop, set, Result, Ok, Err, ◌==◌}
use Rattle.std.proofs.lemmas.List.Edits.{sets}
use Rattle.lists.specs.Choice.{◌⇒◌else◌}
use Rattle.lists.specs.Lists.{All}
use Rattle.graph.specs.Graph.{Graph}
use Rattle.graph.specs.WellFormed.{well_formed}
use Rattle.history.specs.Machine.{Timeline, Machine, graph_at}
use Rattle.image.specs.Image.{load, loadable, save}
use Rattle.graph_tables.specs.Tables.{state}
use Rattle.image_tables.specs.Filling.{CanLoad}
use Rattle.image_tables.specs.Words.{CanSave}
use Rattle.commands.specs.declared.HistoryCall.{HistoryCall}
use Rattle.commands.specs.declared.HistoryCall.TheVariants.{
  SetMark,
  DropMark,
  Undo,
  Redo,
  GoTo,
  Commit as CommitCall,
  Between,
  Standing,
  Free,
  NameMark,
  GoToName,
  SetBench,
  MadeBy,
}
use Rattle.commands.specs.declared.Command.{Command}
use Rattle.commands.specs.declared.refusal.Refusal.{Refusal}
use Rattle.commands.specs.Refusals.{refusal_code}
use Rattle.commands.specs.declared.Command.TheVariants.{Alter, History, Ask, Quote, Unknown}
use Rattle.timeline.specs.declared.Current.{Current}
use Rattle.timeline.specs.Steps.{rows_to}
use Rattle.machine.specs.Calls.{Parameters, bounds_in}
use Rattle.timeline.specs.JournalRows.{shifted}
use Rattle.history_calls.specs.declared.Store.{Store}
use Rattle.history_calls.specs.Outcomes.{way_of}
use Rattle.copies.specs.declared.Role.{Role}
use Rattle.copies.specs.declared.Role.TheVariants.{Move, Change, Commit, Other}
use Rattle.copies.specs.Copies.{stretch, recorded}

-- one place for the start and one for each change of the journal
abbrev pub places : ℕ
places = 20001

-- copy k of those made, from 1; 0 is the start
abbrev pub copy_of : Graph → List Graph → ℕ → Graph
copy_of g gs zero = g
copy_of g gs (suc k) = get_or gs k g

-- for each place of the timeline: the number of its copy, and the rows of the journal up to it
pub record Numbered (g : Graph) (gs : List Graph) (numbers used : List ℕ) (l : Timeline) : Type 0 where
  pub in_copies : (i : ℕ) → i ≤ length l.steps → get_or numbers i 0 ≤ length gs
  pub graphs : (i : ℕ) → i ≤ length l.steps
      → copy_of g gs (get_or numbers i 0) ≡ graph_at i l.start l.steps
  pub rows : (i : ℕ) → i ≤ length l.steps → get_or used i 0 ≡ rows_to 0 i l.steps
  pub numbers_size : length numbers ≡ places
  pub used_size : length used ≡ places

-- n copies, of graphs within the capacities, each at its stretch of the words lent
pub record Copied (w : Parameters) (lent copies : List ℕ) (gs : List Graph) (n : ℕ) : Type 0 where
  pub count : n ≡ length gs
  pub formed : All (λ (g : Graph). well_formed (bounds_in w) g ≡ true) gs
  pub room : stretch w * length gs ≤ length lent
  pub kept : copies ≡ recorded (stretch w) gs lent

-- the copies made and their places are those of the machine m
pub record Covers (w : Parameters) (start lent copies numbers used : List ℕ) (gs : List Graph) (n : ℕ)
    (m : Machine) : Type 0 where
  pub start_loads : loadable (bounds_in w) start ≡ true
  pub copied : Copied w lent copies gs n
  pub places : Numbered (load start) gs numbers used m.line

-- ---- what a call does to the copies

-- moves, changes, commit, and all other calls
abbrev pub history_role : HistoryCall → Role
history_role (SetMark a) = Other
history_role (DropMark a) = Other
history_role Undo = Move Undo
history_role Redo = Move Redo
history_role (GoTo a) = Move (GoTo a)
history_role CommitCall = Commit
history_role (Between a b) = Other
history_role Standing = Other
history_role Free = Other
history_role (NameMark a b c) = Other
history_role (GoToName a b) = Move (GoToName a b)
history_role (SetBench a) = Other
history_role (MadeBy a b c) = Other

abbrev pub role_of : Command → Role
role_of (Alter c) = Change
role_of (History h) = history_role h
role_of (Ask q) = Other
role_of (Quote p) = Other
role_of Unknown = Other

-- the role of words that are no change's, by the kind
abbrev pub other_role : ℕ → ℕ → ℕ → Role
other_role k a b =
    (k == 19) ⇒ Move Undo else
    (k == 20) ⇒ Move Redo else
    (k == 21) ⇒ Move (GoTo a) else
    (k == 22) ⇒ Commit else
    (k == 57) ⇒ Move (GoToName a b) else
    Other

-- where a move leads: the place at the end of its way, or the code of the way
abbrev pub Led : Store → List ℕ → HistoryCall → Result ℕ Refusal → Type 0
Led x marks h (Ok place) = ((way_of x marks h).code ≡ 0)
    × (place ≡ shifted (way_of x marks h).back (way_of x marks h).steps x.current.position.place)
Led x marks h (Err refusal) = (way_of x marks h).code ≡ refusal_code refusal

-- a change whose number is not 0 is a step, and has a copy
abbrev pub takes : Role → ℕ → Bool
takes (Move h) k = false
takes Change k = not (k == 0)
takes Commit k = false
takes Other k = false

abbrev pub count_after : Role → ℕ → ℕ → ℕ
count_after s k n = takes s k ⇒ (n + 1) else n

abbrev pub copies_after : Role → ℕ → ℕ → ℕ → Graph → List ℕ → List ℕ
copies_after s k size n g copies = takes s k ⇒ sets copies (size * n) (save g) else copies

abbrev pub used_after : Role → ℕ → ℕ → ℕ → List ℕ → List ℕ
used_after s k place rows used = takes s k ⇒ set used place rows else used

-- from place p to place q; commit makes the copy of place p that of place 0
abbrev pub numbers_after : Role → ℕ → ℕ → ℕ → ℕ → List ℕ → List ℕ
numbers_after (Move h) k p q n numbers = numbers
numbers_after Change k p q n numbers = not (k == 0) ⇒ set numbers q (n + 1) else numbers
numbers_after Commit k p q n numbers = set numbers 0 (get_or numbers p 0)
numbers_after Other k p q n numbers = numbers

-- one more graph can be kept
pub record Takes (current : Current) (vertices edges : List ℕ) (size count room : ℕ) : Type 0 where
  pub place : current.position.place < 20001
  pub saves : CanSave (state current.head vertices edges) size
  pub fits : size * count + size ≤ room
  pub counted : count + 1 < 18446744073709551616

-- ---- reloading

-- the words of copy k; 0 is the start
abbrev pub copy_words : List ℕ → List ℕ → ℕ → ℕ → List ℕ
copy_words start copies size k =
    (k == 0) ⇒ start else take (get_or copies (size * (k - 1) + 5) 0) (drop (size * (k - 1)) copies)

pub record CanReload (start copies : List ℕ) (size k : ℕ) (vertices edges : List ℕ) : Type 0 where
  pub loads : CanLoad (copy_words start copies size k) vertices edges
  pub total : k ≢ 0 → size * (k - 1) + 5 < length copies
  pub room : k ≢ 0 → size * (k - 1) + get_or copies (size * (k - 1) + 5) 0 ≤ length copies

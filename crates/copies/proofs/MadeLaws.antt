-- The graphs that the steps of a list make: at most one a call of kinds 1 to 16, each well formed; and such calls counted.
use Rattle.std.specs.Prelude.{◌==◌}
use Prim.Native.Nat.{ℕ, suc, ◌+◌, ◌-◌, ◌*◌, ◌/◌, ◌≤◌, ◌<◌}
use mathlib.Core.Path.{◌≡◌, refl, sym, ap, subst, ◌∙◌}
use mathlib.Core.Logic.{◌≢◌}
use mathlib.Core.Bool.{Bool, true, false}
use mathlib.Core.List.{List, [], ◌∷◌, ◌++◌, append_assoc}
use native.Mathlib.Omega.{arith}
use native.Mathlib.Numerals.{add-one}
use borrow.Author.Tests.{le-leb, eqb-false}
use lib.Dec.{leb}
use lib.ListN.{length, get_or, take, drop, length-append, length-drop}
use lib.Seq.{take-suc, length-take-le, split_at}
use Rattle.lists.specs.Choice.{◌⇒◌else◌, within, to_bit}
use Rattle.lists.specs.Lists.{filter, All, done, more}
use Rattle.lists.proofs.Bools.{ft, and_both}
use Rattle.graph.specs.declared.Change.{Change}
use Rattle.graph.specs.Graph.{Graph}
use Rattle.graph.specs.Same.{alters}
use Rattle.history.specs.Machine.{Step, step_of, Machine, present, after_change, after_commit}
use Rattle.commands.specs.Calls.{Call, call_at, calls_of}
use Rattle.commands.specs.Commands.{command_of}
use Rattle.commands.specs.Fits.{WordsFit}
use Rattle.commands.specs.declared.HistoryCall.{HistoryCall}
use Rattle.commands.specs.declared.HistoryCall.TheVariants.{SetMark, DropMark, Undo, Redo, GoTo, Commit as CommitCall, Between, Standing, Free, NameMark, GoToName, SetBench, MadeBy}
use Rattle.commands.specs.declared.Command.{Command}
use Rattle.commands.specs.declared.Command.TheVariants.{Alter, History, Ask, Quote, Unknown}
use Rattle.machine.specs.Calls.{Parameters}
use Rattle.machine.specs.Codes.{refusal}
use Rattle.machine.specs.Rules.{Effect, steps, marks, unmarks, goes, names, benches, clears, nothing, effected}
use Rattle.machine.specs.Machine.{deed_of, answer_to, step_to, step, last}
use Rattle.graph.proofs.ChangeLaws.{cost_real}
use Rattle.machine.proofs.Graphs.{Formed, AllFormed, step_formed}
use Rattle.machine.proofs.Whole.{calls_length}
use Rattle.engine.proofs.CallLaws.{call_at_lem}
use Rattle.copies.specs.Copies.{graph_of, graph_made, step_graphs, changes_in}

-- ---- what a change is

pub data ChangeIs (w : Parameters) (m : Machine) (c : Change) : Type 0 where
  idle : (answer_to w m (Alter c)).number ≡ 0 → step_to w m (Alter c) ≡ m → graph_made w m (Alter c) ≡ [] → ChangeIs w m c
  stepped : (s : Step) → (answer_to w m (Alter c)).number ≢ 0 → step_to w m (Alter c) ≡ after_change s m → graph_made w m (Alter c) ≡ s.graph ∷ [] → ChangeIs w m c

pub change_is : (w : Parameters) (m : Machine) (c : Change) → ChangeIs w m c
unfolding answer_to step_to graph_made step_of
change_is w m c = go (refusal w m (Alter c) == 0) refl (alters c (present m)) refl
  where
    go : (t : Bool) → (refusal w m (Alter c) == 0) ≡ t → (u : Bool) → alters c (present m) ≡ u → ChangeIs w m c
    go false e u a = idle (rw e) (rw e) (rw e)
    go true e false a = idle (rw (e, a)) (rw (e, a)) (rw (e, a))
    go true e true a = stepped (step_of m.bench c (present m)) (rw (e, a) (λ z. omega (arith, cost_real c (present m), z))) (rw (e, a)) (rw (e, a))

-- ---- calls that leave the graphs

abbrev pub Still : Effect → Type 0
Still (steps s) = ⊥
Still (marks n) = Unit {0}
Still (unmarks n) = Unit {0}
Still (goes p) = Unit {0}
Still (names k n) = Unit {0}
Still (benches b) = Unit {0}
Still clears = ⊥
Still nothing = Unit {0}

still_line : (e : Effect) (m : Machine) → Still e → ((effected e m).line.start ≡ m.line.start) × ((effected e m).line.steps ≡ m.line.steps) × (graph_of e ≡ [])
still_line (steps s) m h = absurd h
still_line (marks n) m h = (refl, refl, refl)
still_line (unmarks n) m h = (refl, refl, refl)
still_line (goes p) m h = (refl, refl, refl)
still_line (names k n) m h = (refl, refl, refl)
still_line (benches b) m h = (refl, refl, refl)
still_line clears m h = absurd h
still_line nothing m h = (refl, refl, refl)

pub still : (w : Parameters) (m : Machine) (c : Command) → Still (deed_of w c m).effect
    → ((step_to w m c).line.start ≡ m.line.start) × ((step_to w m c).line.steps ≡ m.line.steps) × (graph_made w m c ≡ [])
unfolding step_to graph_made
still w m c h = go (refusal w m c == 0) refl
  where
    go : (t : Bool) → (refusal w m c == 0) ≡ t → ((step_to w m c).line.start ≡ m.line.start) × ((step_to w m c).line.steps ≡ m.line.steps) × (graph_made w m c ≡ [])
    go true e = rw e (still_line (deed_of w c m).effect m h)
    go false e = rw e (refl, refl, refl)

pub commit_is : (w : Parameters) (m : Machine) → (step_to w m (History CommitCall) ≡ after_commit m) × (graph_made w m (History CommitCall) ≡ [])
unfolding step_to graph_made refusal
commit_is w m = (refl, refl)

pub append_none : (gs : List Graph) → gs ++ [] ≡ gs
append_none [] = refl
append_none (g ∷ gs) = ap (λ (l : List Graph). g ∷ l) (append_none gs)

-- ---- a change is of kinds 1 to 16

abbrev is_alter : Command → Bool
is_alter (Alter c) = true
is_alter (History h) = false
is_alter (Ask q) = false
is_alter (Quote p) = false
is_alter Unknown = false

neither : (t : Bool) (c d : Command) → is_alter c ≡ false → is_alter d ≡ false → is_alter (t ⇒ c else d) ≡ false
neither true c d e f = e
neither false c d e f = f

pub alter_kind : (x : Call) (c : Change) → command_of x ≡ Alter c → within 1 16 x.kind ≡ true
unfolding command_of
alter_kind x c e = go (x.kind == 0) refl (leb x.kind 16) refl
  where
    k : ℕ
    k = x.kind

    go : (s : Bool) → (x.kind == 0) ≡ s → (t : Bool) → leb x.kind 16 ≡ t → within 1 16 x.kind ≡ true
    go true f t g = let y : is_alter (command_of x) ≡ false = rw f in ft (sym y ∙ ap is_alter e)
    go false f true g = and_both (leb 1 x.kind) (leb x.kind 16) (le-leb 1 x.kind (let n = eqb-false x.kind 0 f in omega (arith, n))) g
    go false f false g =
        let y : is_alter (command_of x) ≡ false =
        rw (f, g) (neither (leb k 22) _ _ refl (neither (leb k 29) _ _ refl (neither (leb k 48) _ _ refl (neither (leb k 51) _ _ refl (neither (k == 52) _ _ refl
        (neither (k == 53) _ _ refl (neither (k == 54) _ _ refl (neither (k == 55) _ _ refl (neither (leb k 59) _ _ refl refl))))))))) in
        ft (sym y ∙ ap is_alter e)

-- ---- one call more

pub made_more : (w : Parameters) (m : Machine) (xs : List Call) (x : Call) → step_graphs w m (xs ++ (x ∷ [])) ≡ step_graphs w m xs ++ graph_made w (last w m xs) (command_of x)
unfolding step_graphs last
made_more w m [] x = append_none (graph_made w m (command_of x))
made_more w m (y ∷ xs) x =
    ap (λ (l : List Graph). graph_made w m (command_of y) ++ l) (made_more w (step w m y) xs x)
    ∙ sym (append_assoc (graph_made w m (command_of y)) (step_graphs w (step w m y) xs) (graph_made w (last w (step w m y) xs) (command_of x)))

-- ---- at most one copy for each call of kinds 1 to 16

none : (w : Parameters) (m : Machine) (c : Command) → graph_of (deed_of w c m).effect ≡ [] → length (graph_made w m c) ≡ 0
unfolding graph_made
none w m c h = go (refusal w m c == 0) refl
  where
    go : (t : Bool) → (refusal w m c == 0) ≡ t → length (graph_made w m c) ≡ 0
    go true e = rw (e, h)
    go false e = rw e

history_none : (w : Parameters) (m : Machine) (h : HistoryCall) → length (graph_made w m (History h)) ≡ 0
history_none w m (SetMark k) = none w m (History (SetMark k)) refl
history_none w m (DropMark k) = none w m (History (DropMark k)) refl
history_none w m Undo = none w m (History Undo) refl
history_none w m Redo = none w m (History Redo) refl
history_none w m (GoTo k) = none w m (History (GoTo k)) refl
history_none w m CommitCall = none w m (History CommitCall) refl
history_none w m (Between k l) = none w m (History (Between k l)) refl
history_none w m Standing = none w m (History Standing) refl
history_none w m Free = none w m (History Free) refl
history_none w m (NameMark k a b) = none w m (History (NameMark k a b)) refl
history_none w m (GoToName a b) = none w m (History (GoToName a b)) refl
history_none w m (SetBench b) = none w m (History (SetBench b)) refl
history_none w m (MadeBy k l b) = none w m (History (MadeBy k l b)) refl

at_most_one : (w : Parameters) (m : Machine) (c : Change) → length (graph_made w m (Alter c)) ≤ 1
at_most_one w m c = elim (change_is w m c) [
  | idle k e g ↦ rw g (omega arith)
  | stepped s k e g ↦ rw g (omega arith)
]

made_one : (w : Parameters) (m : Machine) (x : Call) → length (graph_made w m (command_of x)) ≤ changes_in (x ∷ [])
made_one w m x = go (command_of x) refl
  where
    go : (c : Command) → command_of x ≡ c → length (graph_made w m (command_of x)) ≤ changes_in (x ∷ [])
    go (Alter c) e = rw (alter_kind x c e) (rw e (at_most_one w m c))
    go (History h) e = rw e (omega (arith, history_none w m h))
    go (Ask q) e = rw e (omega (arith, none w m (Ask q) refl))
    go (Quote p) e = rw e (omega (arith, none w m (Quote p) refl))
    go Unknown e = rw e (omega (arith, none w m Unknown refl))

changes_more : (xs ys : List Call) → changes_in (xs ++ ys) ≡ changes_in xs + changes_in ys
changes_more [] ys = omega arith
changes_more (x ∷ xs) ys = go (within 1 16 x.kind) (changes_more xs ys)
  where
    go : (t : Bool) → changes_in (xs ++ ys) ≡ changes_in xs + changes_in ys
        → length (t ⇒ (x ∷ filter (λ y. within 1 16 y.kind) (xs ++ ys)) else filter (λ y. within 1 16 y.kind) (xs ++ ys))
        ≡ length (t ⇒ (x ∷ filter (λ y. within 1 16 y.kind) xs) else filter (λ y. within 1 16 y.kind) xs) + changes_in ys
    go true e = omega (arith, e)
    go false e = e

pub made_few : (w : Parameters) (m : Machine) (xs : List Call) → length (step_graphs w m xs) ≤ changes_in xs
unfolding step_graphs
made_few w m [] = omega arith
made_few w m (x ∷ xs) =
    omega (arith, length-append (graph_made w m (command_of x)) (step_graphs w (step w m x) xs), made_one w m x, made_few w (step w m x) xs, changes_more (x ∷ []) xs)

-- ---- each graph that is made is well formed

all_last : (w : Parameters) (ss : List Step) (s : Step) → All (λ (s : Step). Formed w s.graph) (ss ++ (s ∷ [])) → Formed w s.graph
all_last w [] s (more h a) = h
all_last w (x ∷ ss) s (more h a) = all_last w ss s a

all_both : (w : Parameters) (gs hs : List Graph) → All (Formed w) gs → All (Formed w) hs → All (Formed w) (gs ++ hs)
all_both w [] hs done b = b
all_both w (g ∷ gs) hs (more h a) b = more h (all_both w gs hs a b)

none_formed : (w : Parameters) (gs : List Graph) → length gs ≡ 0 → All (Formed w) gs
none_formed w [] e = done
none_formed w (g ∷ gs) e = absurd (omega arith)

one_formed : (w : Parameters) (m : Machine) (x : Call) → WordsFit x → AllFormed w m → All (Formed w) (graph_made w m (command_of x))
one_formed w m x f a = go (command_of x) refl
  where
    go : (c : Command) → command_of x ≡ c → All (Formed w) (graph_made w m (command_of x))
    go (Alter c) e = elim (change_is w m c) [
      | idle k q g ↦ rw (e, g) done
      | stepped s k q g ↦
          let b : AllFormed w (after_change s m) = subst (AllFormed w) (ap (step_to w m) e ∙ q) (step_formed w m x f a) in
          rw (e, g) (more (all_last w (take m.line.place m.line.steps) s b.steps) done)
    ]
    go (History h) e = rw e (none_formed w _ (history_none w m h))
    go (Ask q) e = rw e (none_formed w _ (none w m (Ask q) refl))
    go (Quote p) e = rw e (none_formed w _ (none w m (Quote p) refl))
    go Unknown e = rw e (none_formed w _ (none w m Unknown refl))

pub made_formed : (w : Parameters) (m : Machine) (xs : List Call) → All WordsFit xs → AllFormed w m → All (Formed w) (step_graphs w m xs)
unfolding step_graphs
made_formed w m [] done a = done
made_formed w m (x ∷ xs) (more f fs) a =
    all_both w (graph_made w m (command_of x)) (step_graphs w (step w m x) xs) (one_formed w m x f a) (made_formed w (step w m x) xs fs (step_formed w m x f a))

-- ---- call k of the list

module _ (calls : List ℕ) (k : ℕ) (fits : 5 * k + 5 ≤ length calls) where
  abbrev part : List ℕ
  part = take (5 * k + 5 - 5 * k) (drop (5 * k) calls)

  inside : k < length (calls_of calls)
  inside = let many = calls_length (length calls / 5) calls (omega arith) (omega arith) in omega arith

  call_is : call_at part ≡ get_or (calls_of calls) k (call_at [])
  call_is =
      let five : 5 * k + 5 - 5 * k ≡ 5 = omega arith in
      ap (λ (j : ℕ). call_at (take j (drop (5 * k) calls))) five ∙ sym (call_at_lem k calls (call_at []) fits)

  pub one_more : take (k + 1) (calls_of calls) ≡ take k (calls_of calls) ++ (call_at part ∷ [])
  one_more =
      ap (λ (j : ℕ). take j (calls_of calls)) (add-one k) ∙ take-suc (calls_of calls) k (call_at []) inside
      ∙ ap (λ (x : Call). take k (calls_of calls) ++ (x ∷ [])) (sym call_is)

  pub part_five : length part ≡ 5
  part_five =
      let five : 5 * k + 5 - 5 * k ≡ 5 = omega arith in
      rw five (length-take-le 5 (drop (5 * k) calls) (rw length-drop (omega arith)))

  pub changes_with : within 1 16 (get_or part 0 0) ≡ true → suc (changes_in (take k (calls_of calls))) ≤ changes_in (calls_of calls)
  changes_with t =
      let x = call_at part in
      let rest = drop (suc k) (calls_of calls) in
      let all : calls_of calls ≡ take k (calls_of calls) ++ (x ∷ rest) =
      split_at (calls_of calls) k (call_at []) inside ∙ ap (λ (y : Call). take k (calls_of calls) ++ (y ∷ rest)) (sym call_is) in
      let more : changes_in (x ∷ rest) ≡ suc (changes_in rest) = rw t in
      omega (arith, ap changes_in all, changes_more (take k (calls_of calls)) (x ∷ rest), more)

-- the first call of some words, and the rest
pub changes_first : (x rest ws : List ℕ) (t : Bool) → ws ≡ x ++ rest → length x ≡ 5 → within 1 16 (get_or x 0 0) ≡ t →
    (length ws ≡ 5 + length rest) × (changes_in (calls_of ws) ≡ to_bit t + changes_in (calls_of rest))
changes_first (k ∷ a ∷ b ∷ c ∷ d ∷ []) rest ws true e h f = rw (e, f) (omega arith, omega arith)
changes_first (k ∷ a ∷ b ∷ c ∷ d ∷ []) rest ws false e h f = rw (e, f) (omega arith, omega arith)
changes_first [] rest ws t e h f = absurd (omega (arith, h))
changes_first (k ∷ []) rest ws t e h f = absurd (omega (arith, h))
changes_first (k ∷ a ∷ []) rest ws t e h f = absurd (omega (arith, h))
changes_first (k ∷ a ∷ b ∷ []) rest ws t e h f = absurd (omega (arith, h))
changes_first (k ∷ a ∷ b ∷ c ∷ []) rest ws t e h f = absurd (omega (arith, h))
changes_first (k ∷ a ∷ b ∷ c ∷ d ∷ g ∷ x) rest ws t e h f = absurd (omega (arith, h))

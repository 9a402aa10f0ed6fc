-- The code of each family of commands, from the rows that can apply to it; and the steps that commands make.
use Rattle.std.specs.Prelude.{◌==◌}
use Prim.Native.Nat.{ℕ, ◌≤◌}
use mathlib.Core.Path.{◌≡◌, refl, sym, ap, ◌∙◌}
use mathlib.Core.Bool.{Bool, true, false}
use mathlib.Core.List.{List, [], ◌∷◌, ◌++◌}
use native.Mathlib.Omega.{arith}
use lib.Dec.{leb}
use lib.ListN.{length}
use borrow.Author.Tests.{ne_eqb, eqb-true, eqb-false, leb-true}
use Rattle.lists.specs.Choice.{◌⇒◌else◌}
use Rattle.lists.specs.Lists.{All, done, more}
use Rattle.lists.proofs.Bools.{ft}
use Rattle.lists.proofs.Sums.{all_bool}
use Rattle.graph.specs.declared.Change.{Change}
use Rattle.graph.specs.declared.SingleChange.TheVariants.{CreateVertex, CreateEdge, DeleteEdge, RetypeVertex, RetypeEdge, SetValue, SetReading, SetAlpha, SetOmega, VertexBefore}
use Rattle.graph.specs.declared.SingleChange.TheVariants.{VertexAfter, EdgeBefore, EdgeAfter, WordBefore, WordAfter}
use Rattle.graph.specs.declared.Change.TheVariants.{Single, DeleteVertex}
use Rattle.graph.specs.Changes.{cost}
use Rattle.graph.specs.Same.{alters}
use Rattle.history.specs.Machine.{Step, step_of, Machine, present}
use Rattle.machine.specs.HistoryCodes.{too_dear, out_of_reach, history_table, later_table}
use Rattle.machine.specs.Rules.{Effect, steps, marks, unmarks, goes, names, benches, clears, nothing, deed, change_deed, history_deed, first_code, change_rule, history_rule}
use Rattle.commands.specs.declared.HistoryCall.{HistoryCall}
use Rattle.commands.specs.declared.HistoryCall.TheVariants.{SetMark, DropMark, Undo, Redo, GoTo, Commit, Between, Standing, Free, NameMark, GoToName, SetBench, MadeBy}
use Rattle.commands.specs.declared.Question.{Question}
use Rattle.commands.specs.declared.Question.TheVariants.{FirstVertex, NextVertex, FirstEdge, NextEdge, FirstWord, NextWord, Alpha, Omega, This, That, VertexType, EdgeType, Value}
use Rattle.commands.specs.declared.Question.TheVariants.{ReadingKind, Decimetres, Degree, VertexOrder, EdgeOrder, WordOrder, Below}
use Rattle.commands.specs.declared.PriceCall.{PriceCall}
use Rattle.commands.specs.declared.PriceCall.TheVariants.{Range, Grade}
use Rattle.commands.specs.declared.Command.TheVariants.{Alter, History, Ask, Quote}
use Rattle.commands.specs.Tables.{Row, lowest}
use Rattle.commands.specs.Commands.{change_of, change_call, history_call}
use Rattle.machine.specs.Calls.{Parameters, bounds_in}
use Rattle.machine.specs.Codes.{chart_table, last_table, refusal, change_code, question_code, price_code}

-- ---- two tables, one after the other

abbrev pub Coded : List Row → Type 0
Coded rs = All (λ (r : Row). 1 ≤ r.code) rs

lowest_both : (rs ss : List Row) → Coded rs → lowest (rs ++ ss) ≡ first_code (lowest rs) (lowest ss)
lowest_both [] ss done = refl
lowest_both (r ∷ rs) ss (more h hs) = go r.applies (lowest_both rs ss hs)
  where
    go : (t : Bool) → lowest (rs ++ ss) ≡ first_code (lowest rs) (lowest ss) → (t ⇒ r.code else lowest (rs ++ ss)) ≡ first_code (t ⇒ r.code else lowest rs) (lowest ss)
    go true i = rw (ne_eqb r.code 0 (omega arith))
    go false i = i

both_zero : (r : ℕ) (t : Bool) → first_code r (t ⇒ 10 else 0) ≡ 0 → (r ≡ 0) × (t ≡ false)
both_zero r t e = go (r == 0) refl t e
  where
    go : (s : Bool) → (r == 0) ≡ s → (t : Bool) → ◌≡◌ {A = ℕ} (s ⇒ (t ⇒ 10 else 0) else r) 0 → (r ≡ 0) × (t ≡ false)
    go true a false i = (eqb-true r 0 a, refl)
    go true a true i = absurd (omega arith)
    go false a t i = absurd (eqb-false r 0 a i)

module _ (w : Parameters) (m : Machine) where
  -- ---- changes: 2 to 9, then 10

  room_only : (c : Change) → lowest (history_table w.changes m (change_call c) ++ (last_table (present m) (change_call c) ++ later_table m (change_call c))) ≡ (too_dear w.changes m c ⇒ 10 else 0)
  unfolding change_of
  room_only (Single (CreateVertex n t x)) = refl
  room_only (DeleteVertex a) = refl
  room_only (Single (CreateEdge n a o t)) = refl
  room_only (Single (DeleteEdge a)) = refl
  room_only (Single (RetypeVertex a t)) = refl
  room_only (Single (RetypeEdge a t)) = refl
  room_only (Single (SetValue a x)) = refl
  room_only (Single (SetReading a k d)) = refl
  room_only (Single (SetAlpha e v)) = refl
  room_only (Single (SetOmega e v)) = refl
  room_only (Single (VertexBefore a b)) = refl
  room_only (Single (VertexAfter a b)) = refl
  room_only (Single (EdgeBefore a b)) = refl
  room_only (Single (EdgeAfter a b)) = refl
  room_only (Single (WordBefore a b)) = refl
  room_only (Single (WordAfter a b)) = refl

  pub change_refusal : (c : Change) → refusal w m (Alter c) ≡ (change_rule (bounds_in w) w.changes c).code m
  unfolding refusal
  change_refusal c =
      let t = chart_table (bounds_in w) (present m) (change_call c) in
      lowest_both t (history_table w.changes m (change_call c) ++ (last_table (present m) (change_call c) ++ later_table m (change_call c)))
      (all_bool (λ (r : Row). leb 1 r.code) (λ r e. leb-true 1 r.code e) t refl)
      ∙ ap (first_code (lowest t)) (room_only c)

  -- what an accepted change has passed
  pub change_passed : (c : Change) → (refusal w m (Alter c) == 0) ≡ true → (change_code (bounds_in w) (present m) c ≡ 0) × (too_dear w.changes m c ≡ false)
  change_passed c e = both_zero _ _ (sym (change_refusal c) ∙ eqb-true (refusal w m (Alter c)) 0 e)

  -- ---- the other families

  -- where a history call is within reach
  pub history_refusal : (h : HistoryCall) → out_of_reach w.changes m (history_call h) ≡ false → refusal w m (History h) ≡ (history_rule w.changes h).code m
  unfolding refusal
  history_refusal (SetMark k) r = refl
  history_refusal (DropMark k) r = refl
  history_refusal Undo r = refl
  history_refusal Redo r = rw r
  history_refusal (GoTo k) r = rw r
  history_refusal Commit r = refl
  history_refusal (Between j k) r = refl
  history_refusal Standing r = refl
  history_refusal Free r = refl
  history_refusal (NameMark k b c) r = refl
  history_refusal (GoToName b c) r = rw r
  history_refusal (SetBench k) r = refl
  history_refusal (MadeBy j k b) r = refl

  -- and where it is not
  pub history_beyond : (h : HistoryCall) → out_of_reach w.changes m (history_call h) ≡ true → refusal w m (History h) ≡ 10
  unfolding refusal
  history_beyond (SetMark k) r = ft r
  history_beyond (DropMark k) r = ft r
  history_beyond Undo r = ft r
  history_beyond Redo r = rw r
  history_beyond (GoTo k) r = rw r
  history_beyond Commit r = ft r
  history_beyond (Between j k) r = ft r
  history_beyond Standing r = ft r
  history_beyond Free r = ft r
  history_beyond (NameMark k b c) r = ft r
  history_beyond (GoToName b c) r = rw r
  history_beyond (SetBench k) r = ft r
  history_beyond (MadeBy j k b) r = ft r

  pub question_refusal : (q : Question) → refusal w m (Ask q) ≡ question_code (length w.rows) (present m) q
  unfolding refusal
  question_refusal FirstVertex = refl
  question_refusal (NextVertex a) = refl
  question_refusal FirstEdge = refl
  question_refusal (NextEdge a) = refl
  question_refusal (FirstWord a) = refl
  question_refusal (NextWord a) = refl
  question_refusal (Alpha a) = refl
  question_refusal (Omega a) = refl
  question_refusal (This a) = refl
  question_refusal (That a) = refl
  question_refusal (VertexType a) = refl
  question_refusal (EdgeType a) = refl
  question_refusal (Value a) = refl
  question_refusal (ReadingKind a) = refl
  question_refusal (Decimetres a) = refl
  question_refusal (Degree a t c) = refl
  question_refusal (VertexOrder a b) = refl
  question_refusal (EdgeOrder a b) = refl
  question_refusal (WordOrder a b) = refl
  question_refusal (Below s t) = refl

  pub price_refusal : (p : PriceCall) → refusal w m (Quote p) ≡ price_code (present m) p
  unfolding refusal
  price_refusal (Range a b) = refl
  price_refusal (Grade a b c) = refl

-- ---- steps are made by changes alone

-- P holds of the step, where there is one
abbrev pub Makes : (Step → Type 0) → Effect → Type 0
Makes P (steps s) = P s
Makes P (marks n) = Unit {0}
Makes P (unmarks n) = Unit {0}
Makes P (goes p) = Unit {0}
Makes P (names k n) = Unit {0}
Makes P (benches b) = Unit {0}
Makes P clears = Unit {0}
Makes P nothing = Unit {0}

-- a change that alters the graph makes a step, any other nothing
pub change_effect : (P : Effect → Type 0) (c : Change) (m : Machine) → (alters c (present m) ≡ true → P (steps (step_of m.bench c (present m)))) → P nothing → P (change_deed c m).effect
change_effect P c m h i = go (alters c (present m)) refl
  where
    go : (t : Bool) → alters c (present m) ≡ t → P (t ⇒ deed (cost c (present m)) (steps (step_of m.bench c (present m))) else deed 0 nothing).effect
    go true e = h e
    go false e = i

pub history_makes : (P : Step → Type 0) (capacity : ℕ) (h : HistoryCall) (m : Machine) → Makes P (history_deed capacity h m).effect
history_makes P capacity (SetMark k) m = tt
history_makes P capacity (DropMark k) m = tt
history_makes P capacity Undo m = tt
history_makes P capacity Redo m = tt
history_makes P capacity (GoTo k) m = tt
history_makes P capacity Commit m = tt
history_makes P capacity (Between j k) m = tt
history_makes P capacity Standing m = tt
history_makes P capacity Free m = tt
history_makes P capacity (NameMark k b c) m = tt
history_makes P capacity (GoToName b c) m = tt
history_makes P capacity (SetBench k) m = tt
history_makes P capacity (MadeBy j k b) m = tt

-- The rows: one back, one on, cut, one more.
use Prim.Native.Nat.{ℕ, zero, suc, ◌+◌, ◌-◌, ◌*◌, ◌≤◌, ◌<◌}
use mathlib.Core.Path.{◌≡◌, refl, sym, ap, subst, ◌∙◌}
use mathlib.Core.Bool.{Bool, true, false}
use mathlib.Core.List.{List}
use native.Mathlib.Omega.{arith}
use lib.ListN.{length}
use Rattle.lists.proofs.Picks.{same, differ, same?}
use Rattle.graph.specs.declared.Edit.{Edit}
use Rattle.graph.specs.Graph.{Graph}
use Rattle.graph.specs.WellFormed.{Bounds, WellFormed, Within}
use Rattle.graph.specs.Edits.{Applies, EditIn, apply, inverse}
use Rattle.graph.proofs.Keeps.{keeps_formed}
use Rattle.graph.proofs.EditBounds.{keeps_within}
use Rattle.journal.specs.Rows.{RowStep, row_at, rowed, turned, SameBelow}
use Rattle.journal.specs.Written.{Written}
use Rattle.journal.proofs.RowLaws.{row_agree, rowed_length, rowed_below, rowed_row}
use Rattle.graph_tables.specs.Tables.{State}
use Rattle.graph_tables.specs.Holds.{Holds}
use Rattle.graph_tables.specs.Edits.{state_apply, Can}
use Rattle.graph_tables.specs.Capacities.{Sized}
use Rattle.graph_tables.proofs.Callers.{can_apply, edited, edited_sized, can_revert, reverted, reverted_sized}
use Rattle.timeline.specs.JournalRows.{graph_after, JournalRows, shifted, Reach, crossed}

-- ---- what the rows make is well formed and within the bounds

module _ (b : Bounds) (t : List ℕ) (g : Graph) (n : ℕ) (applies : (i : ℕ) → i < n → Applies (row_at t i) (graph_after t g i)) where
  pub made_sound : WellFormed g → (u : ℕ) → u ≤ n → WellFormed (graph_after t g u)
  made_sound w zero h = w
  made_sound w (suc u) h = keeps_formed (row_at t u) (graph_after t g u) (applies u (omega arith)) (made_sound w u (omega arith))

  pub made_within : ((i : ℕ) → i < n → EditIn b (row_at t i)) → Within b g → (u : ℕ) → u ≤ n → Within b (graph_after t g u)
  made_within i w zero h = w
  made_within i w (suc u) h = keeps_within b (row_at t u) (graph_after t g u) (applies u (omega arith)) (i u (omega arith)) (made_within i w u (omega arith))

module _ (b : Bounds) (t : List ℕ) (g : Graph) (n : ℕ) (s : State) where
  pub rows_sound : (u v : ℕ) → JournalRows b t g n s u → v ≤ n → WellFormed (graph_after t g v)
  rows_sound u v k h = made_sound b t g n k.applies k.sound v h

  -- other tables that hold what v rows make
  moved : (s' : State) (u v : ℕ) → JournalRows b t g n s u → Sized b s' → v ≤ n → Holds s' (graph_after t g v) → JournalRows b t g n s' v
  moved s' u v k z i h = record {
    sized = z;
    sound = k.sound;
    bounded = k.bounded;
    applies = k.applies;
    inside = k.inside;
    within = k.within;
    short = k.short;
    upto = i;
    holds = h;
  }

  -- one row back
  module _ (u : ℕ) (k : JournalRows b t g n s (suc u)) where
    last : u < n
    last = omega (arith, k.upto)

    sound : WellFormed (graph_after t g u)
    sound = rows_sound (suc u) u k (omega (arith, last))

    pub can_back : Can (inverse (row_at t u)) s
    can_back = can_revert b s k.sized (row_at t u) (graph_after t g u) sound (k.applies u last) (k.inside u last) k.holds _ refl

    pub rows_back : (s' : State) → s' ≡ state_apply (inverse (row_at t u)) s → JournalRows b t g n s' u
    rows_back s' q =
        moved s' (suc u) u k (reverted_sized b s k.sized (row_at t u) (graph_after t g u) sound (k.applies u last) (k.inside u last) k.holds _ s' refl q)
        (omega (arith, last)) (reverted b s k.sized (row_at t u) (graph_after t g u) sound (k.applies u last) (k.inside u last) k.holds _ s' refl q)

  -- one row on
  module _ (u : ℕ) (k : JournalRows b t g n s u) (l : u < n) where
    pub can_on : Can (row_at t u) s
    can_on = can_apply b s k.sized (graph_after t g u) k.holds (row_at t u) (k.applies u l) (k.inside u l)

    pub rows_on : (s' : State) → s' ≡ state_apply (row_at t u) s → JournalRows b t g n s' (suc u)
    rows_on s' q =
        moved s' u (suc u) k (edited_sized b s k.sized (graph_after t g u) k.holds (row_at t u) (k.applies u l) (k.inside u l) s' q)
        (omega arith) (edited b s k.sized (graph_after t g u) k.holds (row_at t u) (k.applies u l) (k.inside u l) s' q)

  pub rows_cut : (u : ℕ) → JournalRows b t g n s u → JournalRows b t g u s u
  rows_cut u k = record {
    sized = k.sized;
    sound = k.sound;
    bounded = k.bounded;
    applies = λ j l. k.applies j (omega (arith, k.upto));
    inside = λ j l. k.inside j (omega (arith, k.upto));
    within = omega (arith, k.within, k.upto);
    short = k.short;
    upto = omega arith;
    holds = k.holds;
  }

pub made_agree : (u : ℕ) (t t' : List ℕ) (g : Graph) → SameBelow u t t' → (i : ℕ) → i ≤ u → graph_after t' g i ≡ graph_after t g i
made_agree u t t' g b zero h = refl
made_agree u t t' g b (suc i) h = rw (row_agree u i t t' b (omega arith), made_agree u t t' g b i (omega arith))

-- ---- one row, back or on

pub reach_by : {back way : Bool} (n u m : ℕ) → back ≡ way → Reach back n u m → Reach way n u m
reach_by n u m e = subst (λ (x : Bool). Reach x n u m) e

pub edit_is : (t : List ℕ) (back : Bool) (u i : ℕ) (e : Edit) → i ≡ crossed back u → e ≡ turned back (row_at t i)
    → e ≡ turned back (row_at t (crossed back u))
edit_is t back u i e p q = q ∙ ap (λ (j : ℕ). turned back (row_at t j)) p

module _ (b : Bounds) (t : List ℕ) (g : Graph) (n : ℕ) (s : State) (u : ℕ) (k : JournalRows b t g n s u) where
  -- after one row at least
  some_behind : 1 ≤ u → JournalRows b t g n s (suc (u - 1))
  some_behind h = let q : u ≡ suc (u - 1) = omega arith in subst (JournalRows b t g n s) q k

  pub row_word : (back : Bool) → Reach back 1 u n → Reach back 1 u 4294967295
  row_word true h = h
  row_word false h = omega (arith, k.within, k.short)

  pub row_room : (back : Bool) → Reach back 1 u n → 12 * crossed back u + 12 ≤ length t
  row_room true h = omega (arith, k.upto, k.within)
  row_room false h = omega (arith, k.within)

  pub row_can : (back : Bool) → Reach back 1 u n → Can (turned back (row_at t (crossed back u))) s
  row_can true h = can_back b t g n s (u - 1) (some_behind h)
  row_can false h = can_on b t g n s u k (omega arith)

  pub row_done : (back : Bool) → Reach back 1 u n → (s' : State) → s' ≡ state_apply (turned back (row_at t (crossed back u))) s
      → JournalRows b t g n s' (shifted back 1 u)
  row_done true h s' e = rows_back b t g n s (u - 1) (some_behind h) s' e
  row_done false h s' e =
      let q : suc u ≡ u + 1 = omega arith in
      subst (JournalRows b t g n s') q (rows_on b t g n s u k (omega arith) s' e)

-- ---- an edit is written down as the row after the last

module _ (b : Bounds) (t t' : List ℕ) (g : Graph) (s : State) (u : ℕ) (e : Edit) (c : RowStep) (k : JournalRows b t g u s u) (room : 12 * u + 12 ≤ length t)
    (a : Applies e (graph_after t g u)) (i : EditIn b e) (q : t' ≡ rowed u e c t) where
  below : SameBelow u t t'
  below = rowed_below u e c t t' q room

  row : row_at t' u ≡ e
  row = rowed_row u e c t t' q room

  old : (i : ℕ) → i ≤ u → graph_after t' g i ≡ graph_after t g i
  old i h = made_agree u t t' g below i h

  pub made_more : graph_after t' g (suc u) ≡ apply e (graph_after t g u)
  made_more = rw (row, old u (omega arith))

  by_row : (P : Edit → ℕ → Type 0) → ((i : ℕ) → i < u → P (row_at t i) i) → P e u → (i : ℕ) → i < suc u → P (row_at t' i) i
  by_row P f z i h = elim (same? i u) [
    | same x y ↦ subst (λ (j : ℕ). P (row_at t' j) j) y (subst (λ (b : Edit). P b u) (sym row) z)
    | differ x y ↦
        let l : i < u = omega arith in
        subst (λ (b : Edit). P b i) (sym (row_agree u i t t' below l)) (f i l)
  ]

  applies' : (i : ℕ) → i < suc u → Applies (row_at t' i) (graph_after t' g i)
  applies' i h = subst (λ (x : Graph). Applies (row_at t' i) x) (sym (old i (omega arith))) (by_row (λ b j. Applies b (graph_after t g j)) k.applies a i h)

  -- it is still to be carried out
  pub rows_added : JournalRows b t' g (suc u) s u
  rows_added = record {
    sized = k.sized;
    sound = k.sound;
    bounded = k.bounded;
    applies = applies';
    inside = by_row (λ x j. EditIn b x) k.inside i;
    within = omega (arith, rowed_length u e c t t' q room);
    short = rw (rowed_length u e c t t' q room) k.short;
    upto = omega arith;
    holds = subst (λ (x : Graph). Holds s x) (sym (old u (omega arith))) k.holds;
  }

-- an edit that was written down and carried out
pub written_rows : (b : Bounds) (g : Graph) (e : Edit) (c : RowStep) (u : ℕ) (s : State) (t : List ℕ) (s' : State) (t' : List ℕ)
    → 12 * u + 12 ≤ length t → EditIn b e → Applies e (graph_after t g u) → JournalRows b t g u s u → Written e c u s t s' t'
    → JournalRows b t' g (suc u) s' (suc u)
written_rows b g e c u s t s' t' room i a k w =
    rows_on b t' g (suc u) s u (rows_added b t t' g s u e c k room a i w.row) (omega arith) s'
    (w.state ∙ ap (λ (x : Edit). state_apply x s) (sym (rowed_row u e c t t' w.row room)))

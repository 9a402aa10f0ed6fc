-- The steps in the rows: undo, redo, a step more, commit, free changes.
use Prim.Native.Nat.{ℕ, zero, suc, ◌+◌, ◌-◌, ◌*◌, ◌/◌, ◌^◌, ◌≤◌, ◌<◌}
use mathlib.Core.Path.{◌≡◌, refl, sym, ap, subst, ◌∙◌}
use mathlib.Core.Bool.{Bool, true, false}
use mathlib.Core.List.{List, [], ◌∷◌, ◌++◌}
use native.Mathlib.Omega.{arith}
use lib.Dec.{ltb}
use lib.ListN.{length, take}
use borrow.Author.Tests.{le-ltb}
use Rattle.lists.proofs.Picks.{same, differ, same?}
use Rattle.graph.specs.declared.Edit.{Edit}
use Rattle.graph.specs.Graph.{Graph}
use Rattle.graph.specs.WellFormed.{Bounds, WellFormed, Within}
use Rattle.graph.specs.Edits.{Applies, EditIn, apply}
use Rattle.history.specs.Machine.{Step, Timeline, begun, graph_at, present_in, placed, extended, costs, free_of, onward}
use Rattle.history.proofs.Timelines.{length_cut, costs_take, onward_back}
use Rattle.journal.specs.Rows.{RowStep, costing, row_at, step_at, signed, SameBelow}
use Rattle.journal.specs.Written.{Written}
use Rattle.journal.proofs.RowLaws.{below_less, step_at_agree, rowed_below, rowed_step, rowed_length, bench_at_agree, signed_length, signed_below, signed_row, signed_step, signed_bench}
use Rattle.graph_tables.specs.Tables.{State, state}
use Rattle.graph_tables.specs.Holds.{Holds}
use Rattle.graph_tables.specs.Capacities.{Sized}
use Rattle.graph_tables.proofs.GraphRead.{holds_one}
use Rattle.timeline.specs.declared.Position.{Position}
use Rattle.timeline.specs.declared.Current.{Current}
use Rattle.timeline.specs.JournalRows.{graph_after, JournalRows, shifted, Reach, crossed}
use Rattle.timeline.specs.Steps.{rows_to, StepAt, StepsAt, Behind, Journal, Open}
use Rattle.timeline.proofs.JournalRowLaws.{made_within, made_agree, rows_cut, made_more, written_rows}

abbrev pub step_with : ℕ → Graph → ℕ → Step
step_with c g b = record { cost = c; graph = g; bench = b }

rows_from : (i p : ℕ) (ss : List Step) → i ≤ rows_to i p ss
rows_from i zero ss = omega arith
rows_from i (suc p) [] = omega arith
rows_from i (suc p) (x ∷ ss) = omega (arith, rows_from (i + x.cost) p ss)

-- step p + 1 in the rows
record Turn (t : List ℕ) (i p : ℕ) (ss : List Step) : Type 0 where
  cost : ℕ
  some : 1 ≤ cost
  next : rows_to i (suc p) ss ≡ rows_to i p ss + cost
  first : step_at t (rows_to i p ss) ≡ costing cost
  last : step_at t (rows_to i (suc p) ss - 1) ≡ costing cost
  within : rows_to i (suc p) ss ≤ rows_to i (length ss) ss

turn_at : (t : List ℕ) (g : Graph) (i p : ℕ) (ss : List Step) → StepsAt t g i ss → p < length ss → Turn t i p ss
turn_at t g i p [] l h = absurd (omega arith)
turn_at t g i zero (x ∷ ss) l h = record {
  cost = x.cost;
  some = l.0.some;
  next = refl;
  first = l.0.first;
  last = l.0.last;
  within = rows_from (i + x.cost) (length ss) ss;
}
turn_at t g i (suc p) (x ∷ ss) l h =
    let r = turn_at t g (i + x.cost) p ss l.1 (omega arith) in
    record { cost = r.cost; some = r.some; next = r.next; first = r.first; last = r.last; within = r.within }

-- the first p steps' rows make Gp
pub makes_current : (t : List ℕ) (g : Graph) (i p : ℕ) (ss : List Step) → StepsAt t g i ss → p ≤ length ss → graph_at p (graph_after t g i) ss ≡ graph_after t g (rows_to i p ss)
makes_current t g i zero ss l h = refl
makes_current t g i (suc p) [] l h = absurd (omega arith)
makes_current t g i (suc p) (x ∷ ss) l h = ap (λ (y : Graph). graph_at p y ss) l.0.makes ∙ makes_current t g (i + x.cost) p ss l.1 (omega arith)

-- ---- what the journal says of the present graph

module _ (b : Bounds) (j : Position) (s : State) (t : List ℕ) (l : Timeline) (k : Journal b j s t l) where
  current_made : present_in l ≡ graph_after t l.start j.used
  current_made = makes_current t l.start 0 l.place l.steps k.steps_at k.inside ∙ ap (graph_after t l.start) (sym k.used)

  -- the tables hold Gp
  pub holds_current : Holds s (present_in l)
  holds_current = subst (λ (x : Graph). Holds s x) (sym current_made) k.rows.holds

  pub sound_current : WellFormed (present_in l)
  sound_current = holds_current.sound

  pub within_current : Within b (present_in l)
  within_current =
      subst (Within b) (sym current_made)
      (made_within b t l.start _ k.rows.applies k.rows.inside k.rows.bounded j.used k.rows.upto)

-- ---- cut at place p, and one step more

step_agree : (t t' : List ℕ) (g : Graph) (i : ℕ) (x : Step) → SameBelow (i + x.cost) t t' → StepAt t g i x → StepAt t' g i x
step_agree t t' g i x b k = record {
  some = k.some;
  first = step_at_agree (i + x.cost) i t t' b (omega (arith, k.some)) ∙ k.first;
  last = step_at_agree (i + x.cost) (i + x.cost - 1) t t' b (omega (arith, k.some)) ∙ k.last;
  makes = k.makes ∙ sym (made_agree (i + x.cost) t t' g b (i + x.cost) (omega arith));
  benched = bench_at_agree (i + x.cost) i t t' b (omega (arith, k.some)) ∙ k.benched;
}

steps_at_more : (t t' : List ℕ) (g : Graph) (i p : ℕ) (ss : List Step) (x : Step) → StepsAt t g i ss → p ≤ length ss → SameBelow (rows_to i p ss) t t'
    → StepAt t' g (rows_to i p ss) x → StepsAt t' g i (take p ss ++ (x ∷ []))
steps_at_more t t' g i zero ss x l h b k = (k, tt)
steps_at_more t t' g i (suc p) [] x l h b k = absurd (omega arith)
steps_at_more t t' g i (suc p) (y ∷ ss) x l h b k = (
  step_agree t t' g i y (below_less (rows_to (i + y.cost) p ss) (i + y.cost) t t' (rows_from (i + y.cost) p ss) b) l.0,
  steps_at_more t t' g (i + y.cost) p ss x l.1 (omega arith) b k,
)

rows_more : (i p : ℕ) (ss : List Step) (x : Step) → p ≤ length ss → rows_to i (suc p) (take p ss ++ (x ∷ [])) ≡ rows_to i p ss + x.cost
rows_more i zero ss x h = refl
rows_more i (suc p) [] x h = absurd (omega arith)
rows_more i (suc p) (y ∷ ss) x h = rows_more (i + y.cost) p ss x (omega arith)

-- ---- to another place

-- a step's cost stands in the row that is crossed first, and leads to the rows of the next place
pub record NextStep (t : List ℕ) (g : Graph) (ss : List Step) (p u : ℕ) (back : Bool) : Type 0 where
  pub cost : ℕ
  pub some : 1 ≤ cost
  pub word : (step_at t (crossed back u)).cost ≡ cost
  pub reach : Reach back cost u 4294967295
  pub room : 12 * crossed back u + 12 ≤ length t
  pub after : Behind t g ss (shifted back 1 p) (shifted back cost u)

module _ (t : List ℕ) (g : Graph) (ss : List Step) (p u : ℕ) (k : Behind t g ss p u) where
  behind_by : (q v : ℕ) → q ≤ length ss → v ≡ rows_to 0 q ss → Behind t g ss q v
  behind_by q v i e = record { steps_at = k.steps_at; within = k.within; short = k.short; inside = i; used = e }

  -- the step back from place p, or the one on
  pub next_step : (back : Bool) → Reach back 1 p (length ss) → NextStep t g ss p u back
  next_step true h =
      let e : suc (p - 1) ≡ p = omega arith in
      let r = turn_at t g 0 (p - 1) ss k.steps_at (omega (arith, k.inside)) in
      let w : rows_to 0 (suc (p - 1)) ss ≡ u = ap (λ (x : ℕ). rows_to 0 x ss) e ∙ sym k.used in
      record {
        cost = r.cost;
        some = r.some;
        word = ap (λ (x : ℕ). (step_at t (x - 1)).cost) (sym w) ∙ ap (λ (x : RowStep). x.cost) r.last;
        reach = omega (arith, r.next, w);
        room = omega (arith, r.next, r.some, w, r.within, k.within);
        after = behind_by (p - 1) (u - r.cost) (omega (arith, k.inside)) (omega (arith, r.next, w));
      }
  next_step false h =
      let e : p + 1 ≡ suc p = omega arith in
      let r = turn_at t g 0 p ss k.steps_at (omega arith) in
      record {
        cost = r.cost;
        some = r.some;
        word = ap (λ (x : ℕ). (step_at t x).cost) k.used ∙ ap (λ (x : RowStep). x.cost) r.first;
        reach = omega (arith, k.used, r.next, r.within, k.within, k.short);
        room = omega (arith, k.used, r.next, r.some, r.within, k.within);
        after = behind_by (p + 1) (u + r.cost) (omega arith) (omega (arith, k.used, r.next, ap (λ (x : ℕ). rows_to 0 x ss) e));
      }

rows_within : (i p : ℕ) (ss : List Step) → p ≤ length ss → rows_to i p ss ≤ rows_to i (length ss) ss
rows_within i zero ss h = rows_from i (length ss) ss
rows_within i (suc p) [] h = absurd (omega arith)
rows_within i (suc p) (x ∷ ss) h = rows_within (i + x.cost) p ss (omega arith)

pub behind_within : (t : List ℕ) (g : Graph) (ss : List Step) (p u : ℕ) → Behind t g ss p u → u ≤ rows_to 0 (length ss) ss
behind_within t g ss p u k = omega (arith, k.used, rows_within 0 p ss k.inside)

pub journal_behind : (b : Bounds) (j : Position) (s : State) (t : List ℕ) (l : Timeline) → Journal b j s t l → Behind t l.start l.steps j.place j.used
journal_behind b j s t l k = record {
  steps_at = k.steps_at;
  within = k.rows.within;
  short = k.rows.short;
  inside = omega (arith, k.place, k.inside);
  used = k.used ∙ ap (λ (x : ℕ). rows_to 0 x l.steps) (sym k.place);
}

-- the rows behind any place
pub behind_at : (b : Bounds) (j : Position) (s : State) (t : List ℕ) (l : Timeline) → Journal b j s t l → (p : ℕ) → p ≤ length l.steps → Behind t l.start l.steps p (rows_to 0 p l.steps)
behind_at b j s t l k p i = record { steps_at = k.steps_at; within = k.rows.within; short = k.rows.short; inside = i; used = refl }

pub journal_placed : (b : Bounds) (j j' : Position) (s s' : State) (t : List ℕ) (l : Timeline) → Journal b j s t l
    → Behind t l.start l.steps j'.place j'.used → j'.steps ≡ j.steps
    → JournalRows b t l.start (rows_to 0 (length l.steps) l.steps) s' j'.used → Journal b j' s' t (placed j'.place l)
journal_placed b j j' s s' t l k h y z = record {
  rows = z;
  steps_at = k.steps_at;
  place = refl;
  inside = h.inside;
  steps = y ∙ k.steps;
  used = h.used;
}

-- the record that a lending function hands back, at what its contract says of it
pub at_record : (b : Bounds) (x y : Current) (vertices edges t : List ℕ) (l : Timeline) → x ≡ y → Journal b y.position (state y.head vertices edges) t l
    → Journal b x.position (state x.head vertices edges) t l
at_record b x y vertices edges t l e = subst (λ (z : Current). Journal b z.position (state z.head vertices edges) t l) (sym e)

pub placed_by : (b : Bounds) (j : Position) (s : State) (t : List ℕ) (l : Timeline) (p q : ℕ) → p ≡ q → Journal b j s t (placed p l) → Journal b j s t (placed q l)
placed_by b j s t l p q e = subst (λ (x : ℕ). Journal b j s t (placed x l)) e

-- ---- a step more

rows_count : (t : List ℕ) (g : Graph) (i p : ℕ) (ss : List Step) → StepsAt t g i ss → p ≤ length ss → i + p ≤ rows_to i p ss
rows_count t g i zero ss l h = omega arith
rows_count t g i (suc p) [] l h = absurd (omega arith)
rows_count t g i (suc p) (x ∷ ss) l h = omega (arith, l.0.some, rows_count t g (i + x.cost) p ss l.1 (omega arith))

-- place, steps and rows used fit into words
pub place_short : (b : Bounds) (j : Position) (s : State) (t : List ℕ) (l : Timeline) → Journal b j s t l → 12 * j.place ≤ length t
place_short b j s t l k = omega (arith, rows_count t l.start 0 l.place l.steps k.steps_at k.inside, k.place, k.used, k.rows.within, k.rows.upto)

pub steps_short : (b : Bounds) (j : Position) (s : State) (t : List ℕ) (l : Timeline) → Journal b j s t l → 12 * j.steps ≤ length t
steps_short b j s t l k = omega (arith, rows_count t l.start 0 (length l.steps) l.steps k.steps_at (omega arith), k.steps, k.rows.within)

pub rows_short : (b : Bounds) (t : List ℕ) (g : Graph) (n : ℕ) (s : State) (u : ℕ) → JournalRows b t g n s u → u < 4294967296
rows_short b t g n s u k = omega (arith, k.upto, k.within, k.short)

-- rows written after the rows of step p are a step
journal_close : (b : Bounds) (j j' : Position) (s s' : State) (t t' : List ℕ) (l : Timeline) (x : Step) → Journal b j s t l → SameBelow j.used t t' → StepAt t' l.start j.used x
    → JournalRows b t' l.start (j.used + x.cost) s' (j.used + x.cost)
    → j'.place ≡ j.place + 1 → j'.steps ≡ j.place + 1 → j'.used ≡ j.used + x.cost → Journal b j' s' t' (extended x l)
journal_close b j j' s s' t t' l x k w y z p q r =
    let ss = take l.place l.steps ++ (x ∷ []) in
    let n : length ss ≡ suc l.place = length_cut l.place l.steps x k.inside in
    let u : rows_to 0 (suc l.place) ss ≡ j.used + x.cost = rows_more 0 l.place l.steps x k.inside ∙ ap (λ (i : ℕ). i + x.cost) (sym k.used) in
    let v : rows_to 0 (length ss) ss ≡ j.used + x.cost = ap (λ (i : ℕ). rows_to 0 i ss) n ∙ u in
    record {
      rows = rw (r, v) z;
      steps_at = steps_at_more t t' l.start 0 l.place l.steps x k.steps_at k.inside
          (subst (λ (i : ℕ). SameBelow i t t') k.used w) (subst (λ (i : ℕ). StepAt t' l.start i x) k.used y);
      place = omega (arith, p, k.place);
      inside = omega (arith, n);
      steps = omega (arith, q, n, k.place);
      used = r ∙ sym u;
    }

-- ---- the bench of a step is no part of its rows

made_signed : (t : List ℕ) (g : Graph) (u w : ℕ) (i : ℕ) → graph_after (signed u w t) g i ≡ graph_after t g i
made_signed t g u w zero = refl
made_signed t g u w (suc i) = λ z. apply (signed_row u w t i z) (made_signed t g u w i z)

rows_signed : (b : Bounds) (t : List ℕ) (g : Graph) (n : ℕ) (s : State) (v u w : ℕ) → JournalRows b t g n s v → JournalRows b (signed u w t) g n s v
rows_signed b t g n s v u w k = record {
  sized = k.sized;
  sound = k.sound;
  bounded = k.bounded;
  applies = λ i h. subst (λ (e : Edit). Applies e (graph_after (signed u w t) g i)) (sym (signed_row u w t i)) (subst (Applies (row_at t i)) (sym (made_signed t g u w i)) (k.applies i h));
  inside = λ i h. subst (EditIn b) (sym (signed_row u w t i)) (k.inside i h);
  within = omega (arith, k.within, signed_length u w t);
  short = rw (signed_length u w t) k.short;
  upto = k.upto;
  holds = subst (λ (y : Graph). Holds s y) (sym (made_signed t g u w v)) k.holds;
}

-- ---- a step of several rows

module _ (b : Bounds) (j : Position) (s₀ : State) (t₀ : List ℕ) (l : Timeline) (c : ℕ) where
  pub open_start : (u : ℕ) → j.used ≡ u → Journal b j s₀ t₀ l → Open b j s₀ t₀ l (costing c) s₀ t₀ u
  open_start u q k = subst (Open b j s₀ t₀ l (costing c) s₀ t₀) q (record {
    journal = k;
    below = λ i h. refl;
    rows = rows_cut b t₀ l.start _ s₀ j.used k.rows;
    low = omega arith;
    says = λ i l h. absurd (omega arith);
    size = refl;
  })

  module _ (s : State) (t : List ℕ) (u : ℕ) (k : Open b j s₀ t₀ l (costing c) s t u) where
    open_now : (g : Graph) → Holds s g → g ≡ graph_after t l.start u
    open_now g h = holds_one s g (graph_after t l.start u) h k.rows.holds

    -- one row more
    module _ (g : Graph) (e : Edit) (h : Holds s g) (a : Applies e g) (i : EditIn b e) (f : 12 * u + 12 ≤ length t) (s' : State) (t' : List ℕ) (u' : ℕ)
        (d : Written e (costing c) u s t s' t') (n : u' ≡ suc u) where
      open_tape : JournalRows b t' l.start (suc u) s' (suc u)
      open_tape = written_rows b l.start e (costing c) u s t s' t' f i (subst (Applies e) (open_now g h) a) k.rows d

      pub open_more : Open b j s₀ t₀ l (costing c) s' t' u'
      open_more = subst (Open b j s₀ t₀ l (costing c) s' t') (sym n) (record {
        journal = k.journal;
        below = λ x y. rowed_below u e (costing c) t t' d.row f x (omega (arith, k.low)) ∙ k.below x y;
        rows = open_tape;
        low = omega (arith, k.low);
        says = λ x o y. elim (same? x u) [
          | same v w ↦ subst (λ (z : ℕ). step_at t' z ≡ costing c) w (rowed_step u e (costing c) t t' d.row f)
          | differ v w ↦ step_at_agree u x t t' (rowed_below u e (costing c) t t' d.row f) (omega arith) ∙ k.says x o (omega arith)
        ];
        size = rowed_length u e (costing c) t t' d.row f ∙ k.size;
      })

      pub open_holds : Holds s' (apply e g)
      open_holds =
          subst (λ (y : Graph). Holds s' y)
          (made_more b t t' l.start s u e (costing c) k.rows f (subst (Applies e) (open_now g h) a) i d.row ∙ ap (apply e) (sym (open_now g h))) open_tape.holds

    -- once it is signed by a bench, it is the step of that bench
    pub open_close : (j' : Position) (g : Graph) (w : ℕ) → 1 ≤ c → u ≡ j.used + c → Holds s g → j'.place ≡ j.place + 1 → j'.steps ≡ j.place + 1 → j'.used ≡ u
        → Journal b j' s (signed j.used w t) (extended (step_with c g w) l)
    open_close j' g w o n h x y z =
        let t' = signed j.used w t in
        let e = signed_step j.used w t in
        let r = made_signed t l.start j.used w in
        journal_close b j j' s₀ s t₀ t' l (step_with c g w) k.journal (λ i d. signed_below j.used w t i d ∙ k.below i d)
        (record {
          some = o;
          first = e j.used ∙ k.says j.used (omega arith) (omega arith);
          last = e (j.used + c - 1) ∙ k.says (j.used + c - 1) (omega arith) (omega arith);
          makes = open_now g h ∙ ap (graph_after t l.start) n ∙ sym (r (j.used + c));
          benched = signed_bench j.used w t (omega (arith, k.rows.within));
        })
        (subst (λ (i : ℕ). JournalRows b t' l.start i s i) n (rows_signed b t l.start u s u j.used w k.rows)) x y (z ∙ n)

-- ---- a start, commit, and free changes

pub journal_begin : (b : Bounds) (j : Position) (s : State) (t : List ℕ) (g : Graph) → Sized b s → Within b g → Holds s g → length t < 2 ^ 32
    → j.place ≡ 0 → j.steps ≡ 0 → j.used ≡ 0 → Journal b j s t (begun g)
journal_begin b j s t g z w h e x y u = record {
  rows = rw u (record {
    sized = z;
    sound = h.sound;
    bounded = w;
    applies = λ i k. absurd (omega arith);
    inside = λ i k. absurd (omega arith);
    within = omega arith;
    short = e;
    upto = omega arith;
    holds = h;
  });
  steps_at = tt;
  place = x;
  inside = omega arith;
  steps = y;
  used = u;
}

pub journal_commit : (b : Bounds) (j j' : Position) (s : State) (t : List ℕ) (l : Timeline) → Journal b j s t l → j'.place ≡ 0 → j'.steps ≡ 0 → j'.used ≡ 0
    → Journal b j' s t (begun (present_in l))
journal_commit b j j' s t l k x y u =
    journal_begin b j' s t (present_in l) k.rows.sized (within_current b j s t l k) (holds_current b j s t l k) k.rows.short x y u

rows_total : (i p : ℕ) (ss : List Step) → rows_to i p ss ≡ i + costs (take p ss)
rows_total i zero ss = omega arith
rows_total i (suc p) [] = omega arith
rows_total i (suc p) (x ∷ ss) = omega (arith, rows_total (i + x.cost) p ss)

pub journal_free : (b : Bounds) (j : Position) (s : State) (t : List ℕ) (l : Timeline) (capacity : ℕ) → Journal b j s t l → capacity - j.used ≡ free_of capacity l
journal_free b j s t l capacity k = omega (arith, k.used, rows_total 0 l.place l.steps)

-- ---- the room for the steps on the way to place q

module _ (b : Bounds) (j : Position) (s : State) (t : List ℕ) (l : Timeline) (k : Journal b j s t l) (free q : ℕ) where
  pub journal_back : q ≤ l.place → false ≡ ltb free (onward q l)
  journal_back h = sym (le-ltb free (onward q l) (omega (arith, onward_back q l h)))

  -- where all rows of the journal are free, every step has room
  pub journal_room : length t / 12 ≤ j.used + free → false ≡ ltb free (onward q l)
  journal_room h = sym (le-ltb free (onward q l) (omega (
    arith,
    h,
    k.rows.within,
    k.used,
    rows_total 0 l.place l.steps,
    rows_total 0 (length l.steps) l.steps,
    take_length l.steps,
    costs_take q l.steps,
  )))
    where
      take_length : (ss : List Step) → costs (take (length ss) ss) ≡ costs ss
      take_length [] = refl
      take_length (x ∷ ss) = omega (arith, take_length ss)

  -- else the rows behind q decide
  pub journal_on : (rows : ℕ) → rows ≡ rows_to 0 q l.steps → ltb free (rows - j.used) ≡ ltb free (onward q l)
  journal_on rows e =
      let z : rows - j.used ≡ onward q l = omega (arith, e, k.used, rows_total 0 l.place l.steps, rows_total 0 q l.steps) in
      ap (ltb free) z

  pub journal_above : l.place ≤ q → (rows : ℕ) → rows ≡ rows_to 0 q l.steps → j.used ≤ rows
  journal_above h rows e = omega (arith, e, k.used, rows_on 0 l.place q l.steps h)
    where
      rows_on : (i p q : ℕ) (ss : List Step) → p ≤ q → rows_to i p ss ≤ rows_to i q ss
      rows_on i zero q ss h = rows_from i q ss
      rows_on i (suc p) zero ss h = absurd (omega arith)
      rows_on i (suc p) (suc q) [] h = omega arith
      rows_on i (suc p) (suc q) (x ∷ ss) h = rows_on (i + x.cost) p q ss (omega arith)

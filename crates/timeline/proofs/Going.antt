-- The way to another place, row by row and step by step.
use Prim.Native.Nat.{ℕ, ◌+◌, ◌-◌, ◌*◌, ◌≤◌, ◌<◌}
use mathlib.Core.Path.{◌≡◌, refl, sym, ap, subst, ◌∙◌}
use mathlib.Core.Logic.{◌≢◌}
use mathlib.Core.Bool.{Bool, true, false}
use mathlib.Core.List.{List}
use native.Mathlib.Omega.{arith}
use lib.ListN.{length}
use Rattle.lists.proofs.Bools.{tf, ft}
use Rattle.lists.proofs.Picks.{same, differ, same?}
use Rattle.graph.specs.Graph.{Graph}
use Rattle.graph.specs.WellFormed.{Bounds}
use Rattle.history.specs.Machine.{Step, Timeline}
use Rattle.journal.specs.Rows.{step_at}
use Rattle.graph_tables.specs.Tables.{State}
use Rattle.timeline.specs.declared.Ahead.{Ahead}
use Rattle.timeline.specs.declared.Position.{Position}
use Rattle.timeline.specs.JournalRows.{JournalRows, shifted, Reach, crossed}
use Rattle.timeline.specs.Steps.{rows_to, Behind, Advances, NotPast, Aims, Journal}
use Rattle.timeline.proofs.Steps.{NextStep, next_step, behind_within, journal_behind, steps_short}

pub reach_one : (back : Bool) (n p m : ℕ) → n ≢ 0 → Reach back n p m → Reach back 1 p m
reach_one true n p m z h = omega arith
reach_one false n p m z h = omega arith

side_same : (back : Bool) (u : ℕ) → NotPast back u u
side_same true u = omega arith
side_same false u = omega arith

-- before the first row
pub aims_start : (t : List ℕ) (g : Graph) (ss : List Step) (back : Bool) (p u n : ℕ) → Behind t g ss p u → Reach back n p (length ss)
    → Aims t g ss back (shifted back n p) u (record { end = u; left = n })
aims_start t g ss back p u n k h = record { place = p; behind = k; reach = h; goal = refl; side = side_same back u }

pub going_start : (b : Bounds) (j : Position) (s : State) (t : List ℕ) (l : Timeline) → Journal b j s t l → (back : Bool) (n : ℕ) → Reach back n j.place j.steps
    → Aims t l.start l.steps back (shifted back n l.place) j.used (record { end = j.used; left = n })
going_start b j s t l k back n h =
    subst (λ (p : ℕ). Aims t l.start l.steps back (shifted back n p) j.used (record { end = j.used; left = n })) k.place
    (aims_start t l.start l.steps back j.place j.used n (journal_behind b j s t l k) (subst (Reach back n j.place) k.steps h))

-- the place that is gone to is a word
pub reach_short : (b : Bounds) (j : Position) (s : State) (t : List ℕ) (l : Timeline) → Journal b j s t l → (back : Bool) (n : ℕ) → Reach back n j.place j.steps
    → Reach back n j.place 4294967295
reach_short b j s t l k true n h = h
reach_short b j s t l k false n h = omega (arith, h, steps_short b j s t l k, k.rows.short)

module _ (t : List ℕ) (g : Graph) (ss : List Step) (q u : ℕ) (a : Ahead) where
  -- at the end of a step, and not the last
  module _ (back : Bool) (k : Aims t g ss back q u a) (e : u ≡ a.end) (n : a.left ≢ 0) where
    pub next_of : NextStep t g ss k.place u back
    next_of = next_step t g ss k.place u (subst (Behind t g ss k.place) (sym e) k.behind) back (reach_one back a.left k.place (length ss) n k.reach)

  pub aims_next : (back : Bool) (k : Aims t g ss back q u a) → u ≡ a.end → a.left ≢ 0 → (c end left : ℕ) → c ≡ (step_at t (crossed back u)).cost → end ≡ shifted back c u → left ≡ a.left - 1
      → Aims t g ss back q u (record { end = end; left = left }) × (u ≢ end)
  aims_next true k e n c end left w x y =
      let r = next_of true k e n in
      let z : end ≡ shifted true r.cost u = x ∙ ap (λ (i : ℕ). u - i) (w ∙ r.word) in (
        record {
          place = k.place - 1;
          behind = subst (Behind t g ss (k.place - 1)) (sym z) r.after;
          reach = omega (arith, k.reach, y);
          goal = omega (arith, k.goal, k.reach, y, n);
          side = omega (arith, z);
        },
        λ f. omega (arith, f, z, r.some, r.reach),
      )
  aims_next false k e n c end left w x y =
      let r = next_of false k e n in
      let z : end ≡ shifted false r.cost u = x ∙ ap (λ (i : ℕ). u + i) (w ∙ r.word) in (
        record {
          place = k.place + 1;
          behind = subst (Behind t g ss (k.place + 1)) (sym z) r.after;
          reach = omega (arith, k.reach, y, n);
          goal = omega (arith, k.goal, y, n);
          side = omega (arith, z);
        },
        λ f. omega (arith, f, z, r.some),
      )

  -- a row is left in the step
  pub row_reach : (back : Bool) → Aims t g ss back q u a → u ≢ a.end → Reach back 1 u (rows_to 0 (length ss) ss)
  row_reach true k n = omega (arith, k.side, n)
  row_reach false k n = omega (arith, k.side, n, behind_within t g ss k.place a.end k.behind)

  nearer_end : (back : Bool) → Aims t g ss back q u a → u ≢ a.end → NotPast back (shifted back 1 u) a.end
  nearer_end true k n = omega (arith, k.side, n)
  nearer_end false k n = omega (arith, k.side, n)

  pub aims_row : (back : Bool) → Aims t g ss back q u a → u ≢ a.end → (u' : ℕ) → u' ≡ shifted back 1 u → Aims t g ss back q u' a
  aims_row back k n u' e = record {
    place = k.place;
    behind = k.behind;
    reach = k.reach;
    goal = k.goal;
    side = subst (λ (i : ℕ). NotPast back i a.end) (sym e) (nearer_end back k n);
  }

-- where the present step ends
pub aims_here : (t : List ℕ) (g : Graph) (ss : List Step) (back : Bool) (q u : ℕ) (a : Ahead) → Aims t g ss back q u a → Aims t g ss back q a.end a
aims_here t g ss back q u a k = record { place = k.place; behind = k.behind; reach = k.reach; goal = k.goal; side = side_same back a.end }

-- after the last row
none_left : (back : Bool) (n p : ℕ) → n ≡ 0 → shifted back n p ≡ p
none_left true n p e = omega (arith, e)
none_left false n p e = omega (arith, e)

pub aims_end : (t : List ℕ) (g : Graph) (ss : List Step) (back : Bool) (q u : ℕ) (a : Ahead) → Aims t g ss back q u a → a.left ≡ 0 → u ≡ a.end → (p : ℕ) → p ≡ q → Behind t g ss p u
aims_end t g ss back q u a k z e p f =
    subst (λ (i : ℕ). Behind t g ss i u) (sym (f ∙ k.goal ∙ none_left back a.left k.place z)) (subst (Behind t g ss k.place) (sym e) k.behind)

pub end_short : (t : List ℕ) (g : Graph) (ss : List Step) (back : Bool) (q u : ℕ) (a : Ahead) → Aims t g ss back q u a → a.end < 4294967296
end_short t g ss back q u a k = omega (arith, behind_within t g ss k.place a.end k.behind, k.behind.within, k.behind.short)

-- ---- the loop

-- the steps left, then the rows left in the present one
abbrev pub rows_left : ℕ → Ahead → ℕ
rows_left u a = a.left * 4294967296 + ((u - a.end) + (a.end - u))

apart_less : (back : Bool) (u u' e : ℕ) → NotPast back u e → u ≢ e → u' ≡ shifted back 1 u → (u' - e) + (e - u') < (u - e) + (e - u)
apart_less true u u' e s n f = less u u' e (omega (arith, s, n)) f
  where
    less : (u u' e : ℕ) → e < u → u' ≡ u - 1 → (u' - e) + (e - u') < (u - e) + (e - u)
    less u u' e l f = omega arith
apart_less false u u' e s n f = less u u' e (omega (arith, s, n)) f
  where
    less : (u u' e : ℕ) → u < e → u' ≡ u + 1 → (u' - e) + (e - u') < (u - e) + (e - u)
    less u u' e l f = omega arith

apart_short : (u e : ℕ) → u < 4294967296 → e < 4294967296 → (u - e) + (e - u) < 4294967296
apart_short u e x y = omega arith

step_less : (l l' d d' e : ℕ) → l' + 1 ≡ l → d' < d → d < 4294967296 → l' * 4294967296 + d' < l * 4294967296 + e
step_less l l' d d' e x y z = omega arith

pub fewer_left : (back : Bool) (u u' : ℕ) (a r : Ahead) → Advances u a r → NotPast back u r.end → u ≢ r.end → u' ≡ shifted back 1 u → u < 4294967296 → r.end < 4294967296
    → rows_left u' r < rows_left u a
fewer_left back u u' a r d s n e x y =
    let l = apart_less back u u' r.end s n e in
    elim (same? u a.end) [
      | same p z ↦ step_less a.left r.left _ _ _ (d.0 (sym z)) l (apart_short u r.end x y)
      | differ p z ↦ subst (λ (i : Ahead). rows_left u' r < rows_left u i) (d.1 p) (omega (arith, l))
    ]

pub record Going (t : List ℕ) (back : Bool) (s₀ : State) (u₀ : ℕ) (a₀ : Ahead) (s : State) (u : ℕ) (a : Ahead) : Type 0 where
  pub vlen : length s.vertices ≡ length s₀.vertices
  pub elen : length s.edges ≡ length s₀.edges
  pub goes : (b : Bounds) (g : Graph) (ss : List Step) (q : ℕ) → JournalRows b t g (rows_to 0 (length ss) ss) s₀ u₀ → Aims t g ss back q u₀ a₀
      → JournalRows b t g (rows_to 0 (length ss) ss) s u × Aims t g ss back q u a

-- ---- the direction

pub shifted_back : (back : Bool) (n p : ℕ) → back ≡ true → shifted back n p ≤ p
shifted_back true n p e = omega arith
shifted_back false n p e = ft e

pub shifted_on : (back : Bool) (n p : ℕ) → back ≡ false → shifted back n p ≡ p + n
shifted_on true n p e = tf e
shifted_on false n p e = refl

pub reach_on : (back : Bool) (n p m : ℕ) → back ≡ false → Reach back n p m → p + n ≤ m
reach_on true n p m e h = tf e
reach_on false n p m e h = h

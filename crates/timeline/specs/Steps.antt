-- The steps of the timeline in the rows of the journal.
use Rattle.std.specs.Prelude.{ℕ, zero, suc, ◌+◌, ◌-◌, ◌*◌, ◌^◌, ◌≤◌, ◌<◌, ◌≡◌, ◌≢◌, Bool, true, false, List, [], ◌∷◌, length}
use Rattle.graph.specs.Graph.{Graph}
use Rattle.graph.specs.WellFormed.{Bounds}
use Rattle.history.specs.Machine.{Step, Timeline}
use Rattle.journal.specs.Rows.{RowStep, costing, step_at, bench_at, SameBelow}
use Rattle.graph_tables.specs.Tables.{State}
use Rattle.timeline.specs.declared.Ahead.{Ahead}
use Rattle.timeline.specs.declared.Position.{Position}
use Rattle.timeline.specs.JournalRows.{graph_after, JournalRows, shifted, Reach}

-- i and the costs of the first p steps: the row where step p + 1 begins, if the first step begins at row i
abbrev pub rows_to : ℕ → ℕ → List Step → ℕ
rows_to i zero ss = i
rows_to i (suc p) [] = i
rows_to i (suc p) (x ∷ ss) = rows_to (i + x.cost) p ss

-- what the rows of a step say of it
abbrev pub row_step : Step → RowStep
row_step x = costing x.cost

-- the rows of step x begin at row i: as many as it costs, the first and the last say what it is, all make its
-- graph, and the first has its bench
pub record StepAt (t : List ℕ) (g : Graph) (i : ℕ) (x : Step) : Type 0 where
  pub some : 1 ≤ x.cost
  pub first : step_at t i ≡ row_step x
  pub last : step_at t (i + x.cost - 1) ≡ row_step x
  pub makes : x.graph ≡ graph_after t g (i + x.cost)
  pub benched : bench_at t i ≡ x.bench

-- the rows of the steps, one after another from row i on
abbrev pub StepsAt : List ℕ → Graph → ℕ → List Step → Type 0
StepsAt t g i [] = Unit {0}
StepsAt t g i (x ∷ ss) = StepAt t g i x × StepsAt t g (i + x.cost) ss

-- u rows lie behind place p: those of the first p steps
pub record Behind (t : List ℕ) (g : Graph) (ss : List Step) (p u : ℕ) : Type 0 where
  pub steps_at : StepsAt t g 0 ss
  pub within : 12 * rows_to 0 (length ss) ss ≤ length t
  pub short : length t < 2 ^ 32
  pub inside : p ≤ length ss
  pub used : u ≡ rows_to 0 p ss

-- ---- on the way to another place

-- a row is left: at the end of a step, another step is
abbrev pub Unfinished : ℕ → Ahead → Type 0
Unfinished u a = u ≡ a.end → a.left ≢ 0

-- at the end of a step the next one begins; else the same goes on
abbrev pub Advances : ℕ → Ahead → Ahead → Type 0
Advances u a r = (u ≡ a.end → r.left + 1 ≡ a.left) × (u ≢ a.end → r ≡ a)

-- e is u, or before it on the way back, or after it on the way on
abbrev pub NotPast : Bool → ℕ → ℕ → Type 0
NotPast true u e = e ≤ u
NotPast false u e = u ≤ e

-- with u rows behind, the present step ends at the rows of a place from where place q is so many steps away
pub record Aims (t : List ℕ) (g : Graph) (ss : List Step) (back : Bool) (q u : ℕ) (a : Ahead) : Type 0 where
  pub place : ℕ
  pub behind : Behind t g ss place a.end
  pub reach : Reach back a.left place (length ss)
  pub goal : q ≡ shifted back a.left place
  pub side : NotPast back u a.end

-- the position, the tables s and the journal's words t stand for the timeline l
pub record Journal (b : Bounds) (j : Position) (s : State) (t : List ℕ) (l : Timeline) : Type 0 where
  pub rows : JournalRows b t l.start (rows_to 0 (length l.steps) l.steps) s j.used
  pub steps_at : StepsAt t l.start 0 l.steps
  pub place : j.place ≡ l.place
  pub inside : l.place ≤ length l.steps
  pub steps : j.steps ≡ length l.steps
  pub used : j.used ≡ rows_to 0 l.place l.steps

-- a step that is being made: rows that say x of it were written after those of step p, up to row u
pub record Open (b : Bounds) (j : Position) (s₀ : State) (t₀ : List ℕ) (l : Timeline) (x : RowStep) (s : State)
    (t : List ℕ) (u : ℕ) : Type 0 where
  pub journal : Journal b j s₀ t₀ l
  pub below : SameBelow j.used t₀ t
  pub rows : JournalRows b t l.start u s u
  pub low : j.used ≤ u
  pub says : (i : ℕ) → j.used ≤ i → i < u → step_at t i ≡ x
  pub size : length t ≡ length t₀

-- A list that is not refused: what its steps ask, and what they leave together; and a list that is refused.
use Prim.Native.Nat.{ℕ, ◌/◌, ◌^◌, ◌<◌, ◌≤◌}
use mathlib.Core.Bool.{true}
use mathlib.Core.Path.{◌≡◌, refl, sym, ap, subst, ◌∙◌}
use mathlib.Core.List.{List}
use native.Mathlib.Omega.{arith}
use lib.ListN.{length}
use borrow.Author.Tests.{ne_eqb}
use Rattle.type_rows.specs.Closure.{closure_words}
use Rattle.graph.specs.Graph.{Graph}
use Rattle.graph.specs.WellFormed.{Bounds, Within}
use Rattle.history.specs.Machine.{Machine, fresh, present}
use Rattle.image.specs.Image.{load, loadable, image_length}
use Rattle.marks.specs.Marked.{mark_words}
use Rattle.graph_tables.specs.declared.Head.{Head}
use Rattle.graph_tables.specs.Tables.{state}
use Rattle.graph_tables.specs.Holds.{Holds}
use Rattle.graph_tables.specs.Capacities.{Sized}
use Rattle.history_calls.specs.declared.Store.{Store}
use Rattle.history_calls.specs.Memory.{Memory, memory, tables_of}
use Rattle.history_calls.specs.Represents.{Represents}
use Rattle.history_calls.specs.Outcomes.{begun_at}
use Rattle.history_calls.proofs.Present as versions
use Rattle.image_tables.specs.Words.{CanSave}
use Rattle.image_tables.specs.Filling.{CanLoad}
use Rattle.image_tables.proofs.Laws.{within_loaded, can_save, Saved}
use Rattle.machine.specs.Calls.{Parameters, bounds_in}
use Rattle.commands.specs.Calls.{calls_of}
use Rattle.machine.specs.Machine.{last}
use Rattle.machine.specs.Run.{Lent, AfterRun, Limits, parameters_of, list_refusal, list_number, accepted, refused, run}
use Rattle.machine.proofs.ListRows.{Passed, passed}
use Rattle.engine.specs.Refusals.{Lends}
use Rattle.engine.specs.Running.{Running, Setting}
use Rattle.engine.specs.Calls.{AfterCalls}
use Rattle.engine.specs.Outcomes.{lent, run_result}
use Rattle.machine.proofs.Whole.{calls_length}

-- what `begin` ensures of the version x
abbrev Begins : List ℕ → Store → List ℕ → List ℕ → Type 0
Begins start x vertices edges =
    (b : Bounds) → (journal marks : List ℕ) → Sized b (tables_of x (memory vertices edges journal marks)) → Within b (load start)
    → length journal < 2 ^ 32 → length marks ≡ mark_words → Represents b x (memory vertices edges journal marks) (fresh (load start))

-- the tables with the head of a version that begins
pub held_at : (x : Store) (head : Head) (vertices edges : List ℕ) (g : Graph) → x ≡ begun_at head → Holds (state head vertices edges) g → Holds (state x.current.head vertices edges) g
held_at x head vertices edges g e h = subst (λ (y : Store). Holds (state y.current.head vertices edges) g) (sym e) h

-- ---- what stands where a run's parameters are those of the lent words

pub can_load : (w : Parameters) (start vertices edges : List ℕ) → Limits w → w.vertices ≡ length vertices / 8 → w.edges ≡ length edges / 12 →
    loadable (bounds_in w) start ≡ true → CanLoad start vertices edges
can_load w start vertices edges k v n sound = record {
  bounds = bounds_in w;
  sized = record { vertices = v; edges = n; few_vertices = k.few_vertices; few_edges = k.few_edges };
  sound = sound;
}

pub running : (w : Parameters) (start : List ℕ) (x : Store) (mem : Memory) (closed : List ℕ) (types : ℕ) → Setting w mem closed types →
    loadable (bounds_in w) start ≡ true → length mem.marks ≡ mark_words → Begins start x mem.vertices mem.edges →
    Running w x mem closed types (fresh (load start))
running w start x mem closed types s sound long begins =
    let k = s.limits in
    let few = k.few_changes in
    record {
      setting = s;
      represents =
          begins (bounds_in w) mem.journal mem.marks
          (record { vertices = s.vertices; edges = s.edges; few_vertices = k.few_vertices; few_edges = k.few_edges })
          (within_loaded (bounds_in w) start sound)
          (omega (arith, s.changes)) long;
    }

module _ (w : Parameters) (m : Machine) (y : Store) (mem : Memory) (closed : List ℕ) (types : ℕ) (r : Running w y mem closed types m) where
  pub holds_present : Holds (tables_of y mem) (present m)
  holds_present = versions.holds_present (bounds_in w) y mem m r.represents

  pub can_save_present : (size : ℕ) → image_length w.vertices w.edges ≤ size → CanSave (tables_of y mem) size
  can_save_present size room =
      can_save (bounds_in w) (tables_of y mem) (present m) size holds_present
      (versions.within_present (bounds_in w) y mem m r.represents)
      (versions.sized_present (bounds_in w) y mem m r.represents)
      room

-- ---- a list that is not refused

module _ (start rows calls vertices edges journal answers image : List ℕ) (e : list_refusal (lent start rows calls vertices edges journal answers image) ≡ 0) where
  abbrev l : Lent
  l = lent start rows calls vertices edges journal answers image

  abbrev w : Parameters
  w = parameters_of l

  pub past : Passed l
  past = passed l e

  module _ (closed : List ℕ) (types : ℕ) (rows_closed : closed ≡ closure_words rows) (types_in : types ≡ length rows) where
    -- before its first call
    pub begun : (x : Store) (vertices' edges' marks : List ℕ) → length vertices' ≡ length vertices → length edges' ≡ length edges → length marks ≡ mark_words →
        Begins start x vertices' edges' → Running w x (memory vertices' edges' journal marks) closed types (fresh (load start))
    begun x vertices' edges' marks v n =
        running w start x (memory vertices' edges' journal marks) closed types
        (record {
          limits = past.limits;
          vertices = ap (λ (j : ℕ). j / 8) (sym v);
          edges = ap (λ (j : ℕ). j / 12) (sym n);
          changes = refl;
          rows = past.rows_good;
          closed_rows = rows_closed;
          types_in = types_in;
        })
        past.start_loads

    pub ends : (y : Store) (mem : Memory) (answers' image' : List ℕ) (n : ℕ) →
        AfterCalls w w.changes (fresh (load start)) (calls_of calls) y mem closed types answers answers' → Saved (tables_of y mem) image image' n →
        run_result (record { code = 0; done = length calls / 5; words = n }) answers' image' ≡ accepted l
    unfolding accepted
    ends y mem answers' image' n g s =
        let m = last w (fresh (load start)) (calls_of calls) in
        let q = s (present m) (holds_present w m y mem closed types g.after) in
        let k : length calls / 5 ≡ length (calls_of calls) = sym (calls_length (length calls / 5) calls (omega arith) (omega arith)) in
        λ i. record { code = 0; done = k i; words = q.1 i; answers = g.answered i; end = q.0 i }

-- ---- the run

pub lends : (start rows calls vertices edges journal answers image : List ℕ) →
    Lends (lent start rows calls vertices edges journal answers image) start rows (length calls) (length vertices) (length edges) (length journal) (length answers) (length image)
lends start rows calls vertices edges journal answers image = record {
  start_is = refl;
  rows_are = refl;
  calls_are = refl;
  vertices_are = refl;
  edges_are = refl;
  journal_is = refl;
  answers_are = refl;
  image_is = refl;
}

pub run_accepted : (l : Lent) (r : AfterRun) → list_refusal l ≡ 0 → r ≡ accepted l → r ≡ run l
unfolding run
run_accepted l r e h = rw e h

pub run_refused : (l : Lent) (c n : ℕ) → c ≡ list_refusal l → n ≡ list_number l → (c ≡ 0 → ⊥) →
    record { code = c; done = n; words = 0; answers = l.answers; end = l.end } ≡ run l
unfolding run refused
run_refused l c n e f z =
    (λ i. record { code = e i; done = f i; words = 0; answers = l.answers; end = l.end }) ∙ rw (ne_eqb (list_refusal l) 0 (λ q. z (e ∙ q)))

-- What the stores of a run and the parts of the lent words have to do with the K plain machines.
use Rattle.std.specs.Prelude.{ℕ, suc, ◌-◌, ◌*◌, ◌^◌, ◌≤◌, ◌<◌, ◌≡◌, List, [], length, get_or}
use Rattle.lists.specs.Choice.{◌⇒◌else◌, within}
use Rattle.lists.specs.Lists.{overwritten}
use Rattle.history_calls.specs.declared.Store.{Store}
use Rattle.history_calls.specs.Memory.{memory}
use Rattle.history_calls.specs.Outcomes.{begun_at}
use Rattle.machine.specs.Calls.{Parameters}
use Rattle.machine.specs.Run.{answer_words}
use Rattle.machine.specs.Stores.{Stores, StoreCall, store_calls_of, spent_by, joint_room, answers_in, last_in}
use Rattle.engine.specs.Running.{Running}
use Rattle.store_calls.specs.Parts.{part}

-- the place of a store among so many; the first where there is no such store
abbrev pub slot_of : ℕ → ℕ → ℕ
slot_of number stores = within 1 stores number ⇒ number - 1 else 0

-- the store at place i; one without a graph where there are no more
abbrev pub store_at : List Store → ℕ → Store
store_at all i =
    get_or all i (begun_at (record { vfirst = 0; vlast = 0; efirst = 0; elast = 0; vertices = 0; edges = 0 }))

-- the lent words: the tables and the journal whole, and the words of the marks of each store
pub record Whole : Type 0 where
  pub vertices : List ℕ
  pub edges : List ℕ
  pub journal : List ℕ
  pub marks : List (List ℕ)

abbrev pub whole : List ℕ → List ℕ → List ℕ → List (List ℕ) → Whole
whole vertices edges journal marks = record { vertices = vertices; edges = edges; journal = journal; marks = marks }

-- the words of a part of each table
pub record Sizes : Type 0 where
  pub vertices : ℕ
  pub edges : ℕ
  pub journal : ℕ

abbrev pub sizes : ℕ → ℕ → ℕ → Sizes
sizes v e t = record { vertices = v; edges = e; journal = t }

-- for each store, the relation of one store on its parts
pub record Serving (w : Parameters) (z : Sizes) (all : List Store) (mem : Whole) (closed : List ℕ) (types : ℕ)
    (s : Stores) : Type 0 where
  pub many : length all ≡ 8
  pub some : 1 ≤ s.count
  pub few : s.count ≤ 8
  pub marks_many : length mem.marks ≡ 8
  pub vertices_fit : s.count * z.vertices ≤ length mem.vertices
  pub edges_fit : s.count * z.edges ≤ length mem.edges
  pub journal_fits : s.count * z.journal ≤ length mem.journal
  pub short : s.limit < 2 ^ 32
  pub limited : spent_by s.count s.machine ≤ s.limit
  pub each : (i : ℕ) → i < s.count
      → Running w (store_at all i)
      (memory (part z.vertices i mem.vertices) (part z.edges i mem.edges)
      (part z.journal i mem.journal) (get_or mem.marks i [])) closed types (s.machine (suc i))

-- ---- for contracts

-- some machines stand there, and so much room is left to all of them
abbrev pub Serves : List Store → List ℕ → List ℕ → List ℕ → List (List ℕ) → List ℕ
    → ℕ → ℕ → ℕ → ℕ → ℕ → ℕ → Type 0
Serves all vertices edges journal marks closed types stores room v e t =
    (w : Parameters) × (s : Stores) × (s.count ≡ stores) × (room ≡ joint_room s)
    × Serving w (sizes v e t) all (whole vertices edges journal marks) closed types s

-- after these calls, what stands is the machines', and so are the words written over the slice of answers
pub record AfterAll (w : Parameters) (z : Sizes) (s : Stores) (xs : List StoreCall) (all : List Store) (mem : Whole)
    (closed : List ℕ) (types : ℕ) (slice slice' : List ℕ) : Type 0 where
  pub after : Serving w z all mem closed types (last_in w s xs)
  pub answered : slice' ≡ overwritten (answer_words (answers_in w s xs)) slice

abbrev pub Served : List Store → List Store → Whole → Whole → List ℕ → ℕ → List ℕ → List ℕ → List ℕ
    → ℕ → ℕ → ℕ → ℕ → ℕ → Type 0
Served first all mem mem' closed types calls answers answers' stores room v e t =
    (w : Parameters) → (s : Stores) → s.count ≡ stores → room ≡ joint_room s
    → Serving w (sizes v e t) first mem closed types s
    → AfterAll w (sizes v e t) s (store_calls_of calls) all mem' closed types answers answers'

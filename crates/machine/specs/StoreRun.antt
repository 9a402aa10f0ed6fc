-- A run of several stores (REFERENCE 21): what is lent, the refusals of a list, the result and the lent words after
-- it; the way back over all of them.
use Rattle.std.specs.Prelude.{ℕ, zero, suc, ◌+◌, ◌-◌, ◌*◌, ◌/◌, ◌%◌, ◌≤◌, ◌<◌, ◌≡◌, ◌⊎◌, true, false, not, ◌&&◌, List, [], ◌∷◌, ◌++◌, map, length, get_or, take, drop, ltb, ◌==◌}
use Rattle.lists.specs.Choice.{◌⇒◌else◌, within}
use Rattle.lists.specs.Lists.{sum_of, range, overwritten}
use Rattle.type_rows.specs.Rows.{good_rows}
use Rattle.graph.specs.Graph.{Graph}
use Rattle.graph.specs.Limits.{most_vertices, most_edges, most_changes}
use Rattle.graph.specs.WellFormed.{Bounds}
use Rattle.image.specs.Image.{image_length, save, load}
use Rattle.image_check.specs.Checks.{load_code, load_offset}
use Rattle.history.specs.Machine.{Machine, fresh, present}
use Rattle.commands.specs.Tables.{Row, row, in_turn}
use Rattle.machine.specs.Calls.{Parameters, bounds_in}
use Rattle.machine.specs.Run.{Lent, AfterRun, parameters_of, number_beside, answer_words, refused}
use Rattle.machine.specs.Sentences.{
  store_after,
  store_events,
  MarkSentenceAt,
  NameSentenceAt,
  BenchSentenceAt,
}
use Rattle.machine.specs.Posed.{Posed}
use Rattle.machine.specs.Marks.{Event}
use Rattle.machine.specs.Demand.{Altering}
use Rattle.machine.specs.Going.{ToMark, GoesIn}
use Rattle.machine.specs.Stores.{
  Stores,
  StoreCall,
  store_calls_of,
  spent_by,
  is_store,
  answer_in,
  step_in,
  answers_in,
  last_in,
  calls_to,
  answers_to,
}

-- REFERENCE 21.1: as many stores as can be open
abbrev pub most_stores : ℕ
most_stores = 8

-- what is lent to one run of several stores, with K and L
pub record LentStores : Type 0 where
  pub lent : Lent
  pub count : ℕ
  pub limit : ℕ

-- REFERENCE 21.2: of each table, store s has the s-th of K parts, each of length ÷ K words; a part gives the capacity
abbrev pub parameters_in : LentStores → Parameters
parameters_in l = record {
  rows = l.lent.rows;
  vertices = l.lent.vertex_table / l.count / 8;
  edges = l.lent.edge_table / l.count / 12;
  changes = l.lent.change_table / l.count / 12;
}

-- ---- the start images, one after another (REFERENCE 21.3)

-- as long as its sixth word says
abbrev pub stated_length : List ℕ → ℕ
stated_length ws = get_or ws 5 0

-- the words from the image of store k + 1 on
abbrev pub images_from : ℕ → List ℕ → List ℕ
images_from zero ws = ws
images_from (suc k) ws = images_from k (drop (stated_length ws) ws)

-- that image
abbrev pub image_at : ℕ → List ℕ → List ℕ
image_at k ws = take (stated_length (images_from k ws)) (images_from k ws)

-- the start image of store n
abbrev pub start_image : LentStores → ℕ → List ℕ
start_image l n = image_at (n - 1) l.lent.start

abbrev pub start_of : LentStores → ℕ → Graph
start_of l n = load (start_image l n)

-- the code of the first of k images that does not load; where all do, 105 for words left over
unfoldable pub starts_code : Bounds → ℕ → List ℕ → ℕ
starts_code b zero ws = (length ws == 0) ⇒ 0 else 105
starts_code b (suc k) ws =
    (load_code b (take (stated_length ws) ws) == 0) ⇒ starts_code b k (drop (stated_length ws) ws)
    else load_code b (take (stated_length ws) ws)

-- the offset of its first bad word, counted from the first word of all, where the first of k images stands at `at`
unfoldable pub starts_offset : Bounds → ℕ → ℕ → List ℕ → ℕ
starts_offset b at zero ws = 0
starts_offset b at (suc k) ws =
    (load_code b (take (stated_length ws) ws) == 0) ⇒ starts_offset b (at + stated_length ws) k (drop (stated_length ws) ws)
    else (at + load_offset b (take (stated_length ws) ws))

-- ---- the table of a list

-- the rows of one store (Run: list_table), read on six words a call and on a part; 103 reads K too
unfoldable pub stores_table : LentStores → List Row
unfolding good_rows starts_code
stores_table l =
    row 101 (not (length l.lent.calls % 6 == 0)) ∷
    row 102 (ltb (length l.lent.answers) (2 * (length l.lent.calls / 6))) ∷
    row 103 (not (within 1 most_stores l.count && within 1 most_vertices w.vertices
    && within 1 most_edges w.edges && within 1 most_changes w.changes)) ∷
    row 104 (not (good_rows l.lent.rows)) ∷
    row 105 (start == 105) ∷
    row 108 (start == 108) ∷
    row 109 (start == 109) ∷
    row 106 (ltb (length l.lent.end / l.count) (image_length w.vertices w.edges)) ∷
    []
  where
    w : Parameters
    w = parameters_in l

    start : ℕ
    start = starts_code (bounds_in w) l.count l.lent.start

unfoldable pub stores_refusal : LentStores → ℕ
unfolding stores_table
stores_refusal l = in_turn (stores_table l)

unfoldable pub stores_number : LentStores → ℕ
unfolding stores_refusal starts_offset
stores_number l =
    number_beside (stores_refusal l) (starts_offset (bounds_in (parameters_in l)) 0 l.count l.lent.start)

-- ---- the run

-- the K machines as the list begins, each from its own start, and after some of the calls
abbrev pub opened : LentStores → Stores
opened l = record { count = l.count; limit = l.limit; machine = λ n. fresh (start_of l n) }

abbrev pub after_in : LentStores → List StoreCall → Stores
after_in l xs = last_in (parameters_in l) (opened l) xs

-- those of the calls that are store n's, each with the joint room before it
abbrev pub to_store : LentStores → ℕ → List StoreCall → List Posed
to_store l n xs = calls_to (parameters_in l) n (opened l) xs

-- the images of stores 1 to k
abbrev pub images_of : ℕ → (ℕ → Machine) → List (List ℕ)
images_of k f = map (λ (i : ℕ). save (present (f (suc i)))) (range k)

abbrev pub images : Stores → List (List ℕ)
images s = images_of s.count s.machine

-- REFERENCE 21.8: each image at the front of its part of n words; all other words stay
abbrev pub over_parts : ℕ → List (List ℕ) → List ℕ → List ℕ
over_parts n [] ws = ws
over_parts n (image ∷ rest) ws = overwritten image (take n ws) ++ over_parts n rest (drop n ws)

unfoldable pub accepted_in : LentStores → AfterRun
unfolding answers_in last_in save load
accepted_in l =
    let calls = store_calls_of l.lent.calls in
    let ends = images (after_in l calls) in
    record {
      code = 0;
      done = length calls;
      words = sum_of length ends;
      answers = overwritten (answer_words (answers_in (parameters_in l) (opened l) calls)) l.lent.answers;
      end = over_parts (length l.lent.end / l.count) ends l.lent.end;
    }

unfoldable pub run_in : LentStores → AfterRun
unfolding stores_refusal stores_number accepted_in refused
run_in l = let r = stores_refusal l in (r == 0) ⇒ accepted_in l else refused r (stores_number l) l.lent

-- what the result r of the list l has to be (REFERENCE 14.3, of several stores 21.7 and 21.12)
pub record Demand3In (l : LentStores) (r : AfterRun) : Type 0 where
  -- REFERENCE 21.8
  pub code : r.code ≡ 0
  pub done : r.done ≡ length (store_calls_of l.lent.calls)
  -- the answers are the plain machines', and the words behind them stay
  pub answered : r.answers ≡ overwritten (answer_words (answers_in (parameters_in l) (opened l)
      (store_calls_of l.lent.calls))) l.lent.answers
  -- each end image is that of its store's last graph, at the front of its part; the sum of their lengths is told
  pub saved : r.end ≡ over_parts (length l.lent.end / l.count)
      (images (after_in l (store_calls_of l.lent.calls))) l.lent.end
  pub words : r.words ≡ sum_of length (images (after_in l (store_calls_of l.lent.calls)))
  -- REFERENCE 2.3, on all stores
  pub each_call : (xs ys : List StoreCall) (x : StoreCall) → xs ++ (x ∷ ys) ≡ store_calls_of l.lent.calls →
      answers_in (parameters_in l) (opened l) (store_calls_of l.lent.calls) ≡
      answers_in (parameters_in l) (opened l) xs
      ++ (answer_in (parameters_in l) (after_in l xs) x ∷ answers_in (parameters_in l)
      (step_in (parameters_in l) (after_in l xs) x) ys)
  -- a store's machine at every point is the plain machine after that store's calls, each at the joint room before it
  pub store_is : (xs : List StoreCall) (n : ℕ) → is_store (opened l) n ≡ true →
      (after_in l xs).machine n ≡ store_after (parameters_in l) (start_of l n) (to_store l n xs)
  -- those calls with the answers to them are what happened to it
  pub events_are : (xs : List StoreCall) (n : ℕ) → is_store (opened l) n ≡ true
      → (map (λ (e : Event). e.call) (store_events (parameters_in l) (start_of l n) (to_store l n xs))
      ≡ map (λ (y : Posed). y.call) (to_store l n xs))
      × (map (λ (e : Event). e.answer) (store_events (parameters_in l) (start_of l n) (to_store l n xs))
      ≡ answers_to (parameters_in l) n (opened l) xs)
  -- so the sentences on marks, steps, names and benches are its own
  pub every_point : (xs ys : List StoreCall) → xs ++ ys ≡ store_calls_of l.lent.calls
      → (n : ℕ) → is_store (opened l) n ≡ true
      → MarkSentenceAt (parameters_in l) (start_of l n) (to_store l n xs)
  pub steps_alter : (xs ys : List StoreCall) → xs ++ ys ≡ store_calls_of l.lent.calls
      → (n : ℕ) → is_store (opened l) n ≡ true
      → Altering (store_after (parameters_in l) (start_of l n) (to_store l n xs)).line
  pub names : (xs ys : List StoreCall) → xs ++ ys ≡ store_calls_of l.lent.calls
      → (n : ℕ) → is_store (opened l) n ≡ true
      → NameSentenceAt (parameters_in l) (start_of l n) (to_store l n xs)
  pub benches : (xs ys : List StoreCall) → xs ++ ys ≡ store_calls_of l.lent.calls
      → (n : ℕ) → is_store (opened l) n ≡ true
      → BenchSentenceAt (parameters_in l) (start_of l n) (to_store l n xs)
  -- a call that goes to a standing mark of its store is accepted wherever 10 does not refuse it, and back always
  pub going : (xs : List StoreCall) (n : ℕ) → is_store (opened l) n ≡ true → (x : StoreCall) (q : ℕ) (h : Graph)
      → ToMark n (store_events (parameters_in l) (start_of l n) (to_store l n xs)) x q h
      → ((answer_in (parameters_in l) (after_in l xs) x).code ≡ 10 → ⊥) → GoesIn (parameters_in l) (after_in l xs) x q h
  pub going_back : (xs : List StoreCall) (n : ℕ) → is_store (opened l) n ≡ true → (x : StoreCall) (q : ℕ) (h : Graph)
      → ToMark n (store_events (parameters_in l) (start_of l n) (to_store l n xs)) x q h
      → q ≤ ((after_in l xs).machine n).line.place → GoesIn (parameters_in l) (after_in l xs) x q h
  -- REFERENCE 21.7: another store's call changes nothing of it
  pub stays : (xs : List StoreCall) (x : StoreCall) (n : ℕ) → (x.store == n) ≡ false →
      (step_in (parameters_in l) (after_in l xs) x).machine n ≡ (after_in l xs).machine n
  -- REFERENCE 21.5: what all stores have spent is at most L
  pub fits : (xs : List StoreCall) → spent_by l.count (after_in l xs).machine ≤ l.limit

-- ---- one store

-- no word stands behind an image: there are as many as it says, or fewer, or too few to say it
abbrev pub NoneBehind : List ℕ → Type 0
NoneBehind ws = (length ws ≤ stated_length ws) ⊎ (length ws < 6)

-- each call of five words as a call of store 1; a rest of fewer stays one
abbrev pub to_store1 : List ℕ → List ℕ
to_store1 (k ∷ a ∷ b ∷ c ∷ d ∷ ws) = 1 ∷ k ∷ a ∷ b ∷ c ∷ d ∷ to_store1 ws
to_store1 [] = []
to_store1 (k ∷ []) = k ∷ []
to_store1 (k ∷ a ∷ []) = k ∷ a ∷ []
to_store1 (k ∷ a ∷ b ∷ []) = k ∷ a ∷ b ∷ []
to_store1 (k ∷ a ∷ b ∷ c ∷ []) = k ∷ a ∷ b ∷ c ∷ []

-- REFERENCE 21.9: the list of one store as a list of K = 1, L being the capacity of changes
abbrev pub as_one : Lent → LentStores
as_one l = record {
  lent = record {
    start = l.start;
    rows = l.rows;
    calls = to_store1 l.calls;
    vertex_table = l.vertex_table;
    edge_table = l.edge_table;
    change_table = l.change_table;
    answers = l.answers;
    end = l.end;
  };
  count = 1;
  limit = (parameters_of l).changes;
}

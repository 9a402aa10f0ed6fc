-- A list of several stores that is not refused: what its steps ask, and what they leave together; and one that is
-- refused.
use Prim.Native.Nat.{ℕ, suc, ◌+◌, ◌-◌, ◌*◌, ◌/◌, ◌^◌, ◌≤◌, ◌<◌}
use mathlib.Core.Path.{◌≡◌, refl, sym, ap, subst, ◌∙◌}
use mathlib.Core.Bool.{true}
use mathlib.Core.List.{List, []}
use native.Mathlib.Omega.{arith}
use native.Mathlib.Nat.{div-add-mod}
use lib.ListN.{length, get_or, replicate, get_or-replicate}
use borrow.Author.Tests.{ne_eqb}
use Rattle.lists.specs.Lists.{sum_of}
use Rattle.type_rows.specs.Closure.{closure_words}
use Rattle.marks.specs.Marked.{mark_words}
use Rattle.history.specs.Machine.{Machine, fresh, present}
use Rattle.image.specs.Image.{load, loadable}
use Rattle.history_calls.specs.declared.Store.{Store}
use Rattle.history_calls.specs.Memory.{Memory, memory}
use Rattle.machine.specs.Calls.{Parameters, bounds_in}
use Rattle.machine.specs.Run.{AfterRun, refused}
use Rattle.machine.specs.Stores.{Stores, store_calls_of, joint_room, last_in}
use Rattle.machine.specs.StoreRun.{LentStores, parameters_in, start_of, stores_refusal, stores_number, opened, images_of, over_parts, accepted_in, run_in, image_at}
use Rattle.machine.proofs.StoreLaws.{limits_last, fresh_spent}
use Rattle.machine.proofs.StoreStarts.{each_loads}
use Rattle.engine.specs.Running.{Running}
use Rattle.engine.specs.Outcomes.{run_result}
use Rattle.engine.proofs.RunLaws.{running, holds_present, can_save_present}
use Rattle.store_calls.specs.Parts.{part}
use Rattle.store_calls.specs.Serving.{store_at, Whole, whole, sizes, Serving, AfterAll}
use Rattle.stores.specs.Opening.{Begun, CanOpen}
use Rattle.stores.specs.Saving.{CanSaveAll, SavedAll}
use Rattle.store_calls.proofs.Parts.{part_end, part_length}
use Rattle.store_calls.proofs.CallsIn.{calls_in_length}
use Rattle.stores.proofs.RefusalLaws.{PassedIn, passed_in}

pub share : (k m : ℕ) → k * (m / k) ≤ m
share k m = omega (arith, div-add-mod m k)

-- the words of the marks of eight stores before the first call
abbrev pub no_marks : List (List ℕ)
no_marks = replicate 8 (replicate mark_words 0)

module _ (l : LentStores) (e : stores_refusal l ≡ 0) where
  abbrev w : Parameters
  w = parameters_in l

  abbrev vs : ℕ
  vs = l.lent.vertex_table / l.count

  abbrev es : ℕ
  es = l.lent.edge_table / l.count

  abbrev ts : ℕ
  ts = l.lent.change_table / l.count

  abbrev ns : ℕ
  ns = length l.lent.end / l.count

  past : PassedIn l
  past = passed_in l e

  loads : (i : ℕ) → i < l.count → loadable (bounds_in w) (image_at i l.lent.start) ≡ true
  loads = each_loads (bounds_in w) l.count l.lent.start past.starts_load

  pub can_open : (vertices edges : List ℕ) → length vertices ≡ l.lent.vertex_table → length edges ≡ l.lent.edge_table →
      CanOpen l.lent.start vertices edges l.count vs es
  can_open vertices edges a b = record {
    bounds = bounds_in w;
    few = past.few;
    vertices_are = refl;
    edges_are = refl;
    few_vertices = past.limits.few_vertices;
    few_edges = past.limits.few_edges;
    vertices_fit = omega (arith, share l.count l.lent.vertex_table);
    edges_fit = omega (arith, share l.count l.lent.edge_table);
    sound = loads;
  }

  pub room_is : l.limit ≡ joint_room (opened l)
  unfolding joint_room
  room_is = omega (arith, fresh_spent l.count (start_of l))

  module _ (closed : List ℕ) (types : ℕ) (rows_closed : closed ≡ closure_words l.lent.rows) (types_in : types ≡ length l.lent.rows) where
    module _ (short : l.limit < 2 ^ 32) (all : List Store) (vertices edges journal : List ℕ) (a : length vertices ≡ l.lent.vertex_table) (b : length edges ≡ l.lent.edge_table)
        (c : length journal ≡ l.lent.change_table) (many : length all ≡ 8)
        (begun : (i : ℕ) → i < l.count → Begun (image_at i l.lent.start) (store_at all i) (part vs i vertices) (part es i edges)) where
      module _ (i : ℕ) (h : i < l.count) where
        abbrev mem : Memory
        mem = memory (part vs i vertices) (part es i edges) (part ts i journal) (get_or no_marks i [])

        vend : i * vs + vs ≤ length vertices
        vend = part_end vs i l.count (length vertices) h (omega (arith, a, share l.count l.lent.vertex_table))

        eend : i * es + es ≤ length edges
        eend = part_end es i l.count (length edges) h (omega (arith, b, share l.count l.lent.edge_table))

        tend : i * ts + ts ≤ length journal
        tend = part_end ts i l.count (length journal) h (omega (arith, c, share l.count l.lent.change_table))

        begun_at : Running w (store_at all i) mem closed types (fresh (load (image_at i l.lent.start)))
        begun_at =
            running w (image_at i l.lent.start) (store_at all i) mem closed types
            (record {
              limits = past.limits;
              vertices = ap (λ (j : ℕ). j / 8) (sym (part_length vs i vertices vend));
              edges = ap (λ (j : ℕ). j / 12) (sym (part_length es i edges eend));
              changes = ap (λ (j : ℕ). j / 12) (sym (part_length ts i journal tend));
              rows = past.rows_good;
              closed_rows = rows_closed;
              types_in = types_in;
            })
            (loads i h) (ap length (get_or-replicate 8 i (replicate mark_words 0) [] (omega (arith, h, past.few)))) (begun i h)

        opened_at : Running w (store_at all i) mem closed types ((opened l).machine (suc i))
        opened_at =
            let z : i ≡ suc i - 1 = omega arith in
            subst (λ (j : ℕ). Running w (store_at all i) mem closed types (fresh (load (image_at j l.lent.start)))) z begun_at

      -- before the first call
      pub serving : Serving w (sizes vs es ts) all (whole vertices edges journal no_marks) closed types (opened l)
      serving = record {
        many = many;
        some = past.some;
        few = past.few;
        marks_many = refl;
        vertices_fit = omega (arith, a, share l.count l.lent.vertex_table);
        edges_fit = omega (arith, b, share l.count l.lent.edge_table);
        journal_fits = omega (arith, c, share l.count l.lent.change_table);
        short = short;
        limited = omega (arith, fresh_spent l.count (start_of l));
        each = λ i h. opened_at i h;
      }

    module _ (all : List Store) (mem : Whole) (answers' : List ℕ)
        (g : AfterAll w (sizes vs es ts) (opened l) (store_calls_of l.lent.calls) all mem closed types l.lent.answers answers') where
      abbrev S : Stores
      S = last_in w (opened l) (store_calls_of l.lent.calls)

      counted : S.count ≡ l.count
      counted = (limits_last w (opened l) (store_calls_of l.lent.calls)).0

      module _ (i : ℕ) (h : i < l.count) where
        abbrev m : Machine
        m = S.machine (suc i)

        abbrev words : Memory
        words = memory (part vs i mem.vertices) (part es i mem.edges) (part ts i mem.journal) (get_or mem.marks i [])

        runs : Running w (store_at all i) words closed types m
        runs = g.after.each i (omega (arith, h, counted))

      pub can_save_all : CanSaveAll all mem.vertices mem.edges (length l.lent.end) l.count vs es ns
      can_save_all = record {
        many = g.after.many;
        few = past.few;
        vertices_fit = omega (arith, g.after.vertices_fit, ap (λ (k : ℕ). k * vs) counted);
        edges_fit = omega (arith, g.after.edges_fit, ap (λ (k : ℕ). k * es) counted);
        image_fits = share l.count (length l.lent.end);
        each = λ i h. can_save_present w (m i h) (store_at all i) (words i h) closed types (runs i h) ns past.end_room;
      }

      pub ends : (image' : List ℕ) (n : ℕ) → SavedAll all mem.vertices mem.edges l.lent.end image' l.count vs es ns n →
          run_result (record { code = 0; done = length l.lent.calls / 6; words = n }) answers' image' ≡ accepted_in l
      unfolding accepted_in
      ends image' n s =
          let calls = l.lent.calls in
          let q = s (λ (i : ℕ). present (S.machine (suc i))) (λ i h. holds_present w (m i h) (store_at all i) (words i h) closed types (runs i h)) in
          let k : length calls / 6 ≡ length (store_calls_of calls) = sym (calls_in_length (length calls / 6) calls (omega arith) (omega arith)) in
          let c : images_of l.count S.machine ≡ images_of S.count S.machine = ap (λ (j : ℕ). images_of j S.machine) (sym counted) in
          let x = q.1 ∙ ap (λ (xs : List (List ℕ)). sum_of length xs) c in
          let y = q.0 ∙ ap (λ (xs : List (List ℕ)). over_parts ns xs l.lent.end) c in
          λ i. record { code = 0; done = k i; words = x i; answers = g.answered i; end = y i }

-- ---- the run

pub run_accepted : (l : LentStores) (r : AfterRun) → stores_refusal l ≡ 0 → r ≡ accepted_in l → r ≡ run_in l
unfolding run_in
run_accepted l r e h = rw e h

pub run_refused : (l : LentStores) (c n : ℕ) → c ≡ stores_refusal l → n ≡ stores_number l → (c ≡ 0 → ⊥) →
    record { code = c; done = n; words = 0; answers = l.lent.answers; end = l.lent.end } ≡ run_in l
unfolding run_in refused
run_refused l c n e f z =
    (λ i. record { code = e i; done = f i; words = 0; answers = l.lent.answers; end = l.lent.end }) ∙ rw (ne_eqb (stores_refusal l) 0 (λ q. z (e ∙ q)))

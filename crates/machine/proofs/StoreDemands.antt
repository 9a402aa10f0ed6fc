-- Every list of several stores meets demands 1 and 2.
use Rattle.std.specs.Prelude.{◌==◌}
use Prim.Native.Nat.{ℕ, suc, ◌-◌, ◌/◌, ◌≤◌}
use mathlib.Core.Path.{◌≡◌, refl, sym, ap, ◌∙◌}
use mathlib.Core.Logic.{◌↔◌, ⊎_elim}
use mathlib.Core.Bool.{Bool, true, false, not}
use mathlib.Core.List.{List, [], ◌∷◌, map}
use native.Mathlib.Omega.{arith}
use native.Mathlib.Nat.{div-add-mod}
use lib.ListN.{length}
use lib.Dec.{leb, ltb}
use borrow.Author.Tests.{eqb-true, leb-true, le-leb, ltb-false}
use Rattle.lists.specs.Choice.{◌⇒◌else◌}
use Rattle.lists.specs.Lists.{All, range}
use Rattle.lists.proofs.Bools.{ft, tf, and_both, within_range}
use Rattle.lists.proofs.Sums.{all_bool}
use Rattle.graph.specs.WellFormed.{Bounds}
use Rattle.image.specs.Image.{image_length, save}
use Rattle.image.proofs.Room.{image_fits}
use Rattle.image.proofs.WordSize.{Word}
use Rattle.image.proofs.Loads.{loads_back, saved_same, saved_loads, loads}
use Rattle.history.specs.Machine.{Machine}
use Rattle.commands.specs.Tables.{Row, row, FirstApplies, found, later, NoneApplies, passed}
use Rattle.commands.specs.declared.Answer.{Answer}
use Rattle.commands.specs.Answers.{refuses}
use Rattle.machine.specs.Calls.{Parameters, bounds_in}
use Rattle.machine.specs.Codes.{code_table}
use Rattle.machine.specs.Demands.{ByTable, OfTheGraph}
use Rattle.machine.specs.Run.{refused}
use Rattle.machine.specs.Posed.{roomed, answer_at, step_at}
use Rattle.machine.specs.Stores.{Stores, StoreCall, store_calls_of, joint_room, is_store, with, answer_in, step_in, answers_in}
use Rattle.machine.specs.Stores as stores
use Rattle.machine.specs.StoreRun.{LentStores, parameters_in, starts_code, stores_table, stores_refusal, opened, after_in, images_of, over_parts, accepted_in, run_in}
use Rattle.machine.specs.StoreDemands.{EachIn, ByTableIn, Demand1In, start_graphs, end_graph, EndsIn, NoGraphs, Demand2In}
use Rattle.machine.proofs.Families.{Coded}
use Rattle.machine.proofs.Demands.{by_table, of_the_graph}
use Rattle.machine.proofs.Graphs.{Formed, present_formed, fresh_formed}
use Rattle.machine.proofs.Lowest.{turn_to, turn_from, none_to, none_from, turn_either, later_than}
use Rattle.machine.proofs.StoreLaws.{limits_last}
use Rattle.machine.proofs.StoreWhole.{demand_3_in, refused_in}
use Rattle.machine.proofs.StoreStarts.{none_of_three, many_graphs, start_formed_in, starts_saved, saved_starts, saved_graphs}
use Rattle.machine.proofs.StoreEnds.{store_calls_fit, store_formed, image_placed}

-- ---- one call

-- row 21 in front of a table
module _ (a : Answer) (rs : List Row) where
  first_21 : (k : ℕ) → ((a.code ≡ suc k) ↔ FirstApplies (suc k) rs) → (t : Bool) → ((t ⇒ a else refuses 21).code ≡ suc k) ↔ FirstApplies (suc k) (row 21 (not t) ∷ rs)
  first_21 k h true = (λ e. later refl (h.0 e), back)
    where
      back : FirstApplies (suc k) (row 21 false ∷ rs) → a.code ≡ suc k
      back (found f e) = ft f
      back (later f g) = h.1 g
  first_21 k h false = (λ e. found refl e, back)
    where
      back : FirstApplies (suc k) (row 21 true ∷ rs) → ◌≡◌ {A = ℕ} 21 (suc k)
      back (found f e) = e
      back (later f g) = tf f

  none_21 : ((a.code ≡ 0) ↔ NoneApplies rs) → (t : Bool) → ((t ⇒ a else refuses 21).code ≡ 0) ↔ NoneApplies (row 21 (not t) ∷ rs)
  none_21 h true = (λ e. passed refl (h.0 e), back)
    where
      back : NoneApplies (row 21 false ∷ rs) → a.code ≡ 0
      back (passed f g) = h.1 g
  none_21 h false = (λ e. absurd (omega (arith, e)), back)
    where
      back : NoneApplies (row 21 true ∷ rs) → ◌≡◌ {A = ℕ} 21 0
      back (passed f g) = tf f

-- a store replaced by itself
with_same : (n : ℕ) (m : Machine) (s : Stores) → m ≡ s.machine n → with n m s ≡ s
with_same n m s e = λ i. record { count = s.count; limit = s.limit; machine = λ k. at k (k == n) refl i }
  where
    at : (k : ℕ) (t : Bool) → (k == n) ≡ t → (t ⇒ m else s.machine k) ≡ s.machine k
    at k true f = e ∙ ap s.machine (sym (eqb-true k n f))
    at k false f = refl

module _ (w : Parameters) (s : Stores) (x : StoreCall) where
  abbrev m : Machine
  m = s.machine x.store

  abbrev v : Parameters
  v = roomed w m (joint_room s)

  abbrev own : Answer
  own = answer_at w m (stores.found s x)

  plain : ByTable v m x.call own
  plain = by_table v m x.call

  by_table_in : ByTableIn w s x (answer_in w s x)
  unfolding answer_in step_in
  by_table_in = record {
    refused_by = λ k. first_21 own (code_table v m x.call) k (plain.refused_by k) (is_store s x.store);
    accepted = none_21 own (code_table v m x.call) plain.accepted (is_store s x.store);
    number = number (is_store s x.store);
    leaves = leaves (is_store s x.store);
  }
    where
      number : (t : Bool) → ((t ⇒ own else refuses 21).code ≡ 0 → ⊥) → (t ⇒ own else refuses 21).number ≡ 0
      number true n = plain.number n
      number false n = refl

      leaves : (t : Bool) → ((t ⇒ own else refuses 21).code ≡ 0 → ⊥) → (t ⇒ with x.store (step_at w m (stores.found s x)) s else s) ≡ s
      leaves true n = with_same x.store (step_at w m (stores.found s x)) s (plain.leaves n)
      leaves false n = refl

  of_the_graph_in : OfTheGraph w m x.call (answer_in w s x)
  unfolding answer_in
  of_the_graph_in = go (is_store s x.store)
    where
      go : (t : Bool) → OfTheGraph w m x.call (t ⇒ own else refuses 21)
      go true = let o = of_the_graph v m x.call in record { question = λ q e z. o.question q e z; price = λ p e z. o.price p e z }
      go false = record { question = λ q e z. absurd (omega (arith, z)); price = λ p e z. absurd (omega (arith, z)) }

each_in : (P : Stores → StoreCall → Answer → Type 0) (w : Parameters) → ((s : Stores) (x : StoreCall) → P s x (answer_in w s x)) →
    (s : Stores) (xs : List StoreCall) → EachIn P w s xs (answers_in w s xs)
unfolding answers_in
each_in P w f s [] = tt
each_in P w f s (x ∷ xs) = (f s x, each_in P w f (step_in w s x) xs)

-- ---- the table of a list

module _ (l : LentStores) where
  abbrev b : Bounds
  b = bounds_in (parameters_in l)

  abbrev start : ℕ
  start = starts_code b l.count l.lent.start

  stores_coded : Coded (stores_table l)
  unfolding stores_table
  stores_coded = all_bool (λ (r : Row). leb 1 r.code) (λ r e. leb-true 1 r.code e) (stores_table l) refl

  not_refused : NoneApplies (stores_table l) → stores_refusal l ≡ 0
  unfolding stores_refusal
  not_refused h = none_from h

  code_first : (k : ℕ) → (stores_refusal l ≡ suc k) ↔ FirstApplies (suc k) (stores_table l)
  unfolding stores_refusal
  code_first k = (turn_to k (stores_table l), turn_from k)

  code_none : stores_refusal l ≡ 0 → NoneApplies (stores_table l)
  unfolding stores_refusal
  code_none e = none_to (stores_table l) stores_coded e

  code_is : (run_in l).code ≡ stores_refusal l
  unfolding run_in accepted_in refused
  code_is = go (stores_refusal l == 0) refl
    where
      go : (t : Bool) → (stores_refusal l == 0) ≡ t → (run_in l).code ≡ stores_refusal l
      go true e = rw e (sym (eqb-true (stores_refusal l) 0 e))
      go false e = rw e

  -- what the rows of the starts and of the end say where none applies
  rows_passed : NoneApplies (stores_table l) → (start ≡ 0) × (image_length b.vertices b.edges ≤ length l.lent.end / l.count)
  unfolding stores_table
  rows_passed (passed p1 (passed p2 (passed p3 (passed p4 (passed p5 (passed p6 (passed p7 (passed p8 n)))))))) =
      (none_of_three b l.count l.lent.start p5 p6 p7, ltb-false _ _ p8)

  -- behind the rows of 101 to 104
  abbrev start_rows : List Row
  start_rows =
      row 105 (start == 105) ∷ row 108 (start == 108) ∷ row 109 (start == 109) ∷
      row 106 (ltb (length l.lent.end / l.count) (image_length b.vertices b.edges)) ∷
      []

  after_four : (k : ℕ) → FirstApplies k (stores_table l) → 105 ≤ k → FirstApplies k start_rows
  unfolding stores_table
  after_four k f h = (later_than (later_than (later_than (later_than f (λ e. omega arith)).1 (λ e. omega arith)).1 (λ e. omega arith)).1 (λ e. omega arith)).1

  start_is : (k : ℕ) → (106 ≡ k → ⊥) → FirstApplies k start_rows → start ≡ k
  start_is k n (later _ (later _ (later _ (later _ x24)))) = elim x24 [ ]
  start_is k n (found f e) = eqb-true start 105 f ∙ e
  start_is k n (later _ (found f e)) = eqb-true start 108 f ∙ e
  start_is k n (later _ (later _ (found f e))) = eqb-true start 109 f ∙ e
  start_is k n (later _ (later _ (later _ (found f e)))) = absurd (n e)

  start_good : FirstApplies 106 start_rows → start ≡ 0
  start_good f =
      let p = later_than f (λ e. omega arith) in
      let q = later_than p.1 (λ e. omega arith) in
      let r = later_than q.1 (λ e. omega arith) in
      none_of_three b l.count l.lent.start p.0 q.0 r.0

  -- a start that K graphs save as has none of its codes; one that none do has one
  unsaved : (k : ℕ) → (run_in l).code ≡ suc k → 105 ≤ suc k → (106 ≡ suc k → ⊥) → NoGraphs l
  unsaved k e c n gs many s =
      let f = start_is (suc k) n (after_four (suc k) ((code_first k).0 (sym code_is ∙ e)) c) in
      omega (arith, f, saved_starts l b gs many s)

  no_start : NoGraphs l → start ≡ 0 → ⊥
  no_start h e = h (start_graphs l) (many_graphs l) (starts_saved l b e)

-- ---- the demands

pub demand_1_in : (l : LentStores) (tables_stay : Type 0) → ((stores_refusal l ≡ 0 → ⊥) → tables_stay) → Demand1In l (run_in l) tables_stay
demand_1_in l T f = record {
  either = turn_either (stores_table l) (stores_coded l);
  refusal = λ k h. let e = (code_first l k).1 h in (refused_in l k e, f (λ z. omega (arith, e, z)));
  answered = λ h.
      let d = demand_3_in l (not_refused l h) in (
        d.code,
        d.done,
        (
          answers_in (parameters_in l) (opened l) (store_calls_of l.lent.calls),
          d.answered,
          each_in (ByTableIn (parameters_in l)) (parameters_in l) (by_table_in (parameters_in l)) (opened l) (store_calls_of l.lent.calls),
        ),
      );
}

-- the images of a list that is not refused
module _ (l : LentStores) (fits : All Word l.lent.calls) (h : NoneApplies (stores_table l)) where
  abbrev calls : List StoreCall
  calls = store_calls_of l.lent.calls

  abbrev part : ℕ
  part = length l.lent.end / l.count

  end_formed_in : (n : ℕ) → is_store (opened l) n ≡ true → Formed (parameters_in l) (end_graph l n)
  end_formed_in n i =
      let w = parameters_in l in
      let r = within_range 1 l.count n i in
      present_formed w _ (store_formed w n (opened l) calls i (store_calls_fit fits)
      (fresh_formed w _ (start_formed_in l (bounds_in w) (rows_passed l h).0 n r.0 r.1)))

  image_room : (n : ℕ) → is_store (opened l) n ≡ true → length (save (end_graph l n)) ≤ part
  image_room n i = omega (arith, image_fits (bounds_in (parameters_in l)) (end_graph l n) (end_formed_in n i), (rows_passed l h).1)

  abbrev image_of : ℕ → List ℕ
  image_of i = save (end_graph l (suc i))

  end_is : (run_in l).end ≡ over_parts part (map image_of (range l.count)) l.lent.end
  end_is =
      (demand_3_in l (not_refused l h)).saved
      ∙ ap (λ (k : ℕ). over_parts part (images_of k (after_in l calls).machine) l.lent.end) (limits_last (parameters_in l) (opened l) calls).0

  ends_in : (n : ℕ) → is_store (opened l) n ≡ true → EndsIn l (run_in l) n
  ends_in n i =
      let g = end_formed_in n i in
      let r = within_range 1 l.count n i in
      let e : suc (n - 1) ≡ n = omega (arith, r.0) in
      let p = image_placed part l.count image_of l.lent.end
      (λ k q. image_room (suc k) (and_both _ _ (le-leb 1 (suc k) (omega arith)) (le-leb (suc k) l.count q)))
      (omega (arith, div-add-mod (length l.lent.end) l.count)) (n - 1) (omega (arith, r)) in
      record {
        room = image_room n i;
        place = rw end_is (rw e at p);
        loads = saved_loads (bounds_in (parameters_in l)) (end_graph l n) g;
        same = saved_same (bounds_in (parameters_in l)) (end_graph l n) g;
      }

-- the words of the calls have 32 bits, as those of every slice that is lent
pub demand_2_in : (l : LentStores) → All Word l.lent.calls → Demand2In l (run_in l)
demand_2_in l fits = record {
  answered = λ h. (
    answers_in (parameters_in l) (opened l) (store_calls_of l.lent.calls),
    (demand_3_in l (not_refused l h)).answered,
    each_in _ (parameters_in l) (of_the_graph_in (parameters_in l)) (opened l) (store_calls_of l.lent.calls),
  );
  starts = λ h. starts_saved l (b l) (rows_passed l h).0;
  begins = saved_graphs l (b l);
  refuses = λ o.
      ⊎_elim (λ e. unsaved l 104 e (omega arith) (λ z. omega arith))
      (λ p. ⊎_elim (λ e. unsaved l 107 e (omega arith) (λ z. omega arith)) (λ e. unsaved l 108 e (omega arith) (λ z. omega arith)) p) o;
  unsaved = λ h. (
    λ e. no_start l h (rows_passed l (code_none l (sym (code_is l) ∙ e))).0,
    λ e. no_start l h (start_good l (after_four l 106 ((code_first l 105).0 (sym (code_is l) ∙ e)) (omega arith))),
  );
  loads = loads (b l);
  same = loads_back (b l);
  ends = ends_in l fits;
}

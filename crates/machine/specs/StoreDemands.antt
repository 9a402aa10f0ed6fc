-- Demands 1 and 2 over several stores (REFERENCE 21.12), as Demands has them of one: claims about the result of any
-- list.
use Rattle.std.specs.Prelude.{ℕ, suc, ◌-◌, ◌*◌, ◌/◌, ◌≤◌, ◌≡◌, ◌↔◌, ◌⊎◌, true, not, List, [], ◌∷◌, ◌++◌, map, length, take, drop}
use Rattle.lists.specs.Lists.{range, overwritten}
use Rattle.graph.specs.Graph.{Graph}
use Rattle.graph.specs.WellFormed.{Bounds, well_formed}
use Rattle.image.specs.Image.{save, SavesAs, load, loadable}
use Rattle.history.specs.Machine.{present}
use Rattle.commands.specs.Tables.{Row, row, FirstApplies, NoneApplies}
use Rattle.commands.specs.declared.Answer.{Answer}
use Rattle.machine.specs.Calls.{Parameters, bounds_in}
use Rattle.machine.specs.Codes.{code_table}
use Rattle.machine.specs.Run.{AfterRun, refused, answer_words}
use Rattle.machine.specs.Demands.{OfTheGraph}
use Rattle.machine.specs.Posed.{roomed}
use Rattle.machine.specs.Stores.{Stores, StoreCall, store_calls_of, joint_room, is_store, step_in}
use Rattle.machine.specs.StoreRun.{LentStores, parameters_in, stores_table, stores_number, opened, after_in}

-- one claim a call and its answer, each on the stores as the calls before it left them; as many answers as calls
abbrev pub EachIn : (Stores → StoreCall → Answer → Type 0)
    → Parameters → Stores → List StoreCall → List Answer → Type 0
EachIn P w s [] [] = Unit {0}
EachIn P w s [] (a ∷ bs) = ⊥
EachIn P w s (x ∷ xs) [] = ⊥
EachIn P w s (x ∷ xs) (a ∷ bs) = P s x a × EachIn P w (step_in w s x) xs bs

-- ---- demand 1

-- the table of a call: 21 where its number is no store's, and then that of its store at the parameters that it finds
-- (REFERENCE 7.21, 21.6). The codes do not rise here: the first row that applies counts
abbrev pub code_table_in : Parameters → Stores → StoreCall → List Row
code_table_in w s x =
    row 21 (not (is_store s x.store))
    ∷ code_table (roomed w (s.machine x.store) (joint_room s)) (s.machine x.store) x.call

-- the code of a call is the first of that table; a refused call answers 0 and leaves all stores
pub record ByTableIn (w : Parameters) (s : Stores) (x : StoreCall) (a : Answer) : Type 0 where
  pub refused_by : (k : ℕ) → (a.code ≡ suc k) ↔ FirstApplies (suc k) (code_table_in w s x)
  pub accepted : (a.code ≡ 0) ↔ NoneApplies (code_table_in w s x)
  pub number : (a.code ≡ 0 → ⊥) → a.number ≡ 0
  pub leaves : (a.code ≡ 0 → ⊥) → step_in w s x ≡ s

pub record Demand1In (l : LentStores) (r : AfterRun) (tables_stay : Type 0) : Type 0 where
  -- a list has a code of its table, or none of them applies
  pub either : NoneApplies (stores_table l) ⊎ ((k : ℕ) × FirstApplies (suc k) (stores_table l))
  -- a list has the first code of its table that applies, with the number beside it; nothing is done and nothing written
  pub refusal : (k : ℕ) → FirstApplies (suc k) (stores_table l)
      → (r ≡ refused (suc k) (stores_number l) l.lent) × tables_stay
  -- else each call has its answer
  pub answered : NoneApplies (stores_table l) →
      (r.code ≡ 0) × (r.done ≡ length (store_calls_of l.lent.calls))
      × ((bs : List Answer) × (r.answers ≡ overwritten (answer_words bs) l.lent.answers)
      × EachIn (ByTableIn (parameters_in l)) (parameters_in l) (opened l) (store_calls_of l.lent.calls) bs)

-- ---- demand 2

-- REFERENCE 21.3: graphs within the capacities save as these words, one after another, each new or old
abbrev pub SaveInTurn : Bounds → List Graph → List ℕ → Type 0
SaveInTurn b [] ws = ws ≡ []
SaveInTurn b (g ∷ gs) ws =
    (us : List ℕ) × (vs : List ℕ) × (us ++ vs ≡ ws) × (well_formed b g ≡ true) × SavesAs g us × SaveInTurn b gs vs

-- the graphs that stores 1 to K begin with
abbrev pub start_graphs : LentStores → List Graph
start_graphs l = map (λ (i : ℕ). present ((opened l).machine (suc i))) (range l.count)

-- the graph of store n as the list ends
abbrev pub end_graph : LentStores → ℕ → Graph
end_graph l n = present ((after_in l (store_calls_of l.lent.calls)).machine n)

-- no K graphs within the capacities save as the start
abbrev pub NoGraphs : LentStores → Type 0
NoGraphs l = (gs : List Graph) → length gs ≡ l.count → SaveInTurn (bounds_in (parameters_in l)) gs l.lent.start → ⊥

-- REFERENCE 21.8: the end image of store n is in its part, from its first word on, and loads as the graph that it was
-- saved of
pub record EndsIn (l : LentStores) (r : AfterRun) (n : ℕ) : Type 0 where
  pub room : length (save (end_graph l n)) ≤ length l.lent.end / l.count
  pub place : take (length (save (end_graph l n))) (drop ((n - 1) * (length l.lent.end / l.count)) r.end)
      ≡ save (end_graph l n)
  pub loads : loadable (bounds_in (parameters_in l)) (save (end_graph l n)) ≡ true
  pub same : load (save (end_graph l n)) ≡ end_graph l n

pub record Demand2In (l : LentStores) (r : AfterRun) : Type 0 where
  -- the number of an accepted question or price is that of the graph held then by the store of the call
  pub answered : NoneApplies (stores_table l) →
      ((bs : List Answer) × (r.answers ≡ overwritten (answer_words bs) l.lent.answers)
      × EachIn (λ s x a. OfTheGraph (parameters_in l) (s.machine x.store) x.call a) (parameters_in l) (opened l)
      (store_calls_of l.lent.calls) bs)
  -- the start of a list that is not refused is what the graphs that its stores begin with save as, and no others do
  pub starts : NoneApplies (stores_table l) → SaveInTurn (bounds_in (parameters_in l)) (start_graphs l) l.lent.start
  pub begins : (gs : List Graph) → length gs ≡ l.count
      → SaveInTurn (bounds_in (parameters_in l)) gs l.lent.start → start_graphs l ≡ gs
  -- one that is refused for its start is what no K graphs save as; what none do is refused for it, or before it is read
  pub refuses : ((r.code ≡ 105) ⊎ ((r.code ≡ 108) ⊎ (r.code ≡ 109))) → NoGraphs l
  pub unsaved : NoGraphs l → (r.code ≡ 0 → ⊥) × (r.code ≡ 106 → ⊥)
  -- words load exactly where some graph within the capacities saves as them, new or old, and then they are that graph
  pub loads : (ws : List ℕ)
      → (loadable (bounds_in (parameters_in l)) ws ≡ true) ↔ ((g : Graph)
      × (well_formed (bounds_in (parameters_in l)) g ≡ true) × SavesAs g ws)
  pub same : (g : Graph) → well_formed (bounds_in (parameters_in l)) g ≡ true → (ws : List ℕ) → SavesAs g ws → load ws ≡ g
  -- and so is each end image of this list
  pub ends : NoneApplies (stores_table l) → (n : ℕ) → is_store (opened l) n ≡ true → EndsIn l r n

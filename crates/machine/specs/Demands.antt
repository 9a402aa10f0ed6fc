-- Demands 1 and 2 as claims about the result of any list. What the tables hold is no part of a result, so demand 1
-- takes the claim that they are as they were.
use Rattle.std.specs.Prelude.{ℕ, suc, ◌≡◌, ◌↔◌, ◌⊎◌, true, List, [], ◌∷◌, length}
use Rattle.lists.specs.Lists.{overwritten}
use Rattle.graph.specs.Graph.{Graph}
use Rattle.graph.specs.WellFormed.{well_formed}
use Rattle.image.specs.Image.{save, SavesAs, load, loadable}
use Rattle.history.specs.Machine.{Machine, present}
use Rattle.commands.specs.declared.Question.{Question}
use Rattle.commands.specs.declared.PriceCall.{PriceCall}
use Rattle.commands.specs.declared.Command.TheVariants.{Ask, Quote}
use Rattle.commands.specs.Calls.{Call, calls_of}
use Rattle.commands.specs.Commands.{command_of}
use Rattle.commands.specs.Tables.{FirstApplies, NoneApplies}
use Rattle.machine.specs.Calls.{Parameters, bounds_in}
use Rattle.machine.specs.Codes.{code_table}
use Rattle.commands.specs.declared.Answer.{Answer}
use Rattle.machine.specs.Machine.{question_number, price_number, step}
use Rattle.machine.specs.Run.{Lent, AfterRun, parameters_of, list_table, list_number, refused, answer_words}
use Rattle.machine.specs.Demand.{begins, ends}

-- one claim a call and its answer, each on the machine that the calls before it left; as many answers as calls
abbrev pub Each : (Machine → Call → Answer → Type 0) → Parameters → Machine → List Call → List Answer → Type 0
Each P w m [] [] = Unit {0}
Each P w m [] (a ∷ bs) = ⊥
Each P w m (x ∷ xs) [] = ⊥
Each P w m (x ∷ xs) (a ∷ bs) = P m x a × Each P w (step w m x) xs bs

-- the code of a call is the lowest of the table on its five words; a refused call answers 0 and leaves graph, marks and
-- history
pub record ByTable (w : Parameters) (m : Machine) (x : Call) (a : Answer) : Type 0 where
  pub refused_by : (k : ℕ) → (a.code ≡ suc k) ↔ FirstApplies (suc k) (code_table w m x)
  pub accepted : (a.code ≡ 0) ↔ NoneApplies (code_table w m x)
  pub number : (a.code ≡ 0 → ⊥) → a.number ≡ 0
  pub leaves : (a.code ≡ 0 → ⊥) → step w m x ≡ m

pub record Demand1 (l : Lent) (r : AfterRun) (tables_stay : Type 0) : Type 0 where
  -- a list has a code of its table, or none of them applies
  pub either : NoneApplies (list_table l) ⊎ ((k : ℕ) × FirstApplies (suc k) (list_table l))
  -- a list has the first code of its table that applies, with the number beside it; nothing is done and nothing written
  pub refusal : (k : ℕ) → FirstApplies (suc k) (list_table l) → (r ≡ refused (suc k) (list_number l) l) × tables_stay
  -- else each call has its answer
  pub answered : NoneApplies (list_table l) →
      (r.code ≡ 0) × (r.done ≡ length (calls_of l.calls))
      × ((bs : List Answer) × (r.answers ≡ overwritten (answer_words bs) l.answers)
      × Each (ByTable (parameters_of l)) (parameters_of l) (begins l) (calls_of l.calls) bs)

-- the number of an accepted question or price is that of the graph held then
pub record OfTheGraph (w : Parameters) (m : Machine) (x : Call) (a : Answer) : Type 0 where
  pub question : (q : Question) → command_of x ≡ Ask q → a.code ≡ 0 → a.number ≡ question_number w.rows (present m) q
  pub price : (p : PriceCall) → command_of x ≡ Quote p → a.code ≡ 0 → a.number ≡ price_number (present m) p

pub record Demand2 (l : Lent) (r : AfterRun) : Type 0 where
  pub answered : NoneApplies (list_table l) →
      ((bs : List Answer) × (r.answers ≡ overwritten (answer_words bs) l.answers)
      × Each (OfTheGraph (parameters_of l)) (parameters_of l) (begins l) (calls_of l.calls) bs)
  -- the start of a list that is not refused is what the graph it begins with saves as, new or old; one that is refused
  -- for its start is what no graph within the capacities saves as
  pub starts : NoneApplies (list_table l) →
      (well_formed (bounds_in (parameters_of l)) (present (begins l)) ≡ true) × SavesAs (present (begins l)) l.start
  pub refuses : ((r.code ≡ 105) ⊎ ((r.code ≡ 108) ⊎ (r.code ≡ 109))) → (g : Graph)
      → well_formed (bounds_in (parameters_of l)) g ≡ true → SavesAs g l.start → ⊥
  -- words load exactly where some graph within the capacities saves as them, new or old, and then they are that graph
  pub loads : (ws : List ℕ)
      → (loadable (bounds_in (parameters_of l)) ws ≡ true) ↔ ((g : Graph)
      × (well_formed (bounds_in (parameters_of l)) g ≡ true) × SavesAs g ws)
  pub same : (g : Graph) → well_formed (bounds_in (parameters_of l)) g ≡ true → (ws : List ℕ) → SavesAs g ws → load ws ≡ g
  -- and so is the end image of this list
  pub ends : NoneApplies (list_table l) →
      (r.end ≡ overwritten (save (present (ends l))) l.end)
      × (loadable (bounds_in (parameters_of l)) (save (present (ends l))) ≡ true)
      × (load (save (present (ends l))) ≡ present (ends l))

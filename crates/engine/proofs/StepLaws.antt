-- The machine's answer to a command, from what the crates below say of its rule, code, reply or price.
use Rattle.std.specs.Prelude.{◌==◌}
use Prim.Native.Nat.{ℕ, ◌-◌, ◌/◌}
use mathlib.Core.Path.{◌≡◌, refl, sym, ap, ◌∙◌, subst}
use mathlib.Core.Bool.{Bool, true, false}
use mathlib.Core.List.{List}
use lib.ListN.{length}
use borrow.Author.Tests.{ne_eqb}
use native.Mathlib.Omega.{arith}
use Rattle.lists.specs.Choice.{◌⇒◌else◌}
use Rattle.graph.specs.declared.Change.{Change}
use Rattle.graph_tables.specs.declared.Head.{Head}
use Rattle.graph_tables.specs.Tables.{State, state}
use Rattle.graph_tables.specs.Holds.{Holds}
use Rattle.graph_tables.specs.Capacities.{Sized}
use Rattle.history_calls.specs.declared.Store.{Store}
use Rattle.history_calls.specs.declared.Called.{Called}
use Rattle.history_calls.specs.Memory.{Memory, tables_of}
use Rattle.history_calls.specs.Represents.{Represents, Follows}
use Rattle.history_calls.specs.Outcomes.{done}
use Rattle.history_calls.proofs.Present.{holds_present, sized_present}
use Rattle.history.specs.Machine.{Machine, free_of, present}
use Rattle.timeline.proofs.Steps.{journal_free}
use Rattle.machine.specs.Rules.{nothing, effected, Rule, answered, followed, change_rule, history_rule}
use Rattle.machine.specs.HistoryCodes.{out_of_reach}
use Rattle.machine.specs.Calls.{Parameters, bounds_in}
use Rattle.commands.specs.Commands.{history_call}
use Rattle.commands.specs.declared.HistoryCall.{HistoryCall}
use Rattle.commands.specs.declared.Question.{Question}
use Rattle.commands.specs.declared.PriceCall.{PriceCall}
use Rattle.commands.specs.declared.Command.{Command}
use Rattle.commands.specs.declared.Command.TheVariants.{Alter, History, Ask, Quote, Unknown}
use Rattle.machine.specs.Codes.{refusal, question_code, price_code}
use Rattle.machine.specs.Machine.{deed_of, question_number, price_number, rule_of, answer_to, step_to}
use Rattle.commands.specs.declared.Answer.{Answer}
use Rattle.commands.specs.Answers.{answer_of}
use Rattle.engine.specs.Running.{Setting, Running, allowing, Answered}
use Rattle.machine.proofs.Families.{change_refusal, history_refusal, question_refusal, price_refusal}

-- what is said of the state of the tables is said of that of a view of them
pub seen : (P : State → Type 0) (h : Head) {vertices edges vs es : List ℕ} → vs ≡ vertices → es ≡ edges → P (state h vertices edges) → P (state h vs es)
seen P h {edges = edges} {vs = vs} p q y =
    subst (λ (l : List ℕ). P (state h vs l)) (sym q) (subst (λ (l : List ℕ). P (state h l edges)) (sym p) y)

-- the capacities stand with the tables
setting_of : (w : Parameters) (x : Store) (mem mem' : Memory) (closed : List ℕ) (types : ℕ) (m : Machine) → Setting w mem closed types →
    length mem'.journal ≡ length mem.journal → Represents (bounds_in w) x mem' m → Setting w mem' closed types
setting_of w x mem mem' closed types m s l h =
    let z = sized_present (bounds_in w) x mem' m h in
    record {
      limits = s.limits;
      vertices = z.vertices;
      edges = z.edges;
      changes = s.changes ∙ ap (λ (n : ℕ). n / 12) (sym l);
      rows = s.rows;
      closed_rows = s.closed_rows;
      types_in = s.types_in;
    }

-- what is returned equals what was shown to answer
pub answered_by : (w : Parameters) (n : ℕ) (m : Machine) (c : Command) (mem : Memory) (closed : List ℕ) (types : ℕ) {d d' : Called} → d ≡ d' → Answered w n m c d' mem closed types
    → Answered w n m c d mem closed types
answered_by w n m c mem closed types e a = subst (λ (z : Called). Answered w n m c z mem closed types) (sym e) a

module _ (w : Parameters) (m : Machine) (x : Store) (mem : Memory) (closed : List ℕ) (types : ℕ) (h : Running w x mem closed types m) where
  pub holds : Holds (tables_of x mem) (present m)
  holds = holds_present (bounds_in w) x mem m h.represents

  -- what a capacity leaves free
  pub free_is : (capacity : ℕ) → capacity - x.current.position.used ≡ free_of capacity m.line
  free_is capacity = journal_free (bounds_in w) x.current.position (tables_of x mem) mem.journal m.line capacity h.represents.journal

  pub sized : Sized (bounds_in w) (tables_of x mem)
  sized = sized_present (bounds_in w) x mem m h.represents

  -- ---- any command, at any capacity of changes

  module _ (n : ℕ) where
    abbrev v : Parameters
    v = allowing n w

    -- a function that follows the command's rule answers it
    pub follows_answers : (c : Command) (r : Rule) → refusal v m c ≡ r.code m → deed_of v c m ≡ r.deed m → (d' : Called) (mem' : Memory) → length mem'.journal ≡ length mem.journal →
        Follows r m (bounds_in w) d' mem' → Answered w n m c d' mem' closed types
    unfolding answer_to step_to
    follows_answers c r e d d' mem' l f = record {
      answered = f.obeys ∙ sym (λ i. answer_of (e i) (d i).number);
      after = subst (λ (k : Machine). Running w d'.store mem' closed types k) (sym (λ i. (e i == 0) ⇒ effected (d i).effect m else m)) (record {
        setting = setting_of w d'.store mem mem' closed types (followed r m) h.setting l f.after;
        represents = f.after;
      });
    }

    -- a history call
    pub recall_answers : (c : HistoryCall) → out_of_reach n m (history_call c) ≡ false → (d : Called) (mem' : Memory) → length mem'.journal ≡ length mem.journal →
        Follows (history_rule n c) m (bounds_in w) d mem' → Answered w n m (History c) d mem' closed types
    recall_answers c r d mem' l f =
        follows_answers (History c) (history_rule n c) (history_refusal v m c r) refl d mem' l f

    -- a function that only answers, by a rule whose machine stays
    pub obeys_answers : (c : Command) (a : Answer) → (deed_of v c m).effect ≡ nothing → a ≡ answered (rule_of v c) m → Answered w n m c (record { store = x; answer = a }) mem closed types
    unfolding answer_to step_to
    obeys_answers c a i o = record {
      answered = o;
      after = subst (λ (k : Machine). Running w x mem closed types k) (sym (pick (refusal v m c == 0))) h;
    }
      where
        pick : (t : Bool) → (t ⇒ effected (deed_of v c m).effect m else m) ≡ m
        pick true = λ j. effected (i j) m
        pick false = refl

    -- a command that is refused by a code, whatever it is
    pub refused_answers : (c : Command) (code : ℕ) → code ≡ refusal v m c → (code ≡ 0 → ⊥) → Answered w n m c (done x code 0) mem closed types
    unfolding answer_to step_to
    refused_answers c code e d = let z = ne_eqb code 0 d in record { answered = rw (← e, z); after = rw (← e, z) h }

    -- a change
    pub alter_answers : (c : Change) (d : Called) (mem' : Memory) → length mem'.journal ≡ length mem.journal →
        Follows (change_rule (bounds_in w) n c) m (bounds_in w) d mem' → Answered w n m (Alter c) d mem' closed types
    alter_answers c d mem' l f =
        follows_answers (Alter c) (change_rule (bounds_in w) n c) (change_refusal v m c) refl d mem' l f

    -- ---- questions and prices

    pub ask_answers : (q : Question) (r : Answer) → r ≡ answer_of (question_code types (present m) q) (question_number w.rows (present m) q) →
        Answered w n m (Ask q) (record { store = x; answer = r }) mem closed types
    ask_answers q r d =
        let e = rw h.setting.types_in at d in
        obeys_answers (Ask q) r refl (e ∙ sym (λ i. answer_of (question_refusal v m q i) (question_number w.rows (present m) q)))

    pub quote_answers : (p : PriceCall) (r : Answer) → r ≡ answer_of (price_code (present m) p) (price_number (present m) p) →
        Answered w n m (Quote p) (record { store = x; answer = r }) mem closed types
    quote_answers p r e = obeys_answers (Quote p) r refl (e ∙ sym (λ i. answer_of (price_refusal v m p i) (price_number (present m) p)))

    -- ---- a kind that is not named

    pub unknown_answers : Answered w n m Unknown (done x 1 0) mem closed types
    unfolding refusal
    unknown_answers = refused_answers Unknown 1 refl (λ z. omega arith)

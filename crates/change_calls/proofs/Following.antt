-- A change that wrote nothing, and one that is a step: what is represented then.
use Prim.Native.Nat.{ℕ, ◌+◌, ◌*◌, ◌^◌, ◌≤◌, ◌<◌}
use mathlib.Core.Path.{◌≡◌, refl, sym, ap, subst, ◌∙◌}
use mathlib.Core.Logic.{◌≢◌}
use mathlib.Core.Bool.{Bool, true, false}
use mathlib.Core.List.{List}
use native.Mathlib.Omega.{arith}
use borrow.Author.Tests.{le-ltb, ltb-false}
use lib.Dec.{ltb}
use lib.ListN.{length}
use Rattle.lists.specs.Choice.{◌⇒◌else◌}
use Rattle.lists.proofs.Picks.{same, differ, same?}
use Rattle.graph.specs.declared.Change.{Change}
use Rattle.graph.specs.WellFormed.{Bounds}
use Rattle.graph.specs.Changes.{cost}
use Rattle.history.specs.Machine.{MarkPlace, gone, at, Machine, free_of, cut, cut_marks, present, step_of, extended}
use Rattle.history.proofs.Timelines.{length_cut}
use Rattle.machine.specs.Rules.{steps, nothing, effected, Deed, deed, change_deed, change_rule}
use Rattle.marks.specs.Marked.{Marked}
use Rattle.marks.proofs.NameLaws.{cut_named}
use Rattle.graph_tables.specs.Tables.{State}
use Rattle.journal.specs.Rows.{signed}
use Rattle.journal.proofs.RowLaws.{signed_length}
use Rattle.timeline.specs.Steps.{Journal}
use Rattle.timeline.specs.Current.{after_step}
use Rattle.timeline.proofs.Steps.{place_short, at_record}
use Rattle.history_calls.specs.declared.Store.{Store}
use Rattle.history_calls.specs.declared.Called.{Called}
use Rattle.history_calls.specs.Memory.{Memory, memory, tables_of}
use Rattle.history_calls.specs.Represents.{Represents, Follows}
use Rattle.history_calls.specs.Outcomes.{done}
use Rattle.history_calls.proofs.Calls.{mark_steps}
use Rattle.history_calls.proofs.Following.{refused, accepted}
use Rattle.change_calls.specs.Altering.{DoesChange}
use Rattle.change_calls.proofs.Attempting.{StepMade, Attempts}

-- ---- marks

-- what is left has a place up to p
left_low : (p q : ℕ) (s : MarkPlace) → cut p s ≡ at q → q ≤ p
left_low p q gone e = let z : ◌≡◌ {A = ℕ} 0 1 = cc in absurd (omega arith)
left_low p q (at r) e = go (ltb p r) refl e
  where
    go : (t : Bool) → ltb p r ≡ t → (t ⇒ gone else at r) ≡ at q → q ≤ p
    go true l f = let z : ◌≡◌ {A = ℕ} 0 1 = cc in absurd (omega arith)
    go false l f = let z : r ≡ q = cc in omega (arith, ltb-false p r l)

-- where no mark is above p, none is cut
cut_none : (p : ℕ) (ms : ℕ → MarkPlace) → ((k q : ℕ) → ms k ≡ at q → q ≤ p) → cut_marks p ms ≡ ms
cut_none p ms f i k = go (ms k) refl i
  where
    go : (s : MarkPlace) → ms k ≡ s → cut p (ms k) ≡ ms k
    go gone e = ap (cut p) e ∙ sym e
    go (at q) e = ap (cut p) e ∙ ap (λ (t : Bool). t ⇒ gone else at q) (le-ltb p q (f k q e)) ∙ sym e

pub cut_nothing : (p n set : ℕ) (places : List ℕ) (ms : ℕ → MarkPlace) → p ≡ n → Marked ms set places → ((k q : ℕ) → ms k ≡ at q → q ≤ n) → Marked (cut_marks p ms) set places
cut_nothing p n set places ms e h f =
    subst (λ (g : ℕ → MarkPlace). Marked g set places) (sym (cut_none p ms (λ k q i. omega (arith, f k q i, e)))) h

-- ---- the ways out

-- what is returned equals what was shown
pub altered_by : (c : Change) (types free : ℕ) (x : Store) (mem mem' : Memory) {d d' : Called} → d ≡ d' → DoesChange c types free x mem d' mem' → DoesChange c types free x mem d mem'
altered_by c types free x mem mem' e a = subst (λ (z : Called). DoesChange c types free x mem z mem') (sym e) a

-- the journal was written through the room
pub written_back : {c : Change} {types free : ℕ} {x : Store} {mem : Memory} {d : Called} {vertices edges t t' marks : List ℕ} → t ≡ t'
    → DoesChange c types free x mem d (memory vertices edges t' marks) → DoesChange c types free x mem d (memory vertices edges t marks)
written_back {c = c} {types = types} {free = free} {x = x} {mem = mem} {d = d} {vertices = vertices} {edges = edges} {marks = marks} e a =
    subst (λ (t : List ℕ). DoesChange c types free x mem d (memory vertices edges t marks)) (sym e) a

module _ (c : Change) (types free : ℕ) (x : Store) (mem : Memory) (code n : ℕ) (s' : State) (t' : List ℕ)
    (r : Attempts c types free x.current.position (tables_of x mem) mem.journal code n s' t') where
  abbrev after : Memory
  after = memory s'.vertices s'.edges t' mem.marks

  -- with the bench of the step
  abbrev step_after : Memory
  step_after = memory s'.vertices s'.edges (signed x.current.position.used x.bench t') mem.marks

  words_stay : n ≡ 0 → after ≡ mem
  words_stay y = let p = r.stays y in λ i. memory (p.0 i).vertices (p.0 i).edges (p.1 i) mem.marks

  module _ (b : Bounds) (m : Machine) (e : b.types ≡ types) (h : Represents b x mem m) where
    abbrev ByRule : ℕ → Store → ℕ → ℕ → Memory → Type 0
    ByRule capacity x' code' number mem' = Follows (change_rule b capacity c) m b (done x' code' number) mem'

    -- what the change does, by whether it alters the graph
    abbrev deed_by : Bool → Deed
    deed_by p = p ⇒ deed (cost c (present m)) (steps (step_of m.bench c (present m))) else deed 0 nothing

    kept_follows : (capacity : ℕ) → free ≡ free_of capacity m.line → n ≡ 0 → ByRule capacity x code 0 after
    kept_follows capacity q y =
        let d = r.comes b m e h.journal in
        subst (ByRule capacity x code 0) (sym (words_stay y)) (elim (same? code 0) [
          | same z w ↦
              let u : deed 0 nothing ≡ change_deed c m = sym (ap deed_by (d.idle y z)) in
              subst (λ (k : ℕ). ByRule capacity x k 0 mem) w
              (accepted (change_rule b capacity c) m b x mem 0 (sym (d.coded capacity q) ∙ z) (ap (λ (k : Deed). k.number) u)
              (subst (λ (k : Deed). Represents b x mem (effected k.effect m)) u h))
          | differ z w ↦ refused (change_rule b capacity c) m b x mem code (d.coded capacity q) z h
        ])

    module _ (y : n ≢ 0) where
      step : StepMade c b m x.current.position n s' t'
      step = (r.comes b m e h.journal).made y

      -- place and rows stay words of 32 bits
      pub step_fits : (x.current.position.place + 1 < 2 ^ 32) × (x.current.position.used + n < 2 ^ 32)
      step_fits = (
        omega (arith, place_short b x.current.position (tables_of x mem) mem.journal m.line h.journal, h.journal.rows.short),
        omega (arith, (step.steps 0).rows.within, (step.steps 0).rows.upto, (step.steps 0).rows.short),
      )

      -- its first row is there to be signed
      pub sign_fits : 12 * x.current.position.used + 12 ≤ length t'
      sign_fits = omega (arith, (step.steps 0).rows.within, (step.steps 0).rows.upto, signed_length x.current.position.used 0 t', y)

      step_follows : (capacity : ℕ) → free ≡ free_of capacity m.line → (x' : Store) → x'.current ≡ after_step x.current.position s'.head n → x'.bench ≡ x.bench
          → Marked (cut_marks x.current.position.place m.marks) x'.set.bits mem.marks → ByRule capacity x' 0 n step_after
      step_follows capacity q x' f w k =
          let u : deed (cost c (present m)) (steps (step_of m.bench c (present m))) ≡ change_deed c m = sym (ap deed_by step.alters_graph) in
          accepted (change_rule b capacity c) m b x' step_after n (sym ((r.comes b m e h.journal).coded capacity q) ∙ r.accepts y) (step.costs ∙ ap (λ (d : Deed). d.number) u)
          (subst (λ (d : Deed). Represents b x' step_after (effected d.effect m)) u (record {
            journal = at_record b x'.current _ s'.vertices s'.edges (signed x.current.position.used x.bench t') _ f
                (subst (λ (i : ℕ). Journal b (after_step x.current.position s'.head n).position s' (signed x.current.position.used x.bench t')
                (extended (step_of i c (present m)) m.line)) h.bench (step.steps x.bench));
            bench = w ∙ h.bench;
            marks = subst (λ (p : ℕ). Marked (cut_marks p m.marks) x'.set.bits mem.marks) h.journal.place k;
            names = cut_named m.marks m.names mem.marks m.line.place h.names;
            inside = λ i p z. omega (arith, left_low m.line.place p (m.marks i) z, length_cut m.line.place m.line.steps (step_of m.bench c (present m)) h.journal.inside);
          }))

  -- nothing was written
  pub change_kept : n ≡ 0 → DoesChange c types free x mem (done x code 0) after
  change_kept y = record { follows = λ b m n e h q. kept_follows b m e h n q y; leaves = λ z. (refl, words_stay y); idle = λ z. (refl, words_stay y) }

  -- the change is a step, signed, and the marks are cut
  pub change_made : n ≢ 0 → (x' : Store) → x'.current ≡ after_step x.current.position s'.head n → x'.bench ≡ x.bench
      → ((ms : ℕ → MarkPlace) → Marked ms x.set.bits mem.marks → ((k q : ℕ) → ms k ≡ at q → q ≤ x.current.position.steps)
      → Marked (cut_marks x.current.position.place ms) x'.set.bits mem.marks)
      → (t'' : List ℕ) → t'' ≡ signed x.current.position.used x.bench t' → DoesChange c types free x mem (done x' 0 n) (memory s'.vertices s'.edges t'' mem.marks)
  change_made y x' f w cuts t'' v = subst (λ (t : List ℕ). DoesChange c types free x mem (done x' 0 n) (memory s'.vertices s'.edges t mem.marks)) (sym v) (record {
    follows = λ b m n e h q. step_follows b m e h y n q x' f w (cuts m.marks h.marks (mark_steps b x mem m h));
    leaves = λ z. absurd (z refl);
    idle = λ z. absurd (y z);
  })

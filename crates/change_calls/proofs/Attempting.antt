-- What the two crates below say of a change, as code of its rule and as step.
use Rattle.std.specs.Prelude.{◌==◌}
use Prim.Native.Nat.{ℕ, zero, suc, ◌+◌, ◌*◌, ◌≤◌}
use mathlib.Core.Path.{◌≡◌, refl, sym, ap, subst, ◌∙◌}
use mathlib.Core.Logic.{◌≢◌}
use mathlib.Core.Bool.{Bool, true, false, not, ◌&&◌}
use mathlib.Core.List.{List}
use native.Mathlib.Omega.{arith}
use borrow.Author.Tests.{ne_eqb, eqb-true, eqb-false, lt-ltb, le-ltb}
use lib.Dec.{ltb}
use lib.ListN.{length}
use Rattle.lists.specs.Choice.{◌⇒◌else◌}
use Rattle.graph.specs.declared.SingleChange.{SingleChange}
use Rattle.graph.specs.declared.Change.{Change}
use Rattle.graph.specs.declared.Change.TheVariants.{Single, DeleteVertex}
use Rattle.graph.specs.declared.Edit.{Edit}
use Rattle.graph.specs.Graph.{Graph, has_vertex}
use Rattle.graph.specs.WellFormed.{Bounds, WellFormed}
use Rattle.graph.specs.Changes.{cost}
use Rattle.graph.specs.Same.{idle, alters}
use Rattle.graph.proofs.Alters.{alters_plan}
use Rattle.history.specs.Machine.{Machine, present, free_of, extended, step_of}
use Rattle.machine.specs.HistoryCodes.{too_dear}
use Rattle.machine.specs.Rules.{first_code, change_rule}
use Rattle.machine.specs.Codes.{change_code}
use Rattle.machine.proofs.Allows.{singly_allows}
use Rattle.journal.specs.Rows.{signed}
use Rattle.graph_tables.specs.Tables.{State}
use Rattle.graph_tables.specs.Holds.{Holds}
use Rattle.graph_tables.specs.Capacities.{bounds_of}
use Rattle.tried_edits.specs.Plans.{state_plan}
use Rattle.tried_edits.proofs.PlanLaws.{plan_is}
use Rattle.tried_edits.specs.Tried.{attempt, outcome}
use Rattle.single_changes.specs.One.{HoldsGraph, One}
use Rattle.single_changes.proofs.OneLaws.{with_room, Told, one_told}
use Rattle.timeline.specs.declared.Position.{Position}
use Rattle.timeline.specs.Current.{after_step}
use Rattle.timeline.specs.Steps.{Journal}
use Rattle.timeline.proofs.Steps.{holds_current, sound_current}
use Rattle.vertex_deletion.specs.Deleting.{Deletes}
use Rattle.change_calls.proofs.SingleStep.{single_step}

-- ---- what a change comes to, on tables and journal

-- the change altered the graph, and is the next step once a bench signs it
pub record StepMade (c : Change) (b : Bounds) (m : Machine) (j : Position) (n : ℕ) (s' : State)
    (t' : List ℕ) : Type 0 where
  pub alters_graph : alters c (present m) ≡ true
  pub costs : n ≡ cost c (present m)
  pub steps : (bench : ℕ) → Journal b (after_step j s'.head n).position s' (signed j.used bench t') (extended (step_of bench c (present m)) m.line)

-- of one machine: the code of the change's rule; cost 0 says that it is refused or alters nothing
pub record Comes (c : Change) (b : Bounds) (m : Machine) (j : Position) (free code n : ℕ) (s' : State)
    (t' : List ℕ) : Type 0 where
  pub coded : (capacity : ℕ) → free ≡ free_of capacity m.line → code ≡ (change_rule b capacity c).code m
  pub idle : n ≡ 0 → code ≡ 0 → alters c (present m) ≡ false
  pub made : n ≢ 0 → StepMade c b m j n s' t'

-- whatever machine was there; cost 0 says that nothing was written
pub record Attempts (c : Change) (types free : ℕ) (j : Position) (s : State) (t : List ℕ) (code n : ℕ) (s' : State)
    (t' : List ℕ) : Type 0 where
  pub stays : n ≡ 0 → (s' ≡ s) × (t' ≡ t)
  pub accepts : n ≢ 0 → code ≡ 0
  pub comes : (b : Bounds) (m : Machine) → b.types ≡ types → Journal b j s t m.line → Comes c b m j free code n s' t'

-- ---- codes

-- no room for one row
room_test : (free n k : ℕ) → n ≡ free → k ≡ 1 → (free == 0) ≡ ltb n k
room_test free n k e i = go (free == 0) refl
  where
    go : (p : Bool) → (free == 0) ≡ p → p ≡ ltb n k
    go true p = sym (lt-ltb n k (omega (arith, eqb-true free 0 p)))
    go false p = let d = eqb-false free 0 p in sym (le-ltb n k (omega arith))

-- room is asked only of an edit that alters something
tried_code : (keeps : Bool) (free : ℕ) (dear : Bool) → (free == 0) ≡ dear → with_room keeps free 0 ≡ ((dear && not keeps) ⇒ 10 else 0)
tried_code true free true e = refl
tried_code true free false e = refl
tried_code false free true e = ap (λ (p : Bool). p ⇒ 10 else 0) e
tried_code false free false e = ap (λ (p : Bool). p ⇒ 10 else 0) e

-- 4, then 10
deletion_codes : (lacks dear : Bool) → ◌≡◌ {A = ℕ} (lacks ⇒ 4 else dear ⇒ 10 else 0) (first_code (lacks ⇒ 4 else 0) ((dear && true) ⇒ 10 else 0))
deletion_codes true dear = refl
deletion_codes false true = refl
deletion_codes false false = refl

deletion_alters : (a : ℕ) (g : Graph) → alters (DeleteVertex a) g ≡ true
unfolding alters
deletion_alters a g = refl

module _ (types : ℕ) (j : Position) (s : State) (t : List ℕ) where
  module _ (b : Bounds) (m : Machine) (e : b.types ≡ types) (k : Journal b j s t m.line) where
    -- the capacities of the tables are those of the machine's graphs
    bounds_are : bounds_of s.vertices s.edges types ≡ b
    bounds_are = λ i. record { vertices = sym k.rows.sized.vertices i; edges = sym k.rows.sized.edges i; types = sym e i }

    holds : Holds s (present m)
    holds = holds_current b j s t m.line k

    sound : WellFormed (present m)
    sound = sound_current b j s t m.line k

    pub stands_now : HoldsGraph s
    stands_now =
        let z = k.rows.sized in
        record {
          graph = present m;
          holds = holds;
          sized = λ n. record { vertices = refl; edges = refl; few_vertices = omega (arith, z.vertices, z.few_vertices); few_edges = omega (arith, z.edges, z.few_edges) };
        }

  module _ (code n : ℕ) (s' : State) (t' : List ℕ) where
    -- ---- a change of one edit

    module _ (free : ℕ) (q : 12 * (j.used + free) ≤ length t) (c : SingleChange) (y : HoldsGraph s) (r : One c types (attempt j.used free s t) (outcome code n s' t')) where
      abbrev plan_now : Edit
      plan_now = state_plan c s

      module _ (b : Bounds) (m : Machine) (e : b.types ≡ types) (k : Journal b j s t m.line) where
        tells : Told plan_now (change_code b (present m) (Single c)) (attempt j.used free s t) (outcome code n s' t')
        tells =
            subst (λ (x : Bounds). Told plan_now (change_code x (present m) (Single c)) (attempt j.used free s t) (outcome code n s' t')) (bounds_are b m e k)
            (one_told r (present m) (s.head, holds b m e k))

        -- what the tables say of the edit is what the graph says of the change
        alters_now : change_code b (present m) (Single c) ≡ 0 → alters (Single c) (present m) ≡ not (idle plan_now)
        alters_now z =
            let a = singly_allows b (present m) (sound b m e k) c r.fits z in
            alters_plan (present m) (sound b m e k) b c a ∙ ap (λ (y : Edit). not (idle y)) (sym (plan_is s (present m) (holds b m e k) b c a))

        single_code : (capacity : ℕ) → free ≡ free_of capacity m.line → code ≡ (change_rule b capacity (Single c)).code m
        single_code capacity f = tells.coded ∙ go (change_code b (present m) (Single c)) refl
          where
            dear : (free == 0) ≡ ltb (free_of capacity m.line) (cost (Single c) (present m))
            dear = room_test free _ (cost (Single c) (present m)) (sym f) refl

            go : (i : ℕ) → change_code b (present m) (Single c) ≡ i → with_room (idle plan_now) free i ≡ first_code i (too_dear capacity m (Single c) ⇒ 10 else 0)
            go zero z =
                tried_code (idle plan_now) free _ dear
                ∙ ap (λ (p : Bool). (ltb (free_of capacity m.line) (cost (Single c) (present m)) && p) ⇒ 10 else 0) (sym (alters_now z))
            go (suc i) z = let f : (suc i == 0) ≡ false = ne_eqb (suc i) 0 (omega arith) in rw f

        single_comes : Comes (Single c) b m j free code n s' t'
        single_comes = record {
          coded = single_code;
          idle = λ z d. let p = tells.keeps z d in alters_now p.0 ∙ ap not p.1;
          made = λ z.
              let d = tells.made z in
              let a = singly_allows b (present m) (sound b m e k) c r.fits d.uncoded in
              record {
                alters_graph = alters_now d.uncoded ∙ ap not d.alters;
                costs = d.costs;
                steps = single_step c b j s t m.line k a (omega (arith, q, d.room)) s' t' d.writes (after_step j s'.head n).position refl refl (omega (arith, d.costs));
              };
        }

      -- of the graph that the tables hold
      held : Told plan_now (change_code (bounds_of s.vertices s.edges types) y.graph (Single c)) (attempt j.used free s t) (outcome code n s' t')
      held = one_told r y.graph (s.head, y.holds)

      pub single_attempts : Attempts (Single c) types free j s t code n s' t'
      single_attempts = record { stays = held.stays; accepts = λ z. (held.made z).coded; comes = single_comes }

    -- ---- the deletion of a vertex

    module _ (a free : ℕ) (r : Deletes a free j s t (outcome code n s' t')) where
      deletion_code : (b : Bounds) (m : Machine) → Journal b j s t m.line → (capacity : ℕ) → free ≡ free_of capacity m.line → code ≡ (change_rule b capacity (DeleteVertex a)).code m
      deletion_code b m k capacity f =
          let lacks = not (has_vertex (present m) a) in
          let price = cost (DeleteVertex a) (present m) in
          r.coded b m.line k
          ∙ ap (λ (i : ℕ). lacks ⇒ 4 else ltb i price ⇒ 10 else 0) f
          ∙ deletion_codes lacks (ltb (free_of capacity m.line) price)
          ∙ ap (λ (p : Bool). first_code (lacks ⇒ 4 else 0) ((ltb (free_of capacity m.line) price && p) ⇒ 10 else 0)) (sym (deletion_alters a (present m)))

      pub deletion_attempts : Attempts (DeleteVertex a) types free j s t code n s' t'
      deletion_attempts = record {
        stays = λ y. ((r.stays y).1, (r.stays y).2);
        accepts = λ y. (r.made y).0;
        comes = λ b m e k. record {
          coded = deletion_code b m k;
          idle = λ y z. absurd ((r.stays y).0 z);
          made = λ y. record {
            alters_graph = deletion_alters a (present m);
            costs = (r.made y).1.costs b m.line k;
            steps = (r.made y).1.steps b m.line k;
          };
        };
      }

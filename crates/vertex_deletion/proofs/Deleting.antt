-- The ways out of `delete`: no such vertex, no room, done.
use Prim.Native.Nat.{ℕ, ◌+◌, ◌≤◌, ◌<◌}
use mathlib.Core.Path.{◌≡◌, refl, sym, ap, ◌∙◌}
use mathlib.Core.Bool.{Bool, true, false, not}
use mathlib.Core.List.{List}
use native.Mathlib.Omega.{arith}
use borrow.Author.Tests.{lt-ltb, le-ltb}
use lib.Dec.{ltb}
use Rattle.lists.specs.Choice.{◌⇒◌else◌}
use Rattle.graph.specs.declared.Change.TheVariants.{DeleteVertex}
use Rattle.graph.specs.Graph.{Graph, has_vertex}
use Rattle.graph.specs.WellFormed.{Bounds}
use Rattle.graph.specs.Changes.{cost, VertexThere}
use Rattle.graph.proofs.Numbers.{vertex_once}
use Rattle.history.specs.Machine.{Timeline, present_in}
use Rattle.graph_tables.specs.declared.Lookup.{Lookup}
use Rattle.graph_tables.specs.declared.Lookup.TheVariants.{Found, Missing}
use Rattle.graph_tables.specs.Tables.{State, lookup_vertex}
use Rattle.graph_tables.specs.Holds.{Holds}
use Rattle.graph_tables.proofs.LookedUp.{vertex_there, vertex_lacking}
use Rattle.timeline.specs.declared.Position.{Position}
use Rattle.timeline.specs.Current.{after_step}
use Rattle.timeline.specs.Steps.{Journal}
use Rattle.timeline.proofs.Steps.{holds_current, sound_current}
use Rattle.vertex_deletion.specs.Making.{step_start, stage, Making}
use Rattle.tried_edits.specs.Tried.{outcome}
use Rattle.vertex_deletion.specs.Deleting.{deletion_code, Deletes}
use Rattle.graph.proofs.ChangeLaws.{cost_real}
use Rattle.vertex_deletion.proofs.Rows.{making_end}

module _ (a free : ℕ) (j : Position) (s : State) (t : List ℕ) (f : Lookup) (e : f ≡ lookup_vertex s.vertices a) where
  pub lacking : f ≡ Missing → Deletes a free j s t (outcome 4 0 s t)
  lacking i = record {
    coded = λ b l k.
        sym (ap (λ (p : Bool). not p ⇒ 4 else ltb free (cost (DeleteVertex a) (present_in l)) ⇒ 10 else 0)
        (vertex_lacking s.vertices (present_in l) a (s.edges, (s.head, holds_current b j s t l k)) f e i));
    stays = λ y. ((λ z. omega arith), refl, refl);
    made = λ y. absurd (y refl);
  }

  module _ (at : ℕ) (i : f ≡ Found at) where
    there : (b : Bounds) (l : Timeline) → Journal b j s t l → has_vertex (present_in l) a ≡ true
    there b l k = vertex_there s.vertices (present_in l) a (s.edges, (s.head, holds_current b j s t l k)) f at e i

    pub allowed : (b : Bounds) (l : Timeline) → Journal b j s t l → VertexThere (present_in l) a
    allowed b l k = vertex_once (present_in l) a (sound_current b j s t l k) (there b l k)

    -- n is what the deletion costs
    module _ (n : ℕ) (told : (b : Bounds) → (g : Graph) → Holds s g → VertexThere g a → n ≡ cost (DeleteVertex a) g) where
      pub costs : (b : Bounds) (l : Timeline) → Journal b j s t l → n ≡ cost (DeleteVertex a) (present_in l)
      costs b l k = told b (present_in l) (holds_current b j s t l k) (allowed b l k)

      by_room : (b : Bounds) (l : Timeline) → Journal b j s t l → (p : Bool) → ltb free (cost (DeleteVertex a) (present_in l)) ≡ p
          → (p ⇒ 10 else 0) ≡ deletion_code a free (present_in l)
      by_room b l k p z =
          sym (ap (λ (u : Bool). not u ⇒ 4 else ltb free (cost (DeleteVertex a) (present_in l)) ⇒ 10 else 0) (there b l k) ∙ ap (λ (u : Bool). u ⇒ 10 else 0) z)

      pub too_dear : free < n → Deletes a free j s t (outcome 10 0 s t)
      too_dear h = record {
        coded = λ b l k. by_room b l k true (lt-ltb free (cost (DeleteVertex a) (present_in l)) (omega (arith, h, costs b l k)));
        stays = λ y. ((λ z. omega arith), refl, refl);
        made = λ y. absurd (y refl);
      }

      pub deleted : n ≤ free → (b : Bounds) (l : Timeline) → Journal b j s t l → (s' : State) (t' : List ℕ)
          → ((b : Bounds) (l : Timeline) → Journal b j s t l → Making (DeleteVertex a) (step_start b j s t l) n (stage s' t' (j.used + n))) → Deletes a free j s t (outcome 0 n s' t')
      deleted h b₀ l₀ k₀ s' t' w = record {
        coded = λ b l k. by_room b l k false (le-ltb free (cost (DeleteVertex a) (present_in l)) (omega (arith, h, costs b l k)));
        stays = λ z. absurd (omega (arith, z, costs b₀ l₀ k₀, cost_real (DeleteVertex a) (present_in l₀)));
        made = λ y. (
          refl,
          record {
            costs = costs;
            steps = λ b l k. making_end (w b l k) (costs b l k) refl (after_step j s'.head n).position refl refl refl;
          },
        );
      }

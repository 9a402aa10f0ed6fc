-- Every step made another graph, so what kind 49 counts are steps that altered the graph.
use Rattle.std.specs.Prelude.{◌==◌}
use Prim.Native.Nat.{ℕ, zero, suc, ◌≤◌, ◌<◌}
use mathlib.Core.Path.{◌≡◌, refl, sym, ap}
use mathlib.Core.Bool.{Bool, true, false, not}
use mathlib.Core.List.{List, [], ◌∷◌, ◌++◌}
use native.Mathlib.Omega.{arith}
use lib.ListN.{length, take, length-append}
use borrow.Author.Tests.{not-false}
use Rattle.lists.specs.Choice.{◌⇒◌else◌}
use Rattle.lists.specs.Keyed.{count_by_key}
use Rattle.lists.proofs.Bools.{ft}
use Rattle.lists.proofs.Counts.{any_count}
use Rattle.lists.proofs.KeyedLaws.{count_rem}
use Rattle.lists.proofs.Picks.{is_yes}
use Rattle.graph.specs.declared.Reading.TheVariants.{Untested}
use Rattle.graph.specs.declared.Change.{Change}
use Rattle.graph.specs.declared.SingleChange.TheVariants.{CreateVertex, CreateEdge, DeleteEdge, RetypeVertex, RetypeEdge, SetValue, SetReading, SetAlpha, SetOmega, VertexBefore}
use Rattle.graph.specs.declared.SingleChange.TheVariants.{VertexAfter, EdgeBefore, EdgeAfter, WordBefore, WordAfter}
use Rattle.graph.specs.declared.Change.TheVariants.{Single, DeleteVertex}
use Rattle.graph.specs.Graph.{Graph, vertex_number, edge_number, has_vertex, has_edge}
use Rattle.graph.specs.WellFormed.{Bounds}
use Rattle.graph.specs.Changes.{create_vertex, create_edge, delete_edge, delete_edges, delete_vertex, edges_at, changed}
use Rattle.graph.specs.Same.{same_graph, differs, alters}
use Rattle.graph.proofs.Alters.{same_from}
use Rattle.graph.proofs.EdgesAt.{removals_are, removals_vertices}
use Rattle.commands.specs.declared.Command.{Command}
use Rattle.commands.specs.declared.Command.TheVariants.{Alter, History, Ask, Quote, Unknown}
use Rattle.commands.specs.Calls.{Call}
use Rattle.commands.specs.Commands.{command_of}
use Rattle.history.specs.Machine.{Step, step_of, Machine, graph_at, fresh, present}
use Rattle.machine.specs.Rules.{Effect, steps, marks, unmarks, goes, names, benches, clears, nothing, effected}
use Rattle.machine.specs.Calls.{Parameters, bounds_in}
use Rattle.machine.specs.Codes.{lacks_vertex, lacks_edge, change_code, refusal}
use Rattle.machine.specs.Machine.{deed_of, answer_to, step_to, step, last}
use Rattle.machine.specs.Marks.{Event}
use Rattle.machine.specs.Posed.{Posed, last_at}
use Rattle.machine.proofs.Reached.{Reached, here, by, reached, reached_at}
use Rattle.machine.specs.Demand.{Altering}
use Rattle.machine.proofs.Accepts.{accepted_step, refused_step}
use Rattle.machine.proofs.Families.{Makes, change_effect, history_makes, change_passed}
use Rattle.machine.proofs.MarkLaws.{PlacesInRange, fresh_places, places_step}

-- Altering by recursion over the steps, from g on
abbrev Differ : Graph → List Step → Type 0
Differ g [] = Unit {0}
Differ g (s ∷ ss) = (g ≡ s.graph → ⊥) × Differ s.graph ss

cut : (p : ℕ) (g : Graph) (ss : List Step) (s : Step) → Differ g ss → p ≤ length ss → (graph_at p g ss ≡ s.graph → ⊥) → Differ g (take p ss ++ (s ∷ []))
cut zero g ss s a h n = (n, tt)
cut (suc p) g [] s a h n = absurd (omega arith)
cut (suc p) g (x ∷ ss) s a h n = (a.0, cut p x.graph ss s a.1 (omega arith) n)

abbrev Another : Machine → Step → Type 0
Another m s = present m ≡ s.graph → ⊥

-- ---- a change that no code from 2 to 9 refuses and that alters the graph makes another one, whatever graph it is

passed_row : (t : Bool) (k r : ℕ) → 1 ≤ k → ◌≡◌ {A = ℕ} (t ⇒ k else r) 0 → t ≡ false
passed_row true k r p e = absurd (omega arith)
passed_row false k r p e = refl

module _ (b : Bounds) (g : Graph) where
  compared : (c : Change) → differs c g ≡ true → g ≡ changed c g → ⊥
  unfolding differs
  compared c d q = no (same_graph (changed c g) g) (same_from _ _ (sym q)) d
    where
      no : (t : Bool) → t ≡ true → not t ≡ true → ⊥
      no true p r = ft r
      no false p r = ft p

  another : (c : Change) → change_code b g c ≡ 0 → alters c g ≡ true → g ≡ changed c g → ⊥
  unfolding alters changed create_vertex create_edge delete_edge delete_vertex
  another (Single (CreateVertex n t x)) e a q = omega (arith, ap (λ (y : Graph). length y.vseq) q, length-append g.vseq (record { number = n; type = t; value = x; incidences = [] } ∷ []))
  another (Single (CreateEdge n i o t)) e a q =
      omega (arith, ap (λ (y : Graph). length y.eseq) q, length-append g.eseq (record { number = n; alpha = i; omega = o; type = t; reading = Untested } ∷ []))
  another (Single (DeleteEdge i)) e a q =
      omega (
        arith,
        any_count edge_number i g.eseq (not-false (has_edge g i) (passed_row (lacks_edge g i) 5 0 (omega arith) e)),
        count_rem edge_number i i g.eseq,
        is_yes i i refl,
        ap (λ (y : Graph). count_by_key edge_number i y.eseq) q,
      )
  another (Single (RetypeVertex i t)) e a q = compared (Single (RetypeVertex i t)) a q
  another (Single (RetypeEdge i t)) e a q = compared (Single (RetypeEdge i t)) a q
  another (Single (SetValue i x)) e a q = compared (Single (SetValue i x)) a q
  another (Single (SetReading i k d)) e a q = compared (Single (SetReading i k d)) a q
  another (Single (SetAlpha i v)) e a q = compared (Single (SetAlpha i v)) a q
  another (Single (SetOmega i v)) e a q = compared (Single (SetOmega i v)) a q
  another (Single (VertexBefore i j)) e a q = compared (Single (VertexBefore i j)) a q
  another (Single (VertexAfter i j)) e a q = compared (Single (VertexAfter i j)) a q
  another (Single (EdgeBefore i j)) e a q = compared (Single (EdgeBefore i j)) a q
  another (Single (EdgeAfter i j)) e a q = compared (Single (EdgeAfter i j)) a q
  another (Single (WordBefore i j)) e a q = compared (Single (WordBefore i j)) a q
  another (Single (WordAfter i j)) e a q = compared (Single (WordAfter i j)) a q
  another (DeleteVertex i) e a q =
      omega (
        arith,
        any_count vertex_number i g.vseq (not-false (has_vertex g i) (passed_row (lacks_vertex g i) 4 0 (omega arith) e)),
        count_rem vertex_number i i (delete_edges (edges_at g i) g).vseq,
        is_yes i i refl,
        ap (λ (y : Graph). count_by_key vertex_number i y.vseq) (removals_are (edges_at g i) g),
        removals_vertices (edges_at g i) i g,
        ap (λ (y : Graph). count_by_key vertex_number i y.vseq) q,
      )

-- a step that an accepted command makes
makes_another : (w : Parameters) (m : Machine) (c : Command) → (refusal w m c == 0) ≡ true → Makes (Another m) (deed_of w c m).effect
unfolding step_of
makes_another w m (Alter c) e = change_effect (Makes (Another m)) c m (λ a q. another (bounds_in w) (present m) c (change_passed w m c e).0 a q) tt
makes_another w m (History h) e = history_makes (Another m) w.changes h m
makes_another w m (Ask q) e = tt
makes_another w m (Quote p) e = tt
makes_another w m Unknown e = tt

differ_next : (e : Effect) (m : Machine) → m.line.place ≤ length m.line.steps → Makes (Another m) e → Differ m.line.start m.line.steps →
    Differ (effected e m).line.start (effected e m).line.steps
differ_next (steps s) m h n a = cut m.line.place m.line.start m.line.steps s a h n
differ_next (marks k) m h n a = a
differ_next (unmarks k) m h n a = a
differ_next (goes p) m h n a = a
differ_next (names k o) m h n a = a
differ_next (benches k) m h n a = a
differ_next clears m h n a = tt
differ_next nothing m h n a = a

differ_step : (w : Parameters) (m : Machine) (x : Call) → PlacesInRange m → Differ m.line.start m.line.steps → Differ (step w m x).line.start (step w m x).line.steps
differ_step w m x i a = go (refusal w m c == 0) refl
  where
    c : Command
    c = command_of x

    go : (t : Bool) → (refusal w m c == 0) ≡ t → Differ (step_to w m c).line.start (step_to w m c).line.steps
    go true e = rw (accepted_step w m c e) (differ_next (deed_of w c m).effect m i.place_in (makes_another w m c e) a)
    go false e = rw (refused_step w m c e) a

differ_last : {m n : Machine} {es : List Event} → Reached m es n → PlacesInRange m → Differ m.line.start m.line.steps → Differ n.line.start n.line.steps
differ_last here i a = a
differ_last (by {m} {n} {es} w x r) i a = differ_last r (places_step w m x i) (differ_step w m x i a)

differ_at : (i : ℕ) (g : Graph) (ss : List Step) → Differ g ss → i < length ss → graph_at i g ss ≡ graph_at (suc i) g ss → ⊥
differ_at i g [] a h = absurd (omega arith)
differ_at zero g (s ∷ ss) a h = a.0
differ_at (suc i) g (s ∷ ss) a h = differ_at i s.graph ss a.1 (omega arith)

-- in a machine that calls reach, Gi and Gi+1 are never the same
pub steps_alter : (w : Parameters) (g : Graph) (xs : List Call) → Altering (last w (fresh g) xs).line
steps_alter w g xs i = differ_at i _ _ (differ_last (reached w (fresh g) xs) (fresh_places g) tt)

pub steps_alter_at : (w : Parameters) (g : Graph) (ys : List Posed) → Altering (last_at w (fresh g) ys).line
steps_alter_at w g ys i = differ_at i _ _ (differ_last (reached_at w (fresh g) ys) (fresh_places g) tt)

-- an accepted change that alters nothing answers 0 and leaves the machine as it is
pub unaltered : (w : Parameters) (m : Machine) (c : Change) → refusal w m (Alter c) ≡ 0 → alters c (present m) ≡ false →
    (answer_to w m (Alter c) ≡ record { code = 0; number = 0 }) × (step_to w m (Alter c) ≡ m)
unfolding answer_to step_to
unaltered w m c e a = (rw (e, a), rw (e, a))

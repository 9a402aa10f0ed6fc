-- What the functions give, run on the plain machine: with code 0 the calls in front of the lent list bring the loaded
-- graph, on any machine that holds it with as many free changes, into the order wanted.
use Rattle.std.specs.Prelude.{◌==◌}
use Prim.Native.Nat.{ℕ, ◌-◌, ◌*◌, ◌≤◌}
use mathlib.Core.Path.{◌≡◌, refl, sym, ap, ◌∙◌, subst}
use mathlib.Core.Bool.{Bool, true, false, not}
use mathlib.Core.List.{List, [], ◌∷◌}
use native.Mathlib.Omega.{arith}
use lib.ListN.{length, take, drop}
use lib.Dec.{ltb}
use lib.Seq.{take_at}
use borrow.Author.Tests.{eqb-true, eqb-false}
use Rattle.lists.specs.Choice.{◌⇒◌else◌}
use Rattle.lists.specs.Keyed.{update_by}
use Rattle.lists.specs.Arranged.{in_order}
use Rattle.graph.specs.Graph.{Graph, vertex_number, edge_number, no_vertex, no_edge, has_vertex, vertex_numbers, edge_numbers, list_of}
use Rattle.graph.specs.WellFormed.{WellFormed, same_words}
use Rattle.graph.specs.Changes.{on_vseq, on_eseq, on_list}
use Rattle.graph.proofs.Facts.{to_facts}
use Rattle.image.specs.Image.{load}
use Rattle.image_check.specs.Checks.{saved_bounds, load_code}
use Rattle.image_check.proofs.LoadCodes.{code_loads}
use Rattle.image.proofs.Loads.{loaded}
use Rattle.history.specs.Machine.{Machine, present}
use Rattle.commands.specs.Calls.{Call, five, calls_of}
use Rattle.machine.specs.Calls.{Parameters, bounds_in}
use Rattle.machine.specs.Codes.{free}
use Rattle.machine.proofs.Graphs.{present_formed}
use Rattle.machine.proofs.Invariant.{Invariant}
use Rattle.arrangement.specs.Orders.{calls_from, arrange_calls, words_from, call_words, Outcome, refusal, written, arrangement, loaded_then, vertex_order, edge_order, word_order}
use Rattle.arrangement.specs.Reach.{Reaches}
use Rattle.arrangement.proofs.Turns.{words_length}
use Rattle.arrangement.proofs.Reaching.{InPlace}
use Rattle.arrangement.proofs.Reach.{reach_vertices, reach_edges, reach_words}

-- a machine that calls reach from a fresh one has what the theorems ask
pub reached_fits : (w : Parameters) (m : Machine) → Invariant w m → InPlace m × WellFormed (present m)
reached_fits w m i = (i.places.place_in, (to_facts (bounds_in w) (present m) (present_formed w m i.formed)).0)

-- the words written are the calls
calls_from_lem : (kind b : ℕ) (ws : List ℕ) → calls_of (words_from kind b ws) ≡ calls_from kind b ws
calls_from_lem kind b [] = refl
calls_from_lem kind b (a ∷ ws) = ap (λ (xs : List Call). five kind a b 0 0 ∷ xs) (calls_from_lem kind a ws)

pub calls_are : (kind : ℕ) (wanted : List ℕ) → calls_of (call_words kind wanted) ≡ arrange_calls kind wanted
calls_are kind [] = refl
calls_are kind (w ∷ ws) = calls_from_lem kind w ws

-- the calls that an outcome tells
abbrev pub told_calls : Outcome → List Call
told_calls o = calls_of (take (5 * o.calls) o.list)

told_written : (kind : ℕ) (wanted list : List ℕ) → told_calls (written kind wanted list) ≡ arrange_calls kind wanted
told_written kind wanted list =
    ap calls_of (take_at (call_words kind wanted) (drop (length (call_words kind wanted)) list) (5 * (length wanted - 1)) (words_length kind wanted)) ∙ calls_are kind wanted

-- code 0: those wanted are the items, and the calls are written
pub record Accepted (kind : ℕ) (items wanted list : List ℕ) : Type 0 where
  pub same : same_words wanted items ≡ true
  pub outcome : arrangement kind items wanted list ≡ written kind wanted list

pub accepted : (kind : ℕ) (items wanted list : List ℕ) → (arrangement kind items wanted list).code ≡ 0 → Accepted kind items wanted list
unfolding arrangement
accepted kind items wanted list z = go (same_words wanted items) (ltb (length list) (5 * (length wanted - 1))) refl refl z
  where
    go : (t u : Bool) → same_words wanted items ≡ t → ltb (length list) (5 * (length wanted - 1)) ≡ u →
        (not t ⇒ refusal 111 list else u ⇒ refusal 112 list else written kind wanted list).code ≡ 0 → Accepted kind items wanted list
    go false u e f i = absurd (omega arith)
    go true true e f i = absurd (omega arith)
    go true false e f i = record { same = e; outcome = rw (e, f) }

-- code 0: the words load
pub load_first : (ws list : List ℕ) (o : Outcome) → (loaded_then ws list o).code ≡ 0 → (load_code saved_bounds ws ≡ 0) × (loaded_then ws list o ≡ o)
load_first ws list o z = go (load_code saved_bounds ws == 0) refl z
  where
    go : (t : Bool) → (load_code saved_bounds ws == 0) ≡ t → (t ⇒ o else refusal (load_code saved_bounds ws) list).code ≡ 0 → (load_code saved_bounds ws ≡ 0)
        × ((t ⇒ o else refusal (load_code saved_bounds ws) list) ≡ o)
    go true e i = (eqb-true (load_code saved_bounds ws) 0 e, refl)
    go false e i = absurd (eqb-false (load_code saved_bounds ws) 0 e i)

good : (ws : List ℕ) → load_code saved_bounds ws ≡ 0 → WellFormed (load ws)
good ws z = (to_facts saved_bounds (load ws) (loaded saved_bounds ws ((code_loads saved_bounds ws).0 z)).formed).0

-- what is reached by the calls wanted is reached by those told
by_told : (w : Parameters) (m : Machine) (kind : ℕ) (wanted list : List ℕ) (o : Outcome) (g : Graph) → o ≡ written kind wanted list →
    Reaches w m (arrange_calls kind wanted) (length wanted - 1) g → Reaches w m (told_calls o) o.calls g
by_told w m kind wanted list o g e r =
    subst (λ (x : Outcome). Reaches w m (told_calls x) x.calls g) (sym e)
    (subst (λ (xs : List Call). Reaches w m xs (length wanted - 1) g) (sym (told_written kind wanted list)) r)

module _ (w : Parameters) (m : Machine) (p : InPlace m) (ws wanted list : List ℕ) (h : present m ≡ load ws) (room : length wanted - 1 ≤ free w m) where
  pub vertices_arrive : (vertex_order ws wanted list).code ≡ 0 →
      Reaches w m (told_calls (vertex_order ws wanted list)) (vertex_order ws wanted list).calls (on_vseq (in_order vertex_number no_vertex wanted) (load ws))
  unfolding vertex_order
  vertices_arrive z =
      let l = load_first ws list (arrangement 12 (vertex_numbers (load ws)) wanted list) z in
      let a = accepted 12 (vertex_numbers (load ws)) wanted list (sym (ap (λ (o : Outcome). o.code) l.1) ∙ z) in
      by_told w m 12 wanted list (vertex_order ws wanted list) _ (l.1 ∙ a.outcome)
      (subst (λ (g : Graph). Reaches w m (arrange_calls 12 wanted) (length wanted - 1) (on_vseq (in_order vertex_number no_vertex wanted) g)) h
      (reach_vertices w m wanted p (subst WellFormed (sym h) (good ws l.0)) (ap (λ (g : Graph). same_words wanted (vertex_numbers g)) h ∙ a.same) room))

  pub edges_arrive : (edge_order ws wanted list).code ≡ 0 →
      Reaches w m (told_calls (edge_order ws wanted list)) (edge_order ws wanted list).calls (on_eseq (in_order edge_number no_edge wanted) (load ws))
  unfolding edge_order
  edges_arrive z =
      let l = load_first ws list (arrangement 14 (edge_numbers (load ws)) wanted list) z in
      let a = accepted 14 (edge_numbers (load ws)) wanted list (sym (ap (λ (o : Outcome). o.code) l.1) ∙ z) in
      by_told w m 14 wanted list (edge_order ws wanted list) _ (l.1 ∙ a.outcome)
      (subst (λ (g : Graph). Reaches w m (arrange_calls 14 wanted) (length wanted - 1) (on_eseq (in_order edge_number no_edge wanted) g)) h
      (reach_edges w m wanted p (subst WellFormed (sym h) (good ws l.0)) (ap (λ (g : Graph). same_words wanted (edge_numbers g)) h ∙ a.same) room))

  pub words_arrive : (v : ℕ) → (word_order ws v wanted list).code ≡ 0 →
      Reaches w m (told_calls (word_order ws v wanted list)) (word_order ws v wanted list).calls (on_vseq (update_by vertex_number v (on_list (λ _. wanted))) (load ws))
  unfolding word_order
  words_arrive v z =
      let l = load_first ws list (has_vertex (load ws) v ⇒ arrangement 16 (list_of (load ws) v) wanted list else refusal 4 list) z in
      let t = there (has_vertex (load ws) v) refl (sym (ap (λ (o : Outcome). o.code) l.1) ∙ z) in
      let a = accepted 16 (list_of (load ws) v) wanted list t.0 in
      by_told w m 16 wanted list (word_order ws v wanted list) _ (l.1 ∙ t.1 ∙ a.outcome)
      (subst (λ (g : Graph). Reaches w m (arrange_calls 16 wanted) (length wanted - 1) (on_vseq (update_by vertex_number v (on_list (λ _. wanted))) g)) h
      (reach_words w m v wanted p (subst WellFormed (sym h) (good ws l.0)) (ap (λ (g : Graph). same_words wanted (list_of g v)) h ∙ a.same) room))
    where
      there : (t : Bool) → has_vertex (load ws) v ≡ t → (t ⇒ arrangement 16 (list_of (load ws) v) wanted list else refusal 4 list).code ≡ 0 →
          ((arrangement 16 (list_of (load ws) v) wanted list).code ≡ 0)
          × ((t ⇒ arrangement 16 (list_of (load ws) v) wanted list else refusal 4 list) ≡ arrangement 16 (list_of (load ws) v) wanted list)
      there true e i = (i, refl)
      there false e i = absurd (omega arith)

-- A change as one step: its edits one after another, a row each.
use Rattle.std.specs.Prelude.{◌==◌}
use Prim.Native.Nat.{ℕ, suc, ◌+◌, ◌*◌, ◌/◌, ◌≤◌, ◌<◌}
use mathlib.Core.Path.{◌≡◌, refl, sym, ap, subst, ◌∙◌}
use mathlib.Core.Logic.{◌≢◌}
use mathlib.Core.Bool.{Bool, true, false}
use mathlib.Core.List.{List, [], ◌∷◌}
use native.Mathlib.Omega.{arith}
use borrow.Author.Tests.{eq-eqb, ne_eqb, eqb-true, eqb-false}
use lib.ListN.{length}
use Rattle.lists.specs.Choice.{◌⇒◌else◌}
use Rattle.lists.specs.Lists.{first, All, more}
use Rattle.lists.specs.Keyed.{count_by_key}
use Rattle.lists.proofs.Picks.{is_yes}
use Rattle.graph.specs.declared.Edit.{Edit}
use Rattle.graph.specs.declared.SingleChange.{SingleChange}
use Rattle.graph.specs.declared.Change.{Change}
use Rattle.graph.specs.declared.Change.TheVariants.{Single, DeleteVertex}
use Rattle.graph.specs.Graph.{Graph, itself, list_of, edge_of, IsWords}
use Rattle.graph.specs.WellFormed.{Bounds}
use Rattle.graph.specs.Changes.{changed, cost, VertexThere, EdgeThere, SinglyAllowed, Allowed}
use Rattle.graph.specs.Edits.{Applies, EditIn, apply}
use Rattle.graph.specs.Plans.{removal, edits_of, apply_all, AppliesAll}
use Rattle.graph.proofs.Lists.{ordered_list}
use Rattle.graph.proofs.EdgesAt.{first_there, removals_vertices}
use Rattle.graph.proofs.ChangeLaws.{cost_real, edits_cost, edits_apply, change_is, edits_in, deletion_step, deletion_last}
use Rattle.history.specs.Machine.{Timeline, present_in, extended}
use Rattle.history.specs.Machine.{step_of}
use Rattle.graph_tables.specs.Tables.{State, VertexRowIn, EdgeRowIn, vfirst, ekind, edecimetres}
use Rattle.graph_tables.specs.Edits.{Can, Room}
use Rattle.graph_tables.specs.Holds.{Holds}
use Rattle.graph_tables.specs.Capacities.{Sized}
use Rattle.graph_tables.proofs.Callers.{small}
use Rattle.graph_tables.proofs.Refines.{can_edit}
use Rattle.graph_tables.proofs.GraphRead.{holds_one}
use Rattle.journal.specs.Rows.{costing, signed}
use Rattle.journal.specs.Written.{Written}
use Rattle.tried_edits.specs.Plans.{plan_remove_vertex, plan_remove_edge, state_plan}
use Rattle.graph_tables.proofs.Answers.{first_word, vertex_row, edge_row, reading_words}
use Rattle.tried_edits.proofs.PlanLaws as table_plans
use Rattle.timeline.specs.declared.Position.{Position}
use Rattle.timeline.specs.Steps.{Journal}
use Rattle.timeline.proofs.Steps.{step_with, holds_current, sound_current, within_current, open_start, open_more, open_holds, open_close}
use Rattle.vertex_deletion.specs.Making.{next_edit, some, none, FirstEdit, StepStart, step_start, Stage, stage, Making}

-- a list and its first word
some_list : (w : ℕ) (l : List ℕ) → w ≡ first l → w ≢ 0 → (xs : List ℕ) × (l ≡ w ∷ xs)
some_list w [] e n = absurd (n e)
some_list w (x ∷ l) e n = (l, ap (λ (k : ℕ). k ∷ l) (sym e))

no_list : (l : List ℕ) → 0 ≡ first l → count_by_key itself 0 l ≡ 0 → l ≡ []
no_list [] e c = refl
no_list (x ∷ l) e c = absurd (omega (arith, is_yes x 0 (sym e)))

-- ---- the next edit

module _ (b : Bounds) (s : State) (g : Graph) (h : Holds s g) where
  -- a change of one edit is its plan
  pub first_plan : (x : SingleChange) → SinglyAllowed b g x → FirstEdit (Single x) b g (state_plan x s)
  unfolding edits_of
  first_plan x i = subst (FirstEdit (Single x) b g) (sym (table_plans.plan_is s g h b x i)) (record { edits = []; all = refl; rest = none refl })

  -- what is the first edit can be made
  pub first_can : Sized b s → (x : Change) → Allowed b g x → (e : Edit) → FirstEdit x b g e → Room e s → Can e s
  first_can z x i e f r =
      can_edit s g h (small b s z) e (subst (λ (es : List Edit). AppliesAll es g) f.all (edits_apply b g h.sound x i)).0 r

  module _ (a : ℕ) (i : VertexThere g a) where
    pub vertex_here : VertexRowIn s.vertices a
    vertex_here = vertex_row s g h a i

    module _ (w : ℕ) (q : w ≡ vfirst s.vertices a) where
      head_word : w ≡ first (list_of g a)
      head_word = q ∙ first_word s g h a i

      pub first_vertex : w ≡ 0 → FirstEdit (DeleteVertex a) b g (plan_remove_vertex s.vertices a)
      first_vertex z =
          let n = no_list (list_of g a) (sym z ∙ head_word) (omega (arith, ordered_list g h.sound a 0, is_yes 0 0 refl)) in
          subst (FirstEdit (DeleteVertex a) b g) (sym (table_plans.vertex_removal_is s g h a i))
          (record { edits = []; all = deletion_last g h.sound a n; rest = none refl })

      module _ (n : w ≢ 0) where
        words : (ws : List ℕ) × (list_of g a ≡ w ∷ ws)
        words = some_list w (list_of g a) head_word n

        edge_there : EdgeThere g (edge_of w)
        edge_there = first_there g h.sound a w words.0 words.1

        pub edge_here : EdgeRowIn s.edges (w / 2)
        edge_here = edge_row s g h (w / 2) edge_there

        pub edge_words : IsWords (ekind s.edges (w / 2)) (edecimetres s.edges (w / 2))
        edge_words = reading_words s g h (w / 2) edge_there

        pub first_edge : FirstEdit (DeleteVertex a) b g (plan_remove_edge s.edges (w / 2))
        first_edge =
            let e = removal (edge_of w) g in
            subst (FirstEdit (DeleteVertex a) b g) (sym (table_plans.removal_is s g h (edge_of w) edge_there)) (record {
              edits = edits_of (DeleteVertex a) (apply e g);
              all = deletion_step g h.sound a w words.0 words.1;
              rest = some (removals_vertices (edge_of w ∷ []) a g ∙ i) refl;
            })

    pub first_next : FirstEdit (DeleteVertex a) b g (next_edit s a)
    first_next = go (vfirst s.vertices a == 0) refl
      where
        go : (p : Bool) → (vfirst s.vertices a == 0) ≡ p
            → FirstEdit (DeleteVertex a) b g (p ⇒ plan_remove_vertex s.vertices a else plan_remove_edge s.edges (vfirst s.vertices a / 2))
        go true e = first_vertex (vfirst s.vertices a) refl (eqb-true _ 0 e)
        go false e = first_edge (vfirst s.vertices a) refl (eqb-false _ 0 e)

-- the row that was written is that of the next edit
module _ (s : State) (a w c i : ℕ) (t : List ℕ) (s' : State) (t' : List ℕ) (q : w ≡ vfirst s.vertices a) where
  pub next_edge : w ≢ 0 → Written (plan_remove_edge s.edges (w / 2)) (costing c) i s t s' t' → Written (next_edit s a) (costing c) i s t s' t'
  next_edge n = subst (λ (e : Edit). Written e (costing c) i s t s' t')
      (ap (λ (v : ℕ). plan_remove_edge s.edges (v / 2)) q ∙ ap (λ (p : Bool). p ⇒ plan_remove_vertex s.vertices a else plan_remove_edge s.edges (vfirst s.vertices a / 2))
      (sym (ne_eqb _ 0 (λ z. n (q ∙ z)))))

  pub next_vertex : w ≡ 0 → Written (plan_remove_vertex s.vertices a) (costing c) i s t s' t' → Written (next_edit s a) (costing c) i s t s' t'
  next_vertex z = subst (λ (e : Edit). Written e (costing c) i s t s' t')
      (ap (λ (p : Bool). p ⇒ plan_remove_vertex s.vertices a else plan_remove_edge s.edges (vfirst s.vertices a / 2)) (sym (eq-eqb _ 0 (sym q ∙ z))))

-- ---- the rows

pub making_start : (x : Change) (b : Bounds) (j : Position) (s : State) (t : List ℕ) (l : Timeline) (c u : ℕ) → j.used ≡ u → Journal b j s t l → Allowed b (present_in l) x
    → Making x (step_start b j s t l) c (stage s t u)
making_start x b j s t l c u q k i =
    let w = sound_current b j s t l k in
    record {
      graph = present_in l;
      holds = holds_current b j s t l k;
      opened = open_start b j s t l c u q k;
      edits = edits_of x (present_in l);
      rest = some i refl;
      applies = edits_apply b (present_in l) w x i;
      inside = edits_in b (present_in l) w x (within_current b j s t l k) i;
      makes = change_is b (present_in l) w x i;
      rows = omega (arith, q, edits_cost (present_in l) x);
    }

all_first : (b : Bounds) (e : Edit) (es : List Edit) → All (EditIn b) (e ∷ es) → EditIn b e × All (EditIn b) es
all_first b e es (more i a) = (i, a)

no_edits : (es : List Edit) → length es ≡ 0 → es ≡ []
no_edits [] e = refl
no_edits (x ∷ es) e = absurd (omega arith)

module _ {x : Change} {o : StepStart} {c : ℕ} {n : Stage} (k : Making x o c n) (q : c ≡ cost x (present_in o.line)) where
  -- not all rows are written
  module _ (d : n.used ≢ o.position.used + c) where
    going : Allowed o.bounds k.graph x × (k.edits ≡ edits_of x k.graph)
    going = elim k.rest [ some i e ↦ (i, e) | none e ↦ absurd (d (omega (arith, k.rows, q, ap length e))) ]

    pub allowed_now : Allowed o.bounds k.graph x
    allowed_now = going.0

    pub row_left : n.used < o.position.used + c
    row_left = omega (arith, k.rows, q, d)

    pub row_room : 12 * (o.position.used + c) ≤ length o.journal → 12 * n.used + 12 ≤ length n.journal
    row_room f = omega (arith, row_left, k.opened.size, f)

    module _ (e : Edit) (f : FirstEdit x o.bounds k.graph e) where
      list : k.edits ≡ e ∷ f.edits
      list = going.1 ∙ f.all

      applies : Applies e k.graph × AppliesAll f.edits (apply e k.graph)
      applies = subst (λ (es : List Edit). AppliesAll es k.graph) list k.applies

      inside : EditIn o.bounds e × All (EditIn o.bounds) f.edits
      inside = all_first o.bounds e f.edits (subst (All (EditIn o.bounds)) list k.inside)

      pub making_turn : 12 * n.used + 12 ≤ length n.journal → (s' : State) (t' : List ℕ) (u' : ℕ)
          → Written e (costing c) n.used n.state n.journal s' t' → u' ≡ suc n.used → Making x o c (stage s' t' u')
      making_turn r s' t' u' w y = record {
        graph = apply e k.graph;
        holds = open_holds _ _ _ _ _ c n.state n.journal n.used k.opened k.graph e k.holds applies.0 inside.0 r s' t' u' w y;
        opened = open_more _ _ _ _ _ c n.state n.journal n.used k.opened k.graph e k.holds applies.0 inside.0 r s' t' u' w y;
        edits = f.edits;
        rest = f.rest;
        applies = applies.1;
        inside = inside.1;
        makes = ap (λ (es : List Edit). apply_all es k.graph) (sym list) ∙ k.makes;
        rows = omega (arith, y, k.rows, ap length list);
      }

  -- the step is made
  pub making_end : n.used ≡ o.position.used + c → (j' : Position) → j'.place ≡ o.position.place + 1 → j'.steps ≡ o.position.place + 1 → j'.used ≡ o.position.used + c
      → (bench : ℕ) → Journal o.bounds j' n.state (signed o.position.used bench n.journal) (extended (step_of bench x (present_in o.line)) o.line)
  unfolding step_of
  making_end e j' y z v bench =
      let l = o.line in
      let i = no_edits k.edits (omega (arith, k.rows, q, e)) in
      let g : k.graph ≡ changed x (present_in l) = ap (λ (es : List Edit). apply_all es k.graph) (sym i) ∙ k.makes in
      subst (λ (i : ℕ). Journal o.bounds j' n.state (signed o.position.used bench n.journal) (extended (step_with i (changed x (present_in l)) bench) l)) q
      (open_close _ _ _ _ _ c n.state n.journal n.used k.opened j' (changed x (present_in l)) bench (omega (arith, q, cost_real x (present_in l))) e
      (subst (λ (y : Graph). Holds n.state y) g k.holds) y z (v ∙ sym e))

-- what a change costs is read off the tables
pub cost_same : (x : Change) (b b' : Bounds) (j : Position) (s : State) (t : List ℕ) (l l' : Timeline) → Journal b j s t l → Journal b' j s t l' → (c : ℕ) → c ≡ cost x (present_in l)
    → c ≡ cost x (present_in l')
cost_same x b b' j s t l l' k k' c q = q ∙ ap (cost x) (holds_one s (present_in l) (present_in l') (holds_current b j s t l k) (holds_current b' j s t l' k'))

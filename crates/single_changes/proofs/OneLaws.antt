-- A change that is refused, one that is tried, and what it takes to make it.
use Rattle.std.specs.Prelude.{◌==◌, ⊤, Result, Ok, Err, List}
use Prim.Native.Nat.{ℕ, ◌+◌, ◌*◌, ◌≤◌}
use mathlib.Core.Path.{◌≡◌, refl, sym, ap, subst, ◌∙◌}
use mathlib.Core.Logic.{◌≢◌}
use mathlib.Core.Bool.{Bool, true, false}
use native.Mathlib.Omega.{arith}
use mir.Val.{bool_byte}
use borrow.Author.Tests.{eqb-true, eqb-false, ne_eqb}
use Rattle.lists.specs.Choice.{◌⇒◌else◌}
use Rattle.graph.specs.declared.SingleChange.{SingleChange}
use Rattle.graph.specs.declared.SingleChange.TheVariants.{CreateVertex, CreateEdge, DeleteEdge, RetypeVertex, RetypeEdge, SetValue, SetReading, SetAlpha, SetOmega, VertexBefore}
use Rattle.graph.specs.declared.SingleChange.TheVariants.{VertexAfter, EdgeBefore, EdgeAfter, WordBefore, WordAfter}
use Rattle.graph.specs.declared.Edit.{Edit}
use Rattle.graph.specs.declared.Edit.TheVariants.{InsertEdge, SetVertex, SetEdge, MoveVertex, MoveEdge, MoveWord}
use Rattle.graph.specs.declared.Reading.TheVariants.{Untested}
use Rattle.graph.specs.Graph.{Graph, reading_of, IsWords}
use Rattle.graph.specs.WellFormed.{Bounds}
use Rattle.graph.specs.Changes.{SinglyAllowed}
use Rattle.graph.specs.Plans.{plan}
use Rattle.graph.specs.Same.{idle}
use Rattle.graph.proofs.Readings.{reading_words as length_calls}
use Rattle.graph.proofs.PlanLaws.{plan_applies}
use Rattle.graph_tables.specs.declared.Head.{Head}
use Rattle.graph_tables.specs.Tables.{State, state, vprev, eprev, wprev, wthis, vlast}
use Rattle.graph_tables.specs.Edits.{Can, Room}
use Rattle.graph_tables.specs.Holds.{Holds}
use Rattle.graph_tables.specs.Capacities.{Sized, bounds_of}
use Rattle.graph_tables.proofs.Callers.{small, vertex_in, edge_in}
use Rattle.graph_tables.proofs.Refines.{can_edit}
use Rattle.graph_tables.proofs.Steps.{can_by}
use Rattle.journal.specs.Rows.{costing}
use Rattle.journal.specs.Written.{Written}
use Rattle.tried_edits.specs.Plans.{state_plan, CanPlan, plan_word_last, unless}
use Rattle.graph_tables.proofs.Answers.{reading_words}
use Rattle.tried_edits.proofs.PlanLaws.{can_plan, plan_is, chosen}
use Rattle.graph_tables.specs.Holds.{HoldsVE}
use Rattle.commands.specs.Fits.{SingleFits}
use Rattle.machine.proofs.Allows.{singly_allows}
use Rattle.commands.specs.declared.refusal.Refusal.{Refusal}
use Rattle.commands.specs.Refusals.{refusal_code, code_if_refused}
use Rattle.tried_edits.specs.Tried.{Attempt, Outcome, kept, written, tried, Tries}
use Rattle.single_changes.specs.One.{HoldsGraph, ReadingWords, unless_refused, code_on, attempted, One, setting_end, ordering_vertex, ordering_edge, ordering_word}

-- ---- what an outcome tells

-- the lowest code: one of 2 to 9, then that of the edit
abbrev pub with_room : Bool → ℕ → ℕ → ℕ
with_room keeps free c = (c == 0) ⇒ (keeps ⇒ 0 else (free == 0) ⇒ 10 else 0) else c

-- a step was made
pub record Writes (e : Edit) (c : ℕ) (a : Attempt) (o : Outcome) : Type 0 where
  pub coded : o.code ≡ 0
  pub uncoded : c ≡ 0
  pub costs : o.cost ≡ 1
  pub alters : idle e ≡ false
  pub room : a.free ≢ 0
  pub writes : Written e (costing 1) a.row a.state a.journal o.state o.journal

-- cost 0 says that nothing was written
pub record Told (e : Edit) (c : ℕ) (a : Attempt) (o : Outcome) : Type 0 where
  pub coded : o.code ≡ with_room (idle e) a.free c
  pub stays : o.cost ≡ 0 → (o.state ≡ a.state) × (o.journal ≡ a.journal)
  pub keeps : o.cost ≡ 0 → o.code ≡ 0 → (c ≡ 0) × (idle e ≡ true)
  pub made : o.cost ≢ 0 → Writes e c a o

module _ (e : Edit) (c : ℕ) (a : Attempt) (o : Outcome) where
  told : o ≡ unless_refused c a (tried e a) → Told e c a o
  unfolding tried
  told q = go (c == 0) refl (idle e) refl (a.free == 0) refl q
    where
      leaves : {k : ℕ} → o ≡ kept k a → (o.code ≡ k) × (o.cost ≡ 0) × (o.state ≡ a.state) × (o.journal ≡ a.journal)
      leaves p = (ap (λ (r : Outcome). r.code) p, ap (λ (r : Outcome). r.cost) p, ap (λ (r : Outcome). r.state) p, ap (λ (r : Outcome). r.journal) p)

      go : (u : Bool) → (c == 0) ≡ u → (v : Bool) → idle e ≡ v → (w : Bool) → (a.free == 0) ≡ w
          → o ≡ (u ⇒ (v ⇒ kept 0 a else w ⇒ kept 10 a else written e a) else kept c a) → Told e c a o
      go false x v y w z p =
          let l = leaves p in
          record { coded = rw x l.0; stays = λ _. (l.2, l.3); keeps = λ _ d. absurd (eqb-false c 0 x (sym l.0 ∙ d)); made = λ d. absurd (d l.1) }
      go true x true y w z p =
          let l = leaves p in
          record { coded = rw (x, y) l.0; stays = λ _. (l.2, l.3); keeps = λ _ _. (eqb-true c 0 x, y); made = λ d. absurd (d l.1) }
      go true x false y true z p =
          let l = leaves p in
          record { coded = rw (x, y, z) l.0; stays = λ _. (l.2, l.3); keeps = λ _ d. absurd (omega (arith, l.0, d)); made = λ d. absurd (d l.1) }
      go true x false y false z p =
          let k = ap (λ (r : Outcome). r.code) p in
          let n = ap (λ (r : Outcome). r.cost) p in
          record {
            coded = rw (x, y, z) k;
            stays = λ d. absurd (omega (arith, n, d));
            keeps = λ d. absurd (omega (arith, n, d));
            made = λ _. record {
              coded = k;
              uncoded = eqb-true c 0 x;
              costs = n;
              alters = y;
              room = eqb-false a.free 0 z;
              writes = record { state = ap (λ (r : Outcome). r.state) p; row = ap (λ (r : Outcome). r.journal) p };
            };
          }

-- ---- what is allowed can be made

module _ (b : Bounds) (s : State) (z : Sized b s) (g : Graph) (h : Holds s g) where
  reads_words : (c : SingleChange) → SinglyAllowed b g c → ReadingWords c s
  reads_words (CreateVertex n t x) a = tt
  reads_words (CreateEdge n x o t) a = tt
  reads_words (DeleteEdge n) a = reading_words s g h n a
  reads_words (RetypeVertex v t) a = tt
  reads_words (RetypeEdge e t) a = reading_words s g h e a.0
  reads_words (SetValue v x) a = tt
  reads_words (SetReading e k d) a = (reading_words s g h e a.0, length_calls k d a.1)
  reads_words (SetAlpha e v) a = tt
  reads_words (SetOmega e v) a = tt
  reads_words (VertexBefore x y) a = tt
  reads_words (VertexAfter x y) a = tt
  reads_words (EdgeBefore x y) a = tt
  reads_words (EdgeAfter x y) a = tt
  reads_words (WordBefore x y) a = tt
  reads_words (WordAfter x y) a = tt

  has_room : (c : SingleChange) → SinglyAllowed b g c → Room (state_plan c s) s
  has_room (CreateVertex n t x) a = vertex_in b s z n a.0 a.1
  has_room (CreateEdge n x o t) a = edge_in b s z n a.0 a.1
  has_room (DeleteEdge n) a = tt
  has_room (RetypeVertex v t) a = tt
  has_room (RetypeEdge e t) a = tt
  has_room (SetValue v x) a = tt
  has_room (SetReading e k d) a = tt
  has_room (SetAlpha e v) a = tt
  has_room (SetOmega e v) a = tt
  has_room (VertexBefore x y) a = tt
  has_room (VertexAfter x y) a = tt
  has_room (EdgeBefore x y) a = tt
  has_room (EdgeAfter x y) a = tt
  has_room (WordBefore x y) a = tt
  has_room (WordAfter x y) a = tt

-- ---- one change

-- what is known of a change that has none of codes 2 to 9: the rows that it reads are there, and its edit can be made
pub record Accepted (x : SingleChange) (types : ℕ) (a : Attempt) : Type 0 where
  pub fits : SingleFits x
  pub uncoded : (g : Graph) → HoldsVE a.state.vertices a.state.edges g → code_on x types a.state g ≡ 0
  pub rows : CanPlan x a.state
  pub can : Can (state_plan x a.state) a.state
  pub words : ReadingWords x a.state

-- a code read off a view of the tables is that of the tables
pub seen : (x : SingleChange) (types : ℕ) (h : Head) {k : ℕ} {vertices edges vs es : List ℕ} → vs ≡ vertices → es ≡ edges
    → ((g : Graph) → HoldsVE vs es g → k ≡ code_on x types (state h vs es) g)
    → (g : Graph) → HoldsVE vertices edges g → k ≡ code_on x types (state h vertices edges) g
seen x types h {k = k} {edges = edges} {vs = vs} p q e =
    subst (λ (l : List ℕ). (g : Graph) → HoldsVE l edges g → k ≡ code_on x types (state h l edges) g) p
    (subst (λ (l : List ℕ). (g : Graph) → HoldsVE vs l g → k ≡ code_on x types (state h vs l) g) q e)

positive : (r : Refusal) → refusal_code r ≢ 0
positive r e = grind (arith, e)

-- its code of those is that of what was tried
module _ {x : SingleChange} {types : ℕ} {a : Attempt} (f : SingleFits x) {c : Result ⊤ Refusal}
    (e : (g : Graph) → HoldsVE a.state.vertices a.state.edges g → code_if_refused c ≡ code_on x types a.state g) where
  pub one_refused : {r : Refusal} → c ≡ Err r → One x types a (kept (refusal_code r) a)
  unfolding attempted
  one_refused {r = r} q = record {
    fits = f;
    comes = λ g y.
        let t = tried (state_plan x a.state) a in
        ap (λ (p : Bool). p ⇒ t else kept (refusal_code r) a) (sym (ne_eqb (refusal_code r) 0 (positive r)))
        ∙ ap (λ (k : ℕ). unless_refused k a t) (ap code_if_refused (sym q) ∙ e g y);
  }

  pub accept : {u : ⊤} → c ≡ Ok u → HoldsGraph a.state → Accepted x types a
  accept q y =
      let s = a.state in
      let b = bounds_of s.vertices s.edges types in
      let g = y.graph in
      let u : (g : Graph) → HoldsVE s.vertices s.edges g → code_on x types s g ≡ 0 = λ g w. sym (e g w) ∙ ap code_if_refused q in
      let a = singly_allows b g y.holds.sound x f (u g (s.head, y.holds)) in
      let q = plan_is s g y.holds b x a in
      let r = subst (λ (d : Edit). Room d s) q (has_room b s (y.sized types) g y.holds x a) in
      record {
        fits = f;
        uncoded = u;
        rows = can_plan b s (y.sized types) g y.holds x a;
        can = subst (λ (d : Edit). Can d s) (sym q) (can_edit s g y.holds (small b s (y.sized types)) (plan x g) (plan_applies b g y.holds.sound x a) r);
        words = reads_words b s (y.sized types) g y.holds x a;
      }

-- of two changes by a side, where both have the code of what was tried
module _ (t : Bool) (x y : SingleChange) {types : ℕ} {a : Attempt} (f : SingleFits x × SingleFits y) {c : Result ⊤ Refusal}
    (e : (g : Graph) → HoldsVE a.state.vertices a.state.edges g → (code_if_refused c ≡ code_on x types a.state g) × (code_if_refused c ≡ code_on y types a.state g)) where
  pub side_refused : {r : Refusal} → c ≡ Err r → One (t ⇒ x else y) types a (kept (refusal_code r) a)
  side_refused {r = r} q = go t
    where
      go : (u : Bool) → One (u ⇒ x else y) types a (kept (refusal_code r) a)
      go true = one_refused f.0 (λ g h. (e g h).0) q
      go false = one_refused f.1 (λ g h. (e g h).1) q

  pub side_accept : {u : ⊤} → c ≡ Ok u → HoldsGraph a.state → Accepted (t ⇒ x else y) types a
  side_accept q h = go t
    where
      go : (u : Bool) → Accepted (u ⇒ x else y) types a
      go true = accept f.0 (λ g h. (e g h).0) q h
      go false = accept f.1 (λ g h. (e g h).1) q h

module _ {x : SingleChange} {types : ℕ} {a : Attempt} where
  -- an edit that is the planned one can be made
  pub can_make : {e : Edit} → Accepted x types a → e ≡ state_plan x a.state → Can e a.state
  can_make k q = can_by a.state (sym q) k.can

  module _ {o : Outcome} where
    pub one_tried : Accepted x types a → Tries (state_plan x a.state) a o → One x types a o
    unfolding attempted
    one_tried k m = record {
      fits = k.fits;
      comes = λ g y. m.comes ∙ ap (λ (k : ℕ). unless_refused k a (tried (state_plan x a.state) a)) (sym (k.uncoded g y));
    }

    pub one_told : One x types a o → (g : Graph) → HoldsVE a.state.vertices a.state.edges g → Told (state_plan x a.state) (code_on x types a.state g) a o
    unfolding attempted
    one_told r g y = told _ _ _ _ (r.comes g y)

    -- in an arm of the match
    pub one_by : {y : SingleChange} → y ≡ x → One x types a o → One y types a o
    one_by e m = subst (λ (z : SingleChange). One z types a o) (sym e) m

-- ---- what is written is the plan

pub tries_by : {e e' : Edit} {a : Attempt} {o : Outcome} → e ≡ e' → Tries e a o → Tries e' a o
tries_by {a = a} {o = o} p w = subst (λ (x : Edit). Tries x a o) p w

pub words_by : {k k' d d' : ℕ} → k ≡ k' → d ≡ d' → IsWords k' d' → IsWords k d
words_by p q w = rw (p, q) w

pub insert_edge_by : (n a z s p : ℕ) {o o' i i' : ℕ} → o ≡ o' → i ≡ i' → InsertEdge n a z s Untested p o i ≡ InsertEdge n a z s Untested p o' i'
insert_edge_by n a z s p eo ei = λ j. InsertEdge n a z s Untested p (eo j) (ei j)

pub set_vertex_by : (n : ℕ) {s s' x x' u u' y y' : ℕ} → s ≡ s' → x ≡ x' → u ≡ u' → y ≡ y' → SetVertex n s x u y ≡ SetVertex n s' x' u' y'
set_vertex_by n es ex eu ey = λ j. SetVertex n (es j) (ex j) (eu j) (ey j)

pub set_edge_by : (n : ℕ) {s s' k k' d d' u u' l l' f f' : ℕ} → s ≡ s' → k ≡ k' → d ≡ d' → u ≡ u' → l ≡ l' → f ≡ f' →
    SetEdge n s (reading_of k d) u (reading_of l f) ≡ SetEdge n s' (reading_of k' d') u' (reading_of l' f')
set_edge_by n es ek ed eu el ef = λ j. SetEdge n (es j) (reading_of (ek j) (ed j)) (eu j) (reading_of (el j) (ef j))

pub move_vertex_by : (n : ℕ) {p p' q q' : ℕ} → p ≡ p' → q ≡ q' → MoveVertex n p q ≡ MoveVertex n p' q'
move_vertex_by n ep eq = λ j. MoveVertex n (ep j) (eq j)

pub move_edge_by : (n : ℕ) {p p' q q' : ℕ} → p ≡ p' → q ≡ q' → MoveEdge n p q ≡ MoveEdge n p' q'
move_edge_by n ep eq = λ j. MoveEdge n (ep j) (eq j)

pub move_word_by : (w : ℕ) {v v' p p' u u' q q' : ℕ} → v ≡ v' → p ≡ p' → u ≡ u' → q ≡ q' → MoveWord w v p u q ≡ MoveWord w v' p' u' q'
move_word_by w ev ep eu eq = λ j. MoveWord w (ev j) (ep j) (eu j) (eq j)

-- ---- the plan of a change by its side

pub vertex_planned : (t : Bool) (s : State) (a b : ℕ) {p q x : ℕ} → p ≡ vprev s.vertices a → x ≡ vprev s.vertices b → q ≡ (t ⇒ b else unless a p x)
    → MoveVertex a p q ≡ state_plan (ordering_vertex t a b) s
vertex_planned true s a b e f i = move_vertex_by a e i
vertex_planned false s a b e f i = move_vertex_by a e (chosen a e f i)

pub edge_planned : (t : Bool) (s : State) (a b : ℕ) {p q x : ℕ} → p ≡ eprev s.edges a → x ≡ eprev s.edges b → q ≡ (t ⇒ b else unless a p x)
    → MoveEdge a p q ≡ state_plan (ordering_edge t a b) s
edge_planned true s a b e f i = move_edge_by a e i
edge_planned false s a b e f i = move_edge_by a e (chosen a e f i)

pub word_planned : (t : Bool) (s : State) (a b : ℕ) {v p q x : ℕ} → v ≡ wthis s.edges a → p ≡ wprev s.edges a → x ≡ wprev s.edges b → q ≡ (t ⇒ b else unless a p x)
    → MoveWord a v p v q ≡ state_plan (ordering_word t a b) s
word_planned true s a b d e f i = move_word_by a d e d i
word_planned false s a b d e f i = move_word_by a d e d (chosen a e f i)

pub byte_small : (t : Bool) → bool_byte t ≤ 1
byte_small true = omega arith
byte_small false = omega arith

pub end_planned : (t : Bool) (s : State) (e u : ℕ) {k v p q x : ℕ} → k ≡ bool_byte t → v ≡ wthis s.edges (2 * e + k) → p ≡ wprev s.edges (2 * e + k) → x ≡ vlast s.vertices u
    → q ≡ unless (2 * e + k) p x → MoveWord (2 * e + k) v p u q ≡ state_plan (setting_end t e u) s
end_planned t s e u {k = k} {v = v} {p = p} {q = q} {x = x} b d i f j = go t b
  where
    go : (z : Bool) → k ≡ bool_byte z → MoveWord (2 * e + k) v p u q ≡ state_plan (setting_end z e u) s
    go true b = move_word_by (2 * e + k) d i refl (chosen (2 * e + k) i f j) ∙ ap (λ (y : ℕ). plan_word_last s.vertices s.edges y u) (omega (arith, b))
    go false b = move_word_by (2 * e + k) d i refl (chosen (2 * e + k) i f j) ∙ ap (λ (y : ℕ). plan_word_last s.vertices s.edges y u) (omega (arith, b))

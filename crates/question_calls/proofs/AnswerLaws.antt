-- A word of a named row answers the question that it is the word of.
use Rattle.std.specs.Prelude.{◌==◌}
use Prim.Native.Nat.{ℕ, ◌+◌, ◌-◌, ◌*◌, ◌%◌, ◌≤◌}
use mathlib.Core.Path.{◌≡◌, refl, sym, ap, ◌∙◌}
use mathlib.Core.Bool.{Bool, true, false, not}
use mathlib.Core.List.{List}
use native.Mathlib.Omega.{arith}
use lib.ListN.{get_or}
use Rattle.lists.specs.Choice.{◌⇒◌else◌}
use Rattle.lists.specs.Lists.{first, successor}
use Rattle.lists.proofs.Picks.{pick_yes, pick_no, same, differ, same?}
use Rattle.graph.specs.Graph.{Graph, vertex, edge, has_vertex, has_edge, vertex_numbers, edge_numbers, edge_of, in_word, out_word, this, that, list_of, reading_kind, decimetres}
use Rattle.graph.specs.Changes.{VertexThere, EdgeThere}
use Rattle.graph.proofs.Numbers.{vertex_once, edge_once}
use Rattle.graph_tables.specs.declared.Lookup.{Lookup}
use Rattle.graph_tables.specs.declared.Lookup.TheVariants.{Found, Missing}
use Rattle.graph_tables.specs.Tables.{State, state, vertex_place, edge_place, half_place, lookup_vertex, lookup_edge}
use Rattle.graph_tables.proofs.Finds.{found_vertex, found_edge}
use Rattle.graph_tables.proofs.Answers.{
  vertex_next,
  first_word,
  vertex_type,
  vertex_value,
  edge_next,
  alpha_is,
  omega_is,
  edge_type,
  reading_kind_lem,
  reading_decimetres,
  edge_row,
  word_row,
  word_next,
  word_this,
}
use Rattle.graph_tables.specs.Holds.{HoldsV, HoldsE}
use Rattle.machine.specs.Codes.{lacks_vertex, lacks_edge}
use Rattle.commands.specs.declared.Answer.{Answer}
use Rattle.commands.specs.Answers.{answer_of, accepts}
use Rattle.question_calls.specs.Words.{word_answer, vertex_word, edge_word, half_word, that_word}

-- a row that is found exactly where the graph has what is named
word_answer_lem : (code : ℕ) (t : List ℕ) (field x k : ℕ) (f : Lookup) (b : Bool) → (code == 0) ≡ false → f ≡ (b ⇒ Found k else Missing) →
    (b ≡ true → get_or t (k + field) 0 ≡ x) → word_answer code t field f ≡ answer_of (not b ⇒ code else 0) x
word_answer_lem code t field x k f true n e i = rw e (ap accepts (i refl))
word_answer_lem code t field x k f false n e i = rw (e, n)

-- ---- vertices

module _ (vertices : List ℕ) (g : Graph) (h : HoldsV vertices g) (a : ℕ) where
  abbrev state_v : State
  state_v = state h.1.0 vertices h.0

  -- answered by x, or with code 4
  abbrev AnswersV : ℕ → ℕ → Type 0
  AnswersV field x = vertex_word vertices a field ≡ answer_of (lacks_vertex g a ⇒ 4 else 0) x

  vertex_answer : (field x : ℕ) → (VertexThere g a → get_or vertices (vertex_place field a) 0 ≡ x) → AnswersV field x
  vertex_answer field x k =
      word_answer_lem 4 vertices field x (8 * a - 8) (lookup_vertex vertices a) (has_vertex g a) refl (found_vertex state_v g h.1.1 a) (λ e. k (vertex_once g a h.1.1.sound e))

  pub v_type : AnswersV 1 (vertex g a).type
  v_type = vertex_answer 1 _ (vertex_type state_v g h.1.1 a)

  pub v_value : AnswersV 2 (vertex g a).value
  v_value = vertex_answer 2 _ (vertex_value state_v g h.1.1 a)

  pub v_first : AnswersV 3 (first (list_of g a))
  v_first = vertex_answer 3 _ (first_word state_v g h.1.1 a)

  pub v_next : AnswersV 7 (successor a (vertex_numbers g))
  v_next = vertex_answer 7 _ (vertex_next state_v g h.1.1 a)

-- ---- edges and their halves

-- word f of the half of w, counted from the start of the row, and from the half's own
half_at : (w f : ℕ) → 2 ≤ w → edge_place (6 * (w % 2) + f) (edge_of w) ≡ half_place f w
half_at w f h = omega arith

module _ (edges : List ℕ) (g : Graph) (h : HoldsE edges g) where
  abbrev state_e : State
  state_e = state h.1.0 h.0 edges

  -- answered by x, or with code 5
  abbrev AnswersE : ℕ → ℕ → ℕ → Type 0
  AnswersE a field x = edge_word edges a field ≡ answer_of (lacks_edge g a ⇒ 5 else 0) x

  edge_answer : (a field x : ℕ) → (EdgeThere g a → get_or edges (edge_place field a) 0 ≡ x) → AnswersE a field x
  edge_answer a field x k =
      word_answer_lem 5 edges field x (12 * a - 12) (lookup_edge edges a) (has_edge g a) refl (found_edge state_e g h.1.1 a) (λ e. k (edge_once g a h.1.1.sound e))

  word_of : (k i x : ℕ) → k ≡ i → get_or edges i 0 ≡ x → get_or edges k 0 ≡ x
  word_of k i x e q = ap (λ (j : ℕ). get_or edges j 0) e ∙ q

  module _ (a : ℕ) where
    pub e_alpha : AnswersE a 2 (edge g a).alpha
    e_alpha = edge_answer a 2 _ (λ c. word_of _ (half_place 2 (out_word a)) _ (omega (arith, (edge_row state_e g h.1.1 a c).0)) (alpha_is state_e g h.1.1 a c))

    pub e_type : AnswersE a 4 (edge g a).type
    e_type = edge_answer a 4 _ (edge_type state_e g h.1.1 a)

    pub e_kind : AnswersE a 5 (reading_kind (edge g a).reading)
    e_kind = edge_answer a 5 _ (reading_kind_lem state_e g h.1.1 a)

    pub e_omega : AnswersE a 8 (edge g a).omega
    e_omega = edge_answer a 8 _ (λ c. word_of _ (half_place 2 (in_word a)) _ (omega (arith, (edge_row state_e g h.1.1 a c).0)) (omega_is state_e g h.1.1 a c))

    pub e_decimetres : AnswersE a 9 (decimetres (edge g a).reading)
    e_decimetres = edge_answer a 9 _ (reading_decimetres state_e g h.1.1 a)

    pub e_next : AnswersE a 11 (successor a (edge_numbers g))
    e_next = edge_answer a 11 _ (edge_next state_e g h.1.1 a)

  module _ (w : ℕ) where
    -- an oriented word is missing where its edge is
    abbrev AnswersW : Answer → ℕ → Type 0
    AnswersW r x = r ≡ answer_of (lacks_edge g (edge_of w) ⇒ 5 else 0) x

    half_answer : (f x : ℕ) → (EdgeThere g (edge_of w) → get_or edges (half_place f w) 0 ≡ x) → AnswersW (half_word edges w f) x
    half_answer f x k =
        edge_answer (edge_of w) (6 * (w % 2) + f) x (λ c. word_of _ (half_place f w) x (half_at w f (word_row state_e g h.1.1 w c).0) (k c))

    pub w_next : AnswersW (half_word edges w 1) (successor w (list_of g (this g w)))
    w_next = half_answer 1 _ (word_next state_e g h.1.1 w)

    pub w_this : AnswersW (half_word edges w 2) (this g w)
    w_this = half_answer 2 _ (word_this state_e g h.1.1 w)

    -- the end of an edge seen from its start, and the start seen from its end
    pub w_that : AnswersW (that_word edges w) (that g w)
    w_that = edge_answer (edge_of w) (8 - 6 * (w % 2)) _ (λ c. elim (same? (w % 2) 0) [
      | same i j ↦
          word_of _ (half_place 2 (in_word (edge_of w))) _ (omega (arith, (edge_row state_e g h.1.1 (edge_of w) c).0)) (omega_is state_e g h.1.1 (edge_of w) c)
          ∙ sym (pick_yes (w % 2) 0 _ _ i)
      | differ i j ↦
          word_of _ (half_place 2 (out_word (edge_of w))) _ (omega (arith, (edge_row state_e g h.1.1 (edge_of w) c).0)) (alpha_is state_e g h.1.1 (edge_of w) c)
          ∙ sym (pick_no (w % 2) 0 _ _ i)
    ])

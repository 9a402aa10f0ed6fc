-- Every answer word is below 2^32.
use Rattle.std.specs.Prelude.{◌==◌}
use Prim.Native.Nat.{ℕ, suc, ◌^◌, ◌≤◌, ◌<◌}
use mathlib.Core.Path.{◌≡◌, refl}
use mathlib.Core.Bool.{Bool, true, false}
use mathlib.Core.List.{List, [], ◌∷◌}
use native.Mathlib.Omega.{arith}
use lib.ListN.{get_or}
use lib.Dec.{leb}
use borrow.Author.Tests.{leb-true}
use Rattle.lists.specs.Choice.{◌⇒◌else◌, to_bit}
use Rattle.lists.specs.Lists.{before, All, done, more}
use Rattle.lists.proofs.Sums.{all_imp, all_bool, bit_le}
use Rattle.lists.proofs.Members.{all_first, all_after}
use Rattle.type_rows.specs.Types.{below}
use Rattle.graph.specs.Graph.{vertex_numbers, edge_numbers, this, list_of}
use Rattle.graph.proofs.Facts.{to_facts}
use Rattle.graph.specs.WellFormed.{Within}
use Rattle.prices.proofs.Ranges.{two_way_range, grade_range}
use Rattle.image.specs.Image.{load}
use Rattle.image.proofs.WordSize.{Word}
use Rattle.history.specs.Machine.{Machine, present, name, holder_of}
use Rattle.commands.specs.declared.HistoryCall.TheVariants.{SetMark, DropMark, Undo, Redo, GoTo, Commit, Between, Standing, Free, NameMark, GoToName, SetBench, MadeBy}
use Rattle.commands.specs.declared.Question.{Question}
use Rattle.commands.specs.declared.Question.TheVariants.{
  FirstVertex,
  NextVertex,
  FirstEdge,
  NextEdge,
  FirstWord,
  NextWord,
  Alpha,
  Omega,
  This,
  That,
  VertexType,
  EdgeType,
  Value,
  ReadingKind,
  Decimetres,
  Degree,
  VertexOrder,
  EdgeOrder,
  WordOrder,
  Below,
}
use Rattle.commands.specs.declared.PriceCall.TheVariants.{Range, Grade}
use Rattle.commands.specs.declared.Command.{Command}
use Rattle.commands.specs.declared.Command.TheVariants.{Alter, History, Ask, Quote, Unknown}
use Rattle.commands.specs.Tables.{Row, lowest}
use Rattle.commands.specs.Commands.{command_of, call_of}
use Rattle.commands.specs.Fits.{WordsFit}
use Rattle.graph.specs.Changes.{cost}
use Rattle.graph.specs.Same.{alters}
use Rattle.history.specs.Machine.{step_of}
use Rattle.machine.specs.Rules.{steps, nothing, deed}
use Rattle.commands.specs.Calls.{Call, calls_of}
use Rattle.machine.specs.Calls.{Parameters, bounds_in}
use Rattle.machine.specs.Codes.{free, code_table, refusal}
use Rattle.machine.specs.Machine.{question_number, deed_of, answer_to, answers, step}
use Rattle.machine.specs.Run.{Lent, parameters_of, Limits, list_refusal, answer_words}
use Rattle.machine.specs.Demand.{begins}
use Rattle.machine.proofs.Graphs.{Formed, present_formed}
use Rattle.machine.proofs.GraphBounds.{vertex_numbers_le, edge_numbers_le, alpha_le, omega_le, this_le, that_le, vertex_type_le, edge_type_le, value_lt, reading_kind_le}
use Rattle.machine.proofs.GraphBounds.{decimetres_le, list_words, degree_le, cost_le}
use Rattle.machine.proofs.Invariant.{Invariant, fresh_invariant, step_invariant, place_le, moved_le, between_le, made_le, free_le, standing_le}
use Rattle.machine.proofs.ListRows.{passed, start_formed}

-- ---- codes

lowest_le : (n : ℕ) (rs : List Row) → All (λ (r : Row). r.code ≤ n) rs → lowest rs ≤ n
lowest_le n [] done = omega arith
lowest_le n (r ∷ rs) (more h hs) = go r.applies (lowest_le n rs hs)
  where
    go : (t : Bool) → lowest rs ≤ n → (t ⇒ r.code else lowest rs) ≤ n
    go true i = h
    go false i = i

pub code_le : (w : Parameters) (m : Machine) (c : Command) → refusal w m c ≤ 20
unfolding refusal
code_le w m c =
    let t = code_table w m (call_of c) in
    lowest_le 20 t (all_bool (λ (r : Row). leb r.code 20) (λ r e. leb-true r.code 20 e) t refl)

-- ---- numbers

module _ (w : Parameters) (m : Machine) (k : Limits w) (i : Invariant w m) where
  here : Formed w (present m)
  here = present_formed w m i.formed

  bits_small : (t : Bool) → to_bit t < 2 ^ 32
  bits_small t = omega (arith, bit_le t)

  vertices_small : All Word (vertex_numbers (present m))
  vertices_small = all_imp (λ n h. omega (arith, k.few_vertices)) (vertex_numbers_le (bounds_in w) (present m) here)

  edges_small : All Word (edge_numbers (present m))
  edges_small = all_imp (λ n h. omega (arith, k.few_edges)) (edge_numbers_le (bounds_in w) (present m) here)

  list_small : (u : ℕ) → All Word (list_of (present m) u)
  list_small u = all_imp (λ n h. omega (arith, h.1, k.few_edges)) (list_words (bounds_in w) (present m) here u)

  ranges : Within (bounds_in w) (present m)
  ranges = (to_facts (bounds_in w) (present m) here).1

  pub question_fits : (q : Question) → question_number w.rows (present m) q < 2 ^ 32
  question_fits FirstVertex = all_first (omega arith) vertices_small
  question_fits (NextVertex a) = all_after (omega arith) a vertices_small
  question_fits FirstEdge = all_first (omega arith) edges_small
  question_fits (NextEdge a) = all_after (omega arith) a edges_small
  question_fits (FirstWord a) = all_first (omega arith) (list_small a)
  question_fits (NextWord a) = all_after (omega arith) a (list_small (this (present m) a))
  question_fits (Alpha a) = omega (arith, alpha_le (bounds_in w) (present m) here a, k.few_vertices)
  question_fits (Omega a) = omega (arith, omega_le (bounds_in w) (present m) here a, k.few_vertices)
  question_fits (This a) = omega (arith, this_le (bounds_in w) (present m) here a, k.few_vertices)
  question_fits (That a) = omega (arith, that_le (bounds_in w) (present m) here a, k.few_vertices)
  question_fits (VertexType a) = omega (arith, vertex_type_le (bounds_in w) (present m) here a, k.few_types)
  question_fits (EdgeType a) = omega (arith, edge_type_le (bounds_in w) (present m) here a, k.few_types)
  question_fits (Value a) = value_lt (bounds_in w) (present m) here a
  question_fits (ReadingKind a) = omega (arith, reading_kind_le (bounds_in w) (present m) here a)
  question_fits (Decimetres a) = omega (arith, decimetres_le (bounds_in w) (present m) here a)
  question_fits (Degree a t c) = omega (arith, degree_le (bounds_in w) (present m) here (λ s. below w.rows s t) c a, k.few_edges)
  question_fits (VertexOrder a b) = bits_small (before a b (vertex_numbers (present m)))
  question_fits (EdgeOrder a b) = bits_small (before a b (edge_numbers (present m)))
  question_fits (WordOrder a b) = bits_small (before a b (list_of (present m) (this (present m) a)))
  question_fits (Below s t) = bits_small (below w.rows s t)

  pub number_fits : (c : Command) → (deed_of w c m).number < 2 ^ 32
  unfolding free
  number_fits (Alter c) = go (alters c (present m))
    where
      go : (t : Bool) → (t ⇒ deed (cost c (present m)) (steps (step_of m.bench c (present m))) else deed 0 nothing).number < 2 ^ 32
      go true = omega (arith, cost_le (bounds_in w) (present m) here c, k.few_edges)
      go false = omega arith
  number_fits (History (SetMark n)) = omega arith
  number_fits (History (DropMark n)) = omega arith
  number_fits (History Undo) = omega arith
  number_fits (History Redo) = omega arith
  number_fits (History (GoTo n)) = omega (arith, moved_le w m i n, k.few_changes)
  number_fits (History Commit) = omega (arith, place_le w m i, k.few_changes)
  number_fits (History (Between a b)) = omega (arith, between_le w m i a b, k.few_changes)
  number_fits (History Standing) = omega (arith, standing_le m.marks)
  number_fits (History Free) = omega (arith, free_le w m, k.few_changes)
  number_fits (History (NameMark n b c)) = omega arith
  number_fits (History (GoToName b c)) = omega (arith, moved_le w m i (holder_of (name b c) m), k.few_changes)
  number_fits (History (SetBench b)) = omega arith
  number_fits (History (MadeBy a b c)) = omega (arith, made_le w m i a b c, k.few_changes)
  number_fits (Ask q) = question_fits q
  number_fits (Quote (Range a b)) = omega (arith, two_way_range (bounds_in w) (present m) ranges a b)
  number_fits (Quote (Grade a b c)) = omega (arith, grade_range (bounds_in w) (present m) ranges a b c)
  number_fits Unknown = omega arith

  -- both words of an answer
  pub answer_fits : (c : Command) → ((answer_to w m c).code < 2 ^ 32) × ((answer_to w m c).number < 2 ^ 32)
  unfolding answer_to
  answer_fits c = (omega (arith, code_le w m c), go (refusal w m c == 0))
    where
      go : (t : Bool) → (t ⇒ (deed_of w c m).number else 0) < 2 ^ 32
      go true = number_fits c
      go false = omega arith

-- ---- a list of calls

pub answers_fit : (w : Parameters) (m : Machine) (xs : List Call) → Limits w → Invariant w m → All WordsFit xs → All Word (answer_words (answers w m xs))
unfolding answers
answers_fit w m [] k i done = done
answers_fit w m (x ∷ xs) k i (more f fs) =
    let a = answer_fits w m k i (command_of x) in
    more a.0 (more a.1 (answers_fit w (step w m x) xs k (step_invariant w m x f i) fs))

-- words of which each has 32 bits
pub all_fit : (ws : List ℕ) → ((i : ℕ) → get_or ws i 0 < 2 ^ 32) → All Word ws
all_fit [] h = done
all_fit (w ∷ ws) h = more (h 0) (all_fit ws (λ i. h (suc i)))

-- calls of words that have 32 bits
pub calls_fit : {ws : List ℕ} → All Word ws → All WordsFit (calls_of ws)
calls_fit (more a (more b (more c (more d (more e s))))) = more (record { b_fits = c; c_fits = d }) (calls_fit s)
calls_fit done = done
calls_fit (more a done) = done
calls_fit (more a (more b done)) = done
calls_fit (more a (more b (more c done))) = done
calls_fit (more a (more b (more c (more d done)))) = done

-- what a list that is not refused begins with
pub begins_invariant : (l : Lent) → list_refusal l ≡ 0 → Invariant (parameters_of l) (begins l)
begins_invariant l e = fresh_invariant (parameters_of l) (load l.start) (start_formed l e)

-- every answer word of it
pub run_answers_fit : (l : Lent) → list_refusal l ≡ 0 → All Word l.calls →
    All Word (answer_words (answers (parameters_of l) (begins l) (calls_of l.calls)))
run_answers_fit l e f = answers_fit (parameters_of l) (begins l) (calls_of l.calls) (passed l e).limits (begins_invariant l e) (calls_fit f)

-- A row of the journal: an edit as ten words of twelve, word 10 the cost of its step, word 11 of a step's first row
-- its bench.
use Rattle.std.specs.Prelude.{ℕ, ◌+◌, ◌*◌, ◌<◌, ◌≡◌, Bool, true, false, List, [], ◌∷◌, get_or, set, ◌==◌}
use Rattle.lists.specs.Choice.{◌⇒◌else◌}
use Rattle.graph.specs.declared.Edit.{Edit}
use Rattle.graph.specs.declared.Edit.TheVariants.{
  InsertVertex,
  RemoveVertex,
  InsertEdge,
  RemoveEdge,
  SetVertex,
  SetEdge,
  MoveVertex,
  MoveEdge,
  MoveWord,
}
use Rattle.graph.specs.Edits.{inverse}
use Rattle.graph.specs.Graph.{reading_kind, decimetres, reading_of}

-- the ten words of an edit: which of the nine it is, and its parts in their order, a reading as kind and decimetres
abbrev pub row_words : Edit → List ℕ
row_words (InsertVertex n t v p) = 1 ∷ n ∷ t ∷ v ∷ p ∷ 0 ∷ 0 ∷ 0 ∷ 0 ∷ 0 ∷ []
row_words (RemoveVertex n t v p) = 2 ∷ n ∷ t ∷ v ∷ p ∷ 0 ∷ 0 ∷ 0 ∷ 0 ∷ 0 ∷ []
row_words (InsertEdge n a z t r p o i) = 3 ∷ n ∷ a ∷ z ∷ t ∷ reading_kind r ∷ decimetres r ∷ p ∷ o ∷ i ∷ []
row_words (RemoveEdge n a z t r p o i) = 4 ∷ n ∷ a ∷ z ∷ t ∷ reading_kind r ∷ decimetres r ∷ p ∷ o ∷ i ∷ []
row_words (SetVertex n t v t' v') = 5 ∷ n ∷ t ∷ v ∷ t' ∷ v' ∷ 0 ∷ 0 ∷ 0 ∷ 0 ∷ []
row_words (SetEdge n t r t' r') =
    6 ∷ n ∷ t ∷ reading_kind r ∷ decimetres r ∷ t' ∷ reading_kind r' ∷ decimetres r' ∷ 0 ∷ 0 ∷ []
row_words (MoveVertex n old new) = 7 ∷ n ∷ old ∷ new ∷ 0 ∷ 0 ∷ 0 ∷ 0 ∷ 0 ∷ 0 ∷ []
row_words (MoveEdge n old new) = 8 ∷ n ∷ old ∷ new ∷ 0 ∷ 0 ∷ 0 ∷ 0 ∷ 0 ∷ 0 ∷ []
row_words (MoveWord w v old u new) = 9 ∷ w ∷ v ∷ old ∷ u ∷ new ∷ 0 ∷ 0 ∷ 0 ∷ 0 ∷ []

-- the edit that ten words are
unfoldable pub edit_of : (k a b c d e f g h i : ℕ) → Edit
edit_of k a b c d e f g h i =
    (k == 1) ⇒ InsertVertex a b c d
    else (k == 2) ⇒ RemoveVertex a b c d
    else (k == 3) ⇒ InsertEdge a b c d (reading_of e f) g h i
    else (k == 4) ⇒ RemoveEdge a b c d (reading_of e f) g h i
    else (k == 5) ⇒ SetVertex a b c d e
    else (k == 6) ⇒ SetEdge a b (reading_of c d) e (reading_of f g)
    else (k == 7) ⇒ MoveVertex a b c
    else (k == 8) ⇒ MoveEdge a b c
    else MoveWord a b c d e

-- an edit, or what undoes it
abbrev pub turned : Bool → Edit → Edit
turned true e = inverse e
turned false e = e

-- the edit that stands at word q
abbrev pub edit_at : List ℕ → ℕ → Edit
edit_at t q =
    edit_of (get_or t (q + 0) 0) (get_or t (q + 1) 0) (get_or t (q + 2) 0) (get_or t (q + 3) 0) (get_or t (q + 4) 0)
    (get_or t (q + 5) 0) (get_or t (q + 6) 0) (get_or t (q + 7) 0) (get_or t (q + 8) 0) (get_or t (q + 9) 0)

-- words stored from word q on
abbrev pub store_from : ℕ → List ℕ → List ℕ → List ℕ
store_from q [] t = t
store_from q (x ∷ l) t = store_from (q + 1) l (set t (q + 0) x)

-- ---- rows, counted from 0

-- what a row says of its step
pub record RowStep : Type 0 where
  pub cost : ℕ

abbrev pub costing : ℕ → RowStep
costing c = record { cost = c }

-- the edit of row i, and what it says of its step
unfoldable pub row_at : List ℕ → ℕ → Edit
row_at t i = edit_at t (12 * i)

unfoldable pub step_at : List ℕ → ℕ → RowStep
step_at t i = costing (get_or t (12 * i + 10) 0)

-- the words with row i written
unfoldable pub rowed : ℕ → Edit → RowStep → List ℕ → List ℕ
rowed i e x t = set (store_from (12 * i) (row_words e) t) (12 * i + 10) x.cost

-- the bench of the step that begins with row i
unfoldable pub bench_at : List ℕ → ℕ → ℕ
bench_at t i = get_or t (12 * i + 11) 0

-- the words with the bench of the step that begins with row i
unfoldable pub signed : ℕ → ℕ → List ℕ → List ℕ
signed i b t = set t (12 * i + 11) b

-- the words below row u are as they were
abbrev pub SameBelow : ℕ → List ℕ → List ℕ → Type 0
SameBelow u t t' = (j : ℕ) → j < 12 * u → get_or t' j 0 ≡ get_or t j 0

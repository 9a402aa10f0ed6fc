-- A row that was written is read back, and the rows before it stand.
use Prim.Native.Nat.{ℕ, zero, suc, ◌+◌, ◌*◌, ◌≤◌, ◌<◌}
use mathlib.Core.Path.{◌≡◌, refl, sym, ap, ◌∙◌}
use mathlib.Core.List.{List, [], ◌∷◌}
use native.Mathlib.Omega.{arith}
use lib.ListN.{length, get_or, set, length-set, take, drop}
use lib.Seq.{get_or-set_same, get_or-set_other, get_or-take, get_or-drop}
use Rattle.graph.specs.declared.Reading.{Reading}
use Rattle.graph.specs.declared.Edit.{Edit}
use Rattle.graph.specs.declared.Edit.TheVariants.{InsertVertex, RemoveVertex, InsertEdge, RemoveEdge, SetVertex, SetEdge, MoveVertex, MoveEdge, MoveWord}
use Rattle.graph.specs.Graph.{reading_kind, decimetres, reading_of, IsWords}
use Rattle.graph.proofs.Readings.{reading_back}
use Rattle.journal.proofs.Stamps.{stamped_row, stamped_cost}
use Rattle.journal.specs.Rows.{row_words, edit_of, edit_at, store_from, RowStep, costing, row_at, step_at, rowed, bench_at, signed, SameBelow}

-- ---- words stored one after another

pub store_length : (q : ℕ) (l t : List ℕ) → length (store_from q l t) ≡ length t
store_length q [] t = refl
store_length q (x ∷ l) t = store_length (q + 1) l (set t (q + 0) x) ∙ simp length-set

store_before : (q : ℕ) (l t : List ℕ) (j : ℕ) → j < q → get_or (store_from q l t) j 0 ≡ get_or t j 0
store_before q [] t j h = refl
store_before q (x ∷ l) t j h = store_before (q + 1) l (set t (q + 0) x) j (omega arith) ∙ get_or-set_other t (q + 0) j x 0 (λ e. omega arith)

store_at : (q : ℕ) (l t : List ℕ) (i : ℕ) → i < length l → q + length l ≤ length t → get_or (store_from q l t) (q + i) 0 ≡ get_or l i 0
store_at q [] t i h f = absurd (omega arith)
store_at q (x ∷ l) t zero h f = store_before (q + 1) l (set t (q + 0) x) (q + 0) (omega arith) ∙ get_or-set_same t (q + 0) x 0 (omega arith)
store_at q (x ∷ l) t (suc i) h f =
    let e : q + suc i ≡ q + 1 + i = omega arith in
    rw e (store_at (q + 1) l (set t (q + 0) x) i (omega arith) (simp length-set (omega arith)))

store_next : (q : ℕ) (l t : List ℕ) (i : ℕ) → i < length l → store_from q (take (suc i) l) t ≡ set (store_from q (take i l) t) (q + i) (get_or l i 0)
store_next q [] t i h = absurd (omega arith)
store_next q (x ∷ l) t zero h = refl
store_next q (x ∷ l) t (suc i) h =
    let e : q + suc i ≡ q + 1 + i = omega arith in
    rw e (store_next (q + 1) l (set t (q + 0) x) i (omega arith))

-- one word more
pub store_more : (q : ℕ) (l t : List ℕ) (i : ℕ) → i < length l → store_from q (take (i + 1) l) t ≡ set (store_from q (take i l) t) (q + i) (get_or l i 0)
store_more q l t i h = let e : i + 1 ≡ suc i = omega arith in rw e (store_next q l t i h)

-- ---- an edit as words, and back

pub words_length : (e : Edit) → length (row_words e) ≡ 10
words_length (InsertVertex n t v p) = refl
words_length (RemoveVertex n t v p) = refl
words_length (InsertEdge n a z t r p o i) = refl
words_length (RemoveEdge n a z t r p o i) = refl
words_length (SetVertex n t v t' v') = refl
words_length (SetEdge n t r t' r') = refl
words_length (MoveVertex n old new) = refl
words_length (MoveEdge n old new) = refl
words_length (MoveWord w v old u new) = refl

-- the edit of a list of ten words
abbrev pub listed : List ℕ → Edit
listed l = edit_of (get_or l 0 0) (get_or l 1 0) (get_or l 2 0) (get_or l 3 0) (get_or l 4 0) (get_or l 5 0) (get_or l 6 0) (get_or l 7 0) (get_or l 8 0) (get_or l 9 0)

-- decoding is the inverse of encoding
pub listed_words : (e : Edit) → listed (row_words e) ≡ e
unfolding edit_of
listed_words (InsertVertex n t v p) = refl
listed_words (RemoveVertex n t v p) = refl
listed_words (InsertEdge n a z t r p o i) = ap (λ (x : Reading). InsertEdge n a z t x p o i) (reading_back r)
listed_words (RemoveEdge n a z t r p o i) = ap (λ (x : Reading). RemoveEdge n a z t x p o i) (reading_back r)
listed_words (SetVertex n t v t' v') = refl
listed_words (SetEdge n t r t' r') = ap (λ (x : Reading). SetEdge n t x t' (reading_of (reading_kind r') (decimetres r'))) (reading_back r) ∙ ap (λ (x : Reading). SetEdge n t r t' x) (reading_back r')
listed_words (MoveVertex n old new) = refl
listed_words (MoveEdge n old new) = refl
listed_words (MoveWord w v old u new) = refl

-- the edit at a word, from the ten words there
edit_at_lem : (t l : List ℕ) (q : ℕ) → ((i : ℕ) → i < 10 → get_or t (q + i) 0 ≡ get_or l i 0) → edit_at t q ≡ listed l
edit_at_lem t l q at =
    rw (
      at 0 (omega arith),
      at 1 (omega arith),
      at 2 (omega arith),
      at 3 (omega arith),
      at 4 (omega arith),
      at 5 (omega arith),
      at 6 (omega arith),
      at 7 (omega arith),
      at 8 (omega arith),
      at 9 (omega arith),
    )

-- the edit of the ten words from word q on
pub part_edit : (t : List ℕ) (q n : ℕ) → n ≡ 10 → edit_at (take n (drop q t)) 0 ≡ edit_at t q
part_edit t q n e = sym (edit_at_lem t (take n (drop q t)) q (λ i h. sym (get_or-take n (drop q t) i 0 (omega (arith, e, h)) ∙ get_or-drop q t i 0)))

-- ---- words that agree below row u

pub below_less : (u v : ℕ) (t t' : List ℕ) → v ≤ u → SameBelow u t t' → SameBelow v t t'
below_less u v t t' h b j l = b j (omega arith)

pub row_agree : (u i : ℕ) (t t' : List ℕ) → SameBelow u t t' → i < u → row_at t' i ≡ row_at t i
unfolding row_at
row_agree u i t t' b h =
    rw (
      b (12 * i + 0) (omega arith),
      b (12 * i + 1) (omega arith),
      b (12 * i + 2) (omega arith),
      b (12 * i + 3) (omega arith),
      b (12 * i + 4) (omega arith),
      b (12 * i + 5) (omega arith),
      b (12 * i + 6) (omega arith),
      b (12 * i + 7) (omega arith),
      b (12 * i + 8) (omega arith),
      b (12 * i + 9) (omega arith),
    )

pub step_at_agree : (u i : ℕ) (t t' : List ℕ) → SameBelow u t t' → i < u → step_at t' i ≡ step_at t i
unfolding step_at
step_at_agree u i t t' b h = ap costing (b (12 * i + 10) (omega arith))

-- ---- row u is written

module _ (u : ℕ) (e : Edit) (x : RowStep) (t t' : List ℕ) (q : t' ≡ rowed u e x t) (room : 12 * u + 12 ≤ length t) where
  pub rowed_length : length t' ≡ length t
  unfolding rowed
  rowed_length = rw q (simp (length-set, store_length (12 * u) (row_words e) t))

  pub rowed_below : SameBelow u t t'
  unfolding rowed
  rowed_below j l = rw q (get_or-set_other (store_from (12 * u) (row_words e) t) (12 * u + 10) j x.cost 0 (λ p. omega arith) ∙ store_before (12 * u) (row_words e) t j l)

  pub rowed_step : step_at t' u ≡ x
  unfolding rowed step_at
  rowed_step = rw q (ap costing (get_or-set_same (store_from (12 * u) (row_words e) t) (12 * u + 10) x.cost 0 (omega (arith, store_length (12 * u) (row_words e) t))))

  pub rowed_row : row_at t' u ≡ e
  unfolding rowed row_at
  rowed_row =
      let w = store_from (12 * u) (row_words e) t in
      edit_at_lem t' (row_words e) (12 * u) (λ i h. rw q (get_or-set_other w (12 * u + 10) (12 * u + i) x.cost 0 (λ p. omega arith)
      ∙ store_at (12 * u) (row_words e) t i (omega (arith, words_length e)) (omega (arith, words_length e))))
      ∙ listed_words e

-- ---- the bench of the step that begins with row u

pub bench_at_agree : (u i : ℕ) (t t' : List ℕ) → SameBelow u t t' → i < u → bench_at t' i ≡ bench_at t i
unfolding bench_at
bench_at_agree u i t t' b h = b (12 * i + 11) (omega arith)

module _ (u x : ℕ) (t : List ℕ) where
  pub signed_length : length (signed u x t) ≡ length t
  unfolding signed
  signed_length = length-set t (12 * u + 11) x

  pub signed_below : SameBelow u t (signed u x t)
  unfolding signed
  signed_below j l = get_or-set_other t (12 * u + 11) j x 0 (λ p. omega arith)

  pub signed_row : (i : ℕ) → row_at (signed u x t) i ≡ row_at t i
  unfolding signed
  signed_row i = stamped_row t u i x

  pub signed_step : (i : ℕ) → step_at (signed u x t) i ≡ step_at t i
  unfolding signed
  signed_step i = stamped_cost t u i x

  pub signed_bench : 12 * u + 12 ≤ length t → bench_at (signed u x t) u ≡ x
  unfolding signed bench_at
  signed_bench h = get_or-set_same t (12 * u + 11) x 0 (omega arith)

-- ---- a row, word by word

pub rowed_by : (i : ℕ) (e : Edit) (c : ℕ) (t t' l : List ℕ) → l ≡ row_words e → t' ≡ set (store_from (12 * i) l t) (12 * i + 10) c → t' ≡ rowed i e (costing c) t
unfolding rowed
rowed_by i e c t t' l q p = p ∙ ap (λ (x : List ℕ). set (store_from (12 * i) x t) (12 * i + 10) c) q

pub edge_words : (n s k d s' k' d' : ℕ) → IsWords k d → IsWords k' d' → 6 ∷ n ∷ s ∷ k ∷ d ∷ s' ∷ k' ∷ d' ∷ 0 ∷ 0 ∷ [] ≡ row_words (SetEdge n s (reading_of k d) s' (reading_of k' d'))
edge_words n s k d s' k' d' w v = λ j. 6 ∷ n ∷ s ∷ sym w.0 j ∷ sym w.1 j ∷ s' ∷ sym v.0 j ∷ sym v.1 j ∷ 0 ∷ 0 ∷ []

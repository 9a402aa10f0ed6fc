-- Rows are read back as the edges.
use Rattle.std.specs.Prelude.{◌==◌}
use Prim.Native.Nat.{ℕ, zero, suc, ◌+◌, ◌/◌, ◌%◌, ◌^◌, ◌≤◌, ◌<◌}
use mathlib.Core.Path.{◌≡◌, refl, sym, ap, ap₂, ◌∙◌}
use mathlib.Core.Bool.{Bool, true, false}
use mathlib.Core.List.{List, [], ◌∷◌, ◌++◌, append_assoc}
use native.Mathlib.Omega.{arith}
use lib.ListN.{length, get_or, take, drop, length-append}
use lib.Seq.{take_at, drop_at, get_or_at}
use lib.Dec.{ltb}
use borrow.Author.Tests.{ltb-true, ltb-false, ne_eqb}
use Rattle.lists.specs.Choice.{◌⇒◌else◌}
use Rattle.lists.specs.Lists.{concat_map, All, done, more}
use Rattle.decimal.specs.Decimal.{value_of}
use Rattle.graph.specs.Graph.{Edge, decimetres}
use Rattle.graph.specs.declared.Reading.{Reading}
use Rattle.graph.specs.declared.Reading.TheVariants.{Untested, Silent, Heard}
use Rattle.page.specs.Rows.{right_aligned, column, cell, reading_text, reading_column, row_of}
use Rattle.page.proofs.RowLaws.{row_length}
use Rattle.page.proofs.Columns.{column_length, column_back, column_one, column_more, reading_length}

-- the reading in six columns, told by the last byte
pub read_reading : List ℕ → Reading
read_reading bs = (get_or bs 5 0 == 45) ⇒ Untested else (get_or bs 5 0 == 116) ⇒ Silent else Heard (value_of 0 bs)

-- the edge of a row
pub read_row : List ℕ → Edge
unfolding read_reading
read_row bs = record {
  number = value_of 0 (take 4 bs);
  alpha = value_of 0 (take 4 (drop 5 bs));
  omega = value_of 0 (take 4 (drop 5 (drop 5 bs)));
  type = value_of 0 (take 2 (drop 5 (drop 5 (drop 5 bs))));
  reading = read_reading (take 6 (drop 3 (drop 5 (drop 5 (drop 5 bs)))));
}

pub read_rows : ℕ → List ℕ → List Edge
unfolding read_row
read_rows zero bs = []
read_rows (suc k) bs = read_row bs ∷ read_rows k (drop 25 bs)

-- what a page can show of an edge
pub record Shown (e : Edge) : Type 0 where
  pub number : e.number < 10 ^ 4
  pub alpha : e.alpha < 10 ^ 4
  pub omega : e.omega < 10 ^ 4
  pub type : e.type < 10 ^ 2
  pub reading : decimetres e.reading < 10 ^ 6

-- ---- a field: what is behind a column and its space

past : (w : ℕ) (xs ys : List ℕ) (s : ℕ) → length xs ≡ w → drop (suc w) (xs ++ (s ∷ ys)) ≡ ys
past w xs ys s e =
    ap (drop (suc w)) (sym (append_assoc xs (s ∷ []) ys))
    ∙ drop_at (xs ++ (s ∷ [])) ys (suc w) (omega (arith, length-append xs (s ∷ []), e))

field : (w n : ℕ) (ys : List ℕ) → n < 10 ^ w → value_of 0 (take w (column w n ++ ys)) ≡ n
field w n ys h = ap (value_of 0) (take_at (column w n) ys w (column_length w n)) ∙ column_back w n h

-- ---- the reading

-- the last byte of a number's six columns is a digit
last_digit : (n : ℕ) → (get_or (column 6 n) 5 0 ≡ 48 + n % 10)
last_digit n = go (ltb n 10) refl
  where
    go : (t : Bool) → ltb n 10 ≡ t → get_or (column 6 n) 5 0 ≡ 48 + n % 10
    go true e =
        let h = ltb-true n 10 e in
        ap (λ (l : List ℕ). get_or l 5 0) (column_one 5 n h) ∙ omega arith
    go false e =
        let h : 10 ≤ n = omega (arith, ltb-false n 10 e) in
        ap (λ (l : List ℕ). get_or l 5 0) (column_more 5 n h)
        ∙ get_or_at (column 5 (n / 10)) (48 + n % 10) [] 0 5 (column_length 5 (n / 10))

heard_back : (d : ℕ) (bs : List ℕ) → get_or bs 5 0 ≡ 48 + d % 10 → value_of 0 bs ≡ d → read_reading bs ≡ Heard d
unfolding read_reading
heard_back d bs l v =
    rw (ne_eqb (get_or bs 5 0) 45 (λ z. omega arith), ne_eqb (get_or bs 5 0) 116 (λ z. omega arith)) (ap Heard v)

six : (d : ℕ) → column 6 d ≡ reading_column (Heard d)
unfolding column reading_column reading_text
six d = refl

reading_back : (r : Reading) → decimetres r < 10 ^ 6 → read_reading (reading_column r) ≡ r
unfolding read_reading reading_column reading_text right_aligned
reading_back Untested h = refl
reading_back Silent h = refl
reading_back (Heard d) h = ap read_reading (sym (six d)) ∙ heard_back d (column 6 d) (last_digit d) (column_back 6 d h)

-- ---- a row

module _ (e : Edge) (h : Shown e) (rest : List ℕ) where
  -- what stands from each column on
  r : List ℕ
  r = reading_column e.reading ++ (10 ∷ rest)

  t : List ℕ
  t = column 2 e.type ++ (32 ∷ r)

  o : List ℕ
  o = column 4 e.omega ++ (32 ∷ t)

  a : List ℕ
  a = column 4 e.alpha ++ (32 ∷ o)

  n : List ℕ
  n = column 4 e.number ++ (32 ∷ a)

  row_parts : row_of e ++ rest ≡ n
  unfolding row_of cell n a o t r
  row_parts = simp append_assoc

  to_a : drop 5 n ≡ a
  unfolding n
  to_a = past 4 (column 4 e.number) a 32 (column_length 4 e.number)

  to_o : drop 5 a ≡ o
  unfolding a
  to_o = past 4 (column 4 e.alpha) o 32 (column_length 4 e.alpha)

  to_t : drop 5 o ≡ t
  unfolding o
  to_t = past 4 (column 4 e.omega) t 32 (column_length 4 e.omega)

  to_r : drop 3 t ≡ r
  unfolding t
  to_r = past 2 (column 2 e.type) r 32 (column_length 2 e.type)

  at_number : value_of 0 (take 4 n) ≡ e.number
  unfolding n
  at_number = field 4 e.number (32 ∷ a) h.number

  at_alpha : value_of 0 (take 4 a) ≡ e.alpha
  unfolding a
  at_alpha = field 4 e.alpha (32 ∷ o) h.alpha

  at_omega : value_of 0 (take 4 o) ≡ e.omega
  unfolding o
  at_omega = field 4 e.omega (32 ∷ t) h.omega

  at_type : value_of 0 (take 2 t) ≡ e.type
  unfolding t
  at_type = field 2 e.type (32 ∷ r) h.type

  at_reading : read_reading (take 6 r) ≡ e.reading
  unfolding r
  at_reading =
      ap read_reading (take_at (reading_column e.reading) (10 ∷ rest) 6 (reading_length e.reading))
      ∙ reading_back e.reading h.reading

  pub row_back : read_row (row_of e ++ rest) ≡ e
  unfolding read_row
  row_back = rw (row_parts, to_a, to_o, to_t, to_r, at_number, at_alpha, at_omega, at_type, at_reading)

-- ---- rows

pub rows_back : (es : List Edge) → All Shown es → read_rows (length es) (concat_map row_of es) ≡ es
unfolding read_rows
rows_back [] done = refl
rows_back (e ∷ es) (more h a) =
    ap₂ ◌∷◌ (row_back e h (concat_map row_of es))
    (ap (read_rows (length es)) (drop_at (row_of e) (concat_map row_of es) 25 (row_length e)) ∙ rows_back es a)

-- Which rows are taken, as facts, and what a verdict tells.
use Prim.Native.Nat.{ℕ, zero, suc, ◌+◌, ◌/◌, ◌%◌, ◌^◌, ◌≤◌, ◌<◌}
use mathlib.Core.Path.{◌≡◌, refl, sym, ◌∙◌}
use mathlib.Core.Logic.{◌↔◌}
use mathlib.Core.Bool.{Bool, true, false}
use mathlib.Core.List.{List, [], ◌∷◌}
use native.Mathlib.Omega.{arith}
use native.Mathlib.Nat.{pow-suc, div-eq_of_lt, div-lt_iff_lt-mul, add-zero, add-suc, lt_of_lt_of_le, mod-eq_of_lt}
use lib.Dec.{eqb, ltb, leb}
use lib.ListN.{length, get_or, get_or-eq_default}
use Rattle.std.specs.Prelude.{EachIndex}
use lib.Pow.{pow_pos, pow_mono}
use borrow.Author.Tests.{lt-ltb, ltb-true, ltb-false, le-leb, leb-true, eq-eqb, ne_eqb}
use Rattle.lists.specs.Choice.{◌⇒◌else◌, within}
use Rattle.lists.specs.Lists.{all}
use Rattle.lists.proofs.Bools.{tf, and_true, and_both}
use Rattle.type_rows.specs.Rows.{row_fits, good_rows, rows_code}
use Rattle.type_rows.proofs.Words.{high_bits}

-- ---- a row

none_left : (n row : ℕ) → row / 2 ^ n ≡ 0 → row < 2 ^ n
none_left n row e =
    let q : row / 2 ^ n < 1 = omega arith in
    omega (arith, (div-lt_iff_lt-mul {x = row} {y = 1} (pow_pos n)).0 q)

-- a number is 0 after a shift by n where it has no bit n or above
pub shift_fits : (n row : ℕ) → eqb (row / 2 ^ n) 0 ≡ row_fits n row
shift_fits n row = go (ltb row (2 ^ n)) refl
  where
    go : (b : Bool) → ltb row (2 ^ n) ≡ b → eqb (row / 2 ^ n) 0 ≡ b
    go true l = eq-eqb _ _ (div-eq_of_lt (ltb-true row (2 ^ n) l))
    go false l = ne_eqb _ _ (λ e. omega (arith, ltb-false row (2 ^ n) l, none_left n row e))

under_power : (w : ℕ) → w < 2 ^ w
under_power zero = omega arith
under_power (suc w) = omega (arith, under_power w, pow-suc 2 w)

-- one bit after another, from above
fewer_bits : (n d w : ℕ) → ((t : ℕ) → n ≤ t → w / 2 ^ t % 2 ≡ 0) → w < 2 ^ (n + d) → w < 2 ^ n
fewer_bits n zero w h l = rw (add-zero n) at l
fewer_bits n (suc d) w h l =
    let l' : w < 2 ^ suc (n + d) = rw (add-suc n d) at l in
    let q : w / 2 ^ (n + d) < 2 = (div-lt_iff_lt-mul (pow_pos (n + d))).1 (omega (arith, l', pow-suc 2 (n + d))) in
    let z : w / 2 ^ (n + d) ≡ 0 = sym (mod-eq_of_lt q) ∙ h (n + d) (omega arith) in
    fewer_bits n d w h (none_left (n + d) w z)

-- `row_fits` says in the document's words: no bit n or above
pub fits_bits : (n row : ℕ) → (row_fits n row ≡ true) ↔ ((t : ℕ) → n ≤ t → row / 2 ^ t % 2 ≡ 0)
fits_bits n row = (
  λ e t i. high_bits row n t (ltb-true row (2 ^ n) e) i,
  λ h. lt-ltb row (2 ^ n) (fewer_bits n row row h (lt_of_lt_of_le (under_power row) (pow_mono {i = row} {j = n + row} (omega arith)))),
)

-- ---- all rows

pub record RowFacts (rows : List ℕ) : Type 0 where
  pub some : 1 ≤ length rows
  pub few : length rows ≤ 64
  pub fits : (s : ℕ) → get_or rows s 0 < 2 ^ length rows

all_fit : (n s : ℕ) (rows : List ℕ) → all (row_fits n) rows ≡ true → get_or rows s 0 < 2 ^ n
all_fit n s [] e = pow_pos n
all_fit n zero (row ∷ rows) e = ltb-true row (2 ^ n) (and_true (row_fits n row) (all (row_fits n) rows) e).0
all_fit n (suc s) (row ∷ rows) e = all_fit n s rows (and_true (row_fits n row) (all (row_fits n) rows) e).1

fit_all : (n : ℕ) (rows : List ℕ) → ((s : ℕ) → get_or rows s 0 < 2 ^ n) → all (row_fits n) rows ≡ true
fit_all n [] h = refl
fit_all n (row ∷ rows) h = and_both _ _ (lt-ltb row (2 ^ n) (h 0)) (fit_all n rows (λ s. h (suc s)))

pub good_facts : (rows : List ℕ) → good_rows rows ≡ true → RowFacts rows
unfolding good_rows
good_facts rows e =
    let n = length rows in
    let a = and_true (within 1 64 n) (all (row_fits n) rows) e in
    let b = and_true (leb 1 n) (leb n 64) a.0 in
    record {
      some = leb-true 1 n b.0;
      few = leb-true n 64 b.1;
      fits = λ s. all_fit n s rows a.1;
    }

pub facts_good : (rows : List ℕ) → RowFacts rows → good_rows rows ≡ true
unfolding good_rows
facts_good rows h =
    and_both _ _ (and_both _ _ (le-leb 1 (length rows) h.some) (le-leb (length rows) 64 h.few)) (fit_all (length rows) rows h.fits)

-- ---- the code of rows

pub verdict_good : (rows : List ℕ) → rows_code rows ≡ 0 → good_rows rows ≡ true
verdict_good rows e = go (good_rows rows) e
  where
    go : (b : Bool) → ◌≡◌ {A = ℕ} (b ⇒ 0 else 104) 0 → b ≡ true
    go true f = refl
    go false f = absurd (omega arith)

pub verdict_bad : (rows : List ℕ) → rows_code rows ≡ 104 → good_rows rows ≡ false
verdict_bad rows e = go (good_rows rows) e
  where
    go : (b : Bool) → ◌≡◌ {A = ℕ} (b ⇒ 0 else 104) 104 → b ≡ false
    go true f = absurd (omega arith)
    go false f = refl

-- ---- the answer of `are_good`: what a test of every row, and what the number of rows alone answers

every_row : (rows : List ℕ) → EachIndex rows (λ s. get_or rows s 0 < 2 ^ length rows) → (s : ℕ) → get_or rows s 0 < 2 ^ length rows
every_row rows h s = go (ltb s (length rows)) refl
  where
    go : (b : Bool) → ltb s (length rows) ≡ b → get_or rows s 0 < 2 ^ length rows
    go true l = h s (ltb-true s (length rows) l)
    go false l = rw (get_or-eq_default rows 0 (ltb-false s (length rows) l)) (pow_pos (length rows))

none_good : (rows : List ℕ) → (good_rows rows ≡ true → ⊥) → false ≡ good_rows rows
none_good rows h = go (good_rows rows) refl
  where
    go : (b : Bool) → good_rows rows ≡ b → false ≡ b
    go true e = absurd (h e)
    go false e = refl

pub good_by : (rows : List ℕ) (b : Bool) → 1 ≤ length rows → length rows ≤ 64
    → (b ≡ true ↔ EachIndex rows (λ s. get_or rows s 0 < 2 ^ length rows)) → b ≡ good_rows rows
good_by rows true some few h = sym (facts_good rows (record { some = some; few = few; fits = every_row rows (h.0 refl) }))
good_by rows false some few h = none_good rows (λ e. tf (sym (h.1 (λ s l. (good_facts rows e).fits s))))

pub bad_by : (rows : List ℕ) → (1 ≤ length rows → 64 < length rows) → false ≡ good_rows rows
bad_by rows h = none_good rows (λ e. let f = good_facts rows e in omega (arith, h f.some, f.few))

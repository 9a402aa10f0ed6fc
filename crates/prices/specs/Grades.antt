-- Grades by printed tables of lower limits: one limit a grade, from grade 0 on.
use Rattle.std.specs.Prelude.{ℕ, suc, ◌+◌, ◌-◌, ◌*◌, ◌≤◌, ◌<◌, Bool, true, false, ◌&&◌, List, [], ◌∷◌, length, get_or, leb, ltb, ◌==◌}
use Rattle.lists.specs.Choice.{◌⇒◌else◌, to_bit}
use Rattle.lists.specs.Lists.{sum_of}

-- ---- the tables as printed; behind each limit its grade

unfoldable pub old_limits : List ℕ
old_limits =
    0 ∷  -- 0
    250 ∷  -- 1
    500 ∷  -- 2
    750 ∷  -- 3
    1000 ∷  -- 4
    1250 ∷  -- 5
    1500 ∷  -- 6
    1750 ∷  -- 7
    2000 ∷  -- 8
    2250 ∷  -- 9
    2500 ∷  -- 10
    2750 ∷  -- 11
    3000 ∷  -- 12
    3250 ∷  -- 13
    3500 ∷  -- 14
    3750 ∷  -- 15
    4000 ∷  -- 16
    4250 ∷  -- 17
    4500 ∷  -- 18
    4750 ∷  -- 19
    5000 ∷  -- 20
    5250 ∷  -- 21
    5500 ∷  -- 22
    5750 ∷  -- 23
    6000 ∷  -- 24
    6250 ∷  -- 25
    6500 ∷  -- 26
    6750 ∷  -- 27
    7000 ∷  -- 28
    7250 ∷  -- 29
    7500 ∷  -- 30
    7750 ∷  -- 31
    8000 ∷  -- 32
    8250 ∷  -- 33
    8500 ∷  -- 34
    8750 ∷  -- 35
    9000 ∷  -- 36
    9250 ∷  -- 37
    9500 ∷  -- 38
    9750 ∷  -- 39
    []

unfoldable pub new_limits : List ℕ
new_limits =
    0 ∷  -- 0
    200 ∷  -- 1
    400 ∷  -- 2
    600 ∷  -- 3
    800 ∷  -- 4
    1000 ∷  -- 5
    1200 ∷  -- 6
    1400 ∷  -- 7
    1600 ∷  -- 8
    1800 ∷  -- 9
    2000 ∷  -- 10
    2200 ∷  -- 11
    2400 ∷  -- 12
    2600 ∷  -- 13
    2800 ∷  -- 14
    3000 ∷  -- 15
    3200 ∷  -- 16
    3400 ∷  -- 17
    3600 ∷  -- 18
    3800 ∷  -- 19
    4000 ∷  -- 20
    4200 ∷  -- 21
    4400 ∷  -- 22
    4600 ∷  -- 23
    4800 ∷  -- 24
    5000 ∷  -- 25
    5200 ∷  -- 26
    5400 ∷  -- 27
    5600 ∷  -- 28
    5800 ∷  -- 29
    6000 ∷  -- 30
    6200 ∷  -- 31
    6400 ∷  -- 32
    6600 ∷  -- 33
    6800 ∷  -- 34
    7000 ∷  -- 35
    7200 ∷  -- 36
    7400 ∷  -- 37
    7600 ∷  -- 38
    7800 ∷  -- 39
    8000 ∷  -- 40
    8200 ∷  -- 41
    8400 ∷  -- 42
    8600 ∷  -- 43
    8800 ∷  -- 44
    9000 ∷  -- 45
    9200 ∷  -- 46
    9400 ∷  -- 47
    9600 ∷  -- 48
    9800 ∷  -- 49
    []

-- the table of a price list by its number: 2 is the new one, 0 and 1 are the old
abbrev pub limits_of : ℕ → List ℕ
limits_of c = (c == 2) ⇒ new_limits else old_limits

-- ---- a grade by any table

-- how many limits are not above the range
abbrev pub reached : List ℕ → ℕ → ℕ
reached ls range = sum_of (λ l. to_bit (leb l range)) ls

-- the last line whose limit is not above the range; the first line is grade 0
unfoldable pub grade_by : List ℕ → ℕ → ℕ
grade_by ls range = reached ls range - 1

-- g is a line of the table, its limit is not above the range r, and the next line's is
pub record Graded (ls : List ℕ) (r g : ℕ) : Type 0 where
  pub line : g < length ls
  pub limit : get_or ls g 0 ≤ r
  pub next : g + 1 < length ls → r < get_or ls (g + 1) 0

-- each limit is above the one before it, the first above p
abbrev pub rises_from : ℕ → List ℕ → Bool
rises_from p [] = true
rises_from p (l ∷ ls) = ltb p l && rises_from l ls

-- a table begins with 0 and rises
abbrev pub rising : List ℕ → Bool
rising [] = false
rising (l ∷ ls) = (l == 0) && rises_from l ls

-- line i and those after it have the limits i × d, (i + 1) × d, ..
abbrev pub multiples_from : ℕ → ℕ → List ℕ → Bool
multiples_from d i [] = true
multiples_from d i (l ∷ ls) = (l == i * d) && multiples_from d (suc i) ls

-- Two images of one path and what they say of each other, by computation. The first has old records, the second new
-- ones. Edge 1 is heard at 100 and 110, edge 2 goes the other way round, edge 3 is untested and silent, edge 5 heard
-- and untested, edge 4 is only in the second.
use Prim.Native.Nat.{ℕ}
use mathlib.Core.Path.{◌≡◌, refl}
use mathlib.Core.List.{List, [], ◌∷◌}
use lib.ListN.{set}
use Rattle.lists.specs.Choice.{if_equal}
use Rattle.image.specs.Image.{load}
use Rattle.image_check.specs.Checks.{verdict}
use Rattle.comparison.specs.declared.Compared.{Compared}
use Rattle.comparison.specs.Comparison.{refused, comparison}

one : List ℕ
one =
    2 ∷ 4 ∷ 6 ∷ 12 ∷ 36 ∷ 44
    ∷ 1 ∷ 0 ∷ 0
    ∷ 2 ∷ 0 ∷ 0
    ∷ 1 ∷ 1 ∷ 2 ∷ 0 ∷ 2 ∷ 100
    ∷ 2 ∷ 2 ∷ 1 ∷ 0 ∷ 1 ∷ 0
    ∷ 3 ∷ 1 ∷ 1 ∷ 0 ∷ 0 ∷ 0
    ∷ 5 ∷ 1 ∷ 2 ∷ 0 ∷ 2 ∷ 50
    ∷ 2 ∷ 5 ∷ 6 ∷ 7 ∷ 10 ∷ 3 ∷ 4 ∷ 11
    ∷ []

two : List ℕ
two =
    2 ∷ 5 ∷ 6 ∷ 14 ∷ 44 ∷ 54
    ∷ 2 ∷ 0 ∷ 0 ∷ 5
    ∷ 1 ∷ 0 ∷ 0 ∷ 5
    ∷ 5 ∷ 1 ∷ 2 ∷ 0 ∷ 0 ∷ 0
    ∷ 1 ∷ 1 ∷ 2 ∷ 0 ∷ 2 ∷ 110
    ∷ 2 ∷ 1 ∷ 2 ∷ 0 ∷ 1 ∷ 0
    ∷ 3 ∷ 1 ∷ 1 ∷ 0 ∷ 1 ∷ 0
    ∷ 4 ∷ 2 ∷ 2 ∷ 0 ∷ 0 ∷ 0
    ∷ 11 ∷ 3 ∷ 5 ∷ 8 ∷ 9 ∷ 10 ∷ 2 ∷ 4 ∷ 6 ∷ 7
    ∷ []

new_one : List ℕ
new_one =
    2 ∷ 4 ∷ 6 ∷ 14 ∷ 38 ∷ 46
    ∷ 1 ∷ 0 ∷ 0 ∷ 5
    ∷ 2 ∷ 0 ∷ 0 ∷ 3
    ∷ 1 ∷ 1 ∷ 2 ∷ 0 ∷ 2 ∷ 100
    ∷ 2 ∷ 2 ∷ 1 ∷ 0 ∷ 1 ∷ 0
    ∷ 3 ∷ 1 ∷ 1 ∷ 0 ∷ 0 ∷ 0
    ∷ 5 ∷ 1 ∷ 2 ∷ 0 ∷ 2 ∷ 50
    ∷ 2 ∷ 5 ∷ 6 ∷ 7 ∷ 10 ∷ 3 ∷ 4 ∷ 11
    ∷ []

abbrev counts : ℕ → ℕ → ℕ → ℕ → Compared
counts matched agreeing first second = record { code = 0; matched = matched; agreeing = agreeing; first = first; second = second }

-- ten apart: at most ten, and not at most nine
at_ten : comparison one two 10 ≡ counts 3 1 1 2
unfolding one two comparison verdict load if_equal
at_ten = refl

at_nine : comparison one two 9 ≡ counts 3 0 1 2
unfolding one two comparison verdict load if_equal
at_nine = refl

turned : comparison two one 10 ≡ counts 3 1 2 1
unfolding one two comparison verdict load if_equal
turned = refl

-- an image and itself, in old and in new records
itself : comparison one new_one 0 ≡ counts 4 4 0 0
unfolding one new_one comparison verdict load if_equal
itself = refl

-- a bad record: the first's code, 110 for the second; with both bad the first's
bad_first : comparison (set one 6 0) two 10 ≡ refused 108
unfolding one two comparison verdict load if_equal
bad_first = refl

bad_second : comparison one (set two 6 0) 10 ≡ refused 110
unfolding one two comparison verdict load if_equal
bad_second = refl

bad_both : comparison (set two 5 55) (set one 6 0) 10 ≡ refused 105
unfolding one two comparison verdict load if_equal
bad_both = refl

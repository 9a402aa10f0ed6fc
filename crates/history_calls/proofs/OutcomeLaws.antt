-- A mark that is refused stays as it is.
use Rattle.std.specs.Prelude.{◌==◌}
use Prim.Native.Nat.{ℕ, ◌+◌, ◌-◌, ◌/◌, ◌%◌, ◌^◌}
use mathlib.Core.Path.{◌≡◌, refl}
use mathlib.Core.Logic.{◌≢◌}
use mathlib.Core.Bool.{Bool, true, false, not, ◌&&◌}
use Rattle.lists.specs.Choice.{◌⇒◌else◌, within}
use Rattle.marks.specs.Marked.{with_mark, without_mark}
use Rattle.marks.specs.Codes.{standing_code, new_code}

-- ---- a mark that is refused

pub with_kept : (set a : ℕ) → new_code set a ≢ 0 → with_mark a set ≡ set
with_kept set a n = go (within 1 64 a) (set / 2 ^ (a - 1) % 2 == 1) n
  where
    go : (w d : Bool) → ◌≢◌ {A = ℕ} (not w ⇒ 11 else (w && d) ⇒ 12 else 0) 0 → ((w && not (w && d)) ⇒ set + 2 ^ (a - 1) else set) ≡ set
    go true true n = refl
    go true false n = absurd (n refl)
    go false d n = refl

pub without_kept : (set a : ℕ) → standing_code set a ≢ 0 → without_mark a set ≡ set
without_kept set a n = go (within 1 64 a) (set / 2 ^ (a - 1) % 2 == 1) n
  where
    go : (w d : Bool) → ◌≢◌ {A = ℕ} (not w ⇒ 11 else not (w && d) ⇒ 13 else 0) 0 → ((w && d) ⇒ set - 2 ^ (a - 1) else set) ≡ set
    go true true n = absurd (n refl)
    go true false n = refl
    go false d n = refl

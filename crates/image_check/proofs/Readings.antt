-- The tests of a reading one by one.
use Rattle.std.specs.Prelude.{◌==◌}
use Prim.Native.Nat.{ℕ, zero, suc, ◌≤◌, ◌<◌}
use mathlib.Core.Path.{◌≡◌, refl, sym, ap, ◌∙◌}
use mathlib.Core.Bool.{Bool, true, false}
use native.Mathlib.Omega.{arith}
use lib.Dec.{leb, eqb}
use borrow.Author.Tests.{le-leb, lt-leb, eq-eqb, ne_eqb, eqb-true, eqb-false}
use Rattle.lists.specs.Choice.{◌⇒◌else◌}
use Rattle.graph.specs.Graph.{is_reading}
use Rattle.lists.proofs.Bools.{or_false}

none_heard : (d : ℕ) → leb d 0 ≡ eqb d 0
none_heard zero = refl
none_heard (suc d) = lt-leb (suc d) 0 (omega arith) ∙ sym (ne_eqb (suc d) 0 (λ e. omega arith))

-- a kind of at most 2 has at most so many decimetres
pub reading_most : (k d m : ℕ) → k ≤ 2 → m ≡ ((k == 2) ⇒ 9999 else 0) → leb d m ≡ is_reading k d
reading_most k d m h e = ap (leb d) e ∙ go (k == 2) refl
  where
    go : (t : Bool) → (k == 2) ≡ t → leb d (t ⇒ 9999 else 0) ≡ is_reading k d
    go true q = rw (lt-leb k 1 (omega (arith, eqb-true k 2 q)), eq-eqb k 2 (eqb-true k 2 q))
    go false q = rw (le-leb k 1 (omega (arith, eqb-false k 2 q)), q) (none_heard d ∙ sym (or_false (eqb d 0)))

pub reading_none : (k d : ℕ) → 2 < k → false ≡ is_reading k d
reading_none k d h = rw (lt-leb k 1 (omega arith), ne_eqb k 2 (λ e. omega arith))

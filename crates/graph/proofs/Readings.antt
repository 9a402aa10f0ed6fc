-- Readings and the two words they are written as.
use Rattle.std.specs.Prelude.{◌==◌}
use Prim.Native.Nat.{ℕ, ◌≤◌}
use mathlib.Core.Path.{◌≡◌, refl, sym, ap₂, ◌∙◌}
use mathlib.Core.Logic.{◌⊎◌, inl, inr}
use mathlib.Core.Bool.{Bool, true, false, ◌&&◌}
use native.Mathlib.Omega.{arith}
use lib.Dec.{leb}
use borrow.Author.Tests.{eqb-true, eqb-false, leb-true}
use Rattle.lists.specs.Choice.{◌⇒◌else◌}
use Rattle.lists.proofs.Bools.{or_true, and_true}
use Rattle.graph.specs.declared.Reading.{Reading}
use Rattle.graph.specs.declared.Reading.TheVariants.{Untested, Silent, Heard}
use Rattle.graph.specs.Graph.{reading_kind, decimetres, is_reading, reading_of}

pub reading_back : (r : Reading) → reading_of (reading_kind r) (decimetres r) ≡ r
reading_back Untested = refl
reading_back Silent = refl
reading_back (Heard d) = refl

-- REFERENCE 1.4: at most 9,999
pub reading_range : (r : Reading) → is_reading (reading_kind r) (decimetres r) ≡ true → (reading_kind r ≤ 2) × (decimetres r ≤ 9999)
reading_range Untested h = (omega arith, omega arith)
reading_range Silent h = (omega arith, omega arith)
reading_range (Heard d) h = (omega arith, leb-true d 9999 h)

-- what the two words of a reading can be
data Kinds (k d : ℕ) : Type 0 where
  none : k ≤ 1 → d ≡ 0 → Kinds k d
  heard : k ≡ 2 → d ≤ 9999 → Kinds k d

kinds : (k d : ℕ) → is_reading k d ≡ true → Kinds k d
kinds k d h = go (or_true (leb k 1 && (d == 0)) ((k == 2) && leb d 9999) h)
  where
    go : ((leb k 1 && (d == 0)) ≡ true) ⊎ (((k == 2) && leb d 9999) ≡ true) → Kinds k d
    go (inl q) = let a = and_true (leb k 1) (d == 0) q in none (leb-true k 1 a.0) (eqb-true d 0 a.1)
    go (inr q) = let a = and_true (k == 2) (leb d 9999) q in heard (eqb-true k 2 a.0) (leb-true d 9999 a.1)

-- a reading of these words is written as these words
pub reading_words : (k d : ℕ) → is_reading k d ≡ true → (reading_kind (reading_of k d) ≡ k) × (decimetres (reading_of k d) ≡ d)
reading_words k d h = go (kinds k d h) (k == 0) refl (k == 1) refl
  where
    go : Kinds k d → (s : Bool) → (k == 0) ≡ s → (t : Bool) → (k == 1) ≡ t →
        (reading_kind (s ⇒ Untested else t ⇒ Silent else Heard d) ≡ k) × (decimetres (s ⇒ Untested else t ⇒ Silent else Heard d) ≡ d)
    go (none a b) true i t j = (sym (eqb-true k 0 i), sym b)
    go (none a b) false i true j = (sym (eqb-true k 1 j), sym b)
    go (none a b) false i false j = absurd (omega (arith, eqb-false k 0 i, eqb-false k 1 j))
    go (heard a b) true i t j = absurd (omega (arith, eqb-true k 0 i))
    go (heard a b) false i true j = absurd (omega (arith, eqb-true k 1 j))
    go (heard a b) false i false j = (sym a, refl)

pub reading_sound : (k d : ℕ) → is_reading k d ≡ true → is_reading (reading_kind (reading_of k d)) (decimetres (reading_of k d)) ≡ true
reading_sound k d h = let e = reading_words k d h in ap₂ is_reading e.0 e.1 ∙ h

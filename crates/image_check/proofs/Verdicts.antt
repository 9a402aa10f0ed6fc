-- Laws of verdicts: what a sound one says of its steps, and that any other one stops the check.
use Prim.Native.Nat.{ℕ, ◌+◌, ◌^◌, ◌≤◌, ◌<◌}
use mathlib.Core.Path.{◌≡◌, refl, sym}
use mathlib.Core.Bool.{Bool, true, false, ◌&&◌}
use mathlib.Core.List.{List, [], ◌∷◌}
use native.Mathlib.Omega.{arith}
use lib.Dec.{leb, ltb}
use borrow.Author.Tests.{lt-ltb, ltb-false}
use Rattle.lists.specs.Choice.{◌⇒◌else◌, within}
use Rattle.graph.specs.Graph.{is_reading}
use Rattle.image_check.specs.Checks.{bad_code, code_of, offset_of, record_at, ended, list_at, and_then, passed}
use Rattle.image_check.proofs.Walks.{good_vertex, good_edge}
use Rattle.std.specs.Prelude.{Ok, Err, is_err}
use Rattle.lists.proofs.Bools.{tf}
use Rattle.image_check.specs.declared.BadImage.{BadImage}
use Rattle.image_check.specs.declared.BadImage.TheVariants.{Header, Record, Incidence}
use Rattle.image_check.specs.Checks.{Verdict}

-- ---- not sound

pub record_not : {k : ℕ} → ◌≡◌ {A = Verdict} (Err (Record k)) (Ok tt) → ⊥
record_not e = let z : ◌≡◌ {A = ℕ} 0 1 = cc in omega arith

pub incidence_not : {k : ℕ} → ◌≡◌ {A = Verdict} (Err (Incidence k)) (Ok tt) → ⊥
incidence_not e = let z : ◌≡◌ {A = ℕ} 0 1 = cc in omega arith

pub header_not : ◌≡◌ {A = Verdict} (Err Header) (Ok tt) → ⊥
header_not e = let z : ◌≡◌ {A = ℕ} 0 1 = cc in omega arith

pub stop : (r x : Verdict) (bad : BadImage) → r ≡ Err bad → Err bad ≡ and_then r x
stop r x bad e = rw e refl

-- ---- steps

pub record_same : (size at g : ℕ) (x y : Verdict) → (size ≤ g → x ≡ y) → record_at size at g x ≡ record_at size at g y
record_same size at g x y h = go (ltb g size) refl
  where
    go : (t : Bool) → ltb g size ≡ t → (t ⇒ Err (Record (at + g)) else x) ≡ (t ⇒ Err (Record (at + g)) else y)
    go true e = refl
    go false e = h (ltb-false g size e)

pub record_sound : (size at g : ℕ) (x : Verdict) → record_at size at g x ≡ Ok tt → (size ≤ g) × (x ≡ Ok tt)
record_sound size at g x h = go (ltb g size) refl h
  where
    go : (t : Bool) → ltb g size ≡ t → (t ⇒ Err (Record (at + g)) else x) ≡ Ok tt → (size ≤ g) × (x ≡ Ok tt)
    go true e h = absurd (record_not h)
    go false e h = (ltb-false g size e, h)

pub list_same : (d at g : ℕ) (x y : Verdict) → (d ≤ g → x ≡ y) → list_at d at g x ≡ list_at d at g y
list_same d at g x y h = go (ltb g d) refl
  where
    go : (t : Bool) → ltb g d ≡ t → (t ⇒ Err (Incidence (at + g)) else x) ≡ (t ⇒ Err (Incidence (at + g)) else y)
    go true e = refl
    go false e = h (ltb-false g d e)

pub list_sound : (d at g : ℕ) (x : Verdict) → list_at d at g x ≡ Ok tt → (d ≤ g) × (x ≡ Ok tt)
list_sound d at g x h = go (ltb g d) refl h
  where
    go : (t : Bool) → ltb g d ≡ t → (t ⇒ Err (Incidence (at + g)) else x) ≡ Ok tt → (d ≤ g) × (x ≡ Ok tt)
    go true e h = absurd (incidence_not h)
    go false e h = (ltb-false g d e, h)

pub ended_nil : (ws : List ℕ) (at : ℕ) → ended ws at ≡ Ok tt → ws ≡ []
ended_nil [] at h = refl
ended_nil (w ∷ ws) at h = absurd (incidence_not h)

pub then_same : (r x y : Verdict) → (r ≡ Ok tt → x ≡ y) → and_then r x ≡ and_then r y
then_same (Ok tt) x y h = h refl
then_same (Err Header) x y h = refl
then_same (Err (Record at)) x y h = refl
then_same (Err (Incidence at)) x y h = refl

pub then_sound : (r x : Verdict) → and_then r x ≡ Ok tt → (r ≡ Ok tt) × (x ≡ Ok tt)
then_sound (Ok tt) x h = (refl, h)
then_sound (Err Header) x h = absurd (header_not h)
then_sound (Err (Record at)) x h = absurd (record_not h)
then_sound (Err (Incidence at)) x h = absurd (incidence_not h)

-- ---- codes

pub zero_sound : (r : Verdict) → code_of r ≡ 0 → r ≡ Ok tt
zero_sound (Ok tt) e = refl
zero_sound (Err Header) e = absurd (omega arith)
zero_sound (Err (Record at)) e = absurd (omega arith)
zero_sound (Err (Incidence at)) e = absurd (omega arith)

pub code_not_zero : (bad : BadImage) → bad_code bad ≡ 0 → ⊥
code_not_zero Header e = omega arith
code_not_zero (Record at) e = omega arith
code_not_zero (Incidence at) e = omega arith

pub bad_code_not_zero : (r : Verdict) → is_err r ≡ true → code_of r ≡ 0 → ⊥
bad_code_not_zero (Ok tt) e = λ _. tf (sym e)
bad_code_not_zero (Err bad) e = code_not_zero bad

pub sound_code : (r : Verdict) → is_err r ≡ false → code_of r ≡ 0
sound_code (Ok tt) e = refl
sound_code (Err bad) e = absurd (tf e)

pub coded_record : (r : Verdict) → code_of r ≡ 108 → r ≡ Err (Record (offset_of r))
coded_record (Ok tt) e = absurd (omega arith)
coded_record (Err Header) e = absurd (omega arith)
coded_record (Err (Record at)) e = refl
coded_record (Err (Incidence at)) e = absurd (omega arith)

pub coded_incidence : (r : Verdict) → code_of r ≡ 109 → r ≡ Err (Incidence (offset_of r))
coded_incidence (Ok tt) e = absurd (omega arith)
coded_incidence (Err Header) e = absurd (omega arith)
coded_incidence (Err (Record at)) e = absurd (omega arith)
coded_incidence (Err (Incidence at)) e = refl

-- any other code goes with no offset
pub uncoded : (r : Verdict) → (code_of r ≡ 108 → ⊥) → (code_of r ≡ 109 → ⊥) → offset_of r ≡ 0
uncoded (Ok tt) m n = refl
uncoded (Err Header) m n = refl
uncoded (Err (Record at)) m n = absurd (m refl)
uncoded (Err (Incidence at)) m n = absurd (n refl)

-- ---- what a whole good record says

pub record VertexOk (cap types : ℕ) (fresh : Bool) (n t x : ℕ) : Type 0 where
  pub number : within 1 cap n ≡ true
  pub new : fresh ≡ true
  pub type : ltb t types ≡ true
  pub value : ltb x (2 ^ 32) ≡ true

pub vertex_ok : (cap types : ℕ) (fresh : Bool) (n t x : ℕ) → 3 ≤ good_vertex cap types fresh n t x → VertexOk cap types fresh n t x
vertex_ok cap types fresh n t x h = go (within 1 cap n) fresh (ltb t types) (ltb x (2 ^ 32)) refl refl refl refl h
  where
    go : (p y z u : Bool) → within 1 cap n ≡ p → fresh ≡ y → ltb t types ≡ z → ltb x (2 ^ 32) ≡ u →
        3 ≤ passed ((p && y) ∷ z ∷ u ∷ []) → VertexOk cap types fresh n t x
    go true true true true e f g v h = record { number = e; new = f; type = g; value = v }
    go true true true false e f g v h = absurd (omega arith)
    go true true false u e f g v h = absurd (omega arith)
    go true false z u e f g v h = absurd (omega arith)
    go false y z u e f g v h = absurd (omega arith)

-- a value of 32 bits is never bad
pub any_value : (cap types : ℕ) (fresh : Bool) (n t x : ℕ) → x < 2 ^ 32 → good_vertex cap types fresh n t 0 ≡ good_vertex cap types fresh n t x
any_value cap types fresh n t x h = rw (lt-ltb x (2 ^ 32) h)

pub record EdgeOk (cap types : ℕ) (fresh from to : Bool) (n t k d : ℕ) : Type 0 where
  pub number : within 1 cap n ≡ true
  pub new : fresh ≡ true
  pub starts : from ≡ true
  pub stops : to ≡ true
  pub type : ltb t types ≡ true
  pub reading : is_reading k d ≡ true

pub edge_ok : (cap types : ℕ) (fresh from to : Bool) (n t k d : ℕ) → 6 ≤ good_edge cap types fresh from to n t k d → EdgeOk cap types fresh from to n t k d
edge_ok cap types fresh from to n t k d h = go (within 1 cap n) fresh from to (ltb t types) (leb k 2) (is_reading k d) refl refl refl refl refl refl h
  where
    go : (x y a b z u v : Bool) → within 1 cap n ≡ x → fresh ≡ y → from ≡ a → to ≡ b → ltb t types ≡ z → is_reading k d ≡ v →
        6 ≤ passed ((x && y) ∷ a ∷ b ∷ z ∷ u ∷ v ∷ []) → EdgeOk cap types fresh from to n t k d
    go true true true true true true true e1 e2 e3 e4 e5 e6 h = record { number = e1; new = e2; starts = e3; stops = e4; type = e5; reading = e6 }
    go true true true true true true false e1 e2 e3 e4 e5 e6 h = absurd (omega arith)
    go true true true true true false v e1 e2 e3 e4 e5 e6 h = absurd (omega arith)
    go true true true true false u v e1 e2 e3 e4 e5 e6 h = absurd (omega arith)
    go true true true false z u v e1 e2 e3 e4 e5 e6 h = absurd (omega arith)
    go true true false b z u v e1 e2 e3 e4 e5 e6 h = absurd (omega arith)
    go true false a b z u v e1 e2 e3 e4 e5 e6 h = absurd (omega arith)
    go false y a b z u v e1 e2 e3 e4 e5 e6 h = absurd (omega arith)

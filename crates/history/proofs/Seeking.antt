-- The first number that passes a test.
use Prim.Native.Nat.{ℕ, zero, suc, ◌+◌, ◌-◌, ◌≤◌, ◌<◌}
use mathlib.Core.Path.{◌≡◌, refl, sym, ap, ◌∙◌}
use mathlib.Core.Logic.{◌≢◌}
use mathlib.Core.Bool.{Bool, true, false}
use native.Mathlib.Omega.{arith}
use Rattle.lists.specs.Choice.{◌⇒◌else◌}
use Rattle.lists.proofs.Picks.{same, differ, same?}
use Rattle.history.specs.Machine.{seek}

pub seek_none : (n k : ℕ) (p : ℕ → Bool) → ((j : ℕ) → p j ≡ false) → seek n k p ≡ 0
unfolding seek
seek_none zero k p h = refl
seek_none (suc n) k p h = rw (h k) (seek_none n (suc k) p h)

-- what is sought is 1 or more
pub seek_all : (n k j : ℕ) (p : ℕ → Bool) → 1 ≤ k → seek n k p ≡ 0 → k ≤ j → j < k + n → p j ≡ false
unfolding seek
seek_all zero k j p l e a b = absurd (omega arith)
seek_all (suc n) k j p l e a b = go (λ f d. seek_all n (suc k) j p (omega arith) f (omega (arith, d)) (omega arith)) (p k) refl e
  where
    go : (seek n (suc k) p ≡ 0 → k ≢ j → p j ≡ false) → (t : Bool) → p k ≡ t → (t ⇒ k else seek n (suc k) p) ≡ 0 → p j ≡ false
    go later true f i = absurd (omega arith)
    go later false f i = elim (same? k j) [
      | same u v ↦ ap p v ∙ f
      | differ u v ↦ later i u
    ]

pub seek_found : (n k r : ℕ) (p : ℕ → Bool) → seek n k p ≡ r → r ≢ 0 → p r ≡ true
unfolding seek
seek_found zero k r p e d = absurd (d (sym e))
seek_found (suc n) k r p e d = go (λ i. seek_found n (suc k) r p i d) (p k) refl e
  where
    go : (seek n (suc k) p ≡ r → p r ≡ true) → (t : Bool) → p k ≡ t → (t ⇒ k else seek n (suc k) p) ≡ r → p r ≡ true
    go ih true f i = ap p (sym i) ∙ f
    go ih false f i = ih i

-- tests that agree on these numbers find the same
pub seek_same : (n k : ℕ) (p q : ℕ → Bool) → ((j : ℕ) → k ≤ j → j < k + n → p j ≡ q j) → seek n k p ≡ seek n k q
unfolding seek
seek_same zero k p q h = refl
seek_same (suc n) k p q h = rw (h k (omega arith) (omega arith), seek_same n (suc k) p q (λ j a b. h j (omega arith) (omega arith)))

-- ---- the search goes on

pub seek_here : (n k : ℕ) (p : ℕ → Bool) → p k ≡ true → 1 ≤ n → k ≡ seek n k p
unfolding seek
seek_here zero k p e h = absurd (omega arith)
seek_here (suc n) k p e h = rw e

pub seek_on : (n k : ℕ) (p : ℕ → Bool) → p k ≡ false → 1 ≤ n → seek n k p ≡ seek (n - 1) (k + 1) p
unfolding seek
seek_on zero k p e h = absurd (omega arith)
seek_on (suc n) k p e h =
    let i : suc k ≡ k + 1 = omega arith in
    let j : n ≡ suc n - 1 = omega arith in
    rw e (λ z. seek (j z) (i z) p)

pub seek_end : (n k : ℕ) (p : ℕ → Bool) → n ≡ 0 → seek n k p ≡ 0
unfolding seek
seek_end zero k p e = refl
seek_end (suc n) k p e = absurd (omega arith)

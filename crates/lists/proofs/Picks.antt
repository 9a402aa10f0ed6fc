-- Laws of a choice by equality of two numbers.
use mathlib.Core.Path.{◌≡◌, refl, sym, ◌∙◌}
use mathlib.Core.Logic.{◌≢◌}
use Prim.Native.Nat.{ℕ, ◌+◌, ◌≤◌}
use native.Mathlib.Omega.{arith}
use native.Mathlib.Decide.{ℕ_discrete}
use borrow.Author.Tests.{eq-eqb, ne_eqb}
use Rattle.lists.specs.Choice.{if_equal, indicator}

module _ {ℓ} {A : Type ℓ} where
  pub pick_yes : (m n : ℕ) (a b : A) → m ≡ n → if_equal m n a b ≡ a
  unfolding if_equal
  pick_yes m n a b h = rw (eq-eqb m n h)

  pub pick_no : (m n : ℕ) (a b : A) → m ≢ n → if_equal m n a b ≡ b
  unfolding if_equal
  pick_no m n a b h = rw (ne_eqb m n h)

  pub pick_self : (n : ℕ) (a b : A) → if_equal n n a b ≡ a
  pick_self n a b = pick_yes n n a b refl

  pub pick_both : (m n : ℕ) (a : A) → if_equal m n a a ≡ a
  pick_both m n a = elim (ℕ_discrete m n) [ yes h ↦ pick_yes m n a a h | no h ↦ pick_no m n a a h ]

-- the two cases, with both directions of the fact
pub data Same (m n : ℕ) : Type 0 where
  same : m ≡ n → n ≡ m → Same m n
  differ : m ≢ n → n ≢ m → Same m n

pub same? : (m n : ℕ) → Same m n
same? m n = elim (ℕ_discrete m n) [ yes h ↦ same h (sym h) | no h ↦ differ h (λ e. h (sym e)) ]

pub is_yes : (m n : ℕ) → m ≡ n → indicator m n ≡ 1
is_yes m n e = pick_yes m n 1 0 e

pub is_no : (m n : ℕ) → m ≢ n → indicator m n ≡ 0
is_no m n e = pick_no m n 1 0 e

pub is_le : (m n : ℕ) → indicator m n ≤ 1
is_le m n = elim (same? m n) [ same e f ↦ omega (arith, is_yes m n e) | differ e f ↦ omega (arith, is_no m n e) ]

-- a count that is above nothing, or is nothing, says that the two are the same, or differ
pub is_pos : (m n : ℕ) → 1 ≤ indicator m n → m ≡ n
is_pos m n h = elim (same? m n) [ same e f ↦ e | differ e f ↦ absurd (omega (arith, is_no m n e)) ]

pub is_zero : (m n : ℕ) → indicator m n ≡ 0 → m ≢ n
is_zero m n h e = omega (arith, is_yes m n e)

pub is_apart : (m n k : ℕ) → m ≢ n → indicator m k + indicator n k ≤ 1
is_apart m n k h = elim (same? m k) [
  | same e f ↦ omega (arith, is_yes m k e, is_no n k (λ g. h (e ∙ sym g)))
  | differ e f ↦ omega (arith, is_no m k e, is_le n k)
]

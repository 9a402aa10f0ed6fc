-- A kind that is not named is no command.
use Rattle.std.specs.Prelude.{◌==◌}
use Prim.Native.Nat.{ℕ, ◌+◌, ◌≤◌}
use native.Mathlib.Omega.{arith}
use mathlib.Core.Path.{◌≡◌, refl}
use mathlib.Core.Bool.{Bool, true, false}
use lib.Dec.{leb}
use borrow.Author.Tests.{ne_eqb, eqb-false, lt-leb, leb-false}
use Rattle.lists.specs.Choice.{◌⇒◌else◌}
use Rattle.commands.specs.Calls.{Call}
use Rattle.commands.specs.declared.Command.TheVariants.{History, Unknown}
use Rattle.commands.specs.Commands.{history_of, command_of}

-- a number that is at least n, and not n
pub above : {n k : ℕ} → n ≤ k → (k ≡ n → ⊥) → n + 1 ≤ k
above h i = omega (arith, h, i)

module _ (x : Call) where
  past : (x.kind ≡ 0 → ⊥) → 55 ≤ x.kind → (56 ≤ x.kind → 60 ≤ x.kind) → command_of x ≡ Unknown
  unfolding command_of
  past z h top =
      rw (
        ne_eqb x.kind 0 z,
        lt-leb x.kind 16 (omega (arith, h)),
        lt-leb x.kind 22 (omega (arith, h)),
        lt-leb x.kind 29 (omega (arith, h)),
        lt-leb x.kind 48 (omega (arith, h)),
        lt-leb x.kind 51 (omega (arith, h)),
        ne_eqb x.kind 52 (λ i. omega (arith, h, i)),
        ne_eqb x.kind 53 (λ i. omega (arith, h, i)),
        ne_eqb x.kind 54 (λ i. omega (arith, h, i)),
      ) (last (x.kind == 55) refl)
    where
      last : (b : Bool) → (x.kind == 55) ≡ b → ((x.kind == 55) ⇒ Unknown else leb x.kind 59 ⇒ History (history_of x.kind x.a x.b x.c) else Unknown) ≡ Unknown
      last true r = rw r refl
      last false r = let n = eqb-false x.kind 55 r in rw (r, lt-leb x.kind 59 (omega (arith, top (omega (arith, h, n))))) refl

  -- kinds below 30 and above 54 have no more to show than that they are not the named ones
  pub unnamed : ((x.kind ≡ 0 → ⊥) → 23 ≤ x.kind) → (30 ≤ x.kind → 55 ≤ x.kind) → (56 ≤ x.kind → 60 ≤ x.kind) → command_of x ≡ Unknown
  unfolding command_of
  unnamed low high top = first (x.kind == 0) refl
    where
      second : (x.kind ≡ 0 → ⊥) → (b : Bool) → leb x.kind 29 ≡ b → command_of x ≡ Unknown
      second z true s = rw (ne_eqb x.kind 0 z, lt-leb x.kind 16 (omega (arith, low z)), lt-leb x.kind 22 (omega (arith, low z)), s) refl
      second z false s = past z (high (leb-false x.kind 29 s)) top

      first : (b : Bool) → (x.kind == 0) ≡ b → command_of x ≡ Unknown
      first true r = rw r refl
      first false r = second (eqb-false x.kind 0 r) (leb x.kind 29) refl

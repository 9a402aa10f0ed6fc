-- A call by its kind: one that is named, or none; and that a call of no kind is no command.
use Rattle.std.specs.Prelude.{◌==◌}
use Prim.Native.Nat.{ℕ, suc, ◌≤◌, ◌<◌}
use mathlib.Core.Path.{◌≡◌, refl, sym, ap, ◌∙◌, subst}
use mathlib.Core.Logic.{◌⊎◌, inl, inr}
use mathlib.Core.Bool.{Bool, true, false, ◌&&◌, ◌||◌}
use native.Mathlib.Omega.{arith}
use lib.Dec.{leb}
use borrow.Author.Tests.{eqb-true, eqb-false, leb-false, lt-leb, le-leb, ne_eqb}
use Rattle.lists.specs.Choice.{◌⇒◌else◌, within}
use Rattle.lists.proofs.Bools.{or_true, within_range, or_none}
use Rattle.commands.specs.declared.Command.TheVariants.{History, Unknown}
use Rattle.commands.specs.Calls.{Call, five}
use Rattle.commands.specs.Kinds.{known}
use Rattle.commands.specs.Commands.{history_of, command_of}

-- a call of kind k with the other words of x
abbrev pub of_kind : ℕ → Call → Call
of_kind k x = five k x.a x.b x.c x.d

pub call_is : (x : Call) (k : ℕ) → x.kind ≡ k → x ≡ of_kind k x
call_is x k e = λ i. five (e i) x.a x.b x.c x.d

module _ (x : Call) where
  pub unknown : known x.kind ≡ false → command_of x ≡ Unknown
  unfolding command_of
  unknown e = low (x.kind == 0) refl
    where
      out : (lo hi : ℕ) → within lo hi x.kind ≡ false → lo ≤ x.kind → hi < x.kind
      out lo hi f h = leb-false x.kind hi (sym (ap (λ (t : Bool). t && leb x.kind hi) (le-leb lo x.kind h)) ∙ f)

      ranges : (within 1 22 x.kind ≡ false) × (within 30 54 x.kind ≡ false) × (within 56 59 x.kind ≡ false)
      ranges =
          let r = or_none (within 1 22 x.kind) _ e in
          let s = or_none (within 30 54 x.kind) (within 56 59 x.kind) r.1 in
          (r.0, s.0, s.1)

      last : (t : Bool) → (x.kind == 55) ≡ t → 54 < x.kind → ((x.kind == 55) ⇒ Unknown else leb x.kind 59 ⇒ History (history_of x.kind x.a x.b x.c) else Unknown) ≡ Unknown
      last true f h = rw f
      last false f h =
          let n = eqb-false x.kind 55 f in
          let o : 59 < x.kind = out 56 59 ranges.2 (omega arith) in
          rw (f, lt-leb x.kind 59 o)

      high : (t : Bool) → leb x.kind 29 ≡ t → (x.kind == 0) ≡ false → leb x.kind 16 ≡ false → leb x.kind 22 ≡ false → command_of x ≡ Unknown
      high true f z a b = rw (z, a, b, f)
      high false f z a b =
          let h : 54 < x.kind = out 30 54 ranges.1 (leb-false x.kind 29 f) in
          rw (
            z,
            a,
            b,
            f,
            lt-leb x.kind 48 (omega arith),
            lt-leb x.kind 51 (omega arith),
            ne_eqb x.kind 52 (omega arith),
            ne_eqb x.kind 53 (omega arith),
            ne_eqb x.kind 54 (omega arith),
          ) (last (x.kind == 55) refl h)

      low : (t : Bool) → (x.kind == 0) ≡ t → command_of x ≡ Unknown
      low true f = rw f
      low false f =
          let d = eqb-false x.kind 0 f in
          let h : 22 < x.kind = out 1 22 ranges.0 (omega arith) in
          high (leb x.kind 29) refl f (lt-leb x.kind 16 (omega arith)) (lt-leb x.kind 22 (omega arith))

  -- this kind, or a later one
  pub next_kind : (P : Call → Type 0) (k : ℕ) → P (of_kind k x) → (suc k ≤ x.kind → P x) → k ≤ x.kind → P x
  next_kind P k h later l = go (x.kind == k) refl
    where
      go : (t : Bool) → (x.kind == k) ≡ t → P x
      go true e = subst P (sym (call_is x k (eqb-true x.kind k e))) h
      go false e = let d = eqb-false x.kind k e in later (omega arith)

  -- what is shown for each range of kinds, and for the kinds that are not named, holds
  pub by_kind : (P : Type 0) → (1 ≤ x.kind → x.kind ≤ 22 → P) → (30 ≤ x.kind → x.kind ≤ 54 → P) → (56 ≤ x.kind → x.kind ≤ 59 → P) → (known x.kind ≡ false → P) → P
  by_kind P early late latest other = go (known x.kind) refl
    where
      later : (within 30 54 x.kind ≡ true) ⊎ (within 56 59 x.kind ≡ true) → P
      later (inl h) = let r = within_range 30 54 x.kind h in late r.0 r.1
      later (inr h) = let r = within_range 56 59 x.kind h in latest r.0 r.1

      either : (within 1 22 x.kind ≡ true) ⊎ ((within 30 54 x.kind || within 56 59 x.kind) ≡ true) → P
      either (inl h) = let r = within_range 1 22 x.kind h in early r.0 r.1
      either (inr h) = later (or_true (within 30 54 x.kind) (within 56 59 x.kind) h)

      go : (t : Bool) → known x.kind ≡ t → P
      go true e = either (or_true (within 1 22 x.kind) _ e)
      go false e = other e

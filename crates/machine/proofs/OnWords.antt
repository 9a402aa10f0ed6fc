-- The table of codes read on a call's words as they came gives the code of its command, so words that a kind does not read change nothing.
use Prim.Native.Nat.{ℕ, suc, ◌≤◌}
use mathlib.Core.Path.{◌≡◌, refl, sym, ap, ◌∙◌}
use mathlib.Core.Bool.{false}
use native.Mathlib.Omega.{arith}
use Rattle.history.specs.Machine.{Machine}
use Rattle.commands.specs.Calls.{Call}
use Rattle.commands.specs.Tables.{lowest}
use Rattle.commands.specs.Kinds.{known}
use Rattle.commands.specs.Commands.{command_of}
use Rattle.commands.proofs.ByKind.{of_kind, next_kind, unknown, by_kind}
use Rattle.machine.specs.Calls.{Parameters}
use Rattle.machine.specs.Codes.{code_table, refusal}

abbrev OnWords : Parameters → Machine → Call → Type 0
OnWords w m x = lowest (code_table w m x) ≡ refusal w m (command_of x)

module _ (w : Parameters) (m : Machine) (x : Call) where
  next : (k : ℕ) → OnWords w m (of_kind k x) → (suc k ≤ x.kind → OnWords w m x) → k ≤ x.kind → OnWords w m x
  next k h later l = next_kind x (OnWords w m) k h later l

  early : 1 ≤ x.kind → x.kind ≤ 22 → OnWords w m x
  unfolding refusal command_of
  early low top = (next 1 refl (next 2 refl (next 3 refl (next 4 refl (next 5 refl (next 6 refl (next 7 refl (next 8 refl (next 9 refl (next 10 refl
      (next 11 refl (next 12 refl (next 13 refl (next 14 refl (next 15 refl (next 16 refl (next 17 refl (next 18 refl (next 19 refl (next 20 refl
      (next 21 refl (next 22 refl (λ h. absurd (omega arith)))))))))))))))))))))))) low

  late : 30 ≤ x.kind → x.kind ≤ 54 → OnWords w m x
  unfolding refusal command_of
  late low top = (next 30 refl (next 31 refl (next 32 refl (next 33 refl (next 34 refl (next 35 refl (next 36 refl (next 37 refl (next 38 refl
      (next 39 refl (next 40 refl (next 41 refl (next 42 refl (next 43 refl (next 44 refl (next 45 refl (next 46 refl (next 47 refl (next 48 refl
      (next 49 refl (next 50 refl (next 51 refl (next 52 refl (next 53 refl (next 54 refl (λ h. absurd (omega arith))))))))))))))))))))))))))) low

  latest : 56 ≤ x.kind → x.kind ≤ 59 → OnWords w m x
  unfolding refusal command_of
  latest low top = (next 56 refl (next 57 refl (next 58 refl (next 59 refl (λ h. absurd (omega arith)))))) low

  -- a kind that is not named
  other : known x.kind ≡ false → OnWords w m x
  unfolding refusal
  other e = (rw e) ∙ sym (ap (refusal w m) (unknown x e))

  pub on_words : OnWords w m x
  on_words = by_kind x (OnWords w m x) early late latest other

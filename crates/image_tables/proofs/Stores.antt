-- Stores in a row, and a record copied into its place.
use Prim.Native.Nat.{ℕ, ◌+◌, ◌≤◌}
use mathlib.Core.Path.{◌≡◌, sym, ap, ap₂, ◌∙◌}
use mathlib.Core.List.{List, ◌++◌, append_assoc}
use native.Mathlib.Omega.{arith}
use lib.ListN.{length, take, drop}
use lib.Seq.{sets, sets-eq, drop-drop}
use borrow.Rule.Slice.PartMut.{put_mid}
use Rattle.lists.proofs.Stores.{sets_append}

pub then_by : (l : List ℕ) {l₁ l₂ : List ℕ} (i j : ℕ) (us vs : List ℕ) → l₁ ≡ sets l i us → j ≡ i + length us → l₂ ≡ sets l₁ j vs → l₂ ≡ sets l i (us ++ vs)
then_by l i j us vs p q r = r ∙ ap₂ (λ (m : List ℕ) (k : ℕ). sets m k vs) p q ∙ sets_append l us vs i

pub copied : (l ws : List ℕ) (at k : ℕ) → at + length ws ≤ length l → k ≡ length ws → put_mid at k l ws ≡ sets l at ws
copied l ws at k h e =
    rw e
    (ap (λ (t : List ℕ). take at l ++ (ws ++ t)) (drop-drop (length ws) at l)
    ∙ sym (append_assoc (take at l) ws (drop (at + length ws) l))
    ∙ sym (sets-eq ws l at (omega (arith, h))))

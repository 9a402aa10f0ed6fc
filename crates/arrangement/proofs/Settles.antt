-- The four ways out of the order of marked items.
use Prim.Native.Nat.{ℕ, ◌-◌, ◌*◌, ◌≤◌, ◌<◌}
use mathlib.Core.Path.{◌≡◌, sym, ◌∙◌}
use mathlib.Core.Bool.{Bool, true, false}
use mathlib.Core.List.{List}
use native.Mathlib.Omega.{arith}
use lib.ListN.{length}
use lib.Seq.{sets}
use borrow.Author.Tests.{eq-eqb, ne_eqb, lt-ltb, le-ltb}
use Rattle.lists.specs.Lists.{overwritten}
use Rattle.lists.proofs.Stores.{sets_over}
use Rattle.arrangement.specs.declared.Arrangement.{Arrangement}
use Rattle.arrangement.specs.Orders.{outcome, refusal, written, call_words}
use Rattle.arrangement.specs.Scratch.{taken, settled}
use Rattle.arrangement.proofs.Turns.{words_length}

-- what C is told of a refusal
pub refused_is : (r : Arrangement) (list : List ℕ) (code : ℕ) → (r.code ≡ code) × (r.calls ≡ 0) → outcome r list ≡ refusal code list
refused_is r list code e = λ i. record { code = e.0 i; calls = e.1 i; list = list }

module _ (kind : ℕ) (wanted : List ℕ) (count : ℕ) (s list : List ℕ) where
  pub settle_other : (length wanted ≡ count → ⊥) → refusal 111 list ≡ settled kind wanted count s list
  unfolding settled
  settle_other n = rw (ne_eqb (length wanted) count n)

  module _ (e : length wanted ≡ count) where
    pub settle_not : (t : Bool) → t ≡ taken wanted s → t ≡ false → refusal 111 list ≡ settled kind wanted count s list
    unfolding settled
    settle_not t f g = rw (eq-eqb (length wanted) count e, sym f ∙ g)

    module _ (t : Bool) (f : t ≡ taken wanted s) (g : t ≡ true) (calls : ℕ) (c : calls ≡ count - 1) where
      pub settle_short : length list < 5 * calls → refusal 112 list ≡ settled kind wanted count s list
      unfolding settled
      settle_short h = rw (eq-eqb (length wanted) count e, sym f ∙ g, lt-ltb (length list) (5 * (length wanted - 1)) (omega (arith, h, c, e)))

      pub settle_written : 5 * calls ≤ length list → (list' : List ℕ) → list' ≡ sets list 0 (call_words kind wanted) →
          record { code = 0; calls = calls; list = list' } ≡ settled kind wanted count s list
      unfolding settled
      settle_written h list' q =
          let p : calls ≡ length wanted - 1 = omega (arith, c, e) in
          let o : list' ≡ overwritten (call_words kind wanted) list = q ∙ sets_over (call_words kind wanted) list (omega (arith, h, c, e, words_length kind wanted)) in
          let k : record { code = 0; calls = calls; list = list' } ≡ written kind wanted list = λ i. record { code = 0; calls = p i; list = o i } in
          k ∙ sym (rw (eq-eqb (length wanted) count e, sym f ∙ g, le-ltb (length list) (5 * (length wanted - 1)) (omega (arith, h, c, e))))

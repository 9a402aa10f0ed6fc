-- A call that is refused, and one that is accepted.
use Prim.Native.Nat.{ℕ}
use mathlib.Core.Path.{◌≡◌, sym, ap, subst, ◌∙◌}
use mathlib.Core.Logic.{◌≢◌}
use mathlib.Core.Bool.{Bool}
use native.Mathlib.Omega.{arith}
use borrow.Author.Tests.{eq-eqb, ne_eqb}
use Rattle.lists.specs.Choice.{◌⇒◌else◌}
use Rattle.graph.specs.WellFormed.{Bounds}
use Rattle.history.specs.Machine.{Machine}
use Rattle.machine.specs.Rules.{effected, Rule}
use Rattle.commands.specs.Refusals.{refusal_code}
use Rattle.commands.specs.declared.refusal.Refusal.{Refusal}
use Rattle.history_calls.specs.declared.Store.{Store}
use Rattle.history_calls.specs.declared.Called.{Called}
use Rattle.history_calls.specs.Memory.{Memory}
use Rattle.history_calls.specs.Represents.{Represents, Follows}
use Rattle.history_calls.specs.Outcomes.{done}

module _ (r : Rule) (m : Machine) (b : Bounds) (x : Store) (mem : Memory) where
  -- a refused call leaves everything as it was
  pub refused : (code : ℕ) → code ≡ r.code m → code ≢ 0 → Represents b x mem m → Follows r m b (done x code 0) mem
  refused code e n h =
      let no = ne_eqb (r.code m) 0 (λ z. n (e ∙ z)) in
      record {
        obeys = λ i. record { code = e i; number = sym (ap (λ (t : Bool). t ⇒ (r.deed m).number else 0) no) i };
        after = subst (λ (y : Machine). Represents b x mem y) (sym (ap (λ (t : Bool). t ⇒ effected (r.deed m).effect m else m) no)) h;
      }

  pub accepted : (number : ℕ) → r.code m ≡ 0 → number ≡ (r.deed m).number → Represents b x mem (effected (r.deed m).effect m)
      → Follows r m b (done x 0 number) mem
  accepted number e f h =
      let yes = eq-eqb (r.code m) 0 e in
      record {
        obeys = λ i. record { code = sym e i; number = (f ∙ sym (ap (λ (t : Bool). t ⇒ (r.deed m).number else 0) yes)) i };
        after = subst (λ (y : Machine). Represents b x mem y) (sym (ap (λ (t : Bool). t ⇒ effected (r.deed m).effect m else m) yes)) h;
      }

-- what is returned equals what was shown to follow
pub follows_by : (r : Rule) (m : Machine) (b : Bounds) (mem : Memory) {d d' : Called} → d ≡ d' → Follows r m b d' mem → Follows r m b d mem
follows_by r m b mem e f = subst (λ (z : Called). Follows r m b z mem) (sym e) f

-- a refusal has a code
pub refusal_not_0 : (r : Refusal) → refusal_code r ≢ 0
refusal_not_0 r e = grind (arith, e)

-- A mark stands exactly where it was set and kept since.
use Rattle.std.specs.Prelude.{◌==◌}
use Prim.Native.Nat.{ℕ}
use mathlib.Core.Path.{◌≡◌, refl, sym, ap, ◌∙◌}
use mathlib.Core.Logic.{◌⊎◌, inl, inr}
use mathlib.Core.Bool.{Bool, true, false, ◌||◌}
use mathlib.Core.List.{List, ◌∷◌}
use native.Mathlib.Omega.{arith}
use lib.Dec.{ltb}
use Rattle.lists.specs.Choice.{◌⇒◌else◌}
use Rattle.lists.specs.Lists.{any}
use Rattle.lists.proofs.Bools.{tf, ft, or_none}
use Rattle.graph.specs.Graph.{Graph}
use Rattle.history.specs.Machine.{Machine, MarkPlace, gone, at, cut, present}
use Rattle.machine.specs.Rules.{Effect, steps, marks, unmarks, goes, names, benches, clears, nothing, effected}
use Rattle.commands.specs.Calls.{Call}
use Rattle.commands.specs.Commands.{command_of}
use Rattle.machine.specs.Calls.{Parameters}
use Rattle.machine.specs.Codes.{refusal}
use Rattle.machine.specs.Machine.{deed_of, step}
use Rattle.machine.specs.Marks.{Event, event_of, sets_mark, ends_mark, Kept, set_here, set_later}
use Rattle.machine.proofs.Accepts.{code_is, accepted_step, refused_step}
use Rattle.machine.proofs.MarkCalls.{sets_by, ends_by, sets_is, ends_is}
use Rattle.machine.proofs.Reached.{Reached, here, by}

-- mark k stands at q after an effect e at place p: the call set it there, or it stood there before and the call did not end it
After : Effect → Machine → ℕ → ℕ → Type 0
After e m k q = ((sets_by e k ≡ true) × (m.line.place ≡ q)) ⊎ ((m.marks k ≡ at q) × (ends_by e k q m.line.place ≡ false))

pub gone_at {ℓ} : {X : Type ℓ} {q : ℕ} → gone ≡ at q → X
gone_at e = absurd (let z : ◌≡◌ {A = ℕ} 0 1 = cc in omega arith)

pub at_at : {p q : ℕ} → at p ≡ at q → p ≡ q
at_at e = cc

pub cut_at : (p q : ℕ) (s : MarkPlace) → cut p s ≡ at q → (s ≡ at q) × (ltb p q ≡ false)
cut_at p q gone e = gone_at e
cut_at p q (at r) e = go (ltb p r) refl e
  where
    go : (t : Bool) → ltb p r ≡ t → (t ⇒ gone else at r) ≡ at q → (at r ≡ at q) × (ltb p q ≡ false)
    go true f h = gone_at h
    go false f h = (h, ap (λ (n : ℕ). ltb p n) (sym (at_at h)) ∙ f)

at_cut : (p q : ℕ) (s : MarkPlace) → s ≡ at q → ltb p q ≡ false → cut p s ≡ at q
at_cut p q s e f = ap (cut p) e ∙ ap (λ (t : Bool). t ⇒ gone else at q) f

pub set_to : (t : Bool) (p q : ℕ) (s : MarkPlace) → (t ⇒ at p else s) ≡ at q → ((t ≡ true) × (p ≡ q)) ⊎ ((s ≡ at q) × (t ≡ false))
set_to true p q s e = inl (refl, at_at e)
set_to false p q s e = inr (e, refl)

set_from : (t : Bool) (p q : ℕ) (s : MarkPlace) → ((t ≡ true) × (p ≡ q)) ⊎ ((s ≡ at q) × (t ≡ false)) → (t ⇒ at p else s) ≡ at q
set_from true p q s (inl h) = ap at h.1
set_from true p q s (inr h) = tf h.1
set_from false p q s (inl h) = ft h.0
set_from false p q s (inr h) = h.0

pub drop_to : (t : Bool) (q : ℕ) (s : MarkPlace) → (t ⇒ gone else s) ≡ at q → (s ≡ at q) × (t ≡ false)
drop_to true q s e = gone_at e
drop_to false q s e = (e, refl)

next_to : (e : Effect) (m : Machine) (k q : ℕ) → (effected e m).marks k ≡ at q → After e m k q
unfolding After
next_to (steps s) m k q e = inr (cut_at m.line.place q (m.marks k) e)
next_to (marks n) m k q e = set_to (k == n) m.line.place q (m.marks k) e
next_to (unmarks n) m k q e = inr (drop_to (k == n) q (m.marks k) e)
next_to (goes p) m k q e = inr (e, refl)
next_to (names j n) m k q e = inr (e, refl)
next_to (benches j) m k q e = inr (e, refl)
next_to clears m k q e = gone_at e
next_to nothing m k q e = inr (e, refl)

next_from : (e : Effect) (m : Machine) (k q : ℕ) → After e m k q → (effected e m).marks k ≡ at q
unfolding After
next_from (steps s) m k q (inl h) = ft h.0
next_from (steps s) m k q (inr h) = at_cut m.line.place q (m.marks k) h.0 h.1
next_from (marks n) m k q h = set_from (k == n) m.line.place q (m.marks k) h
next_from (unmarks n) m k q (inl h) = ft h.0
next_from (unmarks n) m k q (inr h) = ap (λ (t : Bool). t ⇒ gone else m.marks k) h.1 ∙ h.0
next_from (goes p) m k q (inl h) = ft h.0
next_from (goes p) m k q (inr h) = h.0
next_from (names j n) m k q (inl h) = ft h.0
next_from (names j n) m k q (inr h) = h.0
next_from (benches j) m k q (inl h) = ft h.0
next_from (benches j) m k q (inr h) = h.0
next_from clears m k q (inl h) = ft h.0
next_from clears m k q (inr h) = tf h.1
next_from nothing m k q (inl h) = ft h.0
next_from nothing m k q (inr h) = h.0

-- the same after one call, accepted or refused
AfterCall : Parameters → Machine → Call → ℕ → ℕ → Type 0
AfterCall w m x k q =
    ((sets_mark k (event_of w m x) ≡ true) × (m.line.place ≡ q)) ⊎ ((m.marks k ≡ at q) × (ends_mark k q (event_of w m x) ≡ false))

step_to : (w : Parameters) (m : Machine) (x : Call) (k q : ℕ) → (step w m x).marks k ≡ at q → AfterCall w m x k q
unfolding AfterCall After
step_to w m x k q e = go (refusal w m (command_of x) == 0) refl
  where
    go : (t : Bool) → (refusal w m (command_of x) == 0) ≡ t → AfterCall w m x k q
    go true f = rw (sets_is w m k q x, ends_is w m k q x, code_is w m (command_of x) true f) (next_to (deed_of w (command_of x) m).effect m k q (rw (accepted_step w m (command_of x) f) at e))
    go false f = rw (sets_is w m k q x, ends_is w m k q x, code_is w m (command_of x) false f) (inr (rw (refused_step w m (command_of x) f) at e, refl))

refused_from : {P Q : Type 0} → ((false ≡ true) × P) ⊎ (Q × (false ≡ false)) → Q
refused_from (inl h) = ft h.0
refused_from (inr h) = h.0

step_from : (w : Parameters) (m : Machine) (x : Call) (k q : ℕ) → AfterCall w m x k q → (step w m x).marks k ≡ at q
unfolding AfterCall After
step_from w m x k q e = go (refusal w m (command_of x) == 0) refl
  where
    go : (t : Bool) → (refusal w m (command_of x) == 0) ≡ t → (step w m x).marks k ≡ at q
    go true f = rw (accepted_step w m (command_of x) f) (next_from (deed_of w (command_of x) m).effect m k q (rw (sets_is w m k q x, ends_is w m k q x, code_is w m (command_of x) true f) at e))
    go false f = rw (refused_step w m (command_of x) f) (refused_from (rw (sets_is w m k q x, ends_is w m k q x, code_is w m (command_of x) false f) at e))

-- ---- the first sentence, from any machine

-- set among the events and kept, or standing before them and not ended
unfoldable pub KeptOrStanding : Machine → List Event → ℕ → ℕ → Type 0
KeptOrStanding m es k q =
    ((h : Graph) × Kept k q h es) ⊎ ((m.marks k ≡ at q) × (any (ends_mark k q) es ≡ false))

no_more : {a b : Bool} → a ≡ false → b ≡ false → (a || b) ≡ false
no_more e f = rw e f

pub last_to : {m n : Machine} {es : List Event} → Reached m es n → (k q : ℕ) → n.marks k ≡ at q → KeptOrStanding m es k q
unfolding KeptOrStanding AfterCall
last_to here k q e = inr (e, refl)
last_to (by {m} {n} {es} w x r) k q e = go (last_to r k q e)
  where
    one : any (ends_mark k q) es ≡ false → AfterCall w m x k q → KeptOrStanding m (event_of w m x ∷ es) k q
    one nz (inl h) = inl (present m, set_here h.0 h.1 refl nz)
    one nz (inr h) = inr (h.0, no_more h.1 nz)

    go : KeptOrStanding (step w m x) es k q → KeptOrStanding m (event_of w m x ∷ es) k q
    go (inl h) = inl (h.0, set_later h.1)
    go (inr h) = one h.1 (step_to w m x k q h.0)

stay_from : {m n : Machine} {es : List Event} → Reached m es n → (k q : ℕ) → m.marks k ≡ at q → any (ends_mark k q) es ≡ false → n.marks k ≡ at q
unfolding AfterCall
stay_from here k q e nz = e
stay_from (by {m} {n} {es} w x r) k q e nz =
    stay_from r k q
    (step_from w m x k q (inr (e, (or_none (ends_mark k q (event_of w m x)) _ nz).0)))
    (or_none (ends_mark k q (event_of w m x)) _ nz).1

pub kept_from : {m n : Machine} {es : List Event} → Reached m es n → (k q : ℕ) (h : Graph) → Kept k q h es → n.marks k ≡ at q
unfolding AfterCall
kept_from (here {m = m}) k q h x5 = elim x5 [ ]
kept_from (by {m} {n} {es} w x r) k q h (set_here s p c nz) = stay_from r k q (step_from w m x k q (inl (s, p))) nz
kept_from (by {m} {n} {es} w x r) k q h (set_later t) = kept_from r k q h t

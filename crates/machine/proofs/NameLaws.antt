-- When marks have names and what going by one gives.
use Rattle.std.specs.Prelude.{◌==◌}
use Prim.Native.Nat.{ℕ, ◌≤◌}
use mathlib.Core.Path.{◌≡◌, refl, sym, ap, ◌∙◌}
use mathlib.Core.Logic.{◌⊎◌, inl, inr, ◌≢◌, ◌↔◌}
use mathlib.Core.Bool.{Bool, true, false, not, ◌&&◌, ◌||◌}
use mathlib.Core.List.{List, ◌∷◌}
use native.Mathlib.Omega.{arith}
use borrow.Author.Tests.{eqb-true, eqb-false, eq-eqb, ne_eqb, not-false, le-ltb}
use Rattle.lists.specs.Choice.{◌⇒◌else◌, within}
use Rattle.lists.specs.Lists.{any}
use Rattle.lists.proofs.Bools.{tf, ft, and_true, and_both, or_none, or_left, or_right, within_range}
use Rattle.lists.proofs.Picks.{same, differ, same?}
use Rattle.graph.specs.Graph.{Graph}
use Rattle.history.specs.Machine.{Machine, MarkPlace, gone, at, stands, cut, Name, name, no_name, is_name, same_name, named, bears, holder_but, holder_of, place_or, onward, distance, fresh, present}
use Rattle.history.proofs.Seeking.{seek_none, seek_all, seek_found}
use Rattle.machine.specs.HistoryCodes.{name_taken, too_far, place_of}
use Rattle.history.proofs.Timelines.{onward_back}
use Rattle.machine.specs.Posed.{Posed, roomed, last_at, events_at}
use Rattle.machine.specs.Sentences.{Goes, NameSentenceAt}
use Rattle.machine.proofs.CostsFit.{costs_last, costs_at}
use Rattle.machine.proofs.Rooms.{own_reach, near, far}
use Rattle.machine.proofs.Reached.{Reached, here, by, reached, reached_at}
use Rattle.machine.specs.Rules.{Effect, steps, marks, unmarks, goes, names, benches, clears, nothing, effected}
use Rattle.commands.specs.declared.HistoryCall.TheVariants.{SetMark, DropMark, Undo, Redo, GoTo, Commit, Between, Standing as StandingMarks, Free, NameMark, GoToName, SetBench, MadeBy}
use Rattle.commands.specs.declared.Command.{Command}
use Rattle.commands.specs.declared.Command.TheVariants.{Alter, History, Ask, Quote, Unknown}
use Rattle.commands.specs.Calls.{Call}
use Rattle.commands.specs.Commands.{command_of}
use Rattle.machine.specs.Calls.{Parameters}
use Rattle.machine.specs.Codes.{refusal}
use Rattle.machine.specs.Machine.{deed_of, answer_to, answer, step, last}
use Rattle.machine.specs.Marks.{Event, event_of, events, call_sets, call_ends, ends_mark, Kept, set_here, set_later}
use Rattle.machine.specs.Names.{call_gives, names_mark, gives_name, ends_name, NameKept, named_here, named_later, name_it, go_by, HasName, NameSentence}
use Rattle.machine.proofs.Families.{change_effect}
use Rattle.machine.proofs.Accepts.{not_refused, code_is, accepted_step, refused_step}
use Rattle.machine.proofs.MarkCalls.{ends_by, renames_by, names_by, ends_is, renames_is, gives_is}
use Rattle.machine.proofs.Stands.{gone_at, cut_at, set_to, drop_to, KeptOrStanding, last_to, kept_from}
use Rattle.machine.proofs.MarkLaws.{set_range, Holds, kept_graph, kept_range, fresh_places, stands_iff}

-- ---- names

same_name_lem : (n o : Name) → same_name n o ≡ true → n ≡ o
same_name_lem n o e =
    let a = and_true _ _ e in
    λ i. record { first = eqb-true n.first o.first a.0 i; second = eqb-true n.second o.second a.1 i }

name_same : (n o : Name) → n ≡ o → same_name n o ≡ true
name_same n o e = and_both _ _ (eq-eqb _ _ (ap (λ (x : Name). x.first) e)) (eq-eqb _ _ (ap (λ (x : Name). x.second) e))

no_name_lem {ℓ} : {X : Type ℓ} (n : Name) → is_name n ≡ true → no_name ≡ n → X
no_name_lem n h e = ft (ap is_name e ∙ h)

-- mark k stands and has the name n
record Bearing (m : Machine) (n : Name) (k : ℕ) : Type 0 where
  standing : stands (m.marks k) ≡ true
  real : is_name n ≡ true
  has : m.names k ≡ n

to_bearing : (m : Machine) (n : Name) (k : ℕ) → bears m n k ≡ true → Bearing m n k
to_bearing m n k e =
    let a = and_true (stands (m.marks k)) (is_name n && same_name (m.names k) n) e in
    let b = and_true (is_name n) (same_name (m.names k) n) a.1 in
    record { standing = a.0; real = b.0; has = same_name_lem _ _ b.1 }

from_bearing : (m : Machine) (n : Name) (k : ℕ) → Bearing m n k → bears m n k ≡ true
from_bearing m n k h = and_both _ _ h.standing (and_both _ _ h.real (name_same _ _ h.has))

-- ---- the holder of a name

other_free : (m : Machine) (a k : ℕ) (n : Name) → holder_but a n m ≡ 0 → within 1 64 k ≡ true → k ≢ a → bears m n k ≡ true → ⊥
unfolding holder_but
other_free m a k n e r d h =
    let w = within_range 1 64 k r in
    let f = seek_all 64 1 k (λ j. not (j == a) && bears m n j) (omega arith) e w.0 (omega (arith, w.1)) in
    tf (sym (and_both (not (k == a)) _ (ap not (ne_eqb k a d)) h) ∙ f)

-- ---- what holds of every machine that calls reach

record Naming (m : Machine) : Type 0 where
  ranged : (k q : ℕ) → m.marks k ≡ at q → within 1 64 k ≡ true
  bare : (k : ℕ) → m.marks k ≡ gone → m.names k ≡ no_name
  apart : (j k : ℕ) (n : Name) → Bearing m n j → Bearing m n k → j ≡ k

standing_range : (m : Machine) → Naming m → (k : ℕ) → stands (m.marks k) ≡ true → within 1 64 k ≡ true
standing_range m h k e = go (m.marks k) refl e
  where
    go : (s : MarkPlace) → m.marks k ≡ s → stands s ≡ true → within 1 64 k ≡ true
    go gone f t = ft t
    go (at q) f t = h.ranged k q f

fresh_naming : (g : Graph) → Naming (fresh g)
fresh_naming g = record { ranged = λ k q e. gone_at e; bare = λ k e. refl; apart = λ j k n a b. ft a.standing }

-- what an accepted call has passed
Proper : Effect → Machine → Type 0
Proper (marks k) m = within 1 64 k ≡ true
Proper (names k n) m = (stands (m.marks k) ≡ true) × (holder_but k n m ≡ 0) × (is_name n ≡ true)
Proper (steps s) m = Unit {0}
Proper (unmarks k) m = Unit {0}
Proper (goes p) m = Unit {0}
Proper (benches b) m = Unit {0}
Proper clears m = Unit {0}
Proper nothing m = Unit {0}

name_codes : (s t u : Bool) → ((not s ⇒ 11 else not t ⇒ 13 else u ⇒ 18 else 0) == 0) ≡ true → (t ≡ true) × (u ≡ false)
name_codes false t u e = ft e
name_codes true false u e = ft e
name_codes true true true e = ft e
name_codes true true false e = (refl, refl)

name_passed : (w : Parameters) (m : Machine) (k b c : ℕ) → (refusal w m (History (NameMark k b c)) == 0) ≡ true → (stands (m.marks k) ≡ true) × (name_taken m k b c ≡ false)
unfolding refusal
name_passed w m k b c e = name_codes (within 1 64 k) (stands (m.marks k)) (name_taken m k b c) e

not_zero : (n : ℕ) → not (n == 0) ≡ false → n ≡ 0
not_zero n e = go (n == 0) refl e
  where
    go : (t : Bool) → (n == 0) ≡ t → not t ≡ false → n ≡ 0
    go true f h = eqb-true n 0 f
    go false f h = tf h

proper : (w : Parameters) (m : Machine) (c : Command) → (refusal w m c == 0) ≡ true → Proper (deed_of w c m).effect m
unfolding Proper
proper w m (Alter c) f = change_effect (λ e. Proper e m) c m (λ _. tt) tt
proper w m (History (SetMark k)) f = set_range w m k f
proper w m (History (DropMark k)) f = tt
proper w m (History Undo) f = tt
proper w m (History Redo) f = tt
proper w m (History (GoTo k)) f = tt
proper w m (History Commit) f = tt
proper w m (History (Between j k)) f = tt
proper w m (History StandingMarks) f = tt
proper w m (History Free) f = tt
proper w m (History (NameMark k b c)) f =
    let p = name_passed w m k b c f in
    let free = or_none (not (is_name (name b c))) _ p.1 in
    (p.0, not_zero _ free.1, not-false _ free.0)
proper w m (History (GoToName b c)) f = tt
proper w m (History (SetBench b)) f = tt
proper w m (History (MadeBy j k b)) f = tt
proper w m (Ask q) f = tt
proper w m (Quote p) f = tt
proper w m Unknown f = tt

kept_name : (t : Bool) (n o : Name) → t ≡ true → (t ⇒ n else no_name) ≡ o → n ≡ o
kept_name true n o e f = f
kept_name false n o e f = ft e

cut_standing : (p : ℕ) (s : MarkPlace) → stands (cut p s) ≡ true → stands s ≡ true
cut_standing p gone e = e
cut_standing p (at q) e = refl

-- a name given to mark j: that of j, and those before of the others
put_name : (t : Bool) (x y n : Name) → (t ⇒ x else y) ≡ n → ((t ≡ true) × (x ≡ n)) ⊎ ((t ≡ false) × (y ≡ n))
put_name true x y n e = inl (refl, e)
put_name false x y n e = inr (refl, e)

other_mark : (t : Bool) (s u : MarkPlace) → t ≡ false → stands (t ⇒ s else u) ≡ true → stands u ≡ true
other_mark true s u e f = tf e
other_mark false s u e f = f

-- a mark that is set or dropped has no name
bare_bearing : (m : Machine) (j k : ℕ) (s : MarkPlace) (n : Name) → stands ((k == j) ⇒ s else m.marks k) ≡ true → is_name n ≡ true → named j no_name m.names k ≡ n → Bearing m n k
bare_bearing m j k s n a b c = go (put_name (k == j) no_name (m.names k) n c)
  where
    go : (((k == j) ≡ true) × (no_name ≡ n)) ⊎ (((k == j) ≡ false) × (m.names k ≡ n)) → Bearing m n k
    go (inl h) = no_name_lem n b h.1
    go (inr h) = record { standing = other_mark (k == j) s (m.marks k) h.0 a; real = b; has = h.1 }

naming_next : (e : Effect) (m : Machine) → Naming m → Proper e m → Naming (effected e m)
unfolding Proper
naming_next (steps s) m h r = record {
  ranged = λ k q e. h.ranged k q (cut_at m.line.place q (m.marks k) e).0;
  bare = λ k e. rw e;
  apart = λ j k n a b. h.apart j k n (old j n a) (old k n b);
}
  where
    old : (k : ℕ) (n : Name) → Bearing (effected (steps s) m) n k → Bearing m n k
    old k n a = record {
      standing = cut_standing m.line.place (m.marks k) a.standing;
      real = a.real;
      has = kept_name (stands (cut m.line.place (m.marks k))) _ n a.standing a.has;
    }
naming_next (marks i) m h r = record {
  ranged = λ k q e. go k q (set_to (k == i) m.line.place q (m.marks k) e);
  bare = λ k e. bare k (k == i) refl e;
  apart = λ j k n a b. h.apart j k n (bare_bearing m i j _ n a.standing a.real a.has) (bare_bearing m i k _ n b.standing b.real b.has);
}
  where
    go : (k q : ℕ) → (((k == i) ≡ true) × (m.line.place ≡ q)) ⊎ ((m.marks k ≡ at q) × ((k == i) ≡ false)) → within 1 64 k ≡ true
    go k q (inl e) = ap (within 1 64) (eqb-true k i e.0) ∙ r
    go k q (inr e) = h.ranged k q e.0

    bare : (k : ℕ) (t : Bool) → (k == i) ≡ t → (t ⇒ at m.line.place else m.marks k) ≡ gone → (t ⇒ no_name else m.names k) ≡ no_name
    bare k true f e = refl
    bare k false f e = h.bare k e
naming_next (unmarks i) m h r = record {
  ranged = λ k q e. h.ranged k q (drop_to (k == i) q (m.marks k) e).0;
  bare = λ k e. bare k (k == i) refl e;
  apart = λ j k n a b. h.apart j k n (bare_bearing m i j _ n a.standing a.real a.has) (bare_bearing m i k _ n b.standing b.real b.has);
}
  where
    bare : (k : ℕ) (t : Bool) → (k == i) ≡ t → (t ⇒ gone else m.marks k) ≡ gone → (t ⇒ no_name else m.names k) ≡ no_name
    bare k true f e = refl
    bare k false f e = h.bare k e
naming_next (goes p) m h r = record { ranged = h.ranged; bare = h.bare; apart = λ j k n a b. h.apart j k n (old j n a) (old k n b) }
  where
    old : (k : ℕ) (n : Name) → Bearing (effected (goes p) m) n k → Bearing m n k
    old k n a = record { standing = a.standing; real = a.real; has = a.has }
naming_next (benches i) m h r = record { ranged = h.ranged; bare = h.bare; apart = λ j k n a b. h.apart j k n (old j n a) (old k n b) }
  where
    old : (k : ℕ) (n : Name) → Bearing (effected (benches i) m) n k → Bearing m n k
    old k n a = record { standing = a.standing; real = a.real; has = a.has }
naming_next (names i o) m h r = record {
  ranged = h.ranged;
  bare = λ k e. bare k (k == i) refl e;
  apart = λ j k n a b. one j k n a b (put_name (j == i) o (m.names j) n a.has) (put_name (k == i) o (m.names k) n b.has);
}
  where
    bare : (k : ℕ) (t : Bool) → (k == i) ≡ t → m.marks k ≡ gone → (t ⇒ o else m.names k) ≡ no_name
    bare k true f e = tf (sym r.0 ∙ ap (λ (j : ℕ). stands (m.marks j)) (sym (eqb-true k i f)) ∙ ap stands e)
    bare k false f e = h.bare k e

    -- k has the name from before, and i was given it: refused
    taken : (k : ℕ) (n : Name) → o ≡ n → (k == i) ≡ false → stands (m.marks k) ≡ true → is_name n ≡ true → m.names k ≡ n → ⊥
    taken k n e f s t u = (other_free m i k o r.1 (standing_range m h k s) (eqb-false k i f) (from_bearing m o k (record { standing = s; real = ap is_name e ∙ t; has = u ∙ sym e })))

    one : (j k : ℕ) (n : Name) → Bearing (effected (names i o) m) n j → Bearing (effected (names i o) m) n k
        → (((j == i) ≡ true) × (o ≡ n)) ⊎ (((j == i) ≡ false) × (m.names j ≡ n))
        → (((k == i) ≡ true) × (o ≡ n)) ⊎ (((k == i) ≡ false) × (m.names k ≡ n)) → j ≡ k
    one j k n a b (inl x) (inl y) = eqb-true j i x.0 ∙ sym (eqb-true k i y.0)
    one j k n a b (inl x) (inr y) = absurd (taken k n x.1 y.0 b.standing b.real y.1)
    one j k n a b (inr x) (inl y) = absurd (taken j n y.1 x.0 a.standing a.real x.1)
    one j k n a b (inr x) (inr y) = h.apart j k n (record { standing = a.standing; real = a.real; has = x.1 }) (record { standing = b.standing; real = b.real; has = y.1 })
naming_next clears m h r = record { ranged = λ k q e. gone_at e; bare = λ k e. refl; apart = λ j k n a b. ft a.standing }
naming_next nothing m h r = h

naming_step : (w : Parameters) (m : Machine) (x : Call) → Naming m → Naming (step w m x)
naming_step w m x h = go (refusal w m (command_of x) == 0) refl
  where
    go : (t : Bool) → (refusal w m (command_of x) == 0) ≡ t → Naming (step w m x)
    go true f = rw (accepted_step w m (command_of x) f) (naming_next (deed_of w (command_of x) m).effect m h (proper w m (command_of x) f))
    go false f = rw (refused_step w m (command_of x) f) h

naming_last : {m n : Machine} {es : List Event} → Reached m es n → Naming m → Naming n
naming_last here h = h
naming_last (by {m} {n} {es} w x r) h = naming_last r (naming_step w m x h)

-- ---- a mark that stands has the name that it was given last

-- after an effect e: the call gave it, or it had it before and the call neither renamed nor ended the mark
AfterName : Effect → Machine → ℕ → ℕ → Name → Type 0
AfterName e m k q n = (names_by e k n ≡ true) ⊎ ((m.names k ≡ n) × (ends_by e k q m.line.place ≡ false) × (renames_by e k ≡ false))

bare_to : (t : Bool) (y n : Name) → is_name n ≡ true → (t ⇒ no_name else y) ≡ n → (y ≡ n) × (t ≡ false)
bare_to true y n r e = no_name_lem n r e
bare_to false y n r e = (e, refl)

name_to : (e : Effect) (m : Machine) (k q : ℕ) (n : Name) → is_name n ≡ true → (effected e m).marks k ≡ at q → (effected e m).names k ≡ n → AfterName e m k q n
unfolding AfterName
name_to (steps s) m k q n r a e =
    let c = cut_at m.line.place q (m.marks k) a in
    inr (kept_name (stands (cut m.line.place (m.marks k))) _ n (ap stands a) e, c.1, refl)
name_to (marks i) m k q n r a e = let c = bare_to (k == i) _ n r e in inr (c.0, c.1, refl)
name_to (unmarks i) m k q n r a e = let c = bare_to (k == i) _ n r e in inr (c.0, c.1, refl)
name_to (goes p) m k q n r a e = inr (e, refl, refl)
name_to (benches b) m k q n r a e = inr (e, refl, refl)
name_to (names i o) m k q n r a e = go (put_name (k == i) o (m.names k) n e)
  where
    go : (((k == i) ≡ true) × (o ≡ n)) ⊎ (((k == i) ≡ false) × (m.names k ≡ n)) → ((k == i) && same_name o n ≡ true) ⊎ ((m.names k ≡ n) × (false ≡ false) × ((k == i) ≡ false))
    go (inl h) = inl (and_both _ _ h.0 (name_same o n h.1))
    go (inr h) = inr (h.1, refl, h.0)
name_to clears m k q n r a e = gone_at a
name_to nothing m k q n r a e = inr (e, refl, refl)

name_from : (e : Effect) (m : Machine) (k q : ℕ) (n : Name) → (effected e m).marks k ≡ at q → AfterName e m k q n → (effected e m).names k ≡ n
unfolding AfterName
name_from (steps s) m k q n a (inl h) = ft h
name_from (steps s) m k q n a (inr h) = rw a h.0
name_from (marks i) m k q n a (inl h) = ft h
name_from (marks i) m k q n a (inr h) = rw h.1 h.0
name_from (unmarks i) m k q n a (inl h) = ft h
name_from (unmarks i) m k q n a (inr h) = rw h.1 h.0
name_from (goes p) m k q n a (inl h) = ft h
name_from (goes p) m k q n a (inr h) = h.0
name_from (benches b) m k q n a (inl h) = ft h
name_from (benches b) m k q n a (inr h) = h.0
name_from (names i o) m k q n a (inl h) = let b = and_true (k == i) _ h in rw b.0 (same_name_lem o n b.1)
name_from (names i o) m k q n a (inr h) = rw h.2 h.0
name_from clears m k q n a h = gone_at a
name_from nothing m k q n a (inl h) = ft h
name_from nothing m k q n a (inr h) = h.0

-- the same after one call, accepted or refused
AfterCall : Parameters → Machine → Call → ℕ → ℕ → Name → Type 0
AfterCall w m x k q n =
    (gives_name k n (event_of w m x) ≡ true) ⊎ ((m.names k ≡ n) × (ends_name k q (event_of w m x) ≡ false))

neither : {a b : Bool} → a ≡ false → b ≡ false → (a || b) ≡ false
neither e f = rw e f

step_to : (w : Parameters) (m : Machine) (x : Call) (k q : ℕ) (n : Name) → is_name n ≡ true → (step w m x).marks k ≡ at q → (step w m x).names k ≡ n → AfterCall w m x k q n
unfolding AfterCall AfterName
step_to w m x k q n r a e = go (refusal w m (command_of x) == 0) refl
  where
    one : AfterName (deed_of w (command_of x) m).effect m k q n → ((answer w m x).code == 0) ≡ true → AfterCall w m x k q n
    one (inl h) f = inl (gives_is w m k q x n ∙ and_both _ _ f h)
    one (inr h) f = inr (h.0, neither (ends_is w m k q x ∙ rw f h.1) (renames_is w m k q x ∙ rw f h.2))

    go : (t : Bool) → (refusal w m (command_of x) == 0) ≡ t → AfterCall w m x k q n
    go true f = one (name_to (deed_of w (command_of x) m).effect m k q n r (rw (accepted_step w m (command_of x) f) at a) (rw (accepted_step w m (command_of x) f) at e))
        (code_is w m (command_of x) true f)
    go false f = inr (rw (refused_step w m (command_of x) f) at e, rw (code_is w m (command_of x) false f))

step_from : (w : Parameters) (m : Machine) (x : Call) (k q : ℕ) (n : Name) → (step w m x).marks k ≡ at q → AfterCall w m x k q n → (step w m x).names k ≡ n
unfolding AfterCall AfterName
step_from w m x k q n a h = go (refusal w m (command_of x) == 0) refl h
  where
    one : ((answer w m x).code == 0) ≡ true → AfterCall w m x k q n → AfterName (deed_of w (command_of x) m).effect m k q n
    one f (inl i) = inl (and_true ((answer w m x).code == 0) (names_by (deed_of w (command_of x) m).effect k n) (sym (gives_is w m k q x n) ∙ i)).1
    one f (inr i) =
        let b = or_none (ends_mark k q (event_of w m x)) (names_mark k (event_of w m x)) i.1 in
        let u = sym (ends_is w m k q x) ∙ b.0 in
        let v = sym (renames_is w m k q x) ∙ b.1 in
        inr (i.0, rw f at u, rw f at v)

    kept : ((answer w m x).code == 0) ≡ false → AfterCall w m x k q n → m.names k ≡ n
    kept f (inl i) = tf (sym (and_true ((answer w m x).code == 0) (call_gives k n x) i).0 ∙ f)
    kept f (inr i) = i.0

    go : (t : Bool) → (refusal w m (command_of x) == 0) ≡ t → AfterCall w m x k q n → (step w m x).names k ≡ n
    go true f i = rw (accepted_step w m (command_of x) f)
        (name_from (deed_of w (command_of x) m).effect m k q n (rw (accepted_step w m (command_of x) f) at a) (one (code_is w m (command_of x) true f) i))
    go false f i = rw (refused_step w m (command_of x) f) (kept (code_is w m (command_of x) false f) i)

-- a mark that was set among the events was ended by it
sets_ends : (k q p n : ℕ) (x : Call) → call_sets k x ≡ true → call_ends k q p n x ≡ true
sets_ends k q p n x h =
    let a = and_true (x.kind == 17) (k == x.a) h in
    rw (eq-eqb 17 x.kind (sym (eqb-true x.kind 17 a.0))) a.1

kept_ends : (k q : ℕ) {g : Graph} {es : List Event} → Kept k q g es → any (ends_name k q) es ≡ true
kept_ends k q (set_here {e} {es} s p c nz) =
    let a = and_true (e.answer.code == 0) (call_sets k e.call) s in
    or_left (ends_name k q e) _ (or_left (ends_mark k q e) _ (and_both _ _ a.0 (sets_ends k q e.place e.answer.number e.call a.1)))
kept_ends k q (set_later {e} {es} r) = or_right (ends_name k q e) _ (kept_ends k q r)

-- a mark that stands at the end and was not ended stood before
was_standing : {m o : Machine} {es : List Event} → Reached m es o → (k q : ℕ) → o.marks k ≡ at q → any (ends_name k q) es ≡ false → m.marks k ≡ at q
unfolding KeptOrStanding
was_standing {m} {o} {es} z k q a nz = go (last_to z k q a)
  where
    go : ((h : Graph) × Kept k q h es) ⊎ ((m.marks k ≡ at q) × (any (ends_mark k q) es ≡ false)) → m.marks k ≡ at q
    go (inl h) = ft (sym nz ∙ kept_ends k q h.1)
    go (inr h) = h.0

module _ (k q : ℕ) (n : Name) where
  abbrev NamedOrBefore : Machine → List Event → Type 0
  NamedOrBefore m es = (NameKept k q n es) ⊎ ((m.names k ≡ n) × (any (ends_name k q) es ≡ false))

  name_last : {m o : Machine} {es : List Event} → Reached m es o → is_name n ≡ true → o.marks k ≡ at q → o.names k ≡ n → NamedOrBefore m es
  unfolding AfterCall
  name_last here r a e = inr (e, refl)
  name_last (by {m} {es} w x z) r a e = go (name_last z r a e)
    where
      one : any (ends_name k q) es ≡ false → AfterCall w m x k q n → NamedOrBefore m (event_of w m x ∷ es)
      one nz (inl h) = inl (named_here h nz)
      one nz (inr h) = inr (h.0, neither h.1 nz)

      go : NamedOrBefore (step w m x) es → NamedOrBefore m (event_of w m x ∷ es)
      go (inl h) = inl (named_later h)
      go (inr h) = one h.1 (step_to w m x k q n r (was_standing z k q a h.1) h.0)

  name_stays : {m o : Machine} {es : List Event} → Reached m es o → o.marks k ≡ at q → m.names k ≡ n → any (ends_name k q) es ≡ false → o.names k ≡ n
  unfolding AfterCall
  name_stays here a e nz = e
  name_stays (by {m} {es} w x z) a e nz =
      let b = or_none (ends_name k q (event_of w m x)) _ nz in
      name_stays z a (step_from w m x k q n (was_standing z k q a b.1) (inr (e, b.0))) b.1

  name_kept : {m o : Machine} {es : List Event} → Reached m es o → o.marks k ≡ at q → NameKept k q n es → o.names k ≡ n
  unfolding AfterCall
  name_kept (here {m = m}) a x9 = elim x9 [ ]
  name_kept (by {m} {es} w x z) a (named_here s nz) = name_stays z a (step_from w m x k q n (was_standing z k q a nz) (inl s)) nz
  name_kept (by {m} {es} w x z) a (named_later t) = name_kept z a t

-- ---- a name that was given is one

given_real : (e : Effect) (m : Machine) (k : ℕ) (n : Name) → Proper e m → names_by e k n ≡ true → is_name n ≡ true
unfolding Proper
given_real (names j o) m k n p h = ap is_name (sym (same_name_lem o n (and_true (k == j) _ h).1)) ∙ p.2
given_real (steps s) m k n p h = ft h
given_real (marks j) m k n p h = ft h
given_real (unmarks j) m k n p h = ft h
given_real (goes q) m k n p h = ft h
given_real (benches b) m k n p h = ft h
given_real clears m k n p h = ft h
given_real nothing m k n p h = ft h

kept_real : {m o : Machine} {es : List Event} → Reached m es o → (k q : ℕ) (n : Name) → NameKept k q n es → is_name n ≡ true
kept_real (here {m = m}) k q n x5 = elim x5 [ ]
kept_real (by {m} {es} w x z) k q n (named_here s nz) =
    let a = and_true _ _ (sym (gives_is w m k q x n) ∙ s) in
    given_real (deed_of w (command_of x) m).effect m k n (proper w m (command_of x) (not_refused w m (command_of x) a.0)) a.1
kept_real (by {m} {es} w x z) k q n (named_later t) = kept_real z k q n t

-- ---- giving a name

naming_command : (k : ℕ) (n : Name) (d : ℕ) → command_of (name_it k n d) ≡ History (NameMark k n.first n.second)
unfolding command_of
naming_command k n d = refl

naming_code : (w : Parameters) (m : Machine) (k : ℕ) (n : Name) (d : ℕ) → within 1 64 k ≡ true → stands (m.marks k) ≡ true → is_name n ≡ true → holder_but k n m ≡ 0 →
    (answer w m (name_it k n d)).code ≡ 0
unfolding answer_to refusal
naming_code w m k n d r s i h = rw (naming_command k n d) (rw (r, s, i, eq-eqb (holder_but k n m) 0 h))

-- ---- going by a name

holder_is : (m : Machine) (k : ℕ) (n : Name) → Naming m → Bearing m n k → holder_of n m ≡ k
unfolding holder_but
holder_is m k n h b = elim (same? (holder_of n m) 0) [
  | same u v ↦
      let w = within_range 1 64 k (standing_range m h k b.standing) in
      absurd (other_free m 0 k n u (standing_range m h k b.standing) (omega (arith, w.0)) (from_bearing m n k b))
  | differ u v ↦
      let f = seek_found 64 1 (holder_of n m) (λ j. not (j == 0) && bears m n j) refl u in
      h.apart (holder_of n m) k n (to_bearing m n (holder_of n m) (and_true (not (holder_of n m == 0)) _ f).1) b
]

by_command : (n : Name) (c d : ℕ) → command_of (go_by n c d) ≡ History (GoToName n.first n.second)
unfolding command_of
by_command n c d = refl

by_code : (w : Parameters) (m : Machine) (n : Name) → refusal w m (History (GoToName n.first n.second))
    ≡ (too_far w.changes m (place_of m (holder_of n m)) ⇒ 10 else (holder_of n m == 0) ⇒ 19 else 0)
unfolding refusal
by_code w m n = refl

module _ (w : Parameters) (m : Machine) (k q c d : ℕ) (n : Name) (z : k ≢ 0) (i : holder_of n m ≡ k) (e : m.marks k ≡ at q) where
  by_refusal : refusal w m (History (GoToName n.first n.second)) ≡ (too_far w.changes m q ⇒ 10 else 0)
  by_refusal =
      by_code w m n
      ∙ (λ j. too_far w.changes m ((ap (place_of m) i ∙ ap (place_or m.line.place) e) j) ⇒ 10 else ((ap (λ (j : ℕ). j == 0) i ∙ ne_eqb k 0 z) j ⇒ 19 else 0))

  to_far : too_far w.changes m q ≡ true → (answer w m (go_by n c d)).code ≡ 10
  unfolding answer_to
  to_far t = rw (by_command n c d) (by_refusal ∙ ap (λ (u : Bool). u ⇒ 10 else 0) t)

  module _ (t : too_far w.changes m q ≡ false) where
    by_accepted : refusal w m (History (GoToName n.first n.second)) ≡ 0
    by_accepted = by_refusal ∙ ap (λ (u : Bool). u ⇒ 10 else 0) t

    zero_test : (refusal w m (History (GoToName n.first n.second)) == 0) ≡ true
    zero_test = rw by_accepted

    to_code : (answer w m (go_by n c d)).code ≡ 0
    unfolding answer_to
    to_code = rw (by_command n c d) by_accepted

    to_number : (answer w m (go_by n c d)).number ≡ distance m.line.place q
    unfolding answer_to
    to_number = rw (by_command n c d, zero_test, i, e)

    to_graph : (g : Graph) → Holds m q g → present (step w m (go_by n c d)) ≡ g
    unfolding Holds
    to_graph g h = rw (by_command n c d, accepted_step w m (History (GoToName n.first n.second)) zero_test, i, e) h.1

-- there is no mark 0, so that nothing is ahead
no_holder : (w : Parameters) (m : Machine) (n : Name) (c d : ℕ) → m.marks 0 ≡ gone → ((k : ℕ) → bears m n k ≡ false) → (answer w m (go_by n c d)).code ≡ 19
unfolding answer_to holder_but
no_holder w m n c d o h =
    let z : holder_of n m ≡ 0 = seek_none 64 1 (λ j. not (j == 0) && bears m n j) (λ j. none (not (j == 0)) (bears m n j) (h j)) in
    let p : place_of m (holder_of n m) ≡ m.line.place = ap (place_of m) z ∙ ap (place_or m.line.place) o in
    let t : too_far w.changes m m.line.place ≡ false = le-ltb _ (onward m.line.place m.line) (omega (arith, onward_back m.line.place m.line (omega arith))) in
    rw (by_command n c d) (by_code w m n ∙ (λ j. (ap (too_far w.changes m) p ∙ t) j ⇒ 10 else (eq-eqb _ 0 z j ⇒ 19 else 0)))
  where
    none : (a b : Bool) → b ≡ false → (a && b) ≡ false
    none true b e = e
    none false b e = refl

-- ---- the sentence, of every machine that calls have led to

module _ (g : Graph) (m : Machine) (es : List Event) (z : Reached (fresh g) es m) where
  now : Naming m
  now = naming_last z (fresh_naming g)

  bearing : (k q : ℕ) (h : Graph) (n : Name) → HasName k q h n es → Bearing m n k
  bearing k q h n x =
      let a = kept_from z k q h x.standing in
      record { standing = ap stands a; real = kept_real z k q n x.given; has = name_kept k q n z a x.given }

  told : (k : ℕ) (n : Name) → Bearing m n k → (q : ℕ) × (h : Graph) × HasName k q h n es
  told k n b = go (m.marks k) refl b.standing
    where
      only : (q : ℕ) → NamedOrBefore k q n (fresh g) es → NameKept k q n es
      only q (inl h) = h
      only q (inr h) = no_name_lem n b.real h.0

      go : (s : MarkPlace) → m.marks k ≡ s → stands s ≡ true → (q : ℕ) × (h : Graph) × HasName k q h n es
      go gone e t = ft t
      go (at q) e t =
          let s = (stands_iff g m es z k q).0 e in
          (q, s.0, record { standing = s.1; given = only q (name_last k q n z b.real e b.has) })

  named_is : (k : ℕ) (n : Name) → (bears m n k ≡ true) ↔ ((q : ℕ) × (h : Graph) × HasName k q h n es)
  named_is k n = (λ e. told k n (to_bearing m n k e), λ x. from_bearing m n k (bearing k x.0 x.1 n x.2))

  none_bears : (k : ℕ) (n : Name) → ((k q : ℕ) (h : Graph) → HasName k q h n es → ⊥) → bears m n k ≡ false
  none_bears k n f = go (bears m n k) refl
    where
      go : (t : Bool) → bears m n k ≡ t → t ≡ false
      go true e = let x = told k n (to_bearing m n k e) in absurd (f k x.0 x.1 x.2)
      go false e = refl

  unheld : (k : ℕ) (n : Name) → ((j p : ℕ) (f : Graph) → HasName j p f n es → j ≡ k) → holder_but k n m ≡ 0
  unfolding holder_but
  unheld k n f = seek_none 64 1 (λ j. not (j == k) && bears m n j) (λ j. go j (j == k) refl (bears m n j) refl)
    where
      go : (j : ℕ) (s : Bool) → (j == k) ≡ s → (t : Bool) → bears m n j ≡ t → (not s && t) ≡ false
      go j true d t e = refl
      go j false d true e = let x = told j n (to_bearing m n j e) in absurd (eqb-false j k d (f j x.0 x.1 x.2))
      go j false d false e = refl

  no_mark_0 : m.marks 0 ≡ gone
  no_mark_0 = go (m.marks 0) refl
    where
      go : (s : MarkPlace) → m.marks 0 ≡ s → s ≡ gone
      go gone e = refl
      go (at q) e = ft (now.ranged 0 q e)

  -- at any parameters
  module _ (w : Parameters) where
    is_named : (k q : ℕ) (h : Graph) (n : Name) (d : ℕ) → is_name n ≡ true → Kept k q h es → ((j p : ℕ) (f : Graph) → HasName j p f n es → j ≡ k) → (answer w m (name_it k n d)).code ≡ 0
    is_named k q h n d r s only = naming_code w m k n d (kept_range z k q h s) (ap stands (kept_from z k q h s)) r (unheld k n only)

    is_missing : (n : Name) (c d : ℕ) → ((k q : ℕ) (h : Graph) → HasName k q h n es → ⊥) → (answer w m (go_by n c d)).code ≡ 19
    is_missing n c d f = no_holder w m n c d no_mark_0 (λ k. none_bears k n f)

    module _ (k q : ℕ) (h : Graph) (n : Name) (c d : ℕ) (x : HasName k q h n es) where
      stood : m.marks k ≡ at q
      stood = kept_from z k q h x.standing

      nonzero : k ≢ 0
      nonzero j = omega (arith, (within_range 1 64 k (kept_range z k q h x.standing)).0, j)

      holder : holder_of n m ≡ k
      holder = holder_is m k n now (bearing k q h n x)

      goes_by : too_far w.changes m q ≡ false → ((answer w m (go_by n c d)).code ≡ 0) × (present (step w m (go_by n c d)) ≡ h) × ((answer w m (go_by n c d)).number ≡ distance m.line.place q)
      goes_by t = (
        to_code w m k q c d n nonzero holder stood t,
        to_graph w m k q c d n nonzero holder stood t h (kept_graph z k q h (fresh_places g) x.standing),
        to_number w m k q c d n nonzero holder stood t,
      )

      no_way_by : too_far w.changes m q ≡ true → (answer w m (go_by n c d)).code ≡ 10
      no_way_by t = to_far w m k q c d n nonzero holder stood t

-- one store alone, which has room for all its steps
pub name_sentence : (w : Parameters) (g : Graph) (xs : List Call) → NameSentence w g xs
name_sentence w g xs =
    let m = last w (fresh g) xs in
    let es = events w (fresh g) xs in
    let z = reached w (fresh g) xs in
    record {
      named_iff = named_is g m es z;
      unnamed = λ k e. (now g m es z).bare k e;
      one_holder = λ j k p q f h n a b. (now g m es z).apart j k n (bearing g m es z j p f n a) (bearing g m es z k q h n b);
      naming = is_named g m es z w;
      going = λ k q h n c d x. goes_by g m es z w k q h n c d x (own_reach w m (costs_last w g xs) q);
      missing = is_missing g m es z w;
    }

-- one of several, at the joint room that each call finds
module _ (w : Parameters) (g : Graph) (ys : List Posed) where
  abbrev end : Machine
  end = last_at w (fresh g) ys

  abbrev told_of : List Event
  told_of = events_at w (fresh g) ys

  came : Reached (fresh g) told_of end
  came = reached_at w (fresh g) ys

  goes_at : (r k q : ℕ) (h : Graph) (n : Name) (c d : ℕ) → HasName k q h n told_of → onward q end.line ≤ r → Goes w end r (go_by n c d) q h
  goes_at r k q h n c d x l =
      let a = goes_by g end told_of came (roomed w end r) k q h n c d x (near w end (costs_at w g ys) q r l) in
      record { accepted = a.0; graph = a.1; moved = a.2 }

  pub name_sentence_at : NameSentenceAt w g ys
  name_sentence_at = record {
    named_iff = named_is g end told_of came;
    unnamed = λ k e. (now g end told_of came).bare k e;
    one_holder = λ j k p q f h n a b. (now g end told_of came).apart j k n (bearing g end told_of came j p f n a) (bearing g end told_of came k q h n b);
    naming = λ r. is_named g end told_of came (roomed w end r);
    going = goes_at;
    too_far = λ r k q h n c d x l. no_way_by g end told_of came (roomed w end r) k q h n c d x (far w end q r l);
    going_back = λ r k q h n c d x l. goes_at r k q h n c d x (omega (arith, onward_back q end.line l));
    missing = λ r. is_missing g end told_of came (roomed w end r);
  }

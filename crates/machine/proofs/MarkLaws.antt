-- When marks stand and what going to one gives: REFERENCE 4.11 and 4.12.
use Rattle.std.specs.Prelude.{◌==◌}
use Prim.Native.Nat.{ℕ, suc, ◌≤◌}
use mathlib.Core.Path.{◌≡◌, refl, sym, ap, ◌∙◌}
use mathlib.Core.Logic.{◌⊎◌, inl, inr, ◌↔◌}
use mathlib.Core.Bool.{Bool, true, false}
use mathlib.Core.List.{List}
use native.Mathlib.Omega.{arith}
use lib.Dec.{ltb}
use lib.ListN.{length}
use borrow.Author.Tests.{ltb-false, eqb-true, eqb-false}
use Rattle.lists.specs.Choice.{◌⇒◌else◌, within}
use Rattle.lists.specs.Lists.{any}
use Rattle.lists.proofs.Bools.{tf, ft, and_true, or_none}
use Rattle.graph.specs.Graph.{Graph}
use Rattle.history.specs.Machine.{Machine, MarkPlace, gone, at, place_or, graph_at, onward, distance, fresh, present, name, holder_of}
use Rattle.history.proofs.Timelines.{length_cut, graph_kept, onward_back}
use Rattle.machine.specs.Rules.{Effect, steps, marks, unmarks, goes, names, benches, clears, nothing, effected}
use Rattle.commands.specs.declared.HistoryCall.TheVariants.{SetMark, DropMark, Undo, Redo, GoTo, Commit, Between, Standing as StandingMarks, Free, NameMark, GoToName, SetBench, MadeBy}
use Rattle.commands.specs.declared.Command.{Command}
use Rattle.commands.specs.declared.Command.TheVariants.{Alter, History, Ask, Quote, Unknown}
use Rattle.commands.specs.Calls.{Call}
use Rattle.commands.specs.Commands.{command_of}
use Rattle.machine.specs.Calls.{Parameters}
use Rattle.machine.specs.Codes.{refusal}
use Rattle.machine.specs.Machine.{deed_of, answer_to, answer, step, last}
use Rattle.machine.specs.Marks.{Event, event_of, events, sets_mark, ends_mark, Kept, set_here, set_later, go_to, MarkSentence}
use Rattle.machine.proofs.Families.{change_effect}
use Rattle.machine.proofs.Accepts.{code_is, accepted_step, refused_step, not_refused}
use Rattle.machine.proofs.MarkCalls.{sets_by, ends_by, sets_is, ends_is}
use Rattle.machine.specs.HistoryCodes.{too_far}
use Rattle.machine.specs.Posed.{Posed, roomed, last_at, events_at}
use Rattle.machine.specs.Sentences.{Goes, MarkSentenceAt}
use Rattle.machine.proofs.CostsFit.{costs_last, costs_at}
use Rattle.machine.proofs.Rooms.{own_reach, near, far}
use Rattle.machine.proofs.Reached.{Reached, here, by, reached, reached_at}
use Rattle.machine.proofs.Stands.{gone_at, cut_at, set_to, drop_to, KeptOrStanding, last_to, kept_from}

-- ---- the places stay within the graphs, and a kept place keeps its graph

pub record PlacesInRange (m : Machine) : Type 0 where
  pub place_in : m.line.place ≤ length m.line.steps
  pub marks_in : (k q : ℕ) → m.marks k ≡ at q → q ≤ length m.line.steps

pub fresh_places : (g : Graph) → PlacesInRange (fresh g)
fresh_places g = record { place_in = omega arith; marks_in = λ k q e. gone_at e }

-- code 14
redo_room : (w : Parameters) (m : Machine) → (refusal w m (History Redo) == 0) ≡ true → (m.line.place == length m.line.steps) ≡ false
unfolding refusal
redo_room w m f = go (too_far w.changes m (suc m.line.place)) (m.line.place == length m.line.steps) f
  where
    go : (u t : Bool) → ((u ⇒ 10 else t ⇒ 14 else 0) == 0) ≡ true → t ≡ false
    go true t e = ft e
    go false true e = ft e
    go false false e = refl

-- code 11
pub set_range : (w : Parameters) (m : Machine) (k : ℕ) → (refusal w m (History (SetMark k)) == 0) ≡ true → within 1 64 k ≡ true
unfolding refusal
set_range w m k f = go (within 1 64 k) refl
  where
    go : (t : Bool) → within 1 64 k ≡ t → t ≡ true
    go true e = refl
    go false e = rw e at f

-- an effect that goes to a place goes to one of G0 to Gm
Inside : Effect → Machine → Type 0
Inside (goes p) m = p ≤ length m.line.steps
Inside (steps s) m = Unit {0}
Inside (marks n) m = Unit {0}
Inside (names k n) m = Unit {0}
Inside (benches b) m = Unit {0}
Inside (unmarks n) m = Unit {0}
Inside clears m = Unit {0}
Inside nothing m = Unit {0}

place_inside : (m : Machine) (k : ℕ) → PlacesInRange m → place_or m.line.place (m.marks k) ≤ length m.line.steps
place_inside m k h = go (m.marks k) refl
  where
    go : (s : MarkPlace) → m.marks k ≡ s → place_or m.line.place s ≤ length m.line.steps
    go gone e = h.place_in
    go (at q) e = h.marks_in k q e

inside : (w : Parameters) (m : Machine) (c : Command) → PlacesInRange m → (refusal w m c == 0) ≡ true → Inside (deed_of w c m).effect m
unfolding Inside
inside w m (Alter c) h f = change_effect (λ e. Inside e m) c m (λ _. tt) tt
inside w m (History (SetMark k)) h f = tt
inside w m (History (DropMark k)) h f = tt
inside w m (History Undo) h f = omega (arith, h.place_in)
inside w m (History Redo) h f = let n = eqb-false m.line.place (length m.line.steps) (redo_room w m f) in omega (arith, h.place_in, n)
inside w m (History (GoTo k)) h f = place_inside m k h
inside w m (History Commit) h f = tt
inside w m (History (Between j k)) h f = tt
inside w m (History StandingMarks) h f = tt
inside w m (History Free) h f = tt
inside w m (History (NameMark k b c)) h f = tt
inside w m (History (GoToName b c)) h f = place_inside m (holder_of (name b c) m) h
inside w m (History (SetBench b)) h f = tt
inside w m (History (MadeBy j k b)) h f = tt
inside w m (Ask q) h f = tt
inside w m (Quote p) h f = tt
inside w m Unknown h f = tt

places_next : (e : Effect) (m : Machine) → PlacesInRange m → Inside e m → PlacesInRange (effected e m)
unfolding Inside
places_next (steps s) m h r = record {
  place_in = rw (length_cut m.line.place m.line.steps _ h.place_in) (omega arith);
  marks_in = λ k q e.
      rw (length_cut m.line.place m.line.steps _ h.place_in)
      (let b = ltb-false m.line.place q (cut_at m.line.place q (m.marks k) e).1 in omega arith);
}
places_next (marks n) m h r = record {
  place_in = h.place_in;
  marks_in = λ k q e. go k q (set_to (k == n) m.line.place q (m.marks k) e);
}
  where
    go : (k q : ℕ) → (((k == n) ≡ true) × (m.line.place ≡ q)) ⊎ ((m.marks k ≡ at q) × ((k == n) ≡ false)) → q ≤ length m.line.steps
    go k q (inl i) = omega (arith, h.place_in, i.1)
    go k q (inr i) = h.marks_in k q i.0
places_next (unmarks n) m h r = record {
  place_in = h.place_in;
  marks_in = λ k q e. h.marks_in k q (drop_to (k == n) q (m.marks k) e).0;
}
places_next (goes p) m h r = record { place_in = r; marks_in = h.marks_in }
places_next (names k n) m h r = record { place_in = h.place_in; marks_in = h.marks_in }
places_next (benches b) m h r = record { place_in = h.place_in; marks_in = h.marks_in }
places_next clears m h r = record { place_in = omega arith; marks_in = λ k q e. gone_at e }
places_next nothing m h r = h

pub places_step : (w : Parameters) (m : Machine) (x : Call) → PlacesInRange m → PlacesInRange (step w m x)
places_step w m x h = go (refusal w m (command_of x) == 0) refl
  where
    go : (t : Bool) → (refusal w m (command_of x) == 0) ≡ t → PlacesInRange (step w m x)
    go true f = rw (accepted_step w m (command_of x) f) (places_next (deed_of w (command_of x) m).effect m h (inside w m (command_of x) h f))
    go false f = rw (refused_step w m (command_of x) f) h

-- an effect at place p takes Gq away: a change before q, or a commit
loses : Effect → ℕ → ℕ → Bool
loses (steps s) q p = ltb p q
loses clears q p = true
loses (marks n) q p = false
loses (unmarks n) q p = false
loses (goes r) q p = false
loses (names k n) q p = false
loses (benches b) q p = false
loses nothing q p = false

ends_loses : (e : Effect) (k q p : ℕ) → ends_by e k q p ≡ false → loses e q p ≡ false
unfolding loses
ends_loses (steps s) k q p e = e
ends_loses (marks n) k q p e = refl
ends_loses (unmarks n) k q p e = refl
ends_loses (goes r) k q p e = refl
ends_loses (names j n) k q p e = refl
ends_loses (benches b) k q p e = refl
ends_loses clears k q p e = e
ends_loses nothing k q p e = refl

sets_loses : (e : Effect) (k q p : ℕ) → sets_by e k ≡ true → loses e q p ≡ false
unfolding loses
sets_loses (steps s) k q p e = ft e
sets_loses (marks n) k q p e = refl
sets_loses (unmarks n) k q p e = refl
sets_loses (goes r) k q p e = refl
sets_loses (names j n) k q p e = refl
sets_loses (benches b) k q p e = refl
sets_loses clears k q p e = ft e
sets_loses nothing k q p e = refl

-- Gq is there, and is g
unfoldable pub Holds : Machine → ℕ → Graph → Type 0
Holds m q g = (q ≤ length m.line.steps) × (graph_at q m.line.start m.line.steps ≡ g)

holds_next : (e : Effect) (m : Machine) (q : ℕ) (g : Graph) → PlacesInRange m → Holds m q g → loses e q m.line.place ≡ false → Holds (effected e m) q g
unfolding loses Holds
holds_next (steps s) m q g h i e =
    let b = ltb-false m.line.place q e in
    (rw (length_cut m.line.place m.line.steps _ h.place_in) (omega arith), graph_kept m.line.start m.line.steps _ m.line.place q b h.place_in ∙ i.1)
holds_next (marks n) m q g h i e = i
holds_next (unmarks n) m q g h i e = i
holds_next (goes p) m q g h i e = i
holds_next (names k n) m q g h i e = i
holds_next (benches b) m q g h i e = i
holds_next clears m q g h i e = tf e
holds_next nothing m q g h i e = i

holds_ends : (w : Parameters) (m : Machine) (x : Call) (k q : ℕ) (g : Graph) → PlacesInRange m → Holds m q g →
    ends_mark k q (event_of w m x) ≡ false → Holds (step w m x) q g
holds_ends w m x k q g h i e = go (refusal w m (command_of x) == 0) refl
  where
    go : (t : Bool) → (refusal w m (command_of x) == 0) ≡ t → Holds (step w m x) q g
    go true f =
        rw (accepted_step w m (command_of x) f)
        (holds_next (deed_of w (command_of x) m).effect m q g h i
        (ends_loses (deed_of w (command_of x) m).effect k q m.line.place (rw (code_is w m (command_of x) true f) at (sym (ends_is w m k q x) ∙ e))))
    go false f = rw (refused_step w m (command_of x) f) i

holds_sets : (w : Parameters) (m : Machine) (x : Call) (k q : ℕ) (g : Graph) → PlacesInRange m → Holds m q g →
    sets_mark k (event_of w m x) ≡ true → Holds (step w m x) q g
holds_sets w m x k q g h i e =
    let a = and_true _ _ (sym (sets_is w m k q x) ∙ e) in
    let f = not_refused w m (command_of x) a.0 in
    rw (accepted_step w m (command_of x) f) (holds_next (deed_of w (command_of x) m).effect m q g h i (sets_loses (deed_of w (command_of x) m).effect k q m.line.place a.1))

stay_graph : {m n : Machine} {es : List Event} → Reached m es n → (k q : ℕ) (g : Graph) → PlacesInRange m → Holds m q g → any (ends_mark k q) es ≡ false → Holds n q g
stay_graph here k q g h i e = i
stay_graph (by {m} {n} {es} w x r) k q g h i e =
    stay_graph r k q g (places_step w m x h)
    (holds_ends w m x k q g h i (or_none (ends_mark k q (event_of w m x)) _ e).0)
    (or_none (ends_mark k q (event_of w m x)) _ e).1

pub kept_graph : {m n : Machine} {es : List Event} → Reached m es n → (k q : ℕ) (g : Graph) → PlacesInRange m → Kept k q g es → Holds n q g
unfolding Holds
kept_graph (here {m = m}) k q g h x9 = elim x9 [ ]
kept_graph (by {m} {n} {es} w x r) k q g h (set_here s p c nz) =
    stay_graph r k q g (places_step w m x h)
    (holds_sets w m x k q g h (rw p at h.place_in, ap (λ (i : ℕ). graph_at i m.line.start m.line.steps) (sym p) ∙ c) s) nz
kept_graph (by {m} {n} {es} w x r) k q g h (set_later t) = kept_graph r k q g (places_step w m x h) t

sets_range : (w : Parameters) (m : Machine) (c : Command) (k : ℕ) → (refusal w m c == 0) ≡ true → sets_by (deed_of w c m).effect k ≡ true → within 1 64 k ≡ true
sets_range w m (History (SetMark n)) k f e = ap (within 1 64) (eqb-true k n e) ∙ set_range w m n f
sets_range w m (History (DropMark n)) k f e = ft e
sets_range w m (History Undo) k f e = ft e
sets_range w m (History Redo) k f e = ft e
sets_range w m (History (GoTo n)) k f e = ft e
sets_range w m (History Commit) k f e = ft e
sets_range w m (History (Between i j)) k f e = ft e
sets_range w m (History StandingMarks) k f e = ft e
sets_range w m (History Free) k f e = ft e
sets_range w m (History (NameMark j b c)) k f e = ft e
sets_range w m (History (GoToName b c)) k f e = ft e
sets_range w m (History (SetBench b)) k f e = ft e
sets_range w m (History (MadeBy i j b)) k f e = ft e
sets_range w m (Alter c) k f e = change_effect (λ i. sets_by i k ≡ true → within 1 64 k ≡ true) c m (λ _ j. ft j) (λ j. ft j) e
sets_range w m (Ask q) k f e = ft e
sets_range w m (Quote p) k f e = ft e
sets_range w m Unknown k f e = ft e

pub kept_range : {m n : Machine} {es : List Event} → Reached m es n → (k q : ℕ) (g : Graph) → Kept k q g es → within 1 64 k ≡ true
kept_range (here {m = m}) k q g x5 = elim x5 [ ]
kept_range (by {m} {n} {es} w x r) k q g (set_here s p c nz) =
    let a = and_true _ _ (sym (sets_is w m k q x) ∙ s) in
    sets_range w m (command_of x) k (not_refused w m (command_of x) a.0) a.1
kept_range (by {m} {n} {es} w x r) k q g (set_later t) = kept_range r k q g t

-- ---- going to a standing mark

go_command : (k b c d : ℕ) → command_of (go_to k b c d) ≡ History (GoTo k)
unfolding command_of
go_command k b c d = refl

go_refusal : (w : Parameters) (m : Machine) (k q : ℕ) → within 1 64 k ≡ true → m.marks k ≡ at q → refusal w m (History (GoTo k)) ≡ (too_far w.changes m q ⇒ 10 else 0)
unfolding refusal
go_refusal w m k q r e = rw (r, e)

-- at any parameters
module _ (w : Parameters) (m : Machine) (k q b c d : ℕ) (r : within 1 64 k ≡ true) (e : m.marks k ≡ at q) where
  go_too_far : too_far w.changes m q ≡ true → (answer w m (go_to k b c d)).code ≡ 10
  unfolding answer_to
  go_too_far t = rw (go_command k b c d) (go_refusal w m k q r e ∙ ap (λ (u : Bool). u ⇒ 10 else 0) t)

  module _ (t : too_far w.changes m q ≡ false) where
    go_accepted : refusal w m (History (GoTo k)) ≡ 0
    go_accepted = go_refusal w m k q r e ∙ ap (λ (u : Bool). u ⇒ 10 else 0) t

    zero_test : (refusal w m (History (GoTo k)) == 0) ≡ true
    zero_test = rw go_accepted

    go_code : (answer w m (go_to k b c d)).code ≡ 0
    unfolding answer_to
    go_code = rw (go_command k b c d) go_accepted

    go_number : (answer w m (go_to k b c d)).number ≡ distance m.line.place q
    unfolding answer_to
    go_number = rw (go_command k b c d, zero_test, e)

    go_graph : (g : Graph) → Holds m q g → present (step w m (go_to k b c d)) ≡ g
    unfolding Holds
    go_graph g h = rw (go_command k b c d, accepted_step w m (History (GoTo k)) zero_test, e) h.1

-- ---- the sentence, of every machine that calls have led to

module _ (g : Graph) (m : Machine) (es : List Event) (z : Reached (fresh g) es m) where
  pub stands_iff : (k q : ℕ) → (m.marks k ≡ at q) ↔ ((h : Graph) × Kept k q h es)
  unfolding KeptOrStanding
  stands_iff k q = (λ e. only (last_to z k q e), λ h. kept_from z k q h.0 h.1)
    where
      only : KeptOrStanding (fresh g) es k q → (h : Graph) × Kept k q h es
      only (inl h) = h
      only (inr h) = gone_at h.0

  module _ (w : Parameters) (k q : ℕ) (h : Graph) (b c d : ℕ) (r : Kept k q h es) where
    goes_to : too_far w.changes m q ≡ false → ((answer w m (go_to k b c d)).code ≡ 0) × (present (step w m (go_to k b c d)) ≡ h) × ((answer w m (go_to k b c d)).number ≡ distance m.line.place q)
    goes_to t =
        let s = kept_range z k q h r in
        let e = kept_from z k q h r in
        let i = kept_graph z k q h (fresh_places g) r in
        (go_code w m k q b c d s e t, go_graph w m k q b c d s e t h i, go_number w m k q b c d s e t)

    no_way : too_far w.changes m q ≡ true → (answer w m (go_to k b c d)).code ≡ 10
    no_way t = go_too_far w m k q b c d (kept_range z k q h r) (kept_from z k q h r) t

-- one store alone, which has room for all its steps
pub mark_sentence : (w : Parameters) (g : Graph) (xs : List Call) → MarkSentence w g xs
mark_sentence w g xs = record {
  stands_iff = stands_iff g (last w (fresh g) xs) (events w (fresh g) xs) (reached w (fresh g) xs);
  going = λ k q h b c d r.
      goes_to g (last w (fresh g) xs) (events w (fresh g) xs) (reached w (fresh g) xs) w k q h b c d r (own_reach w (last w (fresh g) xs) (costs_last w g xs) q);
}

-- one of several, at the joint room that each call finds
module _ (w : Parameters) (g : Graph) (ys : List Posed) where
  abbrev end : Machine
  end = last_at w (fresh g) ys

  goes_at : (r k q : ℕ) (h : Graph) (b c d : ℕ) → Kept k q h (events_at w (fresh g) ys) → onward q end.line ≤ r → Goes w end r (go_to k b c d) q h
  goes_at r k q h b c d l n =
      let a = goes_to g end (events_at w (fresh g) ys) (reached_at w (fresh g) ys) (roomed w end r) k q h b c d l (near w end (costs_at w g ys) q r n) in
      record { accepted = a.0; graph = a.1; moved = a.2 }

  pub mark_sentence_at : MarkSentenceAt w g ys
  mark_sentence_at = record {
    stands_iff = stands_iff g end (events_at w (fresh g) ys) (reached_at w (fresh g) ys);
    going = goes_at;
    too_far = λ r k q h b c d l n.
        no_way g end (events_at w (fresh g) ys) (reached_at w (fresh g) ys) (roomed w end r) k q h b c d l (far w end q r n);
    going_back = λ r k q h b c d l n. goes_at r k q h b c d l (omega (arith, onward_back q end.line n));
  }

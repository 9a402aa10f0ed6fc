-- What holds of every machine that calls reach from a fresh one, and how far its places and counts go.
use Rattle.std.specs.Prelude.{◌==◌}
use Prim.Native.Nat.{ℕ, zero, suc, ◌≤◌}
use mathlib.Core.Path.{◌≡◌, refl}
use mathlib.Core.Bool.{Bool, true, false}
use mathlib.Core.List.{List, [], ◌∷◌, ◌++◌}
use native.Mathlib.Omega.{arith}
use lib.ListN.{length, take}
use Rattle.lists.specs.Lists.{All, done, more, range}
use Rattle.lists.proofs.Members.{keep_length}
use Rattle.graph.specs.Graph.{Graph}
use Rattle.history.specs.Machine.{Step, Machine, MarkPlace, gone, at, stands, place_or, costs, distance, count_standing, fresh, present}
use Rattle.history.specs.Machine.{step_of, steps_between, made_by}
use Rattle.history.proofs.Benches.{made_length, between_length}
use Rattle.machine.specs.Rules.{Effect, steps, marks, unmarks, goes, names, benches, clears, nothing, effected}
use Rattle.commands.specs.declared.Command.{Command}
use Rattle.commands.specs.declared.Command.TheVariants.{Alter, History, Ask, Quote, Unknown}
use Rattle.commands.specs.Calls.{Call}
use Rattle.commands.specs.Commands.{command_of}
use Rattle.commands.specs.Fits.{WordsFit}
use Rattle.machine.proofs.Accepts.{accepted_step, refused_step}
use Rattle.machine.proofs.Families.{Makes, change_effect, history_makes}
use Rattle.machine.specs.Calls.{Parameters}
use Rattle.machine.specs.Codes.{free, refusal}
use Rattle.machine.specs.Machine.{deed_of, step_to, step}
use Rattle.graph.proofs.ChangeLaws.{cost_real}
use Rattle.machine.proofs.Graphs.{Formed, AllFormed, step_formed, fresh_formed}
use Rattle.machine.proofs.MarkLaws.{PlacesInRange, fresh_places, places_step}
use Rattle.machine.proofs.CostsFit.{CostsFit, costs_fit_fresh, costs_fit_step}

-- ---- each step costs at least 1

abbrev pub Costed : List Step → Type 0
Costed ss = All (λ (s : Step). 1 ≤ s.cost) ss

costed_cut : (p : ℕ) {ss : List Step} (s : Step) → Costed ss → 1 ≤ s.cost → Costed (take p ss ++ (s ∷ []))
costed_cut zero s a h = more h done
costed_cut (suc p) s done h = more h done
costed_cut (suc p) s (more q a) h = more q (costed_cut p s a h)

makes_costed : (w : Parameters) (m : Machine) (c : Command) → Makes (λ s. 1 ≤ s.cost) (deed_of w c m).effect
unfolding step_of
makes_costed w m (Alter c) = change_effect (Makes (λ s. 1 ≤ s.cost)) c m (λ _. cost_real c (present m)) tt
makes_costed w m (History h) = history_makes (λ s. 1 ≤ s.cost) w.changes h m
makes_costed w m (Ask q) = tt
makes_costed w m (Quote p) = tt
makes_costed w m Unknown = tt

costed_next : (e : Effect) (m : Machine) → Makes (λ s. 1 ≤ s.cost) e → Costed m.line.steps → Costed (effected e m).line.steps
costed_next (steps s) m h a = costed_cut m.line.place s a h
costed_next (marks n) m h a = a
costed_next (unmarks n) m h a = a
costed_next (goes p) m h a = a
costed_next (names k n) m h a = a
costed_next (benches k) m h a = a
costed_next clears m h a = done
costed_next nothing m h a = a

costed_step : (w : Parameters) (m : Machine) (x : Call) → Costed m.line.steps → Costed (step w m x).line.steps
costed_step w m x a = go (refusal w m c == 0) refl
  where
    c : Command
    c = command_of x

    go : (t : Bool) → (refusal w m c == 0) ≡ t → Costed (step_to w m c).line.steps
    go true e = rw (accepted_step w m c e) (costed_next (deed_of w c m).effect m (makes_costed w m c) a)
    go false e = rw (refused_step w m c e) a

costed_length : {ss : List Step} → Costed ss → length ss ≤ costs ss
costed_length done = omega arith
costed_length (more h a) = omega (arith, costed_length a)

-- ---- the invariant

pub record Invariant (w : Parameters) (m : Machine) : Type 0 where
  -- G0 to Gm are well formed
  pub formed : AllFormed w m
  -- p and the places of the marks are at most m
  pub places : PlacesInRange m
  -- steps 1 to m cost at most the capacity
  pub costs_fit : CostsFit w m
  pub costed : Costed m.line.steps

pub fresh_invariant : (w : Parameters) (g : Graph) → Formed w g → Invariant w (fresh g)
fresh_invariant w g h = record { formed = fresh_formed w g h; places = fresh_places g; costs_fit = costs_fit_fresh w g; costed = done }

pub step_invariant : (w : Parameters) (m : Machine) (x : Call) → WordsFit x → Invariant w m → Invariant w (step w m x)
step_invariant w m x f i = record {
  formed = step_formed w m x f i.formed;
  places = places_step w m x i.places;
  costs_fit = costs_fit_step w m x i.costs_fit;
  costed = costed_step w m x i.costed;
}

-- ---- steps, places and distances are at most the capacity of changes

module _ (w : Parameters) (m : Machine) (i : Invariant w m) where
  pub steps_le : length m.line.steps ≤ w.changes
  unfolding CostsFit
  steps_le = omega (arith, costed_length i.costed, i.costs_fit)

  pub place_le : m.line.place ≤ w.changes
  place_le = omega (arith, i.places.place_in, steps_le)

  pub mark_le : (k q : ℕ) → m.marks k ≡ at q → q ≤ w.changes
  mark_le k q e = omega (arith, i.places.marks_in k q e, steps_le)

  -- the place of mark k, or the other where it does not stand
  pub mark_place_le : (other k : ℕ) → other ≤ w.changes → place_or other (m.marks k) ≤ w.changes
  mark_place_le other k h = go (m.marks k) refl
    where
      go : (s : MarkPlace) → m.marks k ≡ s → place_or other s ≤ w.changes
      go gone e = h
      go (at q) e = mark_le k q e

  -- kind 21: the steps moved
  pub moved_le : (k : ℕ) → distance m.line.place (place_or m.line.place (m.marks k)) ≤ w.changes
  moved_le k = omega (arith, place_le, mark_place_le m.line.place k place_le)

  -- kind 49: the steps between two marks
  pub between_le : (j k : ℕ) → distance (place_or 0 (m.marks j)) (place_or 0 (m.marks k)) ≤ w.changes
  between_le j k = omega (arith, mark_place_le 0 j (omega arith), mark_place_le 0 k (omega arith))

  -- kind 59: how many of them a bench made
  pub made_le : (j k b : ℕ) → made_by b (steps_between (place_or 0 (m.marks j)) (place_or 0 (m.marks k)) m.line.steps) ≤ w.changes
  made_le j k b =
      let p = place_or 0 (m.marks j) in
      let q = place_or 0 (m.marks k) in
      omega (
        arith,
        made_length b (steps_between p q m.line.steps),
        between_length p q m.line.steps (in_steps j) (in_steps k),
        between_le j k,
      )
    where
      in_steps : (k : ℕ) → place_or 0 (m.marks k) ≤ length m.line.steps
      in_steps k = go (m.marks k) refl
        where
          go : (s : MarkPlace) → m.marks k ≡ s → place_or 0 s ≤ length m.line.steps
          go gone e = omega arith
          go (at q) e = i.places.marks_in k q e

-- kind 51
pub free_le : (w : Parameters) (m : Machine) → free w m ≤ w.changes
unfolding free
free_le w m = omega arith

-- kind 50
pub standing_le : (ms : ℕ → MarkPlace) → count_standing ms ≤ 64
unfolding count_standing
standing_le ms = keep_length (λ n. stands (ms (suc n))) (range 64)

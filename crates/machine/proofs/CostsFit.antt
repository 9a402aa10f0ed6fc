-- The steps remembered never cost more than the capacity, so free changes plus the costs of steps 1 to p is the capacity.
use Rattle.std.specs.Prelude.{◌==◌}
use Prim.Native.Nat.{◌+◌, ◌≤◌}
use mathlib.Core.Path.{◌≡◌, refl, sym, ◌∙◌}
use mathlib.Core.Bool.{Bool, true, false, ◌&&◌}
use mathlib.Core.List.{List, [], ◌∷◌}
use native.Mathlib.Omega.{arith}
use lib.ListN.{take}
use borrow.Author.Tests.{ltb-false}
use Rattle.graph.specs.Graph.{Graph}
use Rattle.graph.specs.Changes.{cost}
use Rattle.history.specs.Machine.{Step, Machine, costs, fresh, present}
use Rattle.history.proofs.Timelines.{costs_cut, costs_take}
use Rattle.history.specs.Machine.{step_of}
use Rattle.machine.specs.Rules.{Effect, steps, marks, unmarks, goes, names, benches, clears, nothing, effected}
use Rattle.commands.specs.declared.Command.{Command}
use Rattle.commands.specs.declared.Command.TheVariants.{Alter, History, Ask, Quote, Unknown}
use Rattle.commands.specs.Calls.{Call}
use Rattle.commands.specs.Commands.{command_of}
use Rattle.machine.proofs.Accepts.{accepted_step, refused_step}
use Rattle.machine.proofs.Families.{Makes, change_effect, history_makes, change_passed}
use Rattle.machine.specs.Calls.{Parameters}
use Rattle.machine.specs.Codes.{free, refusal}
use Rattle.machine.specs.Machine.{deed_of, step_to, step, last}
use Rattle.machine.specs.Posed.{Posed, roomed, step_at, last_at}
use Rattle.machine.proofs.Rooms.{free_roomed}

unfoldable pub CostsFit : Parameters → Machine → Type 0
CostsFit w m = costs m.line.steps ≤ w.changes

pub no_left : (a b : Bool) → (a && b) ≡ false → b ≡ true → a ≡ false
no_left true b e f = sym f ∙ e
no_left false b e f = refl

-- an accepted command makes no step that costs more than is free
makes_room : (w : Parameters) (m : Machine) (c : Command) → (refusal w m c == 0) ≡ true → Makes (λ s. s.cost ≤ free w m) (deed_of w c m).effect
unfolding step_of free
makes_room w m (Alter c) e = change_effect (Makes (λ s. s.cost ≤ free w m)) c m (λ a. ltb-false (free w m) (cost c (present m)) (no_left _ _ (change_passed w m c e).1 a)) tt
makes_room w m (History h) e = history_makes (λ s. s.cost ≤ free w m) w.changes h m
makes_room w m (Ask q) e = tt
makes_room w m (Quote p) e = tt
makes_room w m Unknown e = tt

costs_fit_next : (w : Parameters) (e : Effect) (m : Machine) → Makes (λ s. s.cost ≤ free w m) e → CostsFit w m → CostsFit w (effected e m)
unfolding CostsFit free
costs_fit_next w (steps s) m h p =
    omega (arith, h, costs_cut m.line.place m.line.steps s, costs_take m.line.place m.line.steps)
costs_fit_next w (marks n) m h p = p
costs_fit_next w (unmarks n) m h p = p
costs_fit_next w (goes q) m h p = p
costs_fit_next w (names k n) m h p = p
costs_fit_next w (benches k) m h p = p
costs_fit_next w clears m h p = omega arith
costs_fit_next w nothing m h p = p

pub costs_fit_step : (w : Parameters) (m : Machine) (x : Call) → CostsFit w m → CostsFit w (step w m x)
costs_fit_step w m x p = go (refusal w m c == 0) refl
  where
    c : Command
    c = command_of x

    go : (t : Bool) → (refusal w m c == 0) ≡ t → CostsFit w (step_to w m c)
    go true e = rw (accepted_step w m c e) (costs_fit_next w (deed_of w c m).effect m (makes_room w m c e) p)
    go false e = rw (refused_step w m c e) p

-- the same where less than the store's own room is found
weaker : {P Q : Step → Type 0} → ((s : Step) → P s → Q s) → (e : Effect) → Makes P e → Makes Q e
weaker f (steps s) h = f s h
weaker f (marks n) h = tt
weaker f (unmarks n) h = tt
weaker f (goes p) h = tt
weaker f (names k n) h = tt
weaker f (benches b) h = tt
weaker f clears h = tt
weaker f nothing h = tt

costs_fit_posed : (w : Parameters) (m : Machine) (y : Posed) → CostsFit w m → CostsFit w (step_at w m y)
costs_fit_posed w m y p = go (refusal v m c == 0) refl
  where
    v : Parameters
    v = roomed w m y.room

    c : Command
    c = command_of y.call

    go : (t : Bool) → (refusal v m c == 0) ≡ t → CostsFit w (step_to v m c)
    go true e =
        rw (accepted_step v m c e)
        (costs_fit_next w (deed_of v c m).effect m (weaker (λ s h. omega (arith, h, free_roomed w m y.room)) (deed_of v c m).effect (makes_room v m c e)) p)
    go false e = rw (refused_step v m c e) p

pub costs_fit_at : (w : Parameters) (m : Machine) (ys : List Posed) → CostsFit w m → CostsFit w (last_at w m ys)
unfolding last_at
costs_fit_at w m [] p = p
costs_fit_at w m (y ∷ ys) p = costs_fit_at w (step_at w m y) ys (costs_fit_posed w m y p)

pub costs_fit_last : (w : Parameters) (m : Machine) (xs : List Call) → CostsFit w m → CostsFit w (last w m xs)
unfolding last
costs_fit_last w m [] p = p
costs_fit_last w m (x ∷ xs) p = costs_fit_last w (step w m x) xs (costs_fit_step w m x p)

pub costs_fit_fresh : (w : Parameters) (g : Graph) → CostsFit w (fresh g)
unfolding CostsFit
costs_fit_fresh w g = omega arith

-- free and spent are the capacity
pub exact : (w : Parameters) (g : Graph) (xs : List Call) →
    free w (last w (fresh g) xs) + costs (take (last w (fresh g) xs).line.place (last w (fresh g) xs).line.steps) ≡ w.changes
unfolding free CostsFit
exact w g xs =
    let p = costs_fit_last w (fresh g) xs (costs_fit_fresh w g) in
    omega (arith, p, costs_take (last w (fresh g) xs).line.place (last w (fresh g) xs).line.steps)

pub costs_last : (w : Parameters) (g : Graph) (xs : List Call) → costs (last w (fresh g) xs).line.steps ≤ w.changes
unfolding CostsFit
costs_last w g xs = costs_fit_last w (fresh g) xs (costs_fit_fresh w g)

pub costs_at : (w : Parameters) (g : Graph) (ys : List Posed) → costs (last_at w (fresh g) ys).line.steps ≤ w.changes
unfolding CostsFit
costs_at w g ys = costs_fit_at w (fresh g) ys (costs_fit_fresh w g)

-- Every graph that the machine ever holds is well formed, so every end image loads again.
use Rattle.std.specs.Prelude.{◌==◌}
use Prim.Native.Nat.{ℕ, zero, suc}
use mathlib.Core.Path.{◌≡◌, refl}
use mathlib.Core.Bool.{Bool, true, false}
use mathlib.Core.List.{List, [], ◌∷◌, ◌++◌}
use lib.ListN.{take}
use Rattle.lists.specs.Lists.{All, done, more}
use Rattle.graph.specs.Graph.{Graph}
use Rattle.graph.specs.WellFormed.{well_formed}
use Rattle.graph.proofs.Facts.{to_facts}
use Rattle.graph.proofs.ChangeLaws.{change_keeps}
use Rattle.history.specs.Machine.{Step, Machine, graph_at, fresh, present}
use Rattle.history.specs.Machine.{step_of}
use Rattle.machine.specs.Rules.{Effect, steps, marks, unmarks, goes, names, benches, clears, nothing, effected}
use Rattle.commands.specs.declared.Command.{Command}
use Rattle.commands.specs.declared.Command.TheVariants.{Alter, History, Ask, Quote, Unknown}
use Rattle.commands.specs.Calls.{Call}
use Rattle.commands.specs.Commands.{command_of}
use Rattle.commands.specs.Fits.{WordsFit, CommandFits}
use Rattle.commands.proofs.Fitting.{command_fits}
use Rattle.machine.proofs.Accepts.{accepted_step, refused_step}
use Rattle.machine.proofs.Allows.{allows}
use Rattle.machine.proofs.Families.{Makes, change_effect, history_makes, change_passed}
use Rattle.machine.specs.Calls.{Parameters, bounds_in}
use Rattle.machine.specs.Codes.{refusal}
use Rattle.machine.specs.Machine.{deed_of, step_to, step, last}

abbrev pub Formed : Parameters → Graph → Type 0
Formed w g = well_formed (bounds_in w) g ≡ true

-- G0 and each G1 to Gm
pub record AllFormed (w : Parameters) (m : Machine) : Type 0 where
  pub start : Formed w m.line.start
  pub steps : All (λ (s : Step). Formed w s.graph) m.line.steps

graph_formed : (w : Parameters) (i : ℕ) (g : Graph) (ss : List Step) → Formed w g → All (λ (s : Step). Formed w s.graph) ss → Formed w (graph_at i g ss)
graph_formed w zero g ss h a = h
graph_formed w (suc i) g [] h a = h
graph_formed w (suc i) g (s ∷ ss) h (more q a) = graph_formed w i s.graph ss q a

pub present_formed : (w : Parameters) (m : Machine) → AllFormed w m → Formed w (present m)
present_formed w m a = graph_formed w m.line.place m.line.start m.line.steps a.start a.steps

all_cut : (w : Parameters) (p : ℕ) (ss : List Step) (s : Step) → All (λ (s : Step). Formed w s.graph) ss → Formed w s.graph →
    All (λ (s : Step). Formed w s.graph) (take p ss ++ (s ∷ []))
all_cut w zero ss s a h = more h done
all_cut w (suc p) [] s a h = more h done
all_cut w (suc p) (x ∷ ss) s (more q a) h = more q (all_cut w p ss s a h)

next_formed : (w : Parameters) (e : Effect) (m : Machine) → Makes (λ s. Formed w s.graph) e → AllFormed w m → AllFormed w (effected e m)
next_formed w (steps s) m h a = record { start = a.start; steps = all_cut w m.line.place m.line.steps s a.steps h }
next_formed w (marks n) m h a = record { start = a.start; steps = a.steps }
next_formed w (unmarks n) m h a = record { start = a.start; steps = a.steps }
next_formed w (goes p) m h a = record { start = a.start; steps = a.steps }
next_formed w (names k n) m h a = record { start = a.start; steps = a.steps }
next_formed w (benches k) m h a = record { start = a.start; steps = a.steps }
next_formed w clears m h a = record { start = present_formed w m a; steps = done }
next_formed w nothing m h a = a

-- an accepted command makes well-formed graphs
makes_formed : (w : Parameters) (m : Machine) (c : Command) → CommandFits c → AllFormed w m → (refusal w m c == 0) ≡ true → Makes (λ s. Formed w s.graph) (deed_of w c m).effect
unfolding step_of
makes_formed w m (Alter c) f a e =
    let p = present_formed w m a in
    change_effect (Makes (λ s. Formed w s.graph)) c m
    (λ _. change_keeps (bounds_in w) (present m) c p (allows (bounds_in w) (present m) (to_facts (bounds_in w) (present m) p).0 c f (change_passed w m c e).0)) tt
makes_formed w m (History h) f a e = history_makes (λ s. Formed w s.graph) w.changes h m
makes_formed w m (Ask q) f a e = tt
makes_formed w m (Quote p) f a e = tt
makes_formed w m Unknown f a e = tt

pub step_formed : (w : Parameters) (m : Machine) (x : Call) → WordsFit x → AllFormed w m → AllFormed w (step w m x)
step_formed w m x f a = go (refusal w m c == 0) refl
  where
    c : Command
    c = command_of x

    go : (t : Bool) → (refusal w m c == 0) ≡ t → AllFormed w (step_to w m c)
    go true e = rw (accepted_step w m c e) (next_formed w (deed_of w c m).effect m (makes_formed w m c (command_fits x f) a e) a)
    go false e = rw (refused_step w m c e) a

pub last_formed : (w : Parameters) (m : Machine) (xs : List Call) → All WordsFit xs → AllFormed w m → AllFormed w (last w m xs)
unfolding last
last_formed w m [] done a = a
last_formed w m (x ∷ xs) (more f fs) a = last_formed w (step w m x) xs fs (step_formed w m x f a)

pub fresh_formed : (w : Parameters) (g : Graph) → Formed w g → AllFormed w (fresh g)
fresh_formed w g h = record { start = h; steps = done }

-- after any list of calls
pub end_formed : (w : Parameters) (g : Graph) (xs : List Call) → Formed w g → All WordsFit xs → Formed w (present (last w (fresh g) xs))
end_formed w g xs h fs = present_formed w (last w (fresh g) xs) (last_formed w (fresh g) xs fs (fresh_formed w g h))

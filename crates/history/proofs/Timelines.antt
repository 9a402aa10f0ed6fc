-- What a change leaves of the steps, the graphs, the costs and the marks.
use Prim.Native.Nat.{ℕ, zero, suc, ◌+◌, ◌-◌, ◌≤◌}
use mathlib.Core.Path.{◌≡◌, refl}
use mathlib.Core.Logic.{◌↔◌}
use mathlib.Core.Bool.{Bool, true, false}
use mathlib.Core.List.{List, [], ◌∷◌, ◌++◌}
use native.Mathlib.Omega.{arith}
use lib.Dec.{ltb}
use lib.ListN.{length, take, length-append}
use lib.Seq.{length-take-le}
use borrow.Author.Tests.{ltb-false, le-ltb}
use Rattle.lists.specs.Choice.{◌⇒◌else◌}
use Rattle.graph.specs.Graph.{Graph}
use Rattle.history.specs.Machine.{Step, Timeline, onward, Machine, gone, at, graph_at, costs, free_of, cut, present, after_change, moved_to}

-- ---- steps 1 to p and the new one

pub length_cut : (p : ℕ) (ss : List Step) (s : Step) → p ≤ length ss → length (take p ss ++ (s ∷ [])) ≡ suc p
length_cut p ss s h = rw (length-append, length-take-le) (omega arith)

pub graph_kept : (g : Graph) (ss : List Step) (s : Step) (p q : ℕ) → q ≤ p → p ≤ length ss → graph_at q g (take p ss ++ (s ∷ [])) ≡ graph_at q g ss
graph_kept g ss s p zero a b = refl
graph_kept g ss s zero (suc q) a b = absurd (omega arith)
graph_kept g [] s (suc p) (suc q) a b = absurd (omega arith)
graph_kept g (x ∷ ss) s (suc p) (suc q) a b = graph_kept x.graph ss s p q (omega arith) (omega arith)

graph_new : (g : Graph) (ss : List Step) (s : Step) (p : ℕ) → p ≤ length ss → graph_at (suc p) g (take p ss ++ (s ∷ [])) ≡ s.graph
graph_new g ss s zero b = refl
graph_new g [] s (suc p) b = absurd (omega arith)
graph_new g (x ∷ ss) s (suc p) b = graph_new x.graph ss s p (omega arith)

pub costs_cut : (p : ℕ) (ss : List Step) (s : Step) → costs (take p ss ++ (s ∷ [])) ≡ costs (take p ss) + s.cost
costs_cut zero ss s = omega arith
costs_cut (suc p) [] s = omega arith
costs_cut (suc p) (x ∷ ss) s = omega (arith, costs_cut p ss s)

pub costs_take : (p : ℕ) (ss : List Step) → costs (take p ss) ≤ costs ss
costs_take zero ss = omega arith
costs_take (suc p) [] = omega arith
costs_take (suc p) (x ∷ ss) = omega (arith, costs_take p ss)

costs_new : (p : ℕ) (ss : List Step) (s : Step) → p ≤ length ss → costs (take (suc p) (take p ss ++ (s ∷ []))) ≡ costs (take p ss) + s.cost
costs_new zero ss s h = omega arith
costs_new (suc p) [] s h = absurd (omega arith)
costs_new (suc p) (x ∷ ss) s h = omega (arith, costs_new p ss s (omega arith))

-- ---- what going to a place takes again

take_le : (p q : ℕ) (ss : List Step) → q ≤ p → costs (take q ss) ≤ costs (take p ss)
take_le p zero ss h = omega arith
take_le zero (suc q) ss h = absurd (omega arith)
take_le (suc p) (suc q) [] h = omega arith
take_le (suc p) (suc q) (s ∷ ss) h = omega (arith, take_le p q ss (omega arith))

-- nothing on the way back
pub onward_back : (q : ℕ) (t : Timeline) → q ≤ t.place → onward q t ≡ 0
onward_back q t h = omega (arith, take_le t.place q t.steps h)

take_all : (ss : List Step) (q : ℕ) → length ss ≤ q → costs (take q ss) ≡ costs ss
take_all [] zero h = refl
take_all [] (suc q) h = refl
take_all (s ∷ ss) zero h = absurd (omega arith)
take_all (s ∷ ss) (suc q) h = omega (arith, take_all ss q (omega arith))

-- nor behind the last step
pub onward_end : (q : ℕ) (t : Timeline) → length t.steps ≤ t.place → onward q t ≡ 0
onward_end q t h = omega (arith, take_all t.steps t.place h, costs_take q t.steps)

-- ---- a change that makes s

module _ (s : Step) (m : Machine) (h : m.line.place ≤ length m.line.steps) where
  -- a change makes the graph held afterwards
  pub change_present : present (after_change s m) ≡ s.graph
  change_present = graph_new m.line.start m.line.steps s m.line.place h

  -- undone, it gives the graph before it
  pub change_undone : present (moved_to m.line.place (after_change s m)) ≡ present m
  change_undone = graph_kept m.line.start m.line.steps s m.line.place m.line.place (omega arith) h

  -- nothing is left to redo
  pub change_last : length (after_change s m).line.steps ≡ (after_change s m).line.place
  change_last = length_cut m.line.place m.line.steps s h

  -- what was cut is free again
  pub change_free : (capacity : ℕ) → free_of capacity (after_change s m).line ≡ free_of capacity m.line - s.cost
  change_free capacity = omega (arith, costs_new m.line.place m.line.steps s h)

-- ---- marks at places above p are cut, and no other: one at p stays

pub cut_keeps : (p q : ℕ) → (cut p (at q) ≡ at q) ↔ (q ≤ p)
cut_keeps p q = (λ e. go (ltb p q) refl e, λ h. rw (le-ltb p q h))
  where
    go : (t : Bool) → ltb p q ≡ t → (t ⇒ gone else at q) ≡ at q → q ≤ p
    go true f e = absurd (let z : ◌≡◌ {A = ℕ} 0 1 = cc in omega arith)
    go false f e = ltb-false p q f

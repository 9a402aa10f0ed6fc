-- A list of moves, each of one item behind the one before it: on a machine with as many free changes each call
-- is accepted, also one that alters nothing, and the graph afterwards is that of the changes one after another.
use Prim.Native.Nat.{ℕ, ◌-◌, ◌≤◌}
use mathlib.Core.Path.{◌≡◌, refl, sym, ap, ◌∙◌, subst}
use mathlib.Core.Bool.{Bool, true, false, ◌&&◌}
use mathlib.Core.List.{List, [], ◌∷◌}
use native.Mathlib.Omega.{arith}
use lib.ListN.{length}
use lib.Dec.{ltb}
use borrow.Author.Tests.{le-ltb, not-false}
use Rattle.lists.specs.Choice.{◌⇒◌else◌}
use Rattle.lists.specs.Lists.{done, more}
use Rattle.graph.specs.declared.Change.{Change}
use Rattle.graph.specs.Graph.{Graph}
use Rattle.graph.specs.Changes.{changed, cost}
use Rattle.graph.specs.Same.{differs, alters}
use Rattle.graph.proofs.Alters.{same_to}
use Rattle.commands.specs.declared.Command.{Command}
use Rattle.commands.specs.declared.Command.TheVariants.{Alter}
use Rattle.commands.specs.Calls.{five}
use Rattle.commands.specs.Commands.{command_of}
use Rattle.history.specs.Machine.{Step, step_of, Machine, free_of, present, after_change}
use Rattle.history.proofs.Timelines.{change_present, change_last, change_free}
use Rattle.machine.specs.Calls.{Parameters, bounds_in}
use Rattle.machine.specs.HistoryCodes.{too_dear}
use Rattle.machine.specs.Rules.{first_code}
use Rattle.machine.specs.Codes.{free, refusal, change_code}
use Rattle.machine.specs.Machine.{answer_to, step_to, answer, answers, step, last}
use Rattle.machine.proofs.Families.{change_refusal}
use Rattle.arrangement.specs.Orders.{calls_from}
use Rattle.arrangement.specs.Reach.{Reaches}

-- the place is among the steps, as in every machine that calls reach
abbrev pub InPlace : Machine → Type 0
InPlace m = m.line.place ≤ length m.line.steps

-- ---- one change of cost 1 that no code from 2 to 9 refuses

pub record Goes (w : Parameters) (m : Machine) (c : Change) (y : Machine) : Type 0 where
  pub graph : present y ≡ changed c (present m)
  pub left : free w m - 1 ≤ free w y
  pub in_place : InPlace y

module _ (w : Parameters) (m : Machine) (c : Change) (one : cost c (present m) ≡ 1) (z : change_code (bounds_in w) (present m) c ≡ 0) (f : 1 ≤ free w m) where
  not_dear : too_dear w.changes m c ≡ false
  unfolding free
  not_dear =
      ap (λ (n : ℕ). ltb (free_of w.changes m.line) n && alters c (present m)) one
      ∙ ap (λ (t : Bool). t && alters c (present m)) (le-ltb (free_of w.changes m.line) 1 f)

  passes : refusal w m (Alter c) ≡ 0
  passes = change_refusal w m c ∙ (λ i. first_code (z i) (not_dear i ⇒ 10 else 0))

  code_zero : (answer_to w m (Alter c)).code ≡ 0
  unfolding answer_to
  code_zero = passes

  altered : alters c (present m) ≡ true → step_to w m (Alter c) ≡ after_change (step_of m.bench c (present m)) m
  unfolding step_to
  altered a = rw (passes, a)

  kept : alters c (present m) ≡ false → step_to w m (Alter c) ≡ m
  unfolding step_to
  kept a = rw (passes, a)

  same : alters c (present m) ≡ differs c (present m) → alters c (present m) ≡ false → present m ≡ changed c (present m)
  unfolding differs
  same d a = sym (same_to (changed c (present m)) (present m) (not-false _ (sym d ∙ a)))

  goes : InPlace m → alters c (present m) ≡ differs c (present m) → Goes w m c (step_to w m (Alter c))
  unfolding step_of free
  goes p d = go (alters c (present m)) refl
    where
      s : Step
      s = step_of m.bench c (present m)

      go : (t : Bool) → alters c (present m) ≡ t → Goes w m c (step_to w m (Alter c))
      go true a = subst (Goes w m c) (sym (altered a)) (record {
        graph = change_present s m p;
        left = omega (arith, change_free s m p w.changes, one);
        in_place = omega (arith, change_last s m p);
      })
      go false a = subst (Goes w m c) (sym (kept a)) (record { graph = same d a; left = omega arith; in_place = p })

-- ---- moves one after another

module _ (w : Parameters) (kind : ℕ) (move : ℕ → ℕ → Change) where
  -- no code from 2 to 9 refuses any of them in its turn
  abbrev pub Passes : ℕ → List ℕ → Graph → Type 0
  Passes b [] g = Unit {0}
  Passes b (a ∷ ws) g = (change_code (bounds_in w) g (move a b) ≡ 0) × Passes a ws (changed (move a b) g)

  abbrev pub moved_on : ℕ → List ℕ → Graph → Graph
  moved_on b [] g = g
  moved_on b (a ∷ ws) g = moved_on a ws (changed (move a b) g)

  module _ (is : (a b : ℕ) → command_of (five kind a b 0 0) ≡ Alter (move a b)) (one : (a b : ℕ) (g : Graph) → cost (move a b) g ≡ 1)
      (exactly : (a b : ℕ) (g : Graph) → alters (move a b) g ≡ differs (move a b) g) where
    pub moves_reach : (b : ℕ) (ws : List ℕ) (m : Machine) → InPlace m → Passes b ws (present m) → length ws ≤ free w m →
        Reaches w m (calls_from kind b ws) (length ws) (moved_on b ws (present m))
    unfolding answers last
    moves_reach b [] m p h f = record { accepted = done; reached = refl; left = omega arith }
    moves_reach b (a ∷ ws) m p h f =
        let c = move a b in
        let f' : 1 ≤ free w m = omega arith in
        let e = is a b in
        let k : (answer w m (five kind a b 0 0)).code ≡ 0 = ap (λ (x : Command). (answer_to w m x).code) e ∙ code_zero w m c (one a b (present m)) h.0 f' in
        let g : Goes w m c (step w m (five kind a b 0 0)) = subst (λ (x : Command). Goes w m c (step_to w m x)) (sym e) (goes w m c (one a b (present m)) h.0 f' p (exactly a b (present m))) in
        let y = step w m (five kind a b 0 0) in
        let r = moves_reach a ws y g.in_place (subst (Passes a ws) (sym g.graph) h.1) (omega (arith, g.left)) in
        record {
          accepted = more k r.accepted;
          reached = r.reached ∙ ap (moved_on a ws) g.graph;
          left = omega (arith, r.left, g.left);
        }

-- Short laws of the machine: undo, redo and commit.
use Rattle.std.specs.Prelude.{◌==◌}
use Prim.Native.Nat.{ℕ, suc, ◌-◌}
use mathlib.Core.Path.{◌≡◌, refl}
use mathlib.Core.Logic.{◌↔◌}
use mathlib.Core.Bool.{Bool, true, false}
use native.Mathlib.Omega.{arith}
use lib.ListN.{length}
use borrow.Author.Tests.{eqb-true, eq-eqb, ne_eqb, le-ltb}
use Rattle.lists.specs.Choice.{◌⇒◌else◌}
use Rattle.history.specs.Machine.{Machine, onward, moved_to, fresh_at, present}
use Rattle.commands.specs.declared.HistoryCall.TheVariants.{Undo, Redo, Commit}
use Rattle.commands.specs.declared.Command.TheVariants.{History}
use Rattle.machine.specs.Calls.{Parameters}
use Rattle.machine.specs.Codes.{free, refusal}
use Rattle.commands.specs.declared.Answer.{Answer}
use Rattle.machine.specs.Machine.{answer_to, step_to}
use Rattle.machine.specs.HistoryCodes.{too_far}
use Rattle.history.proofs.Timelines.{onward_end}

abbrev accepts : ℕ → Answer
accepts n = record { code = 0; number = n }

module _ (w : Parameters) (m : Machine) where
  -- ---- undo: refused exactly where p is 0, else it answers 1 and gives the graph before

  pub undo_refused : (m.line.place ≡ 0) ↔ (refusal w m (History Undo) ≡ 14)
  unfolding refusal
  undo_refused = (λ e. rw (eq-eqb m.line.place 0 e), λ e. go (m.line.place == 0) refl e)
    where
      go : (t : Bool) → (m.line.place == 0) ≡ t → ◌≡◌ {A = ℕ} (t ⇒ 14 else 0) 14 → m.line.place ≡ 0
      go true f e = eqb-true m.line.place 0 f
      go false f e = absurd (omega arith)

  pub undo_made : (p : ℕ) → m.line.place ≡ suc p → (answer_to w m (History Undo) ≡ accepts 1) × (step_to w m (History Undo) ≡ moved_to p m)
  unfolding answer_to step_to refusal
  undo_made p e =
      let f : (m.line.place == 0) ≡ false = ne_eqb m.line.place 0 (omega arith) in
      let q : m.line.place - 1 ≡ p = omega arith in
      (rw f, rw (f, q))

  -- ---- redo: refused with 14 exactly where p is m, with 10 where the step costs more than is free, else it answers 1 and
  -- gives the graph after

  pub redo_refused : (m.line.place ≡ length m.line.steps) ↔ (refusal w m (History Redo) ≡ 14)
  unfolding refusal
  redo_refused =
      (λ e. rw (eq-eqb m.line.place (length m.line.steps) e, last_free e), λ e. go (too_far w.changes m (suc m.line.place)) (m.line.place == length m.line.steps) refl e)
    where
      last_free : m.line.place ≡ length m.line.steps → too_far w.changes m (suc m.line.place) ≡ false
      last_free e = le-ltb _ (onward (suc m.line.place) m.line) (omega (arith, onward_end (suc m.line.place) m.line (omega (arith, e))))

      go : (u t : Bool) → (m.line.place == length m.line.steps) ≡ t → ◌≡◌ {A = ℕ} (u ⇒ 10 else t ⇒ 14 else 0) 14 → m.line.place ≡ length m.line.steps
      go true t f e = absurd (omega arith)
      go false true f e = eqb-true m.line.place (length m.line.steps) f
      go false false f e = absurd (omega arith)

  pub redo_made : (m.line.place ≡ length m.line.steps → ⊥) → too_far w.changes m (suc m.line.place) ≡ false →
      (answer_to w m (History Redo) ≡ accepts 1) × (step_to w m (History Redo) ≡ moved_to (suc m.line.place) m)
  unfolding answer_to step_to refusal
  redo_made e t =
      let f : (m.line.place == length m.line.steps) ≡ false = ne_eqb m.line.place (length m.line.steps) e in
      (rw (f, t), rw (f, t))

  -- ---- commit: always accepted; it answers p, keeps the graph and the bench and gives back everything

  pub commit_made : (answer_to w m (History Commit) ≡ accepts m.line.place) × (step_to w m (History Commit) ≡ fresh_at m.bench (present m)) × (free w (step_to w m (History Commit)) ≡ w.changes)
  unfolding answer_to step_to refusal free
  commit_made = (refl, refl, omega arith)

-- A change of one edit that was written down and carried out is a step.
use Prim.Native.Nat.{ℕ, suc, ◌+◌, ◌*◌, ◌≤◌}
use mathlib.Core.Path.{◌≡◌, refl}
use mathlib.Core.Logic.{◌≢◌}
use mathlib.Core.List.{List}
use native.Mathlib.Omega.{arith}
use lib.ListN.{length}
use Rattle.graph.specs.declared.SingleChange.{SingleChange}
use Rattle.graph.specs.declared.Change.TheVariants.{Single}
use Rattle.graph.specs.WellFormed.{Bounds}
use Rattle.graph.specs.Changes.{SinglyAllowed}
use Rattle.history.specs.Machine.{Timeline, present_in, extended}
use Rattle.history.specs.Machine.{step_of}
use Rattle.journal.specs.Rows.{costing, signed}
use Rattle.journal.specs.Written.{Written}
use Rattle.graph_tables.specs.Tables.{State}
use Rattle.tried_edits.specs.Plans.{state_plan}
use Rattle.timeline.specs.declared.Position.{Position}
use Rattle.timeline.specs.Steps.{Journal}
use Rattle.vertex_deletion.proofs.Rows.{first_plan, making_start, allowed_now, making_turn, making_end}

pub single_step : (x : SingleChange) (b : Bounds) (j : Position) (s : State) (t : List ℕ) (l : Timeline) → Journal b j s t l → SinglyAllowed b (present_in l) x
    → 12 * j.used + 12 ≤ length t → (s' : State) (t' : List ℕ) → Written (state_plan x s) (costing 1) j.used s t s' t'
    → (j' : Position) → j'.place ≡ j.place + 1 → j'.steps ≡ j.place + 1 → j'.used ≡ j.used + 1 → (bench : ℕ)
    → Journal b j' s' (signed j.used bench t') (extended (step_of bench (Single x) (present_in l)) l)
single_step x b j s t l k a r s' t' w j' p q u bench =
    let m = making_start (Single x) b j s t l 1 j.used refl k a in
    let n : j.used ≢ j.used + 1 = λ e. omega arith in
    let f = first_plan b s m.graph m.holds x (allowed_now m refl n) in
    making_end (making_turn m refl n (state_plan x s) f r s' t' (suc j.used) w refl) refl (omega arith) j' p q u bench

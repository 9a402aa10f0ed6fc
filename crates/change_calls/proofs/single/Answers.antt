use Prim.Native.Nat.{ℕ}
use mathlib.Core.Path.{refl}
use mathlib.Core.List.{List}
use native.Mathlib.Omega.{arith}
use Rattle.std.proofs.Common.{rules}
use Rattle.graph.specs.declared.Change.TheVariants.{Single}
use Rattle.graph_tables.specs.Tables.{State, state_of}
use Rattle.tried_edits.specs.Tried.{attempt, outcome}
use Rattle.history_calls.specs.Memory.{memory_of}
use Rattle.single_changes.specs.One.{One}
use Rattle.change_calls.proofs.Attempting.{Attempts, stands_now, single_attempts}
use Rattle.change_calls.proofs.Following.{altered_by, written_back, step_fits, sign_fits, change_kept, change_made}
use Rattle.change_calls.proofs.single.Goals.{After-make}
use Rattle.change_calls.proofs.single.Goals as goal

-- what the change came to, as code of its rule and as step
attempts : (c : After-make) {code n : ℕ} {s : State} {t : List ℕ} → let a = c.args in
    One a.change a.types (attempt a.store.current.position.used a.free (state_of a.store.current.head a.tables.now) a.journal.now) (outcome code n s t)
    → Attempts (Single a.change) a.types a.free a.store.current.position (state_of a.store.current.head a.tables.now) a.journal.now code n s t
attempts c r =
    let a = c.args in
    let p = c.requires in
    let s = state_of a.store.current.head a.tables.now in
    single_attempts a.types a.store.current.position s a.journal.now _ _ _ _ a.free p.4 a.change (stands_now a.types a.store.current.position s a.journal.now p.0 p.1 p.2 p.3.journal) r

pub step-requires-clause-place : goal.step-requires-clause-place
step-requires-clause-place c =
    let a = c.args in
    let p = c.requires in
    (step_fits (Single a.change) a.types a.free a.store (memory_of a.tables.now a.journal.now a.marks.now) _ _ _ _
    (attempts (goal.at.step-requires-clause-place c).After-make c.in-Ok.ensures.made) p.0 p.1 p.2 p.3 c.if-made-ne0.true).0

pub step-requires-clause-used : goal.step-requires-clause-used
step-requires-clause-used c =
    let a = c.args in
    let p = c.requires in
    (step_fits (Single a.change) a.types a.free a.store (memory_of a.tables.now a.journal.now a.marks.now) _ _ _ _
    (attempts (goal.at.step-requires-clause-used c).After-make c.in-Ok.ensures.made) p.0 p.1 p.2 p.3 c.if-made-ne0.true).1

pub step-requires-clause-row : goal.step-requires-clause-row
step-requires-clause-row c =
    let a = c.args in
    let p = c.requires in
    let r =
    sign_fits (Single a.change) a.types a.free a.store (memory_of a.tables.now a.journal.now a.marks.now) _ _ _ _
    (attempts (goal.at.step-requires-clause-row c).After-make c.in-Ok.ensures.made) p.0 p.1 p.2 p.3 c.if-made-ne0.true in
    omega (arith, r, c.make.ensures.same_room.length)

pub returns-in-Ok-clause-changes : goal.returns-in-Ok-clause-changes
returns-in-Ok-clause-changes c =
    let a = c.args in
    let d = c.step.result in
    altered_by (Single a.change) a.types a.free a.store _ _ (λ i. record { store = d.store; answer = c.step.ensures.answer i })
    (change_made (Single a.change) a.types a.free a.store (memory_of a.tables.now a.journal.now a.marks.now) _ _ _ _
    (attempts (goal.at.returns-in-Ok-clause-changes c).After-make c.in-Ok.ensures.made)
    c.if-made-ne0.true d.store c.step.ensures.current c.step.ensures.bench c.step.ensures.cuts _ (search rules))

pub returns-in-Ok-2-clause-changes : goal.returns-in-Ok-2-clause-changes
returns-in-Ok-2-clause-changes c =
    let a = c.args in
    altered_by (Single a.change) a.types a.free a.store _ _ (search rules)
    (written_back (search rules)
    (change_kept (Single a.change) a.types a.free a.store (memory_of a.tables.now a.journal.now a.marks.now) _ _ _ _
    (attempts (goal.at.returns-in-Ok-2-clause-changes c).After-make c.in-Ok.ensures.made) c.if-made-ne0.false))

pub returns-in-Err-clause-changes : goal.returns-in-Err-clause-changes
returns-in-Err-clause-changes c =
    let a = c.args in
    altered_by (Single a.change) a.types a.free a.store _ _ c.answer-in-Err.ensures
    (written_back (search rules)
    (change_kept (Single a.change) a.types a.free a.store (memory_of a.tables.now a.journal.now a.marks.now) _ _ _ _
    (attempts (goal.at.returns-in-Err-clause-changes c).After-make c.in-Err.ensures.made) refl))

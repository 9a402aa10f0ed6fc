use Prim.Native.Nat.{ℕ}
use mathlib.Core.Path.{refl}
use mathlib.Core.Logic.{◌≢◌}
use mathlib.Core.List.{List}
use Rattle.graph.specs.declared.Change.TheVariants.{DeleteVertex}
use Rattle.graph_tables.specs.Tables.{State, state_of}
use Rattle.tried_edits.specs.Tried.{outcome}
use Rattle.vertex_deletion.specs.Deleting.{Deletes}
use Rattle.history_calls.specs.Memory.{memory_of}
use Rattle.change_calls.proofs.Attempting.{Attempts, deletion_attempts}
use Rattle.change_calls.proofs.Following.{altered_by, step_fits, sign_fits, change_kept, change_made}
use Rattle.change_calls.proofs.delete_vertex.Goals.{After-delete}
use Rattle.change_calls.proofs.delete_vertex.Goals as goal

-- what the deletion came to, as code of its rule and as step
attempts : (types : ℕ) (c : After-delete) {code n : ℕ} {s : State} {t : List ℕ} → let a = c.args in
    Deletes a.vertex a.free a.store.current.position (state_of a.store.current.head a.tables.now) a.journal.now (outcome code n s t)
    → Attempts (DeleteVertex a.vertex) types a.free a.store.current.position (state_of a.store.current.head a.tables.now) a.journal.now code n s t
attempts types c r = let a = c.args in deletion_attempts types a.store.current.position (state_of a.store.current.head a.tables.now) a.journal.now _ _ _ _ a.vertex a.free r

-- one that is made has a cost
costs : (c : After-delete) {n : ℕ} {s : State} {t : List ℕ} → let a = c.args in
    Deletes a.vertex a.free a.store.current.position (state_of a.store.current.head a.tables.now) a.journal.now (outcome 0 n s t) → n ≢ 0
costs c r z = (r.stays z).0 refl

pub step-requires-clause-place : goal.step-requires-clause-place
step-requires-clause-place c =
    let a = c.args in
    let p = c.requires.0 in
    let s = (goal.at.step-requires-clause-place c).After-delete in
    (step_fits (DeleteVertex a.vertex) p.0.types a.free a.store (memory_of a.tables.now a.journal.now a.marks.now) _ _ _ _
    (attempts p.0.types s c.in-Ok.ensures.made) p.0 p.1 refl p.2 (costs s c.in-Ok.ensures.made)).0

pub step-requires-clause-used : goal.step-requires-clause-used
step-requires-clause-used c =
    let a = c.args in
    let p = c.requires.0 in
    let s = (goal.at.step-requires-clause-used c).After-delete in
    (step_fits (DeleteVertex a.vertex) p.0.types a.free a.store (memory_of a.tables.now a.journal.now a.marks.now) _ _ _ _
    (attempts p.0.types s c.in-Ok.ensures.made) p.0 p.1 refl p.2 (costs s c.in-Ok.ensures.made)).1

pub step-requires-clause-row : goal.step-requires-clause-row
step-requires-clause-row c =
    let a = c.args in
    let p = c.requires.0 in
    let s = (goal.at.step-requires-clause-row c).After-delete in
    sign_fits (DeleteVertex a.vertex) p.0.types a.free a.store (memory_of a.tables.now a.journal.now a.marks.now) _ _ _ _
    (attempts p.0.types s c.in-Ok.ensures.made) p.0 p.1 refl p.2 (costs s c.in-Ok.ensures.made)

pub returns-in-Ok-clause-changes : goal.returns-in-Ok-clause-changes
returns-in-Ok-clause-changes c =
    let a = c.args in
    let d = c.step.result in
    let s = (goal.at.returns-in-Ok-clause-changes c).After-delete in
    λ types. altered_by (DeleteVertex a.vertex) types a.free a.store _ _ (λ i. record { store = d.store; answer = c.step.ensures.answer i })
    (change_made (DeleteVertex a.vertex) types a.free a.store (memory_of a.tables.now a.journal.now a.marks.now) _ _ _ _
    (attempts types s c.in-Ok.ensures.made) (costs s c.in-Ok.ensures.made)
    d.store c.step.ensures.current c.step.ensures.bench c.step.ensures.cuts _ c.step.ensures.signs)

pub returns-in-Err-clause-changes : goal.returns-in-Err-clause-changes
returns-in-Err-clause-changes c =
    let a = c.args in
    λ types. altered_by (DeleteVertex a.vertex) types a.free a.store _ _ c.answer.ensures
    (change_kept (DeleteVertex a.vertex) types a.free a.store (memory_of a.tables.now a.journal.now a.marks.now) _ _ _ _
    (attempts types (goal.at.returns-in-Err-clause-changes c).After-delete c.in-Err.ensures.made) refl)

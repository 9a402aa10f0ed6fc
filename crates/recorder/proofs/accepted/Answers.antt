use mathlib.Core.Path.{refl, sym, ap, ◌∙◌}
use Prim.Native.Nat.{ℕ}
use native.Mathlib.Omega.{arith}
use Rattle.type_rows.proofs.Closing.{closure_good}
use Rattle.machine.specs.Run.{parameters_of}
use Rattle.engine.specs.Outcomes.{lent}
use Rattle.engine.proofs.RunLaws.{past, can_load, begun, can_save_present, ends}
use Rattle.copies.specs.Copies.{recorded}
use Rattle.recorder.specs.Outcomes.{made_in}
use Rattle.recorder.proofs.OutcomeLaws.{covers_starts}
use Rattle.recorder.proofs.accepted.Goals as goal

pub overflow_cast-types : goal.overflow_cast-types
overflow_cast-types c =
    let a = c.args in
    omega (arith, (past a.start.now a.rows.now a.calls.now a.vertices.now a.edges.now a.journal.now a.answers.now a.image.now c.requires.image_value).limits.few_types)

pub begin-begun-requires : goal.begin-begun-requires
begin-begun-requires c =
    let a = c.args in
    let passed = past a.start.now a.rows.now a.calls.now a.vertices.now a.edges.now a.journal.now a.answers.now a.image.now c.requires.image_value in
    can_load _ a.start.now _ _ passed.limits refl refl passed.start_loads

pub record_all-after-requires : goal.record_all-after-requires
record_all-after-requires c =
    let a = c.args in
    let begin = c.begin-begun in
    let passed = past a.start.now a.rows.now a.calls.now a.vertices.now a.edges.now a.journal.now a.answers.now a.image.now c.requires.image_value in
    let x = begun a.start.now a.rows.now a.calls.now a.vertices.now a.edges.now a.journal.now a.answers.now a.image.now c.requires.image_value
    c.closure-closed.result _ (c.closure-closed.ensures ∙ closure_good a.rows.now passed.rows_good) refl begin.result _ _ _ begin.auto.vertices begin.auto.edges refl begin.ensures in
    let f = covers_starts (parameters_of (lent a.start.now a.rows.now a.calls.now a.vertices.now a.edges.now a.journal.now a.answers.now a.image.now))
    a.start.now a.copies.now _ _ passed.start_loads refl refl in record {
      can_begin = (_, _, x, f, c.requires.size_value.0);
      calls_in_bounds = (passed.answers_room, c.requires.size_value.1);
    }

pub save-words-requires : goal.save-words-requires
save-words-requires c =
    let a = c.args in
    let begin = c.begin-begun in
    let passed = past a.start.now a.rows.now a.calls.now a.vertices.now a.edges.now a.journal.now a.answers.now a.image.now c.requires.image_value in
    let x = begun a.start.now a.rows.now a.calls.now a.vertices.now a.edges.now a.journal.now a.answers.now a.image.now c.requires.image_value
    c.closure-closed.result _ (c.closure-closed.ensures ∙ closure_good a.rows.now passed.rows_good) refl begin.result _ _ _ begin.auto.vertices begin.auto.edges refl begin.ensures in
    let f = covers_starts (parameters_of (lent a.start.now a.rows.now a.calls.now a.vertices.now a.edges.now a.journal.now a.answers.now a.image.now))
    a.start.now a.copies.now _ _ passed.start_loads refl refl in
    let all = c.record_all-after in
    can_save_present _ _ all.result _ c.closure-closed.result _ (all.ensures _ _ x f c.requires.size_value.0).0.after _ passed.end_room

pub returns : goal.returns
returns c =
    let a = c.args in
    let begin = c.begin-begun in
    let passed = past a.start.now a.rows.now a.calls.now a.vertices.now a.edges.now a.journal.now a.answers.now a.image.now c.requires.image_value in
    let closed = c.closure-closed.ensures ∙ closure_good a.rows.now passed.rows_good in
    let l = lent a.start.now a.rows.now a.calls.now a.vertices.now a.edges.now a.journal.now a.answers.now a.image.now in
    let x = begun a.start.now a.rows.now a.calls.now a.vertices.now a.edges.now a.journal.now a.answers.now a.image.now c.requires.image_value
    c.closure-closed.result _ closed refl begin.result _ _ _ begin.auto.vertices begin.auto.edges refl begin.ensures in
    let f = covers_starts (parameters_of l) a.start.now a.copies.now _ _ passed.start_loads refl refl in
    let all = c.record_all-after in
    let g = all.ensures _ _ x f c.requires.size_value.0 in (
      ends a.start.now a.rows.now a.calls.now a.vertices.now a.edges.now a.journal.now a.answers.now a.image.now c.requires.image_value c.closure-closed.result _ closed refl
          all.result _ _ _ c.save-words.result g.0 c.save-words.ensures,
      g.1 ∙ ap (λ (k : ℕ). recorded k (made_in l) a.copies.now) (sym c.requires.size_value.0),
    )

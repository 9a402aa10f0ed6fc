use mathlib.Core.Path.{refl, ◌∙◌}
use native.Mathlib.Omega.{arith}
use Rattle.type_rows.proofs.Closing.{closure_good}
use Rattle.engine.proofs.RunLaws.{past, can_load, begun, can_save_present, ends}
use Rattle.engine.proofs.run.accepted.Goals as goal

pub overflow_cast-types : goal.overflow_cast-types
overflow_cast-types c =
    let s = c in
    let a = s.args in
    omega (arith, (past a.start.now a.rows.now a.calls.now a.vertices.now a.edges.now a.journal.now a.answers.now a.image.now s.requires).limits.few_types)

pub begin-begun-requires : goal.begin-begun-requires
begin-begun-requires c =
    let s = c in
    let a = s.args in
    let passed = past a.start.now a.rows.now a.calls.now a.vertices.now a.edges.now a.journal.now a.answers.now a.image.now s.requires in
    can_load _ a.start.now _ _ passed.limits refl refl passed.start_loads

pub each-after-requires : goal.each-after-requires
each-after-requires c =
    let s = c in
    let a = s.args in
    let begin = c.begin-begun in
    let closure = c.closure-closed in
    let closed = closure.ensures
    ∙ closure_good a.rows.now (past a.start.now a.rows.now a.calls.now a.vertices.now a.edges.now a.journal.now a.answers.now a.image.now
    s.requires).rows_good in record {
      runs = (
        _,
        _,
        begun a.start.now a.rows.now a.calls.now a.vertices.now a.edges.now a.journal.now a.answers.now a.image.now s.requires
            closure.result _ closed refl begin.result _ _ _ begin.auto.vertices begin.auto.edges refl begin.ensures,
      );
      calls_in_bounds = (past a.start.now a.rows.now a.calls.now
          a.vertices.now a.edges.now a.journal.now a.answers.now a.image.now s.requires).answers_room;
    }

pub save-words-requires : goal.save-words-requires
save-words-requires c =
    let s = c in
    let a = s.args in
    let begin = c.begin-begun in
    let closure = c.closure-closed in
    let closed = closure.ensures
    ∙ closure_good a.rows.now (past a.start.now a.rows.now a.calls.now a.vertices.now a.edges.now a.journal.now a.answers.now a.image.now
    s.requires).rows_good in
    let each = c.each-after in
    can_save_present _ _ each.result _ closure.result _
    (each.ensures _ _ (begun a.start.now a.rows.now a.calls.now a.vertices.now a.edges.now a.journal.now a.answers.now a.image.now s.requires
    closure.result _ closed refl begin.result _ _ _ begin.auto.vertices begin.auto.edges refl begin.ensures)).after _ (past a.start.now a.rows.now a.calls.now
    a.vertices.now a.edges.now a.journal.now a.answers.now a.image.now s.requires).end_room

pub returns : goal.returns
returns c =
    let s = c in
    let a = s.args in
    let begin = c.begin-begun in
    let closure = c.closure-closed in
    let closed = closure.ensures
    ∙ closure_good a.rows.now (past a.start.now a.rows.now a.calls.now a.vertices.now a.edges.now a.journal.now a.answers.now a.image.now
    s.requires).rows_good in
    let each = c.each-after in
    let save = c.save-words in
    ends a.start.now a.rows.now a.calls.now a.vertices.now a.edges.now a.journal.now a.answers.now a.image.now s.requires closure.result _ closed refl
    each.result _ _ _ save.result
    (each.ensures _ _ (begun a.start.now a.rows.now a.calls.now a.vertices.now a.edges.now a.journal.now a.answers.now a.image.now s.requires
    closure.result _ closed refl begin.result _ _ _ begin.auto.vertices begin.auto.edges refl begin.ensures)) save.ensures

use Prim.Native.Nat.{ℕ, ◌+◌, ◌-◌, ◌*◌}
use mathlib.Core.Path.{sym, ap, ◌∙◌}
use native.Mathlib.Omega.{arith}
use lib.Dec.{eqb}
use lib.ListN.{get_or}
use Rattle.image_check.proofs.Walks.{good_vertex}
use Rattle.std.proofs.Common.{rules}
use Rattle.image_check.proofs.Turns.{turn_of, along, none_left, vertex_stop, vertex_go, marks_go, vertex_end, vertex_in, below_set}
use Rattle.image_check.proofs.Verdicts.{record_not}
use Rattle.image_check.proofs.passes.Parts.check_vertices.Goals as goal

pub bounds-deg-number : goal.bounds-deg-number
bounds-deg-number c = omega (arith, vertex_in c.args.limits.vertices c.args.limits.types _ _ _ _ c.good_vertex-good.ensures c.if-good-lt3.false, c.requires.room, c.loop-i.invariant.4)

pub returns-then-good-lt3-clause-verdict : goal.returns-then-good-lt3-clause-verdict
returns-then-good-lt3-clause-verdict c =
    let a = c.args in
    let l = c.loop-i in
    let i = l.i-iterator.count in
    let st = c.in-Some.ensures.steps in
    let cut = st.0.1.0 in
    let long = st.0.1.1 ∙ l.invariant.2 in
    let x = c.in-Some.record.now in
    let good = c.good_vertex-good.ensures ∙ ap (λ (f : ℕ). good_vertex a.limits.vertices a.limits.types (eqb f 0) (get_or x 0 0) (get_or x 1 0) 0) c.get.ensures in
    λ count e.
    let v = l.invariant.6 count e in
    let t = turn_of a.self.now.size count i _ _ _ (search rules) cut long v.0 in
    rw st.1
    (vertex_stop a.self.now.size count i _ _ _ t.0 cut long (search rules) a.limits.vertices a.limits.types l.deg (6 + a.self.now.size * i) _ good c.if-good-lt3.true
    ∙ v.1)

pub returns-then-good-lt3-clause-marks : goal.returns-then-good-lt3-clause-marks
returns-then-good-lt3-clause-marks c = λ count e q. absurd (record_not q)

pub loop-i-preserved : goal.loop-i-preserved
loop-i-preserved c =
    let a = c.args in
    let l = c.loop-i in
    let i = l.i-iterator.count in
    let st = c.in-Some.ensures.steps in
    let cut = st.0.1.0 in
    let long = st.0.1.1 ∙ l.invariant.2 in
    let x = c.in-Some.record.now in
    let good = c.good_vertex-good.ensures ∙ ap (λ (f : ℕ). good_vertex a.limits.vertices a.limits.types (eqb f 0) (get_or x 0 0) (get_or x 1 0) 0) c.get.ensures in (
      search rules,
      search rules,
      st.0.0 ∙ l.invariant.2,
      rw st.2 (along a.self.now.size i _ _ _ _ cut long l.invariant.3),
      search rules,
      λ b. below_set 1 l.deg _ 1 (l.invariant.5 b) (omega arith),
      λ count e.
          let v = l.invariant.6 count e in
          let t = turn_of a.self.now.size count i _ _ _ (search rules) cut long v.0 in
          rw st.2 (
            t.1,
            vertex_go a.self.now.size count i _ _ _ t.0 cut long (search rules) a.limits.vertices a.limits.types l.deg (6 + a.self.now.size * i) _ good
                c.if-good-lt3.false _ (omega arith) ∙ v.1,
            marks_go a.self.now.size count i _ _ _ t.0 cut long (search rules) l.deg ∙ v.2,
          ),
    )

pub returns-clause-verdict : goal.returns-clause-verdict
returns-clause-verdict c = λ count e.
    let a = c.args in
    let l = c.loop-i in
    let v = l.invariant.6 count e in
    let st = c.in-None.ensures.steps in
    let z = none_left a.self.now.size (count - l.i-iterator.count) _ v.0 (omega (arith, st.0.1.0, l.invariant.2)) in
    sym (vertex_end _ z _ _ a.self.now.size a.limits.vertices a.limits.types l.deg).0 ∙ v.1

pub returns-clause-marks : goal.returns-clause-marks
returns-clause-marks c = λ count e q.
    let a = c.args in
    let l = c.loop-i in
    let v = l.invariant.6 count e in
    let st = c.in-None.ensures.steps in
    let z = none_left a.self.now.size (count - l.i-iterator.count) _ v.0 (omega (arith, st.0.1.0, l.invariant.2)) in
    sym (vertex_end _ z l.i-iterator.iter.rest.now 0 a.self.now.size a.limits.vertices a.limits.types l.deg).1 ∙ v.2

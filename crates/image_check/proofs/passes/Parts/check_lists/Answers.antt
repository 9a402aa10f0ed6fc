use Prim.Native.Nat.{ℕ, ◌+◌, ◌-◌, ◌≤◌}
use mathlib.Core.Path.{◌≡◌, ap, ◌∙◌}
use native.Mathlib.Omega.{arith}
use lib.ListN.{length, get_or, drop, length-drop}
use lib.Seq.{drop-drop}
use Rattle.std.proofs.Common.{rules}
use Rattle.image_check.proofs.Turns.{piece_of, none_left, incidence_stop, incidence_go, incidence_more, incidence_done, list_le}
use Rattle.image_check.proofs.passes.Parts.check_lists.Goals as goal

pub overflow_add-result : goal.overflow_add-result
overflow_add-result c =
    let a = c.args in
    let l = c.loop-record in
    let e = list_le (get_or c.in-Some.record.now 0 0) c.saturating_sub-degree.result l.own (drop l.at a.self.now.incidences.now) in
    let vertices : length a.self.now.vertices.now ≤ 4000 = search rules in
    let edges : length a.self.now.edges.now ≤ 24000 = search rules in
    let incidences : length a.self.now.incidences.now ≤ 8000 = search rules in
    omega (arith, c.list-good.ensures.0, e.1, length-drop l.at a.self.now.incidences.now, l.invariant.3, vertices, edges, incidences)

pub returns-then-good-degree : goal.returns-then-good-degree
returns-then-good-degree c =
    let a = c.args in
    let l = c.loop-record in
    let st = c.in-Some.ensures.steps in
    let cut = st.1.0 in
    let long = st.1.1 ∙ l.invariant.2 in
    let degree = c.saturating_sub-degree.ensures ∙ ap (λ (f : ℕ). f - 1) c.get.ensures in
    λ count e.
    let v = l.invariant.4 count e in
    let t = piece_of a.self.now.size v.0 _ _ _ (search rules) cut long v.1 in
    incidence_stop a.self.now.size v.0 t.0 _ _ _ t.1 cut long (search rules) a.deg.now l.own (drop l.at a.self.now.incidences.now) ((6 + length a.self.now.vertices.now + length a.self.now.edges.now) + l.at) _ _ degree c.list-good.ensures.0
    c.if-good-degree.true
    ∙ v.2

pub loop-record-preserved : goal.loop-record-preserved
loop-record-preserved c =
    let a = c.args in
    let l = c.loop-record in
    let st = c.in-Some.ensures.steps in
    let cut = st.1.0 in
    let long = st.1.1 ∙ l.invariant.2 in
    let d = c.saturating_sub-degree in
    let f = c.list-good in
    let degree = d.ensures ∙ ap (λ (f : ℕ). f - 1) c.get.ensures in
    let x = list_le (get_or c.in-Some.record.now 0 0) d.result l.own (drop l.at a.self.now.incidences.now) in
    let full : f.result ≡ d.result = omega (arith, f.ensures.0, x.0, c.if-good-degree.false) in
    let far : (6 + length a.self.now.vertices.now + length a.self.now.edges.now) + (l.at + d.result) ≡ (6 + length a.self.now.vertices.now + length a.self.now.edges.now) + l.at + d.result = omega arith in (
      search rules,
      search rules,
      st.0 ∙ l.invariant.2,
      omega (arith, f.ensures.0, x.1, length-drop l.at a.self.now.incidences.now, l.invariant.3, full),
      λ count e.
          let v = l.invariant.4 count e in
          let t = piece_of a.self.now.size v.0 _ _ _ (search rules) cut long v.1 in (
            t.0,
            t.2,
            rw (f.ensures.1 full, far, ← drop-drop d.result l.at a.self.now.incidences.now)
                (incidence_go a.self.now.size v.0 t.0 _ _ _ t.1 cut long (search rules) a.deg.now l.own (drop l.at a.self.now.incidences.now) ((6 + length a.self.now.vertices.now + length a.self.now.edges.now) + l.at) _ _ degree f.ensures.0
                c.if-good-degree.false
                ∙ v.2),
          ),
    )

pub returns-then-at-self : goal.returns-then-at-self
returns-then-at-self c = λ count e.
    let a = c.args in
    let l = c.loop-record in
    let v = l.invariant.4 count e in
    let z = none_left a.self.now.size v.0 _ v.1 (omega (arith, c.in-None.ensures.steps.1.0, l.invariant.2)) in
    incidence_more v.0 z _ ((6 + length a.self.now.vertices.now + length a.self.now.edges.now) + l.at) a.self.now.size a.deg.now l.own a.self.now.incidences.now l.at c.if-at-self.true ∙ v.2

pub returns : goal.returns
returns c = λ count e.
    let a = c.args in
    let l = c.loop-record in
    let v = l.invariant.4 count e in
    let z = none_left a.self.now.size v.0 _ v.1 (omega (arith, c.in-None.ensures.steps.1.0, l.invariant.2)) in
    incidence_done v.0 z _ ((6 + length a.self.now.vertices.now + length a.self.now.edges.now) + l.at) a.self.now.size a.deg.now l.own a.self.now.incidences.now l.at c.if-at-self.false ∙ v.2

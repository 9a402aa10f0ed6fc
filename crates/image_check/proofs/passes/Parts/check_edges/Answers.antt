use Prim.Native.Nat.{◌+◌, ◌-◌, ◌*◌, ◌≤◌}
use mathlib.Core.Path.{sym, ◌∙◌}
use native.Mathlib.Omega.{arith}
use lib.ListN.{length, get_or}
use Rattle.std.proofs.Common.{rules}
use Rattle.image_check.proofs.Turns.{turn_of, along, none_left, edge_stop, edge_go, degrees_go, owners_go, edge_end, edge_in, below_ends, below_more}
use Rattle.image_check.proofs.Verdicts.{record_not}
use Rattle.image_check.proofs.passes.Parts.check_edges.Goals as goal

pub returns-then-good-lt6-clause-verdict : goal.returns-then-good-lt6-clause-verdict
returns-then-good-lt6-clause-verdict c =
    let a = c.args in
    let l = c.loop-i in
    let i = l.i-iterator.count in
    let st = c.in-Some.ensures.steps in
    let cut = st.0.1.0 in
    let long = st.0.1.1 ∙ l.invariant.2 in
    λ count e.
    let v = l.invariant.7 count e in
    let t = turn_of 6 count i _ _ _ (omega arith) cut long v.0 in
    rw st.1 (edge_stop count i _ _ _ t.0 cut long a.limits.edges a.limits.types l.deg l.own ((6 + length a.self.now.vertices.now) + 6 * i) _ c.edge_good-good.ensures c.if-good-lt6.true ∙ v.1)

pub returns-then-good-lt6-clause-ends : goal.returns-then-good-lt6-clause-ends
returns-then-good-lt6-clause-ends c = λ count e q. absurd (record_not q)

pub returns-then-good-lt6-clause-owners : goal.returns-then-good-lt6-clause-owners
returns-then-good-lt6-clause-owners c = λ count e q. absurd (record_not q)

pub enter-requires : goal.enter-requires
enter-requires c =
    let a = c.args in
    let l = c.loop-i in
    let st = c.in-Some.ensures.steps in
    let g = c.edge_good-good in
    let few : length a.self.now.edges.now ≤ 24000 = search rules in
    let r = edge_in a.limits.edges a.limits.types l.deg l.own c.in-Some.record.now 0 g.result g.ensures c.if-good-lt6.false in record {
      six = st.0.1.1 ∙ l.invariant.2;
      number = omega (arith, r.number, c.requires.room, l.invariant.5);
      alpha = r.alpha;
      omega = r.omega;
      fits = below_more (1 + 6 * l.i-iterator.count) _ l.deg (omega (arith, l.invariant.3, few)) l.invariant.6;
    }

pub loop-i-preserved : goal.loop-i-preserved
loop-i-preserved c =
    let a = c.args in
    let l = c.loop-i in
    let i = l.i-iterator.count in
    let st = c.in-Some.ensures.steps in
    let cut = st.0.1.0 in
    let long = st.0.1.1 ∙ l.invariant.2 in
    let g = c.edge_good-good in
    let x = c.in-Some.record.now in
    let n = c.enter in (
      search rules,
      search rules,
      st.0.0 ∙ l.invariant.2,
      rw st.2 (along 6 i _ _ _ _ cut long l.invariant.3),
      omega (arith, n.auto, l.invariant.4),
      omega (arith, n.auto, l.invariant.5),
      rw (st.2, n.ensures.ends) (λ j. omega (arith, below_ends (6 * i) l.deg (get_or x 1 0) (get_or x 2 0) l.invariant.6 j)),
      λ count e.
          let v = l.invariant.7 count e in
          let t = turn_of 6 count i _ _ _ (omega arith) cut long v.0 in
          rw (st.2, n.ensures.ends, n.ensures.owners) (
            t.1,
            edge_go count i _ _ _ t.0 cut long a.limits.edges a.limits.types l.deg l.own ((6 + length a.self.now.vertices.now) + 6 * i) _ g.ensures c.if-good-lt6.false _ (omega arith) ∙ v.1,
            degrees_go count i _ _ _ t.0 cut long l.deg ∙ v.2,
            owners_go count i _ _ _ t.0 cut long l.own ∙ v.3,
          ),
    )

pub returns-clause-verdict : goal.returns-clause-verdict
returns-clause-verdict c = λ count e.
    let a = c.args in
    let l = c.loop-i in
    let v = l.invariant.7 count e in
    let z = none_left 6 (count - l.i-iterator.count) _ v.0 (omega (arith, c.in-None.ensures.steps.0.1.0, l.invariant.2)) in
    sym (edge_end _ z _ _ a.limits.edges a.limits.types l.deg l.own).0 ∙ v.1

pub returns-clause-ends : goal.returns-clause-ends
returns-clause-ends c = λ count e q.
    let a = c.args in
    let l = c.loop-i in
    let v = l.invariant.7 count e in
    let z = none_left 6 (count - l.i-iterator.count) _ v.0 (omega (arith, c.in-None.ensures.steps.0.1.0, l.invariant.2)) in
    sym (edge_end _ z l.i-iterator.iter.rest.now 0 a.limits.edges a.limits.types l.deg l.own).1 ∙ v.2

pub returns-clause-owners : goal.returns-clause-owners
returns-clause-owners c = λ count e q.
    let a = c.args in
    let l = c.loop-i in
    let v = l.invariant.7 count e in
    let z = none_left 6 (count - l.i-iterator.count) _ v.0 (omega (arith, c.in-None.ensures.steps.0.1.0, l.invariant.2)) in
    sym (edge_end _ z l.i-iterator.iter.rest.now 0 a.limits.edges a.limits.types l.deg l.own).2 ∙ v.3

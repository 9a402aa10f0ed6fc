use Prim.Native.Nat.{ℕ, ◌+◌, ◌-◌, ◌*◌, ◌≤◌}
use mathlib.Core.Path.{◌≡◌, refl, sym, ap, ◌∙◌, subst}
use mathlib.Core.List.{List}
use native.Mathlib.Omega.{arith}
use lib.ListN.{length}
use Rattle.std.proofs.Common.{rules}
use Rattle.image_check.specs.Checks.{Verdict}
use Rattle.image_check.specs.Scratch.{degree_run}
use Rattle.image_check.proofs.DegreePass.{old_run}
use Rattle.image_check.proofs.Turns.{turn_of, along, none_left, degree_stop, degree_go, degree_end}
use Rattle.image_check.proofs.passes.Parts.check_degrees.Goals as goal

-- what holds of records of four words holds of those of this size
of_four : (size : ℕ) (deg part : List ℕ) (r : Verdict) → size ≡ 4 → ((count : ℕ) → 4 * count ≡ length part → r ≡ degree_run 4 deg count part 6) →
    (count : ℕ) → size * count ≡ length part → r ≡ degree_run size deg count part 6
of_four size deg part r four h = subst (λ (s : ℕ). (count : ℕ) → s * count ≡ length part → r ≡ degree_run s deg count part 6) (sym four) h

pub returns-then-self-lt-VERTEX : goal.returns-then-self-lt-VERTEX
returns-then-self-lt-VERTEX c =
    let a = c.args in
    λ count e. sym (old_run a.self.now.size a.deg.now count a.self.now.vertices.now 6 (omega (arith, c.if-self-lt-VERTEX.true)))

pub returns-then-record-ends : goal.returns-then-record-ends
returns-then-record-ends c =
    let a = c.args in
    let l = c.loop-i in
    let i = l.i-iterator.count in
    let st = c.in-Some.ensures.steps in
    let cut = st.0.1.0 in
    let long = st.0.1.1 ∙ l.invariant.2 in
    let degree = c.saturating_sub-ends.ensures ∙ ap (λ (f : ℕ). f - 1) c.get.ensures in
    let most : a.self.now.size ≤ 4 = search rules in
    of_four a.self.now.size a.deg.now a.self.now.vertices.now _ (omega (arith, most, c.if-self-lt-VERTEX.false))
    (λ count e.
    let v = l.invariant.4 count e in
    let t = turn_of 4 count i _ _ _ (omega arith) cut long v.0 in
    rw st.1 (degree_stop 4 count i _ _ _ t.0 cut long refl a.deg.now (6 + 4 * i) _ _ degree refl c.if-record-ends.true ∙ v.1))

pub loop-i-preserved : goal.loop-i-preserved
loop-i-preserved c =
    let a = c.args in
    let l = c.loop-i in
    let i = l.i-iterator.count in
    let st = c.in-Some.ensures.steps in
    let cut = st.0.1.0 in
    let long = st.0.1.1 ∙ l.invariant.2 in
    let degree = c.saturating_sub-ends.ensures ∙ ap (λ (f : ℕ). f - 1) c.get.ensures in (
      search rules,
      search rules,
      st.0.0 ∙ l.invariant.2,
      rw st.2 (along 4 i _ _ _ _ cut long l.invariant.3),
      λ count e.
          let v = l.invariant.4 count e in
          let t = turn_of 4 count i _ _ _ (omega arith) cut long v.0 in
          rw st.2 (t.1, degree_go 4 count i _ _ _ t.0 cut long refl a.deg.now (6 + 4 * i) _ _ degree refl c.if-record-ends.false _ (omega arith) ∙ v.1),
    )

pub returns : goal.returns
returns c =
    let a = c.args in
    let l = c.loop-i in
    let most : a.self.now.size ≤ 4 = search rules in
    of_four a.self.now.size a.deg.now a.self.now.vertices.now _ (omega (arith, most, c.if-self-lt-VERTEX.false))
    (λ count e.
    let v = l.invariant.4 count e in
    let z = none_left 4 (count - l.i-iterator.count) _ v.0 (omega (arith, c.in-None.ensures.steps.0.1.0, l.invariant.2)) in
    sym (degree_end _ z _ _ 4 a.deg.now) ∙ v.1)

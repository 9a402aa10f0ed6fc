use Prim.Native.Nat.{suc, ◌+◌, ◌-◌}
use mathlib.Core.Path.{◌≡◌, sym, ◌∙◌}
use native.Mathlib.Omega.{arith}
use Rattle.std.proofs.Common.{rules}
use Rattle.image_check.proofs.Turns.{turn_of, along, none_left}
use Rattle.comparison.proofs.Turns.{note_go, note_end}
use Rattle.comparison.proofs.note.Goals as goal

pub loop-i-preserved : goal.loop-i-preserved
loop-i-preserved c =
    let l = c.loop-i in
    let i = l.i-iterator.count in
    let st = c.in-Some.ensures.steps in
    let cut = st.0.1.0 in
    let long = st.0.1.1 ∙ l.invariant.2 in (
      search rules,
      search rules,
      st.0.0 ∙ l.invariant.2,
      rw st.2 (along 6 i _ _ _ _ cut long l.invariant.3),
      λ count e.
          let v = l.invariant.4 count e in
          let t = turn_of 6 count i _ _ _ (omega arith) cut long v.0 in
          let more : count - i ≡ suc (count - (i + 1)) = omega (arith, t.0) in
          rw (st.2, c.put.ensures, st.1) (t.1, note_go (count - i) (count - (i + 1)) _ _ _ more cut long l.places i ∙ v.1),
    )

pub returns : goal.returns
returns c = λ count e.
    let l = c.loop-i in
    let v = l.invariant.4 count e in
    let z = none_left 6 (count - l.i-iterator.count) _ v.0 (omega (arith, c.in-None.ensures.steps.0.1.0, l.invariant.2)) in
    sym (note_end _ z l.i-iterator.iter.rest.now l.places l.i-iterator.count) ∙ v.1

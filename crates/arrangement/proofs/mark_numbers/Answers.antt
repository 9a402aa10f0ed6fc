use mathlib.Core.Path.{sym, ap, ◌∙◌}
use native.Mathlib.Omega.{arith}
use Rattle.std.proofs.Common.{rules}
use Rattle.image_check.proofs.Turns.{piece_of, none_left}
use Rattle.arrangement.specs.Scratch.{marked}
use Rattle.arrangement.proofs.Turns.{marks_turn, no_numbers}
use Rattle.arrangement.proofs.mark_numbers.Goals as goal

pub loop-record-preserved : goal.loop-record-preserved
loop-record-preserved c =
    let a = c.args in
    let l = c.loop-record in
    let st = c.in-Some.ensures.steps in
    let cut = st.1.0 in
    let long = st.1.1 ∙ l.invariant.2 in (
      search rules,
      search rules,
      st.0 ∙ l.invariant.2,
      λ count e.
          let v = l.invariant.3 count e in
          let t = piece_of a.size v.0 _ _ _ c.requires cut long v.1 in
          (t.0, t.2, rw c.put.ensures (marks_turn a.size v.0 t.0 _ _ _ c.requires t.1 cut long l.items ∙ v.2)),
    )

pub returns : goal.returns
returns c = λ count e.
    let a = c.args in
    let l = c.loop-record in
    let v = l.invariant.3 count e in
    let z = none_left a.size v.0 _ v.1 (omega (arith, c.in-None.ensures.steps.1.0, l.invariant.2)) in
    sym (ap (λ xs. marked xs l.items) (no_numbers a.size v.0 l.record-iterator.rest.now z)) ∙ v.2

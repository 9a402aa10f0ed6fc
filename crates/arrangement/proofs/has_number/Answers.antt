use mathlib.Core.Path.{sym, ap, ◌∙◌}
use native.Mathlib.Omega.{arith}
use Rattle.std.proofs.Common.{rules}
use Rattle.lists.specs.Lists.{member}
use Rattle.image_check.proofs.Turns.{piece_of, none_left}
use Rattle.arrangement.proofs.Turns.{has_here, has_turn, no_numbers}
use Rattle.arrangement.proofs.has_number.Goals as goal

pub returns-then-record-number : goal.returns-then-record-number
returns-then-record-number c =
    let a = c.args in
    let l = c.loop-record in
    let st = c.in-Some.ensures.steps in
    let cut = st.1.0 in
    let long = st.1.1 ∙ l.invariant.2 in
    λ count e.
    let v = l.invariant.3 count e in
    let t = piece_of a.size v.0 _ _ _ c.requires cut long v.1 in
    has_here a.size v.0 t.0 _ _ _ c.requires t.1 cut long a.number c.if-record-number.true ∙ v.2

pub loop-record-preserved : goal.loop-record-preserved
loop-record-preserved c =
    let a = c.args in
    let l = c.loop-record in
    let st = c.in-Some.ensures.steps in
    let cut = st.1.0 in
    let long = st.1.1 ∙ l.invariant.2 in (
      search rules,
      search rules,
      st.0 ∙ l.invariant.2,
      λ count e.
          let v = l.invariant.3 count e in
          let t = piece_of a.size v.0 _ _ _ c.requires cut long v.1 in
          (t.0, t.2, has_turn a.size v.0 t.0 _ _ _ c.requires t.1 cut long a.number c.if-record-number.false ∙ v.2),
    )

pub returns : goal.returns
returns c = λ count e.
    let a = c.args in
    let l = c.loop-record in
    let v = l.invariant.3 count e in
    let z = none_left a.size v.0 _ v.1 (omega (arith, c.in-None.ensures.steps.1.0, l.invariant.2)) in
    sym (ap (member a.number) (no_numbers a.size v.0 l.record-iterator.rest.now z)) ∙ v.2

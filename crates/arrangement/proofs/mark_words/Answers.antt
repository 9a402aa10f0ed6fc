use mathlib.Core.Path.{sym, ap, ◌∙◌}
use native.Mathlib.Omega.{arith}
use lib.ListN.{length}
use Rattle.std.proofs.Common.{rules}
use Rattle.image_check.proofs.Turns.{piece_of, parted, none_left}
use Rattle.arrangement.specs.Scratch.{marked}
use Rattle.arrangement.proofs.Turns.{ends_turn, ends_count, no_words}
use Rattle.arrangement.proofs.mark_words.Goals as goal

pub loop-record-preserved : goal.loop-record-preserved
loop-record-preserved c =
    let a = c.args in
    let l = c.loop-record in
    let st = c.in-Some.ensures.steps in
    let cut = st.1.0 in
    let long = st.1.1 ∙ l.invariant.2 in
    let o = c.mark_end-out in
    let b = c.mark_end-back in (
      search rules,
      search rules,
      st.0 ∙ l.invariant.2,
      omega (arith, parted c.in-Some.record.now c.next.new.self.rest.now l.record-iterator.rest.now 6 cut long, o.ensures.1, b.ensures.1, l.invariant.3),
      λ count e.
          let v = l.invariant.4 count e in
          let t = piece_of 6 v.0 _ _ _ (omega arith) cut long v.1 in (
            t.0,
            t.2,
            omega (arith, v.2, ends_count a.vertex v.0 t.0 _ _ _ t.1 cut long _ _ o.ensures.0 b.ensures.0),
            ends_turn a.vertex v.0 t.0 _ _ _ t.1 cut long l.items o.new.items b.new.items o.ensures.2 b.ensures.2 ∙ v.3,
          ),
    )

pub returns-clause-value : goal.returns-clause-value
returns-clause-value c = λ count e.
    let a = c.args in
    let l = c.loop-record in
    let v = l.invariant.4 count e in
    let z = none_left 6 v.0 _ v.1 (omega (arith, c.in-None.ensures.steps.1.0, l.invariant.2)) in
    omega (arith, v.2, ap length (no_words a.vertex v.0 l.record-iterator.rest.now z))

pub returns-clause-marked : goal.returns-clause-marked
returns-clause-marked c = λ count e.
    let a = c.args in
    let l = c.loop-record in
    let v = l.invariant.4 count e in
    let z = none_left 6 v.0 _ v.1 (omega (arith, c.in-None.ensures.steps.1.0, l.invariant.2)) in
    sym (ap (λ xs. marked xs l.items) (no_words a.vertex v.0 l.record-iterator.rest.now z)) ∙ v.3

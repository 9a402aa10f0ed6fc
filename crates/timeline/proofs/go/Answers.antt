use Rattle.std.proofs.Common.{not, nat_eq}
use mathlib.Core.Path.{refl, sym, ap, subst, ◌∙◌}
use lib.ListN.{length}
use Rattle.graph_tables.specs.Tables.{state_of}
use Rattle.timeline.specs.JournalRows.{JournalRows, shifted}
use Rattle.timeline.specs.Steps.{rows_to}
use Rattle.timeline.proofs.JournalRowLaws.{row_word}
use Rattle.timeline.proofs.Steps.{at_record, placed_by, journal_placed, rows_short}
use Rattle.timeline.proofs.Going.{going_start, row_reach, aims_row, aims_end, fewer_left, end_short}
use Rattle.timeline.proofs.go.Goals as goal

pub next-ahead-requires : goal.next-ahead-requires
next-ahead-requires g c =
    let s = c in
    let a = s.args in
    let l = s.requires.journal.1 in
    let k = s.requires.journal.2 in
    let y = c.loop-ahead.invariant.0.goes s.requires.journal.0 l.start l.steps _ k.rows
    (going_start s.requires.journal.0 a.current.position _ a.journal.now l k (not (nat_eq g.row.BACK 0)) a.steps s.requires.reach) in
    (l.start, l.steps, _, c.is_unfinished.ensures.unfinished c.loop-ahead-test.true, y.1)

pub go_row-head-requires : goal.go_row-head-requires
go_row-head-requires g c =
    let s = c in
    let a = s.args in
    let l = s.requires.journal.1 in
    let k = s.requires.journal.2 in
    let y = c.loop-ahead.invariant.0.goes s.requires.journal.0 l.start l.steps _ k.rows
    (going_start s.requires.journal.0 a.current.position _ a.journal.now l k (not (nat_eq g.row.BACK 0)) a.steps s.requires.reach) in
    let z = c.next-ahead.ensures.by_index l.start l.steps _ y.1 in
    (s.requires.journal.0, l.start, _, row_reach a.journal.now l.start l.steps _ _ _ (not (nat_eq g.row.BACK 0)) z.0 z.1, y.0)

pub shifted_by-u-requires : goal.shifted_by-u-requires
shifted_by-u-requires g c =
    let s = c in
    let a = s.args in
    let l = s.requires.journal.1 in
    let k = s.requires.journal.2 in
    let y = c.loop-ahead.invariant.0.goes s.requires.journal.0 l.start l.steps _ k.rows
    (going_start s.requires.journal.0 a.current.position _ a.journal.now l k (not (nat_eq g.row.BACK 0)) a.steps s.requires.reach) in
    let z = c.next-ahead.ensures.by_index l.start l.steps _ y.1 in
    row_word s.requires.journal.0 a.journal.now l.start _ _ _ y.0 (not (nat_eq g.row.BACK 0)) (row_reach a.journal.now l.start l.steps _ _ _ (not (nat_eq g.row.BACK 0)) z.0 z.1)

pub loop-ahead-smaller : goal.loop-ahead-smaller
loop-ahead-smaller g c =
    let s = c in
    let a = s.args in
    let l = s.requires.journal.1 in
    let k = s.requires.journal.2 in
    let y = c.loop-ahead.invariant.0.goes s.requires.journal.0 l.start l.steps _ k.rows
    (going_start s.requires.journal.0 a.current.position _ a.journal.now l k (not (nat_eq g.row.BACK 0)) a.steps s.requires.reach) in
    let n = c.next-ahead.ensures in
    let z = n.by_index l.start l.steps _ y.1 in
    fewer_left (not (nat_eq g.row.BACK 0)) _ _ _ _ n.advances z.0.side z.1 c.shifted_by-u.ensures
    (rows_short s.requires.journal.0 a.journal.now l.start _ _ _ y.0) (end_short a.journal.now l.start l.steps (not (nat_eq g.row.BACK 0)) _ _ _ z.0)

pub loop-ahead-preserved : goal.loop-ahead-preserved
loop-ahead-preserved g c =
    let a = c.args in
    let i = c.loop-ahead.invariant.0 in
    let r = c.go_row-head in (
      record {
        vlen = r.ensures.same_loan.vertices_length ∙ i.vlen;
        elen = r.ensures.same_loan.edges_length ∙ i.elen;
        goes = λ b from ss q j k.
            let y = i.goes b from ss q j k in
            let z = c.next-ahead.ensures.by_index from ss q y.1 in
            let e = c.shifted_by-u.ensures in (
              subst (JournalRows b a.journal.now from (rows_to 0 (length ss) ss) (state_of r.result r.new.tables)) (sym e)
                  (r.ensures.rows b from _ (row_reach a.journal.now from ss q _ _ (not (nat_eq g.row.BACK 0)) z.0 z.1) y.0),
              aims_row a.journal.now from ss q _ _ (not (nat_eq g.row.BACK 0)) z.0 z.1 _ e,
            );
      },
      record {
        vertices = r.ensures.same_loan.vertices ∙ c.loop-ahead.invariant.1.vertices;
        edges = r.ensures.same_loan.edges ∙ c.loop-ahead.invariant.1.edges;
        vertices_length = r.ensures.same_loan.vertices_length ∙ i.vlen;
        edges_length = r.ensures.same_loan.edges_length ∙ i.elen;
      },
    )

pub returns-clause-gone : goal.returns-clause-gone
returns-clause-gone g c =
    λ b l k.
    let s = c in
    let a = s.args in
    let f = c.is_unfinished.ensures.left_value c.loop-ahead-test.false in
    let y = c.loop-ahead.invariant.0.goes b l.start l.steps _ k.rows (going_start b a.current.position _ a.journal.now l k (not (nat_eq g.row.BACK 0)) a.steps s.requires.reach) in
    let e = c.shifted_by-place.ensures ∙ ap (shifted (not (nat_eq g.row.BACK 0)) a.steps) k.place in
    at_record b _ _ _ _ _ _ c.move_to.ensures
    (placed_by b _ _ _ l _ _ e
    (journal_placed b a.current.position _ _ _ a.journal.now l k (aims_end a.journal.now l.start l.steps (not (nat_eq g.row.BACK 0)) _ _ _ y.1 f.0 f.1 _ e) refl y.0))

use mathlib.Core.Path.{sym, ap, ◌∙◌}
use native.Mathlib.Omega.{arith}
use lib.Seq.{sets}
use Rattle.std.proofs.Common.{rules}
use Rattle.decimal.proofs.Stores.{stored_left}
use Rattle.page.specs.Rows.{edge_read}
use Rattle.page.proofs.RowLaws.{row_length}
use Rattle.page.proofs.Turns.{rows_turn, rows_end, rows_count, all_rows_length}
use Rattle.page.proofs.rows.Goals as goal

pub loop-edge-init : goal.loop-edge-init
loop-edge-init c = search rules

pub row-at-requires : goal.row-at-requires
row-at-requires c =
    let l = c.loop-edge in
    let s = c.in-Some.ensures.steps.1 in
    record {
      words = omega (arith, s.1, l.invariant.0);
      room = omega (arith, rows_count _ _ _ s.0 (s.1 ∙ l.invariant.0), l.invariant.1, l.invariant.2, c.requires);
    }

pub loop-edge-preserved : goal.loop-edge-preserved
loop-edge-preserved c =
    let l = c.loop-edge in
    let s = c.in-Some.ensures.steps.1 in
    let d = c.row-at in
    let six = s.1 ∙ l.invariant.0 in (
      c.in-Some.ensures.steps.0 ∙ l.invariant.0,
      d.auto.out ∙ l.invariant.1,
      omega (arith, d.ensures.place, row_length (edge_read c.in-Some.edge.now), rows_count _ _ _ s.0 six, l.invariant.2),
      stored_left _ _ d.ensures (rows_turn _ _ _ s.0 six) ∙ l.invariant.3,
    )

pub returns : goal.returns
returns c =
    let l = c.loop-edge in
    let h = c.in-None.ensures.steps.1.0 in
    let e = rows_end l.edge-iterator.rest.now (omega (arith, h, l.invariant.0)) in
    record {
      place = omega (arith, h, l.invariant.0, l.invariant.2, all_rows_length c.args.records.now);
      stores = sym (ap (sets l.out l.at) e) ∙ l.invariant.3;
    }

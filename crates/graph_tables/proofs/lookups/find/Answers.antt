use Rattle.std.proofs.Common.{length, sym, arith, le-ltb, eq-eqb, ne_eqb}
use Rattle.graph_tables.specs.Tables.{found_row}
use Rattle.graph_tables.proofs.Finds.{row_past, row_there, row_beyond}
use Rattle.graph_tables.proofs.lookups.find.Goals as goal

pub returns-then-table-n : goal.returns-then-table-n
returns-then-table-n g c =
    sym (row_past g.row.WORDS g.row.LIVE c.args.table.now c.args.n
    (row_beyond g.row.WORDS (length c.args.table.now) c.args.n (omega (arith, c.requires)) c.ranges.n.fits (omega (arith, c.well_formed.0)) c.if-table-n.true))

pub returns-then-table-at-eq0 : goal.returns-then-table-at-eq0
unfolding found_row
returns-then-table-at-eq0 g c =
    let r = row_there g.row.WORDS (length c.args.table.now) c.args.n (omega (arith, c.requires)) c.ranges.n.fits (omega (arith, c.well_formed.0)) c.if-table-n.false in
    simp (ne_eqb _ _ r.0, le-ltb _ _ r.1, eq-eqb _ _ c.if-table-at-eq0.true)

pub returns-else-table-at-eq0 : goal.returns-else-table-at-eq0
unfolding found_row
returns-else-table-at-eq0 g c =
    let r = row_there g.row.WORDS (length c.args.table.now) c.args.n (omega (arith, c.requires)) c.ranges.n.fits (omega (arith, c.well_formed.0)) c.if-table-n.false in
    simp (ne_eqb _ _ r.0, le-ltb _ _ r.1, ne_eqb _ _ c.if-table-at-eq0.false)

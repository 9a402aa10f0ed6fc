use Rattle.graph.specs.declared.Change.TheVariants.{DeleteVertex}
use Rattle.graph_tables.specs.Tables.{state_of}
use Rattle.vertex_deletion.proofs.Rows.{vertex_here, edge_here, edge_words, first_edge, first_vertex, first_can, next_edge, next_vertex}
use Rattle.vertex_deletion.proofs.next_row.Goals as goal

pub vertex_field-word-requires-clause-row : goal.vertex_field-word-requires-clause-row
vertex_field-word-requires-clause-row c =
    let a = c.args in
    let p = c.requires.holds in
    vertex_here p.0 (state_of a.head a.tables.now) p.1 p.3 a.a p.4

pub remove_edge-requires : goal.remove_edge-requires
remove_edge-requires c =
    let a = c.args in
    let p = c.requires.holds in
    let s = state_of a.head a.tables.now in
    let w = c.vertex_field-word.ensures in
    let n = c.if-word-eq0.false in
    record {
      room = c.requires.room;
      row = edge_here p.0 s p.1 p.3 a.a p.4 _ w n;
      can = first_can p.0 s p.1 p.3 p.2 (DeleteVertex a.a) p.4 _ (first_edge p.0 s p.1 p.3 a.a p.4 _ w n) tt;
      words = edge_words p.0 s p.1 p.3 a.a p.4 _ w n;
    }

pub returns-else-word-eq0-clause-made : goal.returns-else-word-eq0-clause-made
returns-else-word-eq0-clause-made c =
    let a = c.args in
    next_edge (state_of a.head a.tables.now) a.a _ a.cost a.row a.journal.now _ _ c.vertex_field-word.ensures c.if-word-eq0.false c.remove_edge.ensures.made

pub remove_vertex-requires : goal.remove_vertex-requires
remove_vertex-requires c =
    let a = c.args in
    let p = c.requires.holds in
    let s = state_of a.head a.tables.now in
    let f = first_vertex p.0 s p.1 p.3 a.a p.4 _ c.vertex_field-word.ensures c.if-word-eq0.true in
    record {
      room = c.requires.room;
      row = vertex_here p.0 s p.1 p.3 a.a p.4;
      can = first_can p.0 s p.1 p.3 p.2 (DeleteVertex a.a) p.4 _ f tt;
    }

pub returns-then-word-eq0-clause-made : goal.returns-then-word-eq0-clause-made
returns-then-word-eq0-clause-made c =
    let a = c.args in
    next_vertex (state_of a.head a.tables.now) a.a _ a.cost a.row a.journal.now _ _ c.vertex_field-word.ensures c.if-word-eq0.true c.remove_vertex.ensures.made

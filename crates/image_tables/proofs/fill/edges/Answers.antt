use mathlib.Core.Path.{◌≡◌, refl, ◌∙◌}
use mathlib.Core.List.{map}
use native.Mathlib.Omega.{arith}
use Rattle.std.proofs.Common.{rules}
use Rattle.image.specs.Image.{edge_record, load}
use Rattle.image_tables.specs.Filling.{without_list}
use Rattle.image_tables.proofs.Parts.{given}
use Rattle.image_tables.proofs.Fills.{fill_start, chunk_turn, chunk_next, chunk_end}
use Rattle.image_tables.proofs.FillOrders.{ECore, edge_can, edge_next, edge_can_chunk, edge_chunk}
use Rattle.image_tables.proofs.fill.edges.Goals as goal

pub loop-record-init : goal.loop-record-init
loop-record-init c =
    let a = c.args in
    let e : c.into_iter-record-iterator.result.rest.now ≡ c.part.result.now = search rules in (
      search rules,
      search rules,
      search rules,
      search rules,
      fill_start edge_record (ECore (map without_list (load a.words.now).vseq)) (load a.words.now).eseq _ _
          (e ∙ c.part.ensures.0 ∙ (given a.words.now _ _ c.requires.can).edges) c.requires.core,
    )

pub edge-head-requires-clause-can : goal.edge-head-requires-clause-can
edge-head-requires-clause-can c =
    let a = c.args in
    let l = c.loop-record in
    let st = c.in-Some.ensures.steps in
    let long = st.1.1 ∙ l.invariant.2 in
    let vs = map without_list (load a.words.now).vseq in
    let t = chunk_turn edge_record (ECore vs) (load a.words.now).eseq 6 _ _ _ _ st.1.0 long (omega arith) l.invariant.4 in
    edge_can_chunk _ _ _ st.1.0 _ long
    (edge_can a.words.now _ _ c.requires.can _ 0 l.head _ _ l.invariant.3.vertices_length l.invariant.3.edges_length vs t).1

pub loop-record-preserved : goal.loop-record-preserved
loop-record-preserved c =
    let a = c.args in
    let l = c.loop-record in
    let st = c.in-Some.ensures.steps in
    let long = st.1.1 ∙ l.invariant.2 in
    let vs = map without_list (load a.words.now).vseq in
    let t = chunk_turn edge_record (ECore vs) (load a.words.now).eseq 6 _ _ _ _ st.1.0 long (omega arith) l.invariant.4 in
    let n = edge_next a.words.now _ _ c.requires.can _ 0 l.head _ _ l.invariant.3.vertices_length l.invariant.3.edges_length vs t _
    (c.edge-head.ensures.added ∙ edge_chunk _ _ _ st.1.0 _ long) in (
      search rules,
      search rules,
      st.0 ∙ l.invariant.2,
      search rules,
      chunk_next edge_record (ECore vs) (load a.words.now).eseq 6 _ _ _ _ st.1.0 long _ (omega arith) n,
    )

pub returns-clause-core : goal.returns-clause-core
returns-clause-core c =
    let a = c.args in
    let l = c.loop-record in
    chunk_end edge_record (ECore (map without_list (load a.words.now).vseq)) (load a.words.now).eseq 6 _ _ (λ x. refl) l.invariant.4
    (omega (arith, c.in-None.ensures.steps.1.0, l.invariant.2))

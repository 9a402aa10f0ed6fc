use mathlib.Core.Path.{◌≡◌, ◌∙◌}
use native.Mathlib.Omega.{arith}
use Rattle.std.proofs.Common.{rules}
use Rattle.image.specs.Image.{vertex_record, record_size, load}
use Rattle.image.proofs.Sizes.{size_range, record_size_lem}
use Rattle.image.proofs.RecordWords.{record_length}
use Rattle.image_tables.proofs.Parts.{given}
use Rattle.image_tables.proofs.Fills.{fill_start, chunk_turn, chunk_next, chunk_end}
use Rattle.image_tables.proofs.FillOrders.{VCore, vertex_can, vertex_next, vertex_can_chunk, vertex_chunk}
use Rattle.image_tables.proofs.fill.vertices.Goals as goal

pub chunks_exact-record-items-requires : goal.chunks_exact-record-items-requires
chunks_exact-record-items-requires c =
    omega (arith, c.record_size.ensures.0, (size_range (record_size c.args.words.now) (record_size_lem c.args.words.now)).0)

pub loop-record-init : goal.loop-record-init
loop-record-init c =
    let a = c.args in
    let e : c.into_iter-record-iterator.result.rest.now ≡ c.part.result.now = search rules in
    let s : c.into_iter-record-iterator.result.size ≡ record_size a.words.now = search rules in (
      omega (arith, s, (size_range (record_size a.words.now) (record_size_lem a.words.now)).0),
      tt,
      s,
      search rules,
      fill_start (vertex_record (record_size a.words.now)) VCore (load a.words.now).vseq _ _
          (e ∙ c.part.ensures.0 ∙ (given a.words.now _ _ c.requires.can).vertices) c.requires.core,
    )

pub vertex-head-requires-clause-words : goal.vertex-head-requires-clause-words
vertex-head-requires-clause-words c =
    let a = c.args in
    omega (arith, c.in-Some.ensures.steps.1.1, c.loop-record.invariant.2, (size_range (record_size a.words.now) (record_size_lem a.words.now)).0)

pub vertex-head-requires-clause-can : goal.vertex-head-requires-clause-can
vertex-head-requires-clause-can c =
    let a = c.args in
    let l = c.loop-record in
    let st = c.in-Some.ensures.steps in
    let long = st.1.1 ∙ l.invariant.2 in
    let some = (size_range (record_size a.words.now) (record_size_lem a.words.now)).0 in
    let t = chunk_turn (vertex_record (record_size a.words.now)) VCore (load a.words.now).vseq (record_size a.words.now) _ _ _ _ st.1.0 long (omega (arith, some)) l.invariant.4 in
    vertex_can_chunk _ c.in-Some.record.now _ st.1.0 _ (omega (arith, long, some)) _
    (vertex_can a.words.now _ _ c.requires.can _ 0 l.head _ _ l.invariant.3.vertices_length l.invariant.3.edges_length t).2

pub loop-record-preserved : goal.loop-record-preserved
loop-record-preserved c =
    let a = c.args in
    let l = c.loop-record in
    let st = c.in-Some.ensures.steps in
    let long = st.1.1 ∙ l.invariant.2 in
    let some = (size_range (record_size a.words.now) (record_size_lem a.words.now)).0 in
    let t = chunk_turn (vertex_record (record_size a.words.now)) VCore (load a.words.now).vseq (record_size a.words.now) _ _ _ _ st.1.0 long (omega (arith, some)) l.invariant.4 in
    let n = vertex_next a.words.now _ _ c.requires.can _ 0 l.head _ _ l.invariant.3.vertices_length l.invariant.3.edges_length t _
    (c.vertex-head.ensures.added ∙ vertex_chunk _ c.in-Some.record.now _ st.1.0 _ (omega (arith, long, some))) in (
      search rules,
      search rules,
      st.0 ∙ l.invariant.2,
      search rules,
      chunk_next (vertex_record (record_size a.words.now)) VCore (load a.words.now).vseq (record_size a.words.now) _ _ _ _ st.1.0 long _ (omega arith) n,
    )

pub returns-clause-core : goal.returns-clause-core
returns-clause-core c =
    let a = c.args in
    let l = c.loop-record in
    chunk_end (vertex_record (record_size a.words.now)) VCore (load a.words.now).vseq (record_size a.words.now) _ _
    (record_length (record_size a.words.now) (record_size_lem a.words.now)) l.invariant.4
    (omega (arith, c.in-None.ensures.steps.1.0, l.invariant.2))

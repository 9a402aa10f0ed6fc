use native.Mathlib.Omega.{arith}
use lib.ListN.{length}
use Rattle.graph_tables.specs.Tables.{State, state}
use Rattle.image_tables.specs.Words.{CanSave}
use Rattle.image_tables.proofs.Saved.{few_v, few_e, some_v, some_e, some_i, lengths, saved_by}
use Rattle.image_tables.proofs.save.Goals as goal

-- the head and the tables at the call, and what is known of them
held : goal.After-header-arg-1 → State
held s = state s.args.head s.args.vertices.now s.args.edges.now

asked : (s : goal.After-header-arg-1) → CanSave (held s) (length s.args.out.now)
unfolding held
asked s = s.requires

held-at-After-edge_offset : goal.After-edge_offset → State
held-at-After-edge_offset s = state s.args.head s.args.vertices.now s.args.edges.now

asked_at_After_edge_offset : (s : goal.After-edge_offset) → CanSave (held-at-After-edge_offset s) (length s.args.out.now)
unfolding held-at-After-edge_offset
asked_at_After_edge_offset s = s.requires

held-at-After-incidence_offset : goal.After-incidence_offset → State
held-at-After-incidence_offset s = state s.args.head s.args.vertices.now s.args.edges.now

asked_at_After_incidence_offset : (s : goal.After-incidence_offset) → CanSave (held-at-After-incidence_offset s) (length s.args.out.now)
unfolding held-at-After-incidence_offset
asked_at_After_incidence_offset s = s.requires

held-at-After-slice_known-4-1 : goal.After-slice_known-4-1 → State
held-at-After-slice_known-4-1 s = state s.args.head s.args.vertices.now s.args.edges.now

asked_at_After_slice_known_4_1 : (s : goal.After-slice_known-4-1) → CanSave (held-at-After-slice_known-4-1 s) (length s.args.out.now)
unfolding held-at-After-slice_known-4-1
asked_at_After_slice_known_4_1 s = s.requires

pub header-requires : goal.header-requires
unfolding held
header-requires c =
    let s = c in
    let n = length s.args.out.now in
    (few_v (held s) n (asked s), few_e (held s) n (asked s), omega (arith, (lengths (held s) n (asked s)).room))

pub edges-requires : goal.edges-requires
unfolding held-at-After-edge_offset
edges-requires c =
    let s = c in
    let n = length s.args.out.now in
    let l = lengths (held-at-After-edge_offset s) n (asked_at_After_edge_offset s) in (
      some_e (held-at-After-edge_offset s) n (asked_at_After_edge_offset s),
      omega (arith, c.edge_offset.ensures, l.edges, l.room, c.header.auto),
    )

pub vertices-requires : goal.vertices-requires
unfolding held-at-After-incidence_offset
vertices-requires c =
    let s = c in
    let n = length s.args.out.now in
    let l = lengths (held-at-After-incidence_offset s) n (asked_at_After_incidence_offset s) in
    let o = c.incidence_offset.ensures in (
      some_v (held-at-After-incidence_offset s) n (asked_at_After_incidence_offset s),
      some_i (held-at-After-incidence_offset s) n (asked_at_After_incidence_offset s),
      omega (arith, o, l.vertices),
      omega (arith, o, l.lists, l.room, c.header.auto, c.edges.auto),
      omega (arith, l.lists, few_e (held-at-After-incidence_offset s) n (asked_at_After_incidence_offset s)),
    )

pub returns : goal.returns
unfolding held-at-After-slice_known-4-1
returns c =
    let v = c.vertices in
    let i = c.incidence_offset in
    let e = c.edges in
    let o = c.edge_offset in
    let h = c.header in
    let s = c in
    saved_by (held-at-After-slice_known-4-1 s) s.args.out.now (asked_at_After_slice_known_4_1 s) h.new.out e.new.out v.new.out o.result i.result v.result o.ensures i.ensures h.ensures
    e.ensures v.ensures

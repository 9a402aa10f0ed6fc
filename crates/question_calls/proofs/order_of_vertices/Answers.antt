use Rattle.std.proofs.Common.{rules}
use mathlib.Core.Path.{ap, ◌∙◌}
use Rattle.lists.specs.Choice.{to_bit}
use Rattle.graph.proofs.Numbers.{vertex_once}
use Rattle.graph_tables.specs.Tables.{view_state}
use Rattle.commands.specs.Answers.{accepts}
use Rattle.graph_tables.proofs.Answers.{vertex_at, vertex_before}
use Rattle.question_calls.proofs.Rows.{vertex_stands, vertex_exit}
use Rattle.question_calls.proofs.order_of_vertices.Goals as goal

pub returns-in_err-vertex_row : goal.returns-in_err-vertex_row
returns-in_err-vertex_row c =
    λ g n rows h.
    let q = vertex_exit _ _ _ c.vertex_row.ensures g (_, (_, h)) _ c.in_err-vertex_row.was c.from_residual.ensures.1 in
    rw (q.0, q.1)

pub returns-in_err-vertex_row-2 : goal.returns-in_err-vertex_row-2
returns-in_err-vertex_row-2 c =
    λ g n rows h.
    let q = vertex_exit _ _ _ c.vertex_row-2.ensures g (_, (_, h)) _ c.in_err-vertex_row-2.was c.from_residual-in_err-vertex_row-2.ensures.1 in
    rw (q.0, vertex_stands _ _ _ c.vertex_row.ensures g (_, (_, h)) _ c.in_ok-vertex_row.was, q.1)

pub vertex_before-requires : goal.vertex_before-requires
vertex_before-requires c =
    let p = c.requires in
    vertex_at (view_state c.args.head c.args.tables.now) p.0 p.1 _
    (vertex_once p.0 _ p.1.sound (vertex_stands _ _ _ c.vertex_row.ensures p.0 (_, (_, p.1)) _ c.in_ok-vertex_row.was))

pub returns : goal.returns
returns c =
    λ g n rows h.
    rw (
      vertex_stands _ _ _ c.vertex_row.ensures g (_, (_, h)) _ c.in_ok-vertex_row.was,
      vertex_stands _ _ _ c.vertex_row-2.ensures g (_, (_, h)) _ c.in_ok-vertex_row-2.was,
    )
    (ap accepts (search rules
    ∙ ap to_bit (c.vertex_before.ensures ∙ vertex_before (view_state c.args.head c.args.tables.now) g h _ _)))

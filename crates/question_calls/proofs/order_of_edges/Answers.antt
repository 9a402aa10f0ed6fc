use Rattle.std.proofs.Common.{rules}
use mathlib.Core.Path.{ap, ◌∙◌}
use Rattle.lists.specs.Choice.{to_bit}
use Rattle.graph.proofs.Numbers.{edge_once}
use Rattle.graph_tables.specs.Tables.{view_state}
use Rattle.commands.specs.Answers.{accepts}
use Rattle.graph_tables.proofs.Answers.{edge_at, edge_before}
use Rattle.question_calls.proofs.Rows.{edge_stands, edge_exit}
use Rattle.question_calls.proofs.order_of_edges.Goals as goal

pub returns-in_err-edge_row : goal.returns-in_err-edge_row
returns-in_err-edge_row c =
    λ g n rows h.
    let q = edge_exit _ _ _ c.edge_row.ensures g (_, (_, h)) _ c.in_err-edge_row.was c.from_residual.ensures.1 in
    rw (q.0, q.1)

pub returns-in_err-edge_row-2 : goal.returns-in_err-edge_row-2
returns-in_err-edge_row-2 c =
    λ g n rows h.
    let q = edge_exit _ _ _ c.edge_row-2.ensures g (_, (_, h)) _ c.in_err-edge_row-2.was c.from_residual-in_err-edge_row-2.ensures.1 in
    rw (q.0, edge_stands _ _ _ c.edge_row.ensures g (_, (_, h)) _ c.in_ok-edge_row.was, q.1)

pub edge_before-requires : goal.edge_before-requires
edge_before-requires c =
    let p = c.requires in
    edge_at (view_state c.args.head c.args.tables.now) p.0 p.1 _
    (edge_once p.0 _ p.1.sound (edge_stands _ _ _ c.edge_row.ensures p.0 (_, (_, p.1)) _ c.in_ok-edge_row.was))

pub returns : goal.returns
returns c =
    λ g n rows h.
    rw (
      edge_stands _ _ _ c.edge_row.ensures g (_, (_, h)) _ c.in_ok-edge_row.was,
      edge_stands _ _ _ c.edge_row-2.ensures g (_, (_, h)) _ c.in_ok-edge_row-2.was,
    )
    (ap accepts (search rules
    ∙ ap to_bit (c.edge_before.ensures ∙ edge_before (view_state c.args.head c.args.tables.now) g h _ _)))

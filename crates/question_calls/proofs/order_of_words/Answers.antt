use Rattle.std.proofs.Common.{arith, rules}
use mathlib.Core.Path.{sym, ap, ◌∙◌}
use borrow.Author.Tests.{eq-eqb, ne_eqb}
use Rattle.lists.specs.Choice.{to_bit}
use Rattle.graph.proofs.Numbers.{edge_once}
use Rattle.graph_tables.specs.Tables.{view_state}
use Rattle.commands.specs.Answers.{accepts}
use Rattle.graph_tables.proofs.Answers.{word_asks, word_before}
use Rattle.question_calls.proofs.Rows.{edge_stands, edge_exit, half_stands}
use Rattle.question_calls.proofs.order_of_words.Goals as goal

pub returns-in_err-word_row : goal.returns-in_err-word_row
returns-in_err-word_row c =
    λ g n rows o h.
    let q = edge_exit _ _ _ c.word_row.ensures g (_, (o, h)) _ c.in_err-word_row.was c.from_residual.ensures.1 in
    rw (q.0, q.1)

pub returns-in_err-word_row-2 : goal.returns-in_err-word_row-2
returns-in_err-word_row-2 c =
    λ g n rows o h.
    let q = edge_exit _ _ _ c.word_row-2.ensures g (_, (o, h)) _ c.in_err-word_row-2.was c.from_residual-in_err-word_row-2.ensures.1 in
    rw (q.0, edge_stands _ _ _ c.word_row.ensures g (_, (o, h)) _ c.in_ok-word_row.was, q.1)

pub half_field-requires : goal.half_field-requires
half_field-requires c = (half_stands _ _ _ _ c.word_row.ensures c.in_ok-word_row.was, omega arith)

pub half_field-requires-2 : goal.half_field-requires-2
half_field-requires-2 c = (half_stands _ _ _ _ c.word_row-2.ensures c.in_ok-word_row-2.was, omega arith)

pub returns-then-half_field : goal.returns-then-half_field
returns-then-half_field c =
    λ g n rows o h.
    let p = c.half_field.ensures ∙ h.core.this _ (half_stands _ _ _ _ c.word_row.ensures c.in_ok-word_row.was).0 in
    let q = c.half_field-2.ensures ∙ h.core.this _ (half_stands _ _ _ _ c.word_row-2.ensures c.in_ok-word_row-2.was).0 in
    rw (
      edge_stands _ _ _ c.word_row.ensures g (_, (o, h)) _ c.in_ok-word_row.was,
      edge_stands _ _ _ c.word_row-2.ensures g (_, (o, h)) _ c.in_ok-word_row-2.was,
      ne_eqb _ _ (λ e. c.if-half_field.true (p ∙ e ∙ sym q)),
    )

pub word_before-requires : goal.word_before-requires
word_before-requires c =
    let p = c.requires in
    let asks = word_asks (view_state p.0 c.args.tables.now) p.1 p.2 _
    (edge_once p.1 _ p.2.sound (edge_stands _ _ _ c.word_row.ensures p.1 (_, (p.0, p.2)) _ c.in_ok-word_row.was)) in
    record { half = asks.0; row = asks.1; held = asks.2 }

pub returns : goal.returns
returns c =
    λ g n rows o h.
    let p = c.half_field.ensures ∙ h.core.this _ (half_stands _ _ _ _ c.word_row.ensures c.in_ok-word_row.was).0 in
    let q = c.half_field-2.ensures ∙ h.core.this _ (half_stands _ _ _ _ c.word_row-2.ensures c.in_ok-word_row-2.was).0 in
    let t = edge_stands _ _ _ c.word_row.ensures g (_, (o, h)) _ c.in_ok-word_row.was in
    rw (
      t,
      edge_stands _ _ _ c.word_row-2.ensures g (_, (o, h)) _ c.in_ok-word_row-2.was,
      eq-eqb _ _ (sym p ∙ c.if-half_field.false ∙ q),
    )
    (ap accepts (search rules
    ∙ ap to_bit (c.word_before.ensures ∙ word_before (view_state o c.args.tables.now) g h _ _ (edge_once g _ h.sound t))))

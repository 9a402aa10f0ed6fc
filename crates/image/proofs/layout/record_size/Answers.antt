use mathlib.Core.Path.{sym, ◌∙◌}
use native.Mathlib.Omega.{arith}
use Rattle.image.proofs.Sizes.{shows_new, shows_old, shows_none}
use Rattle.image.proofs.layout.record_size.Goals as goal

pub returns-then-offset-edge_offset : goal.returns-then-offset-edge_offset
returns-then-offset-edge_offset c =
    let ws = c.args.words.now in
    let v = c.get-v in
    let o = c.get-offset in
    (shows_new ws v.result o.result v.ensures o.ensures (c.if-offset-edge_offset.true ∙ c.edge_offset.ensures.0), omega arith)

pub returns-then-offset-edge_offset-2 : goal.returns-then-offset-edge_offset-2
returns-then-offset-edge_offset-2 c =
    let d = c in
    let ws = d.args.words.now in
    let v = d.get-v in
    let o = d.get-offset in (
      shows_old ws v.result o.result v.ensures o.ensures (λ e. d.if-offset-edge_offset.false (e ∙ sym d.edge_offset.ensures.0))
          (c.if-offset-edge_offset-2.true ∙ c.edge_offset-2.ensures.0),
      omega arith,
    )

pub returns : goal.returns
returns c =
    let d = c in
    let ws = d.args.words.now in
    let v = d.get-v in
    let o = d.get-offset in (
      shows_none ws v.result o.result v.ensures o.ensures (λ e. d.if-offset-edge_offset.false (e ∙ sym d.edge_offset.ensures.0))
          (λ e. c.if-offset-edge_offset-2.false (e ∙ sym c.edge_offset-2.ensures.0)),
      omega arith,
    )

-- `type_rows::closed` meets its contract.
use Rattle.std.proofs.Common.{ℕ, ◌≡◌, length, ap, ◌∙◌, arith}
use Rattle.type_rows.specs.Types.{below, below_by}
use Rattle.type_rows.specs.Closure.{closure_rows}
use Rattle.type_rows.proofs.closed.Goals as goal

pub returns : goal.returns
unfolding below
returns c =
    let l = c.loop-k in
    let rows = c.args.rows.now in
    let e : l.k ≡ length rows = omega arith in
    l.invariant ∙ ap (λ (k : ℕ). closure_rows (length rows) (below_by rows k)) e

use Prim.Native.Nat.{ℕ, ◌+◌, ◌/◌}
use mathlib.Core.Path.{◌≡◌, ap, ◌∙◌}
use native.Mathlib.Omega.{arith}
use borrow.Author.Tests.{le-ltb}
use lib.ListN.{length}
use Rattle.graph.specs.WellFormed.{Bounds}
use Rattle.history.specs.Machine.{Timeline}
use Rattle.graph_tables.specs.Tables.{State}
use Rattle.timeline.specs.Steps.{rows_to, Journal}
use Rattle.timeline.proofs.Steps.{journal_behind, journal_room, journal_on, journal_above}
use Rattle.timeline.proofs.too_far.Goals as goal

-- the rows behind the place that is gone to
rows : (c : goal.After-struct_known-then-position-free-1) (b : Bounds) (s : State) (l : Timeline) → Journal b c.args.position s
    c.args.journal.now l
    → c.rows_on.result ≡ rows_to 0 (l.place + c.args.steps) l.steps
rows c b s l k =
    let a = c.args in
    let q : a.position.place + a.steps ≡ l.place + a.steps = omega (arith, k.place) in
    c.rows_on.ensures l.start l.steps a.position.place (journal_behind b a.position s a.journal.now l k)
    (omega (arith, c.requires.steps_bound, k.steps))
    ∙ ap (λ (i : ℕ). rows_to 0 i l.steps) q

pub returns-else-position-free : goal.returns-else-position-free
returns-else-position-free c = let a = c.args in λ b s l k. le-ltb (a.position.used + a.free) (length a.journal.now / 12) c.if-position-free.false ∙ journal_room b a.position s a.journal.now l k a.free (l.place + a.steps) c.if-position-free.false

pub overflow_sub-result : goal.overflow_sub-result
overflow_sub-result c =
    let a = c.args in
    let p = c.requires.journal in
    journal_above p.0 a.position p.1 a.journal.now p.2 p.3 a.free (p.2.place + a.steps) (omega arith) _ (rows (c) p.0 p.1 p.2 p.3)

pub returns-then-position-free : goal.returns-then-position-free
returns-then-position-free c = let a = c.args in λ b s l k. journal_on b a.position s a.journal.now l k a.free (l.place + a.steps) _ (rows (c) b s l k)

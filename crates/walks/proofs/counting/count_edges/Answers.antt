use Prim.Native.Nat.{ℕ}
use mathlib.Core.Path.{ap, ◌∙◌}
use mathlib.Core.List.{List}
use native.Mathlib.Omega.{arith}
use Rattle.std.specs.Borrow.{Bor}
use Rattle.graph_tables.specs.Tables.{wnext}
use Rattle.walks.specs.Walks.{distinct_edges_at}
use Rattle.walks.proofs.Counts.{counted_le}
use Rattle.walks.proofs.ListWalks.{along_start, along_end, along_row, along_in, along_fits, along_less, along_on}
use Rattle.walks.proofs.counting.count_edges.Goals as goal

pub loop-cursor-init : goal.loop-cursor-init
loop-cursor-init c = (c.first-cursor.ensures.edges, along_start _ _ _ _ c.requires _ c.first-cursor.ensures.word)

pub is_counted-requires : goal.is_counted-requires
is_counted-requires c = along_row _ _ _ _ _ _ c.loop-cursor.invariant.1 c.loop-cursor-test.true

pub overflow_add-n : goal.overflow_add-n
overflow_add-n c =
    omega (
      arith,
      along_fits _ _ _ _ _ _ c.loop-cursor.invariant.1 c.loop-cursor-test.true c.requires
          (counted_le c.args.tables.now.edges.now) _ (c.from-n.ensures ∙ c.is_counted.ensures),
    )

pub step-requires : goal.step-requires
step-requires c = rw c.loop-cursor.invariant.0 (along_in _ _ _ _ _ _ c.loop-cursor.invariant.1 c.loop-cursor-test.true)

pub loop-cursor-smaller : goal.loop-cursor-smaller
loop-cursor-smaller c =
    along_less _ _ _ _ _ _ c.loop-cursor.invariant.1 c.loop-cursor-test.true _
    (c.step.ensures.word ∙ ap (λ (l : List ℕ). wnext l c.loop-cursor.cursor.word) c.loop-cursor.invariant.0)

pub loop-cursor-preserved : goal.loop-cursor-preserved
loop-cursor-preserved c = (
  ap (λ (b : Bor (List ℕ)). b.now) c.step.ensures.edges ∙ c.loop-cursor.invariant.0,
  along_on _ _ _ _ _ _ c.loop-cursor.invariant.1 c.loop-cursor-test.true _
      (c.step.ensures.word ∙ ap (λ (l : List ℕ). wnext l c.loop-cursor.cursor.word) c.loop-cursor.invariant.0)
      _ (c.from-n.ensures ∙ c.is_counted.ensures),
)

pub returns : goal.returns
unfolding distinct_edges_at
returns c = along_end _ _ _ _ _ _ c.loop-cursor.invariant.1 c.loop-cursor-test.false

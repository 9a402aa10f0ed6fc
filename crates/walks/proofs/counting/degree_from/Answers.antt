use Prim.Native.Nat.{ℕ, ◌%◌}
use mathlib.Core.Path.{ap, ◌∙◌}
use mathlib.Core.List.{List}
use native.Mathlib.Omega.{arith}
use Rattle.std.specs.Borrow.{Bor}
use Rattle.type_rows.specs.Closure.{bit_of}
use Rattle.graph_tables.specs.Tables.{wnext}
use Rattle.walks.specs.Walks.{side_number}
use Rattle.walks.proofs.ListWalks.{along_start, along_end, along_row, along_in, along_fits, along_less, along_on}
use Rattle.walks.proofs.Degrees.{one_le, degree_sum}
use Rattle.walks.proofs.counting.degree_from.Goals as goal

pub loop-cursor-init : goal.loop-cursor-init
loop-cursor-init c = (c.first-cursor.ensures.edges, along_start _ _ _ _ c.requires _ c.first-cursor.ensures.word)

pub in_degree-n-requires : goal.in_degree-n-requires
in_degree-n-requires c = along_row _ _ _ _ _ _ c.loop-cursor.invariant.1 c.loop-cursor-test.true

pub overflow_add-n : goal.overflow_add-n
overflow_add-n c =
    omega (
      arith,
      along_fits _ _ _ _ _ _ c.loop-cursor.invariant.1 c.loop-cursor-test.true c.requires
          (one_le (λ s. bit_of c.args.words.now s (c.args.t % 64)) (side_number c.args.side) c.args.tables.now.edges.now) _ c.in_degree-n.ensures,
    )

pub step-requires : goal.step-requires
step-requires c = rw c.loop-cursor.invariant.0 (along_in _ _ _ _ _ _ c.loop-cursor.invariant.1 c.loop-cursor-test.true)

pub loop-cursor-smaller : goal.loop-cursor-smaller
loop-cursor-smaller c =
    along_less _ _ _ _ _ _ c.loop-cursor.invariant.1 c.loop-cursor-test.true _
    (c.step.ensures.word ∙ ap (λ (l : List ℕ). wnext l c.loop-cursor.cursor.word) c.loop-cursor.invariant.0)

pub loop-cursor-preserved : goal.loop-cursor-preserved
loop-cursor-preserved c = (
  ap (λ (b : Bor (List ℕ)). b.now) c.step.ensures.edges ∙ c.loop-cursor.invariant.0,
  along_on _ _ _ _ _ _ c.loop-cursor.invariant.1 c.loop-cursor-test.true _
      (c.step.ensures.word ∙ ap (λ (l : List ℕ). wnext l c.loop-cursor.cursor.word) c.loop-cursor.invariant.0)
      _ c.in_degree-n.ensures,
)

pub returns : goal.returns
returns c =
    let a = c.args in
    along_end _ _ _ _ _ _ c.loop-cursor.invariant.1 c.loop-cursor-test.false
    ∙ degree_sum (λ s. bit_of a.words.now s (a.t % 64)) (side_number a.side) a.tables.now.vertices.now a.tables.now.edges.now a.v

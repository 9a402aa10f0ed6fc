use Prim.Native.Nat.{ℕ, ◌≤◌}
use lib.Dec.{ltb}
use Rattle.std.specs.Prelude.{Result, Ok, Err}
use Rattle.std.specs.Result.{is_err}
use mathlib.Core.Path.{◌≡◌, sym, ap, ◌∙◌}
use native.Mathlib.Omega.{arith}
use borrow.Author.Tests.{le-leb, lt-leb, lt-ltb, le-ltb}
use Rattle.graph.proofs.Numbers.{vertex_once}
use Rattle.graph_tables.specs.Tables.{view_state}
use Rattle.commands.specs.Answers.{accepts}
use Rattle.walks.specs.Walks.{side_number, NumberOf}
use Rattle.walks.specs.declared.Side.{Side}
use Rattle.walks.specs.declared.Side.TheVariants.{All, Out, In}
use Rattle.walks.specs.declared.NoSide.{NoSide}
use Rattle.walks.proofs.Walkable.{can_walk}
use Rattle.walks.proofs.Degrees.{degree_is}
use Rattle.question_calls.proofs.Rows.{vertex_stands, vertex_exit}
use Rattle.question_calls.proofs.degree_of.Goals as goal

few : (side : Side) → side_number side ≤ 2
few All = omega arith
few Out = omega arith
few In = omega arith

-- a number that no side has is above 2
sided : (c : ℕ) (r : Result Side NoSide) → NumberOf c r → is_err r ≡ ltb 2 c
sided c (Ok side) e = sym (le-ltb 2 c (omega (arith, few side)))
sided c (Err _) h = sym (lt-ltb 2 c h)

pub returns-in_err-vertex_row : goal.returns-in_err-vertex_row
returns-in_err-vertex_row c =
    λ g rows b head z h e i.
    let q = vertex_exit _ _ _ c.vertex_row.ensures g (_, (head, h)) _ c.in_err-vertex_row.was c.from_residual.ensures.1 in
    rw (q.0, q.1)

pub returns-then-types-t : goal.returns-then-types-t
returns-then-types-t c =
    λ g rows b head z h e i. rw (
      vertex_stands _ _ _ c.vertex_row.ensures g (_, (head, h)) _ c.in_ok-vertex_row.was,
      le-leb _ _ c.if-types-t.true,
    )

pub returns-then-is_err : goal.returns-then-is_err
returns-then-is_err c =
    λ g rows b head z h e i. rw (
      vertex_stands _ _ _ c.vertex_row.ensures g (_, (head, h)) _ c.in_ok-vertex_row.was,
      lt-leb _ _ c.if-types-t.false,
      sym (sided c.args.c _ c.try_from.ensures) ∙ sym c.is_err.ensures.value ∙ c.if-is_err.true,
    )

pub degree-requires : goal.degree-requires
degree-requires c =
    let p = c.requires in
    can_walk p.0 (view_state p.1 c.args.tables.now) p.3 p.2 p.4 _
    (vertex_once p.2 _ p.4.sound (vertex_stands _ _ _ c.vertex_row.ensures p.2 (_, (p.1, p.4)) _ c.in_ok-vertex_row.was))

pub returns : goal.returns
returns c =
    λ g rows b head z h e i.
    let t = vertex_stands _ _ _ c.vertex_row.ensures g (_, (head, h)) _ c.in_ok-vertex_row.was in
    rw (t, lt-leb _ _ c.if-types-t.false, sym (sided c.args.c _ c.try_from.ensures) ∙ sym c.is_err.ensures.value ∙ c.if-is_err.false)
    (ap accepts (c.degree.ensures.by_index rows e i ∙ degree_is b (view_state head c.args.tables.now) z g h _ (vertex_once g _ h.sound t) _ _))

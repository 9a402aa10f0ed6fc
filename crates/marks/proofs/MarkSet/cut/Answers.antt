use Rattle.std.proofs.Common.{rules}
use Prim.Native.Nat.{ℕ, ◌+◌, ◌/◌, ◌^◌}
use mathlib.Core.Path.{refl, sym, ap, subst, ◌∙◌}
use native.Mathlib.Omega.{arith}
use native.Mathlib.Nat.{div-one, pow-zero}
use lib.Count.{count_trailing_zeros}
use Rattle.history.specs.Machine.{cut_marks}
use Rattle.marks.specs.Marked.{Marked}
use Rattle.marks.proofs.MarkLaws.{cut_start, cut_skip, left_half, next_mark, cut_stands, cut_turn, cut_end, cut_marked}
use Rattle.marks.proofs.MarkSet.cut.Goals as goal

pub loop-left-init : goal.loop-left-init
loop-left-init c =
    let a = c.args in
    (sym (ap (λ (x : ℕ). a.self.bits / x) (pow-zero 2) ∙ div-one a.self.bits), cut_start a.self.bits a.p 0 a.words.now (search rules) refl)

pub overflow_add-a : goal.overflow_add-a
overflow_add-a c =
    let l = c.loop-left in
    let s = c in
    omega (arith, (next_mark s.args.self.bits l.left l.a (search rules) l.invariant.0 c.loop-left-test.true).inside)

pub overflow_add-a-in-loop-left : goal.overflow_add-a-in-loop-left
overflow_add-a-in-loop-left c =
    let l = c.loop-left in
    let s = c in
    omega (arith, (next_mark s.args.self.bits l.left l.a (search rules) l.invariant.0 c.loop-left-test.true).inside)

pub cut_mark-set-requires : goal.cut_mark-set-requires
cut_mark-set-requires c =
    let l = c.loop-left in
    let s = c in
    let a = s.args in
    let z = count_trailing_zeros 64 l.left in
    let n = next_mark a.self.bits l.left l.a (search rules) l.invariant.0 c.loop-left-test.true in
    let g = l.invariant.1 ∙ cut_skip a.self.bits l.left l.a z a.p a.words.now l.invariant.0 n.below in
    (s.requires, cut_stands a.self.bits (l.left / 2 ^ z) (l.a + z) (l.a + z + 1) a.p l.set.bits l.set.bits a.words.now n.rest refl n.inside g n.one)

pub loop-left-preserved : goal.loop-left-preserved
loop-left-preserved c =
    let l = c.loop-left in
    let s = c in
    let a = s.args in
    let z = count_trailing_zeros 64 l.left in
    let n = next_mark a.self.bits l.left l.a (search rules) l.invariant.0 c.loop-left-test.true in
    let g = l.invariant.1 ∙ cut_skip a.self.bits l.left l.a z a.p a.words.now l.invariant.0 n.below in (
      left_half a.self.bits (l.left / 2 ^ z) (l.a + z) (l.a + z + 1) n.rest refl,
      cut_turn a.self.bits (l.left / 2 ^ z) (l.a + z) (l.a + z + 1) a.p l.set.bits _ a.words.now n.rest refl n.inside g n.one c.cut_mark-set.ensures,
    )

pub returns : goal.returns
returns c =
    let l = c.loop-left in
    let a = c.args in
    let e = cut_end a.self.bits l.left l.a a.p l.set.bits a.words.now l.invariant.0 c.loop-left-test.false l.invariant.1 in
    record { value = e; by_index = λ ms h. subst (λ (n : ℕ). Marked (cut_marks a.p ms) n a.words.now) (sym e) (cut_marked ms a.self.bits a.p a.words.now h) }

use Prim.Native.Nat.{ℕ, ◌+◌, ◌-◌, ◌≤◌, ◌<◌}
use mathlib.Core.Path.{◌≡◌, sym, ap, ◌∙◌}
use mathlib.Core.List.{List}
use native.Mathlib.Omega.{arith}
use lib.ListN.{take, drop, length-drop}
use Rattle.std.specs.Prelude.{Err}
use Rattle.graph.specs.WellFormed.{Bounds}
use Rattle.image_check.specs.Checks.{Verdict, bounds, checked, verdict, code_of, offset_of}
use Rattle.image_check.proofs.Capacity.{checked_same}
use Rattle.image_check.proofs.Verdicts.{code_not_zero}
use Rattle.machine.specs.Run.{number_beside}
use Rattle.machine.specs.StoreRun.{starts_code, starts_offset}
use Rattle.stores.proofs.StartLaws.{first_is, code_on, offset_on, code_here, offset_here, code_end, code_over, offset_end, beside_none, number_is}
use Rattle.stores.proofs.refusals.check_starts.Goals as goal

-- capacities within the limits are checked as they are
found : (vertices edges types : ℕ) (start : List ℕ) {v : Verdict} → vertices ≤ 1000 → edges ≤ 4000 → v ≡ verdict (checked vertices edges types) start
    → v ≡ verdict (bounds vertices edges types) start
found vertices edges types start few less e = e ∙ ap (λ (b : Bounds). verdict b start) (checked_same vertices edges types few less)

pub loop-init : goal.loop-init
loop-init c =
    let a = c.args in
    let b = bounds a.vertices a.edges a.types in
    let z : a.stores ≡ a.stores - 0 = omega arith in
    (omega arith, ap (λ (j : ℕ). starts_code b j a.start.now) z, ap (λ (j : ℕ). starts_offset b 0 j a.start.now) z)

pub of_image_at-requires : goal.of_image_at-requires
of_image_at-requires c = omega (arith, c.loop.invariant.0, c.well_formed)

pub returns-in-Err : goal.returns-in-Err
returns-in-Err c =
    let l = c.loop in
    let a = c.args in
    let b = bounds a.vertices a.edges a.types in
    let n = c.first_length-n.result in
    let image = take (l.at + n - l.at) (drop l.at a.start.now) in
    let f = found a.vertices a.edges a.types image c.requires.0 c.requires.1 (sym c.in-Err.is ∙ c.check.ensures) in
    let first = first_is a.start.now l.at n l.invariant.0 c.first_length-n.ensures.0 in
    let bad : code_of (verdict b image) ≡ 0 → ⊥ = λ e. code_not_zero _ (ap code_of f ∙ e) in
    let e = l.invariant.1 ∙ code_here a.start.now l.at n first b bad a.stores l.counter (omega arith) in
    let o = l.invariant.2 ∙ offset_here a.start.now l.at n first b bad a.stores l.counter (omega arith) in record {
      code_value = c.of_image_at.ensures.code ∙ ap code_of f ∙ sym e;
      number_value = c.of_image_at.ensures.number ∙ number_is l.at (Err _) ∙ (λ i. number_beside (code_of (f i)) (l.at + offset_of (f i)))
          ∙ (λ i. number_beside (sym e i) (sym o i));
    }

pub loop-preserved : goal.loop-preserved
loop-preserved c =
    let l = c.loop in
    let a = c.args in
    let b = bounds a.vertices a.edges a.types in
    let n = c.first_length-n.result in
    let image = take (l.at + n - l.at) (drop l.at a.start.now) in
    let f = found a.vertices a.edges a.types image c.requires.0 c.requires.1 c.check.ensures in
    let first = first_is a.start.now l.at n l.invariant.0 c.first_length-n.ensures.0 in
    let good = ap code_of (sym f ∙ c.in_default.is) in
    let k : l.counter < a.stores = omega arith in (
      omega (arith, c.first_length-n.ensures.1, length-drop l.at a.start.now),
      l.invariant.1 ∙ code_on a.start.now l.at n first b good a.stores l.counter k,
      l.invariant.2 ∙ offset_on a.start.now l.at n first b good a.stores l.counter k,
    )

pub returns-then-at-start : goal.returns-then-at-start
returns-then-at-start c =
    let l = c.loop in
    let a = c.args in
    let b = bounds a.vertices a.edges a.types in
    let z : a.stores - l.counter ≡ 0 = omega arith in
    let e = l.invariant.1 ∙ code_over b (a.stores - l.counter) l.at a.start.now z c.if-at-start.true in
    let o = l.invariant.2 ∙ offset_end b (a.stores - l.counter) l.at (drop l.at a.start.now) z in record { code_value = sym e; number_value = beside_none (starts_code b a.stores a.start.now) ∙ ap (λ (k : ℕ). number_beside (starts_code b a.stores a.start.now) k) (sym o) }

pub returns : goal.returns
returns c =
    let l = c.loop in
    let a = c.args in
    let b = bounds a.vertices a.edges a.types in
    let z : a.stores - l.counter ≡ 0 = omega arith in
    let e = l.invariant.1 ∙ code_end b (a.stores - l.counter) l.at a.start.now z c.if-at-start.false in
    let o = l.invariant.2 ∙ offset_end b (a.stores - l.counter) l.at (drop l.at a.start.now) z in record { code_value = sym e; number_value = beside_none (starts_code b a.stores a.start.now) ∙ ap (λ (k : ℕ). number_beside (starts_code b a.stores a.start.now) k) (sym o) }

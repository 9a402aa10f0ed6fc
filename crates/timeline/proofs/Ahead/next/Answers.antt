use Prim.Native.Nat.{ℕ, ◌+◌, ◌*◌, ◌≤◌}
use mathlib.Core.Path.{refl, sym, ap, subst, ◌∙◌}
use native.Mathlib.Omega.{arith}
use lib.ListN.{length}
use Rattle.journal.specs.Rows.{step_at}
use Rattle.timeline.specs.JournalRows.{Reach}
use Rattle.timeline.proofs.Going.{reach_one, next_of, aims_next}
use Rattle.timeline.proofs.Ahead.next.Goals as goal

pub row_crossed-requires : goal.row_crossed-requires
row_crossed-requires c =
    let s = c in
    let a = s.args in
    let p = s.requires in
    let r = next_of a.journal.now p.0 p.1 p.2 a.u a.self a.back p.4 c.if-u-self.false (p.3 c.if-u-self.false) in
    reach_one a.back r.cost a.u 4294967295 (λ z. omega (arith, z, r.some)) r.reach

pub cost_at-cost-requires : goal.cost_at-cost-requires
cost_at-cost-requires c =
    let s = c in
    let a = s.args in
    let p = s.requires in
    let e = c.if-u-self.false in
    let r = next_of a.journal.now p.0 p.1 p.2 a.u a.self a.back p.4 e (p.3 e) in
    subst (λ (i : ℕ). 12 * i + 12 ≤ length a.journal.now) (sym c.row_crossed.ensures) r.room

pub shifted_by-requires : goal.shifted_by-requires
shifted_by-requires c =
    let s = c in
    let a = s.args in
    let p = s.requires in
    let e = c.if-u-self.false in
    let r = next_of a.journal.now p.0 p.1 p.2 a.u a.self a.back p.4 e (p.3 e) in
    subst (λ (i : ℕ). Reach a.back i a.u 4294967295)
    (sym (c.cost_at-cost.ensures ∙ ap (λ (i : ℕ). (step_at a.journal.now i).cost) c.row_crossed.ensures ∙ r.word)) r.reach

pub returns : goal.returns
returns c =
    let s = c in
    let a = s.args in
    let e = c.if-u-self.false in
    let n = s.requires.3 e in
    let w = c.cost_at-cost.ensures ∙ ap (λ (i : ℕ). (step_at a.journal.now i).cost) c.row_crossed.ensures in
    record { by_index = λ g ss q k. aims_next a.journal.now g ss q a.u a.self a.back k e n _ _ _ w c.shifted_by.ensures refl; advances = (λ z. omega (arith, n), λ z. absurd (z e)) }

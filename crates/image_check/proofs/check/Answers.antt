use Prim.Native.Nat.{ℕ, ◌≤◌}
use mathlib.Core.Path.{sym, ap₂, ◌∙◌}
use native.Mathlib.Omega.{arith}
use borrow.Author.Tests.{not-true, not-false}
use Rattle.image_check.specs.Checks.{bounds, checked, verdict}
use Rattle.image.specs.Image.{record_size}
use Rattle.image_check.proofs.Capacity.{counts_le}
use Rattle.image.proofs.Sizes.{size_range, record_size_lem}
use Rattle.image_check.proofs.ScratchPass.{bad_head, bad_counts, incidences_few, vertices_all, edges_all, none_sound, verdict_by}
use native.Mathlib.Nat.{mul-le-mul_right}
use Rattle.image_check.proofs.check.Goals as goal

pub returns-then-not-sound : goal.returns-then-not-sound
returns-then-not-sound c =
    let a = c.args in
    let s = c.sound in
    bad_head (checked a.vertices a.edges a.types) a.words.now (sym s.ensures ∙ not-true s.result c.if-not-sound.true-raw)

pub returns-then-not-counts : goal.returns-then-not-counts
returns-then-not-counts c =
    let a = c.args in
    let s = c.sound in
    let x = c.get-v in
    let y = c.get-e in
    let vc = c.min in
    let ec = c.min-2 in
    let n = c.counts in
    let k = sym n.ensures ∙ not-true n.result c.if-not-counts.true-raw in
    bad_counts a.words.now (sym s.ensures ∙ not-false s.result c.if-not-sound.false-raw) (checked a.vertices a.edges a.types)
    (rw (x.ensures, y.ensures, vc.ensures, ec.ensures) at k)

pub returns-then-v-eq0 : goal.returns-then-v-eq0
returns-then-v-eq0 c =
    let a = c.args in
    let s = c.sound in
    let x = c.get-v in
    let y = c.get-e in
    let vc = c.min in
    let ec = c.min-2 in
    let n = c.counts in
    let h = sym s.ensures ∙ not-false s.result c.if-not-sound.false-raw in
    let k = sym n.ensures ∙ not-false n.result c.if-not-counts.false-raw in
    none_sound a.words.now h (λ i. omega (arith, c.type_inv.words i)) vc.result ec.result
    a.types x.result y.result (omega (arith, vc.ensures)) (omega (arith, ec.ensures))
    x.ensures y.ensures k c.if-v-eq0.true
    ∙ ap₂ (λ (m e : ℕ). verdict (bounds m e a.types) a.words.now) vc.ensures ec.ensures

pub invariant_of-parts : goal.invariant_of-parts
invariant_of-parts c =
    let a = c.args in
    let s = c.sound in
    let x = c.get-v in
    let y = c.get-e in
    let vc = c.min in
    let ec = c.min-2 in
    let n = c.counts in
    let h = sym s.ensures ∙ not-false s.result c.if-not-sound.false-raw in
    let k = sym n.ensures ∙ not-false n.result c.if-not-counts.false-raw in
    let l = counts_le vc.result ec.result x.result y.result k in
    let le : y.result ≤ 4000 = omega (arith, l.1, ec.ensures) in
    let z = c.record_size in
    let hv = vertices_all a.words.now h z.result x.result z.ensures.0 x.ensures c.within.result.now c.within.ensures.0 in
    let he = edges_all a.words.now h y.result y.ensures c.within-2.result.now c.within-2.ensures.0 in
    record {
      sizes = record {
        least = omega (arith, z.ensures.0, (size_range (record_size a.words.now) (record_size_lem a.words.now)).0);
        most = z.ensures.1;
        vertices = omega (arith, hv, l.0, vc.ensures, mul-le-mul_right x.result z.ensures.1);
        edges = omega (arith, he, le);
        incidences = incidences_few a.words.now h y.result y.ensures le c.within-3.result.now c.within-3.ensures.0;
      };
    }

pub returns : goal.returns
returns c =
    let a = c.args in
    let s = c.sound in
    let x = c.get-v in
    let y = c.get-e in
    let vc = c.min in
    let ec = c.min-2 in
    let n = c.counts in
    let h = sym s.ensures ∙ not-false s.result c.if-not-sound.false-raw in
    let k = sym n.ensures ∙ not-false n.result c.if-not-counts.false-raw in
    let z = c.record_size in
    let u = c.within in
    let v = c.within-2 in
    let w = c.within-3 in
    verdict_by a.words.now h
    (λ i. omega (arith, c.type_inv.words i)) vc.result
    ec.result a.types z.result x.result y.result
    z.ensures.0 x.ensures y.ensures k u.result.now v.result.now w.result.now u.ensures.0 v.ensures.0 w.ensures.0 c.check.result
    (c.check.ensures x.result y.result (vertices_all a.words.now h z.result x.result z.ensures.0 x.ensures u.result.now u.ensures.0)
    (edges_all a.words.now h y.result y.ensures v.result.now v.ensures.0))
    ∙ ap₂ (λ (m e : ℕ). verdict (bounds m e a.types) a.words.now) vc.ensures ec.ensures

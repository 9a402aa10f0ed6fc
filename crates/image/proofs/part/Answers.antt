use Prim.Native.Nat.{ℕ, ◌+◌, ◌*◌, ◌≤◌}
use mathlib.Core.Path.{refl, ap}
use native.Mathlib.Omega.{arith}
use lib.ListN.{length}
use Rattle.image.proofs.Parts.{part_within, part_cut}
use Rattle.image.proofs.part.Goals as goal

-- the ends are in order and within the words
ends : (c : goal.After-part_bound-end) →
    (c.part_bound-start.result ≤ c.part_bound-end.result) × (c.part_bound-end.result ≤ length c.args.words.now)
ends c =
    let a = c.args in
    rw (c.part_bound-start.ensures.0, c.part_bound-end.ensures.0) (part_within a.which a.words.now)

pub slice_bounds-result-count : goal.slice_bounds-result-count
slice_bounds-result-count c = (ends c).0

pub slice_bounds-result-start : goal.slice_bounds-result-start
slice_bounds-result-start c = omega (arith, (ends c).0)

pub slice_bounds-result-end : goal.slice_bounds-result-end
slice_bounds-result-end c = omega (arith, (ends c).1)

pub returns : goal.returns
returns c =
    let a = c.args in
    let s = c.part_bound-start.ensures.0 in
    let e = c.part_bound-end.ensures.0 in
    (rw (s, e) (part_cut a.which a.words.now), record { block = refl; offset = ap (λ (o : ℕ). o * 4 + a.words.ref_ptr.1) s })

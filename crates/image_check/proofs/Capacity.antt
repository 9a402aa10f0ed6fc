-- What sound counts say, and which capacities are checked as they are.
use Rattle.std.specs.Prelude.{◌==◌}
use Prim.Native.Nat.{ℕ, ◌≤◌, min}
use mathlib.Core.Path.{◌≡◌}
use mathlib.Core.Bool.{true, ◌&&◌}
use native.Mathlib.Omega.{arith}
use lib.Dec.{leb}
use borrow.Author.Tests.{eq-eqb, eqb-true, leb-true}
use Rattle.lists.specs.Choice.{◌⇒◌else◌}
use Rattle.lists.proofs.Bools.{and_true}
use Rattle.image_check.specs.Checks.{bounds, checked, sound_counts}

pub counts_le : (vcap ecap v e : ℕ) → sound_counts vcap ecap v e ≡ true → (v ≤ vcap) × (e ≤ ecap)
unfolding sound_counts
counts_le vcap ecap v e h =
    let a = and_true (leb v vcap) (leb e ecap && ((v == 0) ⇒ (e == 0) else true)) h in
    let b = and_true (leb e ecap) ((v == 0) ⇒ (e == 0) else true) a.1 in
    (leb-true v vcap a.0, leb-true e ecap b.0)

pub counts_none : (vcap ecap v e : ℕ) → sound_counts vcap ecap v e ≡ true → v ≡ 0 → e ≡ 0
unfolding sound_counts
counts_none vcap ecap v e h z =
    let a = and_true (leb v vcap) (leb e ecap && ((v == 0) ⇒ (e == 0) else true)) h in
    let b = and_true (leb e ecap) ((v == 0) ⇒ (e == 0) else true) a.1 in
    eqb-true e 0 (rw (eq-eqb v 0 z) at b.1)

-- capacities within the limits are checked as they are
pub checked_same : (v e t : ℕ) → v ≤ 1000 → e ≤ 4000 → checked v e t ≡ bounds v e t
checked_same v e t h k =
    let p : min 1000 v ≡ v = omega arith in
    let q : min 4000 e ≡ e = omega arith in
    rw (p, q)

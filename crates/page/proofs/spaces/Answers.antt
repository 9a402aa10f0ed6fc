use Prim.Native.Nat.{ℕ}
use mathlib.Core.Path.{◌≡◌}
use native.Mathlib.Omega.{arith}
use lib.ListN.{replicate, length-replicate}
use Rattle.std.proofs.Common.{rules}
use Rattle.decimal.proofs.Stores.{stored_part}
use Rattle.page.proofs.spaces.Goals as goal

pub returns : goal.returns
returns c =
    let a = c.args in
    let e : c.fill.new.self ≡ replicate {A = ℕ} a.count 32 = search rules in
    let n = length-replicate {A = ℕ} a.count 32 in
    rw e (stored_part a.out.now (replicate a.count 32) a.at a.count _ c.requires (omega (arith, n)) (omega (arith, n)))

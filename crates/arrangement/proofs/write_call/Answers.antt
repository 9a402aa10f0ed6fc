use Prim.Native.Nat.{◌+◌, ◌-◌}
use mathlib.Core.List.{[], ◌∷◌}
use native.Mathlib.Omega.{arith}
use Rattle.arrangement.specs.Orders.{kind_number}
use Rattle.arrangement.proofs.Turns.{copied}
use Rattle.arrangement.proofs.write_call.Goals as goal

pub returns : goal.returns
returns c =
    let a = c.args in
    rw (c.copy_from_slice.ensures.after, c.number.ensures)
    (copied a.list.now (kind_number a.kind ∷ a.a ∷ a.b ∷ 0 ∷ 0 ∷ []) a.at (a.at + 5 - a.at) c.requires (omega arith))

use mathlib.Core.Path.{refl, sym}
use Rattle.engine.proofs.CallLaws.{capacity_is, at_capacity, answered_one}
use Rattle.engine.proofs.calls.one.Goals as goal

pub returns : goal.returns
returns c =
    let s = c in
    let r = c.each-store in
    λ w m h. at_capacity _ _ (sym (capacity_is w m _ _ _ _ h _ refl)) (answered_one w _ m _ _ _ s.args.call.now r.result _ s.requires.call_len (r.ensures w m h))

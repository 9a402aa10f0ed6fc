use mathlib.Core.Path.{refl}
use lib.ListN.{get_or}
use Rattle.engine.proofs.CallLaws.{capacity_is, at_capacity}
use Rattle.reduction.proofs.TrialLaws.{tried_begins, tried_one, tried_skips, is_skipped, not_skipped, five_words, five_part}
use Rattle.reduction.proofs.last_code.Goals as goal

pub loop-i-init : goal.loop-i-init
loop-i-init c = λ w m h. tried_begins _ _ w m _ _ _ _ h

pub loop-i-preserved-then-eq : goal.loop-i-preserved-then-eq
loop-i-preserved-then-eq c =
    λ w m h. tried_skips w m _ _ _ _ _ _ _ _ _ (c.loop-i.invariant w m h) c.loop-i-test.true (is_skipped _ _ c.if-eq.ensures)

pub one-done-requires : goal.one-done-requires
one-done-requires c =
    let p = c.requires.runs in
    record {
      runs = (p.0, _, (c.loop-i.invariant p.0 p.1 p.2).after);
      call_len = five_words _ _ _ refl (c.requires.numbered.numbers c.loop-i.i c.loop-i-test.true);
    }

pub loop-i-preserved : goal.loop-i-preserved
loop-i-preserved c =
    let a = c.args in
    let i = c.loop-i.i in
    let s = c.one-done in
    λ w m h.
    tried_one w m a.calls.now a.kept.now a.skip i _ _ _ _ _ (c.loop-i.invariant w m h) c.loop-i-test.true (not_skipped _ _ c.if-eq.ensures)
    (c.requires.numbered.numbers i c.loop-i-test.true) _ (five_part a.calls.now (get_or a.kept.now i 0) _ refl) s.result _
    (λ v n g. at_capacity _ _ (capacity_is v n _ _ _ _ g _ refl) (s.ensures v n g))

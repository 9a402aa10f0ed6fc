use Rattle.std.proofs.Common.{refl, sym, ◌∙◌}
use Rattle.history_calls.specs.declared.Store.{Store}
use Rattle.history_calls.specs.Memory.{memory_of}
use Rattle.history_calls.specs.Outcomes.{done}
use Rattle.history_calls.proofs.Following.{follows_by, refusal_not_0}
use Rattle.history_calls.proofs.Ways.{way_refused, way_reach, way_done}
use Rattle.history_calls.proofs.Store.go.Goals as goal

pub moved-current-requires-clause-reach : goal.moved-current-requires-clause-reach
moved-current-requires-clause-reach c =
    let a = c.args in
    let p = c.requires.1 in
    let w = c.in-Ok.ensures in
    rw (w.1, w.2)
    (way_reach p.0 a.self (memory_of a.tables.now a.journal.now a.marks.now) p.1 p.2 0 a.call c.requires.0 _ refl w.0)

pub returns-in-Ok-clause-by_index : goal.returns-in-Ok-clause-by_index
returns-in-Ok-clause-by_index c =
    let a = c.args in
    let w = c.in-Ok.ensures in
    let x : Store = record { current = c.moved-current.result; set = a.self.set; bench = a.self.bench } in
    λ free b m n h f. follows_by _ m b _ (c.answer.ensures ∙ (λ i. done x 0 (w.2 i)))
    (way_done b a.self (memory_of a.tables.now a.journal.now a.marks.now) m h n a.call c.requires.0 _ refl w.0 x _ _ refl refl
    (rw (← w.1, ← w.2) (c.moved-current.ensures.gone b m.line h.journal)))

pub returns-in-Err-clause-by_index : goal.returns-in-Err-clause-by_index
returns-in-Err-clause-by_index c =
    let a = c.args in
    let r = c.in-Err.refusal in
    let e = c.in-Err.ensures in
    λ free b m n h f. follows_by _ m b _ (c.answer-in-Err.ensures ∙ (λ i. done a.self (sym e i) 0))
    (way_refused b a.self (memory_of a.tables.now a.journal.now a.marks.now) m h n a.call c.requires.0 _ refl
    (λ z. refusal_not_0 r (sym e ∙ z)))

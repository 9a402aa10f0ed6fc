use Rattle.machine.specs.Calls.{bounds_in}
use Rattle.history_calls.specs.Memory.{memory}
use Rattle.history_calls.proofs.Following.{follows_by}
use Rattle.recorder.proofs.MoveLaws.{move_asks, move_refused, move_in, move_loads, move_done}
use Rattle.recorder.proofs.go_by_copy.Goals as goal

pub leads_to-requires : goal.leads_to-requires
leads_to-requires c =
    let p = c.requires.by_index in
    let k = move_asks (bounds_in p.0) _ _ p.1 p.5 in
    (c.requires.leads.0, k.0, k.1)

pub returns-in-Err : goal.returns-in-Err
returns-in-Err c =
    let a = c.args in
    λ w m lent gs n h f e capacity.
    follows_by _ m (bounds_in w) _ c.answer.ensures
    (move_refused (bounds_in w) a.store (memory a.vertices.now a.edges.now a.journal.now a.marks.now) m h capacity a.call c.requires.leads.0 _ c.in-Err.ensures)

pub bounds-places-place : goal.bounds-places-place
bounds-places-place c =
    let p = c.requires.by_index in
    move_in p.0 _ _ _ _ _ p.1 _ p.2 _ _ _ p.3 p.4 _ p.5 p.6 p.7 c.requires.leads.1 _ c.requires.leads.0 _ c.in-Ok.ensures

pub bounds-places-place-2 : goal.bounds-places-place-2
bounds-places-place-2 c =
    let p = c.requires.by_index in
    move_in p.0 _ _ _ _ _ p.1 _ p.2 _ _ _ p.3 p.4 _ p.5 p.6 p.7 c.requires.leads.1 _ c.requires.leads.0 _ c.in-Ok.ensures

pub reload-head-requires : goal.reload-head-requires
reload-head-requires c =
    let p = c.requires.by_index in
    move_loads p.0 _ _ _ _ _ p.1 _ p.2 _ _ _ p.3 p.4 _ p.5 p.6 p.7 c.requires.leads.1 _ c.requires.leads.0 _ c.in-Ok.ensures

pub returns : goal.returns
returns c =
    let a = c.args in
    let r = c.reload-head in
    λ w m lent gs n h f e capacity.
    follows_by _ m (bounds_in w) _ c.answer-2.ensures
    (move_done w a.store a.vertices.now a.edges.now a.journal.now a.marks.now m a.start.now lent a.copies.now a.places.now.numbers a.places.now.used gs n a.size h f e
    c.requires.leads.1 a.call c.requires.leads.0 _ c.in-Ok.ensures
    r.result _ _ r.auto.vertices r.auto.edges r.ensures c.move_to.new.self c.move_to.ensures c.between.result c.between.ensures capacity)

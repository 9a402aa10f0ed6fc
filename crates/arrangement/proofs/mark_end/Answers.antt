use Rattle.arrangement.proofs.Turns.{end_seen, end_unseen}
use Rattle.arrangement.proofs.mark_end.Goals as goal

pub returns-then-vertex-end : goal.returns-then-vertex-end
returns-then-vertex-end c =
    let a = c.args in
    end_seen a.vertex a.end a.word a.items.now c.put.new.list c.if-vertex-end.true c.put.ensures

pub returns : goal.returns
returns c = let a = c.args in end_unseen a.vertex a.end a.word a.items.now c.if-vertex-end.false

use Rattle.std.proofs.Common.{◌∙◌}
use Rattle.history_calls.specs.Memory.{memory_of}
use Rattle.history_calls.proofs.Following.{follows_by}
use Rattle.history_calls.proofs.Calls.{set_follows, drop_follows, commit_follows, between_follows, count_follows, name_follows, bench_follows}
use Rattle.history_calls.proofs.Ways.{leads_by}
use Rattle.history_calls.proofs.Store.perform.Goals as goal

pub returns-in-SetMark-clause-performs : goal.returns-in-SetMark-clause-performs
returns-in-SetMark-clause-performs c =
    let a = c.args in
    let e = c.set_mark.ensures in
    λ b m n h f. rw (c.in-SetMark.is, e.marks_after)
    (follows_by _ m b _ (c.settle.ensures ∙ e.value) (set_follows b a.self (memory_of a.tables.now a.journal.now a.marks.now) m h _ n))

pub returns-in-DropMark-clause-performs : goal.returns-in-DropMark-clause-performs
returns-in-DropMark-clause-performs c =
    let a = c.args in
    λ b m n h f. rw c.in-DropMark.is
    (follows_by _ m b _ (c.settle-in-DropMark.ensures ∙ c.drop_mark.ensures) (drop_follows b a.self (memory_of a.tables.now a.journal.now a.marks.now) m h _ n))

pub returns-in-Commit-clause-performs : goal.returns-in-Commit-clause-performs
returns-in-Commit-clause-performs c =
    let a = c.args in
    λ b m n h f. rw c.in-Commit.is
    (follows_by _ m b _ c.commit.ensures (commit_follows b a.self (memory_of a.tables.now a.journal.now a.marks.now) m h n))

pub returns-in-Between-clause-performs : goal.returns-in-Between-clause-performs
returns-in-Between-clause-performs c =
    let a = c.args in
    let k = c.in-Between in
    λ b m n h f. rw k.is
    (follows_by _ m b _ (c.answer.ensures ∙ c.between.ensures) (between_follows b a.self (memory_of a.tables.now a.journal.now a.marks.now) m h n k.a k.b))

pub returns-in-Standing-clause-performs : goal.returns-in-Standing-clause-performs
returns-in-Standing-clause-performs c =
    let a = c.args in
    λ b m n h f. rw c.in-Standing.is
    (follows_by _ m b _ c.standing.ensures (count_follows b a.self (memory_of a.tables.now a.journal.now a.marks.now) m h n))

pub returns-in-NameMark-clause-performs : goal.returns-in-NameMark-clause-performs
returns-in-NameMark-clause-performs c =
    let a = c.args in
    let k = c.in-NameMark in
    let e = c.name_mark.ensures in
    λ b m n h f. rw (k.is, e.marks_after)
    (follows_by _ m b _ (c.settle-in-NameMark.ensures ∙ e.value) (name_follows b a.self (memory_of a.tables.now a.journal.now a.marks.now) m h n k.a k.first k.second))

pub returns-in-SetBench-clause-performs : goal.returns-in-SetBench-clause-performs
returns-in-SetBench-clause-performs c =
    let a = c.args in
    λ b m n h f. rw c.in-SetBench.is
    (follows_by _ m b _ (c.settle-in-SetBench.ensures ∙ c.set_bench.ensures) (bench_follows b a.self (memory_of a.tables.now a.journal.now a.marks.now) m h n _))

pub returns-in-MadeBy-clause-performs : goal.returns-in-MadeBy-clause-performs
returns-in-MadeBy-clause-performs c =
    let a = c.args in
    λ b m n h f. rw c.in-MadeBy.is
    (follows_by _ m b _ c.answer-in-MadeBy.ensures (c.made_by.ensures a.tables.now.vertices.now a.tables.now.edges.now a.free b m n h f))

pub go-requires : goal.go-requires
go-requires c =
    let d = c.in_default in (
      leads_by c.args.call d.not-SetMark d.not-DropMark d.not-Commit d.not-Between d.not-Standing d.not-Free d.not-NameMark d.not-SetBench d.not-MadeBy,
      c.requires,
    )

pub returns-in_default-clause-performs : goal.returns-in_default-clause-performs
returns-in_default-clause-performs c = c.go.ensures.by_index c.args.free

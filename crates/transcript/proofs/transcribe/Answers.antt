use native.Mathlib.Omega.{arith}
use Rattle.decimal.proofs.Stores.{written_as}
use Rattle.transcript.proofs.Replies.{CallsRead, calls_read, unreadable_read}
use Rattle.transcript.proofs.transcribe.Goals.{In-Ok}
use Rattle.transcript.proofs.transcribe.Goals as goal

got : (c : In-Ok) → CallsRead c.args.bytes.now c.read.new.calls c.in-Ok.count
got c = calls_read _ _ c.read.ensures.verdict c.in-Ok.count _ _ c.in-Ok.is c.read.ensures.calls_after

pub respond-requires : goal.respond-requires
respond-requires c = let k = got (goal.at.respond-requires c).In-Ok in (k.whole, k.few, omega arith)

pub returns-in-Ok : goal.returns-in-Ok
returns-in-Ok c = written_as _ _ c.respond.result _ _ (got (goal.at.returns-in-Ok c).In-Ok).text c.respond.ensures

pub returns-in-Err : goal.returns-in-Err
returns-in-Err c =
    written_as _ _ c.write_unreadable.result _ _ (unreadable_read _ _ c.read.ensures.verdict c.in-Err.field-0 c.in-Err.is) c.write_unreadable.ensures

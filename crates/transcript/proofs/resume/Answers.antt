use mathlib.Core.Path.{sym}
use lib.Seq.{length-take-le}
use Rattle.decimal.proofs.Stores.{written_as}
use Rattle.transcript.proofs.Inputs.{InputRead, input_read, bad_read}
use Rattle.transcript.proofs.resume.Goals.{In-Ok}
use Rattle.transcript.proofs.resume.Goals as goal

got : (c : In-Ok) → InputRead c.args.bytes.now c.read_input.new.words c.read_input.new.calls c.in-Ok.lengths.image c.in-Ok.lengths.calls
got c =
    let r = c.read_input.ensures in
    input_read _ _ r.verdict c.in-Ok.lengths _ _ _ _ c.in-Ok.is r.words_after r.calls_after

pub slice_bounds-words-end : goal.slice_bounds-words-end
slice_bounds-words-end c = (got (goal.at.slice_bounds-words-end c).In-Ok).words_fit

pub slice_bounds-respond-end : goal.slice_bounds-respond-end
slice_bounds-respond-end c = sym (length-take-le _ _ (got (goal.at.slice_bounds-respond-end c).In-Ok).words_fit)

pub slice_bounds-calls-end : goal.slice_bounds-calls-end
slice_bounds-calls-end c = (got (goal.at.slice_bounds-calls-end c).In-Ok).calls_fit

pub slice_bounds-respond-end-in-Ok : goal.slice_bounds-respond-end-in-Ok
slice_bounds-respond-end-in-Ok c = sym (length-take-le _ _ (got (goal.at.slice_bounds-respond-end-in-Ok c).In-Ok).calls_fit)

pub respond-requires : goal.respond-requires
respond-requires c = let k = got (goal.at.respond-requires c).In-Ok in (k.calls_whole, k.calls_few, k.words_few)

pub returns-in-Ok : goal.returns-in-Ok
returns-in-Ok c = written_as _ _ c.respond.result _ _ (got (goal.at.returns-in-Ok c).In-Ok).text c.respond.ensures

pub returns-in-Err : goal.returns-in-Err
returns-in-Err c =
    written_as _ _ c.write_unreadable.result _ _ (bad_read _ _ c.read_input.ensures.verdict c.in-Err.field-0 c.in-Err.is) c.write_unreadable.ensures

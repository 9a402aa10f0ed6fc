use Prim.Native.Nat.{ℕ}
use Rattle.graph.specs.declared.SingleChange.TheVariants.{SetReading}
use Rattle.std.proofs.lemmas.Result.{err_from_is_err_and}
use Rattle.tried_edits.specs.Tried.{attempt_of}
use Rattle.single_changes.proofs.OneLaws.{seen, Accepted, one_refused, accept, one_tried, tries_by, set_edge_by, words_by}
use mathlib.Core.Path.{refl, ap}
use Rattle.tried_edits.specs.declared.EdgeWords.{EdgeWords}
use Rattle.single_changes.proofs.kinds.set_reading.Goals.{In_ok-set_reading}
use Rattle.single_changes.proofs.kinds.set_reading.Goals as goal

accepted : (types : ℕ) (c : In_ok-set_reading) → let a = c.args in Accepted (SetReading a.n a.kind a.decimetres) types (attempt_of a.head a.tables.now a.room.now)
accepted types c = accept tt (seen (SetReading c.args.n c.args.kind c.args.decimetres) types c.args.head c.view.ensures.vertices c.view.ensures.edges (λ g y. c.set_reading.ensures.of_graph g (_, y))) c.in_ok-set_reading.was c.requires

pub returns-in_err-set_reading-clause-made : goal.returns-in_err-set_reading-clause-made
returns-in_err-set_reading-clause-made c =
    let p = err_from_is_err_and c.from_residual.result c.from_residual.ensures.1 in
    λ types. rw (p.1, p.2) (one_refused tt (seen (SetReading c.args.n c.args.kind c.args.decimetres) types c.args.head c.view.ensures.vertices c.view.ensures.edges (λ g y. c.set_reading.ensures.of_graph g (_, y))) c.in_err-set_reading.was)

pub edge_words-old-requires : goal.edge_words-old-requires
edge_words-old-requires c = (accepted 0 (goal.at.edge_words-old-requires c).In_ok-set_reading).rows

pub set_edge-requires-clause-row : goal.set_edge-requires-clause-row
set_edge-requires-clause-row c = (accepted 0 (goal.at.set_edge-requires-clause-row c).In_ok-set_reading).rows

pub set_edge-requires-clause-old : goal.set_edge-requires-clause-old
set_edge-requires-clause-old c =
    let e = c.edge_words-old.ensures in
    words_by (ap (λ (w : EdgeWords). w.kind) e) (ap (λ (w : EdgeWords). w.decimetres) e) (accepted 0 (goal.at.set_edge-requires-clause-old c).In_ok-set_reading).words.0

pub returns-clause-made : goal.returns-clause-made
returns-clause-made c =
    let e = c.edge_words-old.ensures in
    let s = ap (λ (w : EdgeWords). w.sort) e in
    λ types. one_tried (accepted types (goal.at.returns-clause-made c).In_ok-set_reading)
    (tries_by (set_edge_by c.args.n {l = c.args.kind} {f = c.args.decimetres} s (ap (λ (w : EdgeWords). w.kind) e) (ap (λ (w : EdgeWords). w.decimetres) e) s refl refl) c.set_edge.ensures.tries)

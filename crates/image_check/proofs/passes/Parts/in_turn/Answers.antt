use Prim.Native.Nat.{ℕ}
use mathlib.Core.Path.{◌≡◌, ap, ◌∙◌}
use native.Mathlib.Omega.{arith}
use Rattle.std.proofs.lemmas.Result.{err_from_is_err_and}
use Rattle.image_check.specs.Checks.{Verdict, bounds, part_limits}
use Rattle.image_check.specs.Scratch.{edge_run, incidence_run}
use Rattle.image_check.proofs.Turns.{below_more}
use Rattle.image_check.proofs.ScratchPass.{pass_1, pass_2, pass_3, pass_4}
use Rattle.image_check.proofs.passes.Parts.in_turn.Goals as goal

-- a pass at the offset where the part lies
moved : (run : ℕ → Verdict) {r : Verdict} {at offset : ℕ} → r ≡ run at → at ≡ offset → r ≡ run offset
moved run e o = e ∙ ap run o

pub check_edges-requires-clause-marked : goal.check_edges-requires-clause-marked
check_edges-requires-clause-marked c = c.check_vertices.ensures.below (below_more 0 1 _ (omega arith) c.requires.clear)

pub returns-in_err-check_vertices : goal.returns-in_err-check_vertices
returns-in_err-check_vertices c =
    let s = c.args.self.now in
    let n = c.args.limits in
    let p = err_from_is_err_and c.from_residual.result c.from_residual.ensures.1 in
    λ v e hv he.
    rw (p.1, p.2)
    (pass_1 c.args.deg.now c.args.own.now (bounds n.vertices n.edges n.types) s.size v e s.vertices.now s.edges.now s.incidences.now _
    (c.check_vertices.ensures.verdict v hv) _ c.in_err-check_vertices.was)

pub returns-in_err-check_edges : goal.returns-in_err-check_edges
returns-in_err-check_edges c =
    let s = c.args.self.now in
    let n = c.args.limits in
    let p = c.check_vertices in
    let q = c.check_edges in
    let t = c.in_ok-check_vertices.was in
    let x = err_from_is_err_and c.from_residual-in_err-check_edges.result c.from_residual-in_err-check_edges.ensures.1 in
    λ v e hv he.
    let second = moved (edge_run (part_limits n.edges n.types) p.new.deg c.args.own.now e s.edges.now) (q.ensures.verdict e he)
    (omega (arith, hv)) in
    rw (x.1, x.2)
    (pass_2 c.args.deg.now c.args.own.now (bounds n.vertices n.edges n.types) s.size v e s.vertices.now s.edges.now s.incidences.now _
    (p.ensures.verdict v hv) t p.new.deg (p.ensures.marks v hv t) q.result second _ c.in_err-check_edges.was)

pub returns-in_err-check_degrees : goal.returns-in_err-check_degrees
returns-in_err-check_degrees c =
    let s = c.args.self.now in
    let n = c.args.limits in
    let p = c.check_vertices in
    let q = c.check_edges in
    let t = c.in_ok-check_vertices.was in
    let u = c.in_ok-check_edges.was in
    let x = err_from_is_err_and c.from_residual-in_err-check_degrees.result c.from_residual-in_err-check_degrees.ensures.1 in
    λ v e hv he.
    let second = moved (edge_run (part_limits n.edges n.types) p.new.deg c.args.own.now e s.edges.now) (q.ensures.verdict e he)
    (omega (arith, hv)) in
    rw (x.1, x.2)
    (pass_3 c.args.deg.now c.args.own.now (bounds n.vertices n.edges n.types) s.size v e s.vertices.now s.edges.now s.incidences.now _
    (p.ensures.verdict v hv) t p.new.deg (p.ensures.marks v hv t) q.result second u q.new.deg (q.ensures.ends e he u) _ (c.check_degrees.ensures v hv) _
    c.in_err-check_degrees.was)

pub returns : goal.returns
returns c =
    let s = c.args.self.now in
    let n = c.args.limits in
    let p = c.check_vertices in
    let q = c.check_edges in
    let t = c.in_ok-check_vertices.was in
    let u = c.in_ok-check_edges.was in
    λ v e hv he.
    let second = moved (edge_run (part_limits n.edges n.types) p.new.deg c.args.own.now e s.edges.now) (q.ensures.verdict e he)
    (omega (arith, hv)) in
    let last = moved (incidence_run s.size q.new.deg q.new.own v s.vertices.now s.incidences.now) (c.check_lists.ensures v hv) (omega (arith, hv, he)) in
    pass_4 c.args.deg.now c.args.own.now (bounds n.vertices n.edges n.types) s.size v e s.vertices.now s.edges.now s.incidences.now _
    (p.ensures.verdict v hv) t p.new.deg (p.ensures.marks v hv t) q.result second u q.new.deg (q.ensures.ends e he u) _ (c.check_degrees.ensures v hv)
    c.in_ok-check_degrees.was q.new.own (q.ensures.owners e he u) _ last

use Rattle.image_check.proofs.passes.Parts.with_scratch.Goals as goal

pub returns : goal.returns
returns g c = λ v e hv he.
    record { degs = _; owns = _; vertices = c.requires.vertices; edges = c.requires.edges; verdict = c.in_turn.ensures v e hv he }

use Rattle.change_calls.proofs.alter.Goals as goal

pub returns-in-DeleteVertex-clause-changes : goal.returns-in-DeleteVertex-clause-changes
returns-in-DeleteVertex-clause-changes c = rw c.in-DeleteVertex.is (c.delete_vertex.ensures.changes _)

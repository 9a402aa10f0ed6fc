use Rattle.single_changes.proofs.OneLaws.{one_by}
use Rattle.single_changes.proofs.make.Goals as goal

pub returns-in-DeleteEdge-clause-made : goal.returns-in-DeleteEdge-clause-made
returns-in-DeleteEdge-clause-made c = one_by c.in-DeleteEdge.is (c.delete_edge.ensures.made _)

pub returns-in-SetValue-clause-made : goal.returns-in-SetValue-clause-made
returns-in-SetValue-clause-made c = one_by c.in-SetValue.is (c.set_value.ensures.made _)

pub returns-in-SetReading-clause-made : goal.returns-in-SetReading-clause-made
returns-in-SetReading-clause-made c = one_by c.in-SetReading.is (c.set_reading.ensures.made _)

pub returns-in-SetAlpha-clause-made : goal.returns-in-SetAlpha-clause-made
returns-in-SetAlpha-clause-made c = one_by c.in-SetAlpha.is (c.set_end.ensures.made _)

pub returns-in-SetOmega-clause-made : goal.returns-in-SetOmega-clause-made
returns-in-SetOmega-clause-made c = one_by c.in-SetOmega.is (c.set_end-in-SetOmega.ensures.made _)

pub returns-in-VertexBefore-clause-made : goal.returns-in-VertexBefore-clause-made
returns-in-VertexBefore-clause-made c = one_by c.in-VertexBefore.is (c.order_vertex.ensures.made _)

pub returns-in-VertexAfter-clause-made : goal.returns-in-VertexAfter-clause-made
returns-in-VertexAfter-clause-made c = one_by c.in-VertexAfter.is (c.order_vertex-in-VertexAfter.ensures.made _)

pub returns-in-EdgeBefore-clause-made : goal.returns-in-EdgeBefore-clause-made
returns-in-EdgeBefore-clause-made c = one_by c.in-EdgeBefore.is (c.order_edge.ensures.made _)

pub returns-in-EdgeAfter-clause-made : goal.returns-in-EdgeAfter-clause-made
returns-in-EdgeAfter-clause-made c = one_by c.in-EdgeAfter.is (c.order_edge-in-EdgeAfter.ensures.made _)

pub returns-in-WordBefore-clause-made : goal.returns-in-WordBefore-clause-made
returns-in-WordBefore-clause-made c = one_by c.in-WordBefore.is (c.order_word.ensures.made _)

pub returns-in-WordAfter-clause-made : goal.returns-in-WordAfter-clause-made
returns-in-WordAfter-clause-made c = one_by c.in-WordAfter.is (c.order_word-in-WordAfter.ensures.made _)

use mathlib.Core.Path.{ap, ◌∙◌}
use Rattle.graph_tables.specs.Tables.{view_state}
use Rattle.commands.specs.Answers.{accepts}
use Rattle.graph_tables.proofs.Answers.{first_vertex, first_edge}
use Rattle.question_calls.proofs.AnswerLaws.{v_type, v_value, v_first, v_next, e_alpha, e_type, e_kind, e_omega, e_decimetres, e_next, w_next, w_this, w_that}
use Rattle.question_calls.proofs.number_of.Goals as goal

pub returns-in-FirstVertex : goal.returns-in-FirstVertex
returns-in-FirstVertex c = λ g rows b z h e i. rw c.in-FirstVertex.is (ap accepts (first_vertex (view_state c.args.head c.args.tables.now) g h))

pub returns-in-NextVertex : goal.returns-in-NextVertex
returns-in-NextVertex c = λ g rows b z h e i. rw c.in-NextVertex.is (c.vertex_word.ensures ∙ v_next _ g (_, (_, h)) _)

pub returns-in-FirstEdge : goal.returns-in-FirstEdge
returns-in-FirstEdge c = λ g rows b z h e i. rw c.in-FirstEdge.is (ap accepts (first_edge (view_state c.args.head c.args.tables.now) g h))

pub returns-in-NextEdge : goal.returns-in-NextEdge
returns-in-NextEdge c = λ g rows b z h e i. rw c.in-NextEdge.is (c.edge_word.ensures ∙ e_next _ g (_, (_, h)) _)

pub returns-in-FirstWord : goal.returns-in-FirstWord
returns-in-FirstWord c = λ g rows b z h e i. rw c.in-FirstWord.is (c.vertex_word-in-FirstWord.ensures ∙ v_first _ g (_, (_, h)) _)

pub returns-in-NextWord : goal.returns-in-NextWord
returns-in-NextWord c = λ g rows b z h e i. rw c.in-NextWord.is (c.half_word.ensures ∙ w_next _ g (_, (_, h)) _)

pub returns-in-Alpha : goal.returns-in-Alpha
returns-in-Alpha c = λ g rows b z h e i. rw c.in-Alpha.is (c.edge_word-in-Alpha.ensures ∙ e_alpha _ g (_, (_, h)) _)

pub returns-in-Omega : goal.returns-in-Omega
returns-in-Omega c = λ g rows b z h e i. rw c.in-Omega.is (c.edge_word-in-Omega.ensures ∙ e_omega _ g (_, (_, h)) _)

pub returns-in-This : goal.returns-in-This
returns-in-This c = λ g rows b z h e i. rw c.in-This.is (c.half_word-in-This.ensures ∙ w_this _ g (_, (_, h)) _)

pub returns-in-That : goal.returns-in-That
returns-in-That c = λ g rows b z h e i. rw c.in-That.is (c.that_word.ensures ∙ w_that _ g (_, (_, h)) _)

pub returns-in-VertexType : goal.returns-in-VertexType
returns-in-VertexType c = λ g rows b z h e i. rw c.in-VertexType.is (c.vertex_word-in-VertexType.ensures ∙ v_type _ g (_, (_, h)) _)

pub returns-in-EdgeType : goal.returns-in-EdgeType
returns-in-EdgeType c = λ g rows b z h e i. rw c.in-EdgeType.is (c.edge_word-in-EdgeType.ensures ∙ e_type _ g (_, (_, h)) _)

pub returns-in-Value : goal.returns-in-Value
returns-in-Value c = λ g rows b z h e i. rw c.in-Value.is (c.vertex_word-in-Value.ensures ∙ v_value _ g (_, (_, h)) _)

pub returns-in-ReadingKind : goal.returns-in-ReadingKind
returns-in-ReadingKind c = λ g rows b z h e i. rw c.in-ReadingKind.is (c.edge_word-in-ReadingKind.ensures ∙ e_kind _ g (_, (_, h)) _)

pub returns-in-Decimetres : goal.returns-in-Decimetres
returns-in-Decimetres c = λ g rows b z h e i. rw c.in-Decimetres.is (c.edge_word-in-Decimetres.ensures ∙ e_decimetres _ g (_, (_, h)) _)

pub returns-in-Degree : goal.returns-in-Degree
returns-in-Degree c = λ g rows b z h e i. rw c.in-Degree.is (c.degree_of.ensures g rows b _ z h e i)

pub returns-in-VertexOrder : goal.returns-in-VertexOrder
returns-in-VertexOrder c = λ g rows b z h e i. rw c.in-VertexOrder.is (c.order_of_vertices.ensures g c.args.types rows h)

pub returns-in-EdgeOrder : goal.returns-in-EdgeOrder
returns-in-EdgeOrder c = λ g rows b z h e i. rw c.in-EdgeOrder.is (c.order_of_edges.ensures g c.args.types rows h)

pub returns-in-WordOrder : goal.returns-in-WordOrder
returns-in-WordOrder c = λ g rows b z h e i. rw c.in-WordOrder.is (c.order_of_words.ensures g c.args.types rows _ h)

pub returns-in-Below : goal.returns-in-Below
returns-in-Below c = λ g rows b z h e i. rw c.in-Below.is (c.below_of.ensures g rows e i)
